-- Rows that are taken, and rows that are put back.
use Rattle.std.proofs.Common.{◌≡◌, ◌≢◌, ℕ, zero, suc, ◌+◌, ◌-◌, ◌^◌, ◌<◌, ◌≤◌, List, [], ◌∷◌, refl, sym, ap, ◌∙◌, subst, arith, ℤ, Bool, true, false, Option, Some, None, IfSome, IsTrue, unwrap_or, length, FitsSigned, w64}
use Rattle.std.specs.Prelude.{nat_lt, nat_le, ◌&&◌, if◌then◌else◌, slice_index, slice_index_or, option_map}
use Rattle.std.specs.FinMap as finite
use Rattle.std.specs.FinMap.Entries.{find}
use Rattle.std.proofs.lemmas.Bool.Decides.{nat_tests}
use Rattle.fin_tensor.specs.Levels.{AreSmall}
use Rattle.fin_tensor.specs.TensorFunction.{TensorFunction, IsTensor, IsEntry, is_in_box, value_at, filled}
use Rattle.fin_tensor.proofs.Functions.{agreeing_inside_are_equal, value_is_word}
use Rattle.fin_tensor.proofs.Tabulated.{tabulated_gives, tabulated_is_tensor, tabulated_shape, tabulated_fill}
use Rattle.fin_build.specs.declared.rows.Shift.TheVariants.{Down, Outside, Up}
use Rattle.fin_build.specs.Entries.{Entry}
use Rattle.fin_build.specs.Parts.{moved, lies_in, rows_shape, rows_of, with_rows}
use Rattle.fin_build.specs.Shifts.{written, Lands, AllLand}
use Rattle.fin_build.proofs.Telling.{contained, entry_is}
use Rattle.fin_build.proofs.Writing.{order, between, between_low, row_from, found, written_value, written_shape, written_fill, all_land, lands, down_lands, outside_lands, yes, le_yes, le_is, lt_yes, lt_is, both, first, second}

-- ---- the shape of rows
pub rows_long : (lo hi : ℕ) (ns : List ℕ) → length (rows_shape lo hi ns) ≡ length ns
rows_long lo hi [] = refl
rows_long lo hi (n ∷ ns) = refl

pub rows_small : (lo hi : ℕ) (ns : List ℕ) → lo ≤ hi → hi ≤ slice_index ns 0 → AreSmall ns → AreSmall (rows_shape lo hi ns)
rows_small lo hi [] o w h k lt = h k lt
rows_small lo hi (n ∷ ns) o w h zero lt = omega (arith, h 0 lt)
rows_small lo hi (n ∷ ns) o w h (suc k) lt = h (suc k) lt

pub small_as : (ns ms : List ℕ) → ns ≡ ms → AreSmall ms → AreSmall ns
small_as ns ms e h = subst (λ (xs : List ℕ). AreSmall xs) (sym e) h

-- ---- landing
lands_down : (lo hi : ℕ) (ns cs : List ℕ) → IsTrue (is_in_box ns cs) → Lands (Down lo hi) (rows_shape lo hi ns) cs
lands_down lo hi [] [] h = tt
lands_down lo hi [] (c ∷ cs) h = absurd (cc)
lands_down lo hi (n ∷ ns) cs h = lands (Down lo hi) n (hi - lo) ns cs (λ c _. down_lands lo hi c) h

lands_outside : (lo hi : ℕ) (ns cs : List ℕ) → IsTrue (is_in_box ns cs) → Lands (Outside lo hi) ns cs
lands_outside lo hi [] [] h = tt
lands_outside lo hi [] (c ∷ cs) h = absurd (cc)
lands_outside lo hi (n ∷ ns) cs h = lands (Outside lo hi) n n ns cs (λ c l. outside_lands lo hi n c l) h

lands_up : (lo hi : ℕ) (ns cs : List ℕ) → lo ≤ hi → hi ≤ slice_index ns 0 → IsTrue (is_in_box (rows_shape lo hi ns) cs) → Lands (Up lo) ns cs
lands_up lo hi [] [] o w h = tt
lands_up lo hi [] (c ∷ cs) o w h = absurd (cc)
lands_up lo hi (n ∷ ns) cs o w h = lands (Up lo) (hi - lo) n ns cs (λ c l. omega arith) h

module _ (f : TensorFunction) (t : IsTensor f) where
  abbrev own : List Entry
  own = finite.entries f.cells

  inside : (k : ℕ) (d : Entry) → k < length own → IsTrue (is_in_box f.shape (slice_index_or own k d).0)
  inside k d lt = (entry_is f t (slice_index_or own k d) (contained own k d lt)).inside

  pub all_down : (lo hi : ℕ) (ns : List ℕ) (es : List Entry) → ns ≡ rows_shape lo hi f.shape → es ≡ own → AllLand (Down lo hi) ns es
  all_down lo hi ns es en ee = subst (λ (xs : List ℕ). AllLand (Down lo hi) xs es) (sym en) (subst (λ (xs : List Entry). AllLand (Down lo hi) (rows_shape lo hi f.shape) xs) (sym ee)
      (all_land (Down lo hi) (rows_shape lo hi f.shape) own (λ k d lt. lands_down lo hi f.shape _ (inside k d lt))))

  pub all_outside : (lo hi : ℕ) (ns : List ℕ) (es : List Entry) → ns ≡ f.shape → es ≡ own → AllLand (Outside lo hi) ns es
  all_outside lo hi ns es en ee = subst (λ (xs : List ℕ). AllLand (Outside lo hi) xs es) (sym en) (subst (λ (xs : List Entry). AllLand (Outside lo hi) f.shape xs) (sym ee)
      (all_land (Outside lo hi) f.shape own (λ k d lt. lands_outside lo hi f.shape _ (inside k d lt))))

  -- of a part
  pub all_up : (lo hi : ℕ) (ns ms : List ℕ) (es : List Entry) → ns ≡ ms → f.shape ≡ rows_shape lo hi ms → lo ≤ hi → hi ≤ slice_index ms 0 → es ≡ own → AllLand (Up lo) ns es
  all_up lo hi ns ms es en ef o w ee = subst (λ (xs : List ℕ). AllLand (Up lo) xs es) (sym en) (subst (λ (xs : List Entry). AllLand (Up lo) ms xs) (sym ee)
      (all_land (Up lo) ms own (λ k d lt. lands_up lo hi ms _ o w (subst (λ (xs : List ℕ). IsTrue (is_in_box xs (slice_index_or own k d).0)) ef (inside k d lt)))))

  -- what the entries tell
  told : (q : List ℕ) → unwrap_or (find order q own) f.fill ≡ value_at f q
  told q = ap (λ (o : Option ℤ). unwrap_or o f.fill) (sym (finite.get-entries f.cells q))

  blank : (ns cs : List ℕ) → value_at (filled ns f.fill) cs ≡ f.fill
  blank ns cs = ap (λ (o : Option ℤ). unwrap_or o f.fill) (finite.get-empty order cs)

  -- ---- rows that are taken
  down_value : (lo hi : ℕ) (s ns cs : List ℕ) → 0 < length ns → IsTrue (is_in_box (rows_shape lo hi ns) cs) → value_at (written (Down lo hi) own (filled s f.fill)) cs ≡ value_at f (moved (λ c. c + lo) cs)
  down_value lo hi s [] cs some h = absurd (omega arith)
  down_value lo hi s (n ∷ ns) [] some h = absurd (cc)
  down_value lo hi s (n ∷ ns) (c ∷ cs) some h =
      let from : row_from (Down lo hi) c ≡ Some (c + lo) = yes (nat_lt c (hi - lo)) (c + lo) (c + lo) (first (nat_lt c (hi - lo)) (is_in_box ns cs) h) refl in
      written_value (Down lo hi) own (filled s f.fill) (c ∷ cs) (finite.entries_sorted f.cells)
      ∙ ap (λ (o : Option ℕ). unwrap_or (found (option_map (λ d. d ∷ cs) o) own) (value_at (filled s f.fill) (c ∷ cs))) from
      ∙ ap (unwrap_or (find order ((c + lo) ∷ cs) own)) (blank s (c ∷ cs))
      ∙ told ((c + lo) ∷ cs)

  pub rows_are : (lo hi : ℕ) (g : TensorFunction) (es : List Entry) (s : List ℕ) (z : ℤ) → 0 < length f.shape → IsTensor g → s ≡ rows_shape lo hi f.shape → z ≡ f.fill → es ≡ own → g ≡ written (Down lo hi) es (filled s z) → g ≡ rows_of lo hi f
  rows_are lo hi g es s z some tg e ez ee eg =
      let F : List ℕ → ℤ = λ cs. value_at f (moved (λ c. c + lo) cs) in
      let shape = rows_shape lo hi f.shape in
      let made : g ≡ written (Down lo hi) own (filled s f.fill) = eg ∙ ap (λ (xs : List Entry). written (Down lo hi) xs (filled s z)) ee ∙ ap (λ (x : ℤ). written (Down lo hi) own (filled s x)) ez in
      let shaped : g.shape ≡ shape = ap (λ (x : TensorFunction). x.shape) made ∙ written_shape (Down lo hi) own (filled s f.fill) ∙ e in
      agreeing_inside_are_equal g (rows_of lo hi f) tg
      (tabulated_is_tensor shape f.fill F (λ cs _ ne. value_is_word f (moved (λ c. c + lo) cs) t ne))
      (shaped ∙ sym (tabulated_shape shape f.fill F))
      (ap (λ (x : TensorFunction). x.fill) made ∙ written_fill (Down lo hi) own (filled s f.fill) ∙ sym (tabulated_fill shape f.fill F))
      (λ cs b.
      let w : IsTrue (is_in_box shape cs) = subst (λ (xs : List ℕ). IsTrue (is_in_box xs cs)) shaped b in
      ap (λ (x : TensorFunction). value_at x cs) made ∙ down_value lo hi s f.shape cs some w ∙ sym ((tabulated_gives shape f.fill F).0 cs w))

  outside_value : (lo hi : ℕ) (s : List ℕ) (c : ℕ) (cs : List ℕ) (b : Bool) → between lo hi c ≡ b → value_at (written (Outside lo hi) own (filled s f.fill)) (c ∷ cs) ≡ (if b then f.fill else value_at f (c ∷ cs))
  outside_value lo hi s c cs true e =
      written_value (Outside lo hi) own (filled s f.fill) (c ∷ cs) (finite.entries_sorted f.cells)
      ∙ ap (λ (t : Bool). unwrap_or (found (option_map (λ d. d ∷ cs) (if t then None else Some c)) own) (value_at (filled s f.fill) (c ∷ cs))) e
      ∙ blank s (c ∷ cs)
  outside_value lo hi s c cs false e =
      written_value (Outside lo hi) own (filled s f.fill) (c ∷ cs) (finite.entries_sorted f.cells)
      ∙ ap (λ (t : Bool). unwrap_or (found (option_map (λ d. d ∷ cs) (if t then None else Some c)) own) (value_at (filled s f.fill) (c ∷ cs))) e
      ∙ ap (unwrap_or (find order (c ∷ cs) own)) (blank s (c ∷ cs))
      ∙ told (c ∷ cs)

-- ---- rows that are put back
none_by : (shape : List ℕ) (fill : ℤ) (cs : List ℕ) (o : Option ℤ) → IfSome o (IsEntry shape fill cs) → is_in_box shape cs ≡ false → o ≡ None
none_by shape fill cs None h out = refl
none_by shape fill cs (Some v) h out = let x : true ≡ false = sym h.inside ∙ out in absurd (cc)

none_outside : (g : TensorFunction) (cs : List ℕ) → IsTensor g → is_in_box g.shape cs ≡ false → find order cs (finite.entries g.cells) ≡ None
none_outside g cs t out = sym (finite.get-entries g.cells cs) ∙ none_by g.shape g.fill cs (finite.get g.cells cs) (t cs) out

and_no : (a b : Bool) → a ≡ false → (a && b) ≡ false
and_no true b h = absurd (cc)
and_no false b h = h

between_not : (lo hi c : ℕ) → between lo hi c ≡ false → lo ≤ c → hi ≤ c
between_not lo hi c e l = let a : nat_le lo c ≡ true = le_yes lo c l in let b : nat_lt c hi ≡ false = ap (λ (x : Bool). x && nat_lt c hi) (sym a) ∙ e in grind (arith, nat_tests)

module _ (f g : TensorFunction) (tf : IsTensor f) (tg : IsTensor g) (lo hi : ℕ) (o : lo ≤ hi) (ef : g.fill ≡ f.fill) where
  abbrev base : List ℕ → TensorFunction
  base s = written (Outside lo hi) (finite.entries f.cells) (filled s f.fill)

  abbrev theirs : List Entry
  theirs = finite.entries g.cells

  up_by : (s : List ℕ) (c : ℕ) (cs : List ℕ) → value_at (written (Up lo) theirs (base s)) (c ∷ cs) ≡ unwrap_or (found (option_map (λ d. d ∷ cs) (if nat_le lo c then Some (c - lo) else None)) theirs) (value_at (base s) (c ∷ cs))
  up_by s c cs = written_value (Up lo) theirs (base s) (c ∷ cs) (finite.entries_sorted g.cells)

  up_none : (s : List ℕ) (n : ℕ) (ns : List ℕ) (c : ℕ) (cs : List ℕ) (b : Bool) → nat_le lo c ≡ b → between lo hi c ≡ false → g.shape ≡ (hi - lo) ∷ ns → found (option_map (λ d. d ∷ cs) (if b then Some (c - lo) else None)) theirs ≡ None
  up_none s n ns c cs false e out es = refl
  up_none s n ns c cs true e out es =
      let l : lo ≤ c = le_is lo c e in
      let h : hi ≤ c = between_not lo hi c out l in
      let x : nat_lt (c - lo) (hi - lo) ≡ false = (let q : hi - lo ≤ c - lo = omega arith in grind (arith, nat_tests)) in
      none_outside g ((c - lo) ∷ cs) tg (ap (λ (xs : List ℕ). is_in_box xs ((c - lo) ∷ cs)) es ∙ and_no (nat_lt (c - lo) (hi - lo)) (is_in_box ns cs) x)

  value_by : (s : List ℕ) (n : ℕ) (ns : List ℕ) (c : ℕ) (cs : List ℕ) (b : Bool) → between lo hi c ≡ b → g.shape ≡ (hi - lo) ∷ ns → value_at (written (Up lo) theirs (base s)) (c ∷ cs) ≡ (if b then value_at g ((c - lo) ∷ cs) else value_at f (c ∷ cs))
  value_by s n ns c cs true e es =
      up_by s c cs
      ∙ ap (λ (t : Bool). unwrap_or (found (option_map (λ d. d ∷ cs) (if t then Some (c - lo) else None)) theirs) (value_at (base s) (c ∷ cs))) (le_yes lo c (between_low lo hi c e))
      ∙ ap (unwrap_or (find order ((c - lo) ∷ cs) theirs)) (outside_value f tf lo hi s c cs true e ∙ sym ef)
      ∙ ap (λ (x : Option ℤ). unwrap_or x g.fill) (sym (finite.get-entries g.cells ((c - lo) ∷ cs)))
  value_by s n ns c cs false e es =
      up_by s c cs
      ∙ ap (λ (x : Option ℤ). unwrap_or x (value_at (base s) (c ∷ cs))) (up_none s n ns c cs (nat_le lo c) refl e es)
      ∙ outside_value f tf lo hi s c cs false e

  abbrev pub F : List ℕ → ℤ
  F cs = if lies_in lo hi cs then value_at g (moved (λ c. c - lo) cs) else value_at f cs

  value_in : (s ns cs : List ℕ) → 0 < length ns → g.shape ≡ rows_shape lo hi ns → IsTrue (is_in_box ns cs) → value_at (written (Up lo) theirs (base s)) cs ≡ F cs
  value_in s [] cs some es h = absurd (omega arith)
  value_in s (n ∷ ns) [] some es h = absurd (cc)
  value_in s (n ∷ ns) (c ∷ cs) some es h = value_by s n ns c cs (between lo hi c) refl es

  word_of : (cs : List ℕ) (b : Bool) → (if b then value_at g (moved (λ c. c - lo) cs) else value_at f cs) ≢ f.fill → FitsSigned w64 (if b then value_at g (moved (λ c. c - lo) cs) else value_at f cs)
  word_of cs true ne = value_is_word g (moved (λ c. c - lo) cs) tg (λ e. ne (e ∙ ef))
  word_of cs false ne = value_is_word f cs tf ne

  pub rows_put : (h : TensorFunction) (mine part : List Entry) (s : List ℕ) (z : ℤ) → 0 < length f.shape → IsTensor h → g.shape ≡ rows_shape lo hi f.shape → s ≡ f.shape → z ≡ f.fill → mine ≡ finite.entries f.cells → part ≡ theirs →
      h ≡ written (Up lo) part (written (Outside lo hi) mine (filled s z)) → h ≡ with_rows lo hi f g
  rows_put h mine part s z some th eg e ez em ep eh =
      let made : h ≡ written (Up lo) theirs (base s) =
      eh ∙ ap (λ (xs : List Entry). written (Up lo) xs (written (Outside lo hi) mine (filled s z))) ep ∙ ap (λ (xs : List Entry). written (Up lo) theirs (written (Outside lo hi) xs (filled s z))) em
      ∙ ap (λ (x : ℤ). written (Up lo) theirs (written (Outside lo hi) (finite.entries f.cells) (filled s x))) ez in
      let shaped : h.shape ≡ f.shape = ap (λ (x : TensorFunction). x.shape) made ∙ written_shape (Up lo) theirs (base s) ∙ written_shape (Outside lo hi) (finite.entries f.cells) (filled s f.fill) ∙ e in
      agreeing_inside_are_equal h (with_rows lo hi f g) th
      (tabulated_is_tensor f.shape f.fill F (λ cs _ ne. word_of cs (lies_in lo hi cs) ne))
      (shaped ∙ sym (tabulated_shape f.shape f.fill F))
      (ap (λ (x : TensorFunction). x.fill) made ∙ written_fill (Up lo) theirs (base s) ∙ written_fill (Outside lo hi) (finite.entries f.cells) (filled s f.fill) ∙ sym (tabulated_fill f.shape f.fill F))
      (λ cs b.
      let w : IsTrue (is_in_box f.shape cs) = subst (λ (xs : List ℕ). IsTrue (is_in_box xs cs)) shaped b in
      ap (λ (x : TensorFunction). value_at x cs) made ∙ value_in s f.shape cs some eg w ∙ sym ((tabulated_gives f.shape f.fill F).0 cs w))

-- ---- what the rows are
pub rows_tensor : (f : TensorFunction) (lo hi : ℕ) → IsTensor f → IsTensor (rows_of lo hi f)
rows_tensor f lo hi t = tabulated_is_tensor (rows_shape lo hi f.shape) f.fill (λ cs. value_at f (moved (λ c. c + lo) cs)) (λ cs _ ne. value_is_word f (moved (λ c. c + lo) cs) t ne)

pub put_tensor : (f g : TensorFunction) (lo hi : ℕ) → IsTensor f → IsTensor g → lo ≤ hi → g.fill ≡ f.fill → IsTensor (with_rows lo hi f g)
put_tensor f g lo hi tf tg o e = tabulated_is_tensor f.shape f.fill (F f g tf tg lo hi o e) (λ cs _ ne. word_of f g tf tg lo hi o e cs (lies_in lo hi cs) ne)

pub raised_inside : (lo hi : ℕ) (ns cs : List ℕ) → lo ≤ hi → hi ≤ slice_index ns 0 → IsTrue (is_in_box (rows_shape lo hi ns) cs) → IsTrue (is_in_box ns (moved (λ c. c + lo) cs))
raised_inside lo hi [] [] o w h = refl
raised_inside lo hi [] (c ∷ cs) o w h = absurd (cc)
raised_inside lo hi (n ∷ ns) [] o w h = absurd (cc)
raised_inside lo hi (n ∷ ns) (c ∷ cs) o w h =
    let l : c < hi - lo = lt_is c (hi - lo) (first (nat_lt c (hi - lo)) (is_in_box ns cs) h) in
    both (nat_lt (c + lo) n) (is_in_box ns cs) (lt_yes (c + lo) n (omega arith)) (second (nat_lt c (hi - lo)) (is_in_box ns cs) h)

pub raised_small : (lo hi : ℕ) (ns cs : List ℕ) → lo ≤ hi → hi ≤ slice_index ns 0 → lo ≤ 2 ^ 40 → hi ≤ 2 ^ 40 → IsTrue (is_in_box (rows_shape lo hi ns) cs) → slice_index cs 0 + lo < 2 ^ 64
raised_small lo hi ns [] o w a b h = omega arith
raised_small lo hi [] (c ∷ cs) o w a b h = absurd (cc)
raised_small lo hi (n ∷ ns) (c ∷ cs) o w a b h = let l : c < hi - lo = lt_is c (hi - lo) (first (nat_lt c (hi - lo)) (is_in_box ns cs) h) in omega arith
