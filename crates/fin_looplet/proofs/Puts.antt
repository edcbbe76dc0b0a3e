-- An expression with another one for a local.
use Rattle.std.proofs.Common.{◌≡◌, ◌≢◌, ℕ, ◌<◌, ◌⊎◌, inl, inr, ⊎_elim, List, Bool, true, false, refl, sym, ap, ◌∙◌, ℤ, pos, T, length, get_or-set_same, get_or-set_other}
use Rattle.std.specs.Prelude.{◌||◌, nat_eq, if◌then◌else◌, slice_set}
use Rattle.std.proofs.Math.Facts.{eqb_yes}
use Rattle.std.proofs.lemmas.Bool.{cases_eq, or_left, or_right, or_cases}
use Rattle.fin_base.specs.Words.{operate, negated}
use Rattle.fin_ir.specs.declared.expression.IExpr.{IExpr, ind-IExpr, map-IExpr, fold-roll-IExpr, roll-IExpr}
use Rattle.fin_ir.specs.declared.expression.IExpr.TheOpen.{IExpr-F}
use Rattle.fin_ir.specs.declared.expression.IExpr.TheVariants.{Local}
use Rattle.fin_ir.specs.Loads.{table_in, part_at, number_at, word_at, seek_in}
use Rattle.fin_ir.specs.Value.{extents_in, parts_in, words_in, is_off, times, Reading, value_step, value_of}
use Rattle.fin_ir.proofs.Values.{value_local}
use Rattle.fin_ir.proofs.Nodes.{of_local}
use Rattle.fin_looplet.specs.Names.{names_step, names, Names, loads_step, loads, Loads}
use Rattle.fin_looplet.specs.View.{Store, value}
use Rattle.fin_looplet.specs.Moved.{put_step, put}
use Rattle.fin_looplet.proofs.Exprs.{get, same_nat}

other_nat : (y x : ℕ) → (y ≢ x) → nat_eq y x ≡ false
other_nat y x ne = elim (nat_eq y x) as (λ b. (T b → y ≡ x) → b ≡ false) [ true ↦ (λ h. absurd (ne (h tt))) | false ↦ (λ h. refl) ] (λ t. eqb_yes t)

module _ (ts : Store) (x : ℕ) (e' : IExpr) (ls : List ℤ) (within : x < length ls) where
  abbrev ls' : List ℤ
  ls' = slice_set ls x (value ts ls e')

  abbrev Is : IExpr → Type 0
  Is e = value ts ls (put x e' e) ≡ value ts ls' e

  abbrev Known : Type 0
  Known = (e : IExpr) × Is e

  abbrev inside : IExpr-F Known → IExpr-F IExpr
  inside y = map-IExpr Known IExpr (λ (k : Known). k.0) y

  abbrev there : IExpr → ℤ
  there e = value ts ls (put x e' e)

  made : (d : IExpr-F IExpr) → value ts ls (roll-IExpr d) ≡ value_step (map-IExpr IExpr Reading value_of d) ts ls
  made d = ap (λ (r : Reading). r ts ls) (fold-roll-IExpr Reading value_step d)

  node : (y : IExpr-F Known) → value ts ls (put_step x e' (map-IExpr IExpr IExpr (put x e') (inside y))) ≡ value_step (map-IExpr IExpr Reading value_of (inside y)) ts ls'
  node (IExpr-F.Num n) = made (IExpr-F.Num n)
  node (IExpr-F.Local y) =
      ⊎_elim
      (λ e.
      let t : nat_eq y x ≡ true = ap (λ z. nat_eq z x) e ∙ same_nat x in
      ap (λ b. value ts ls (if b then e' else Local y)) t ∙ sym (ap (get ls') e ∙ get_or-set_same ls x (value ts ls e') (pos 0) within))
      (λ ne. ap (λ b. value ts ls (if b then e' else Local y)) (other_nat y x ne) ∙ value_local ts ls y ∙ sym (get_or-set_other ls x y (value ts ls e') (pos 0) ne))
      (cases_eq y x)
  node (IExpr-F.Neg a) = made (IExpr-F.Neg (put x e' a.0)) ∙ ap negated a.1
  node (IExpr-F.Two op a b) = made (IExpr-F.Two op (put x e' a.0) (put x e' b.0)) ∙ ap (λ z. operate op z (there b.0)) a.1 ∙ ap (operate op (value ts ls' a.0)) b.1
  node (IExpr-F.Pick a b c) =
      made (IExpr-F.Pick (put x e' a.0) (put x e' b.0) (put x e' c.0))
      ∙ ap (λ z. if is_off z then there c.0 else there b.0) a.1 ∙ ap (λ z. if is_off (value ts ls' a.0) then there c.0 else z) b.1 ∙ ap (λ z. if is_off (value ts ls' a.0) then z else value ts ls' b.0) c.1
  node (IExpr-F.Times by a b) = made (IExpr-F.Times by (put x e' a.0) (put x e' b.0)) ∙ ap (λ z. times by z (there b.0)) a.1 ∙ ap (times by (value ts ls' a.0)) b.1
  node (IExpr-F.Cell tensor level table a) = made (IExpr-F.Cell tensor level table (put x e' a.0)) ∙ ap (number_at (table_in table (part_at (parts_in (ts tensor)) level))) a.1
  node (IExpr-F.Seek tensor level a b c) =
      made (IExpr-F.Seek tensor level (put x e' a.0) (put x e' b.0) (put x e' c.0))
      ∙ ap (λ z. seek_in (extents_in (ts tensor)) (parts_in (ts tensor)) level z (there b.0) (there c.0)) a.1
      ∙ ap (λ z. seek_in (extents_in (ts tensor)) (parts_in (ts tensor)) level (value ts ls' a.0) z (there c.0)) b.1
      ∙ ap (λ z. seek_in (extents_in (ts tensor)) (parts_in (ts tensor)) level (value ts ls' a.0) (value ts ls' b.0) z) c.1
  node (IExpr-F.Val tensor a) = made (IExpr-F.Val tensor (put x e' a.0)) ∙ ap (word_at (words_in (ts tensor))) a.1

  rolled : (z : IExpr-F IExpr) (y : IExpr-F Known) → inside y ≡ z → Is (roll-IExpr z)
  rolled z y is =
      ap (value ts ls) (fold-roll-IExpr IExpr (put_step x e') z)
      ∙ sym (ap (λ (d : IExpr-F IExpr). value ts ls (put_step x e' (map-IExpr IExpr IExpr (put x e') d))) is)
      ∙ node y
      ∙ ap (λ (d : IExpr-F IExpr). value_step (map-IExpr IExpr Reading value_of d) ts ls') is
      ∙ sym (ap (λ (r : Reading). r ts ls') (fold-roll-IExpr Reading value_step z))

  put_is : (e : IExpr) → Is e
  put_is = ind-IExpr Is rolled

-- its value is that with the local at the other one's value
pub put_value : (ts : Store) (x : ℕ) (e' : IExpr) (e : IExpr) (ls : List ℤ) → x < length ls → value ts ls (put x e' e) ≡ value ts (slice_set ls x (value ts ls e')) e
put_value ts x e' e ls within = put_is ts x e' ls within e

-- ---- it names and loads what either of the two does
module _ (z x : ℕ) (e' : IExpr) where
  abbrev NIs : IExpr → Type 0
  NIs e = Names z (put x e' e) → Names z e ⊎ Names z e'

  abbrev NKnown : Type 0
  NKnown = (e : IExpr) × NIs e

  abbrev ninside : IExpr-F NKnown → IExpr-F IExpr
  ninside y = map-IExpr NKnown IExpr (λ (k : NKnown). k.0) y

  nmade : (d : IExpr-F IExpr) → Names z (roll-IExpr d) → names_step (map-IExpr IExpr (ℕ → Bool) names d) z ≡ true
  nmade d n = sym (ap (λ (r : ℕ → Bool). r z) (fold-roll-IExpr (ℕ → Bool) names_step d)) ∙ n

  one : (a b : NKnown) → (names (put x e' a.0) z || names (put x e' b.0) z) ≡ true → ((names a.0 z || names b.0 z) ≡ true) ⊎ Names z e'
  one a b n = ⊎_elim
      (λ p. ⊎_elim (λ q. inl (or_left (names a.0 z) (names b.0 z) q)) (λ q. inr q) (a.1 p))
      (λ p. ⊎_elim (λ q. inl (or_right (names a.0 z) (names b.0 z) q)) (λ q. inr q) (b.1 p))
      (or_cases (names (put x e' a.0) z) (names (put x e' b.0) z) n)

  three : (a b c : NKnown) → (names (put x e' a.0) z || (names (put x e' b.0) z || names (put x e' c.0) z)) ≡ true → ((names a.0 z || (names b.0 z || names c.0 z)) ≡ true) ⊎ Names z e'
  three a b c n = ⊎_elim
      (λ p. ⊎_elim (λ q. inl (or_left (names a.0 z) (names b.0 z || names c.0 z) q)) (λ q. inr q) (a.1 p))
      (λ p. ⊎_elim (λ q. inl (or_right (names a.0 z) (names b.0 z || names c.0 z) q)) (λ q. inr q) (one b c p))
      (or_cases (names (put x e' a.0) z) (names (put x e' b.0) z || names (put x e' c.0) z) n)

  local_names : (b : Bool) (y : ℕ) → Names z (if b then e' else Local y) → (nat_eq z y ≡ true) ⊎ Names z e'
  local_names true y n = inr n
  local_names false y n = inl (sym (ap (λ (f : ℕ → Bool). f z) (of_local (ℕ → Bool) names_step y)) ∙ n)

  nnode : (y : IExpr-F NKnown) → Names z (put_step x e' (map-IExpr IExpr IExpr (put x e') (ninside y))) → (names_step (map-IExpr IExpr (ℕ → Bool) names (ninside y)) z ≡ true) ⊎ Names z e'
  nnode (IExpr-F.Num k) n = inl (nmade (IExpr-F.Num k) n)
  nnode (IExpr-F.Local y) n = local_names (nat_eq y x) y n
  nnode (IExpr-F.Neg a) n = a.1 (nmade (IExpr-F.Neg (put x e' a.0)) n)
  nnode (IExpr-F.Two op a b) n = one a b (nmade (IExpr-F.Two op (put x e' a.0) (put x e' b.0)) n)
  nnode (IExpr-F.Pick a b c) n = three a b c (nmade (IExpr-F.Pick (put x e' a.0) (put x e' b.0) (put x e' c.0)) n)
  nnode (IExpr-F.Times by a b) n = one a b (nmade (IExpr-F.Times by (put x e' a.0) (put x e' b.0)) n)
  nnode (IExpr-F.Cell tensor level table a) n = a.1 (nmade (IExpr-F.Cell tensor level table (put x e' a.0)) n)
  nnode (IExpr-F.Seek tensor level a b c) n = three a b c (nmade (IExpr-F.Seek tensor level (put x e' a.0) (put x e' b.0) (put x e' c.0)) n)
  nnode (IExpr-F.Val tensor a) n = a.1 (nmade (IExpr-F.Val tensor (put x e' a.0)) n)

  nrolled : (d : IExpr-F IExpr) (y : IExpr-F NKnown) → ninside y ≡ d → NIs (roll-IExpr d)
  nrolled d y is n =
      let m : Names z (put_step x e' (map-IExpr IExpr IExpr (put x e') (ninside y))) = ap (λ (w : IExpr-F IExpr). names (put_step x e' (map-IExpr IExpr IExpr (put x e') w)) z) is ∙ sym (ap (λ (w : IExpr). names w z) (fold-roll-IExpr IExpr (put_step x e') d)) ∙ n in
      ⊎_elim
      (λ q. inl (ap (λ (r : ℕ → Bool). r z) (fold-roll-IExpr (ℕ → Bool) names_step d) ∙ sym (ap (λ (w : IExpr-F IExpr). names_step (map-IExpr IExpr (ℕ → Bool) names w) z) is) ∙ q))
      (λ q. inr q) (nnode y m)

  pub put_names : (e : IExpr) → NIs e
  put_names = ind-IExpr NIs nrolled

module _ (z x : ℕ) (e' : IExpr) where
  abbrev LIs : IExpr → Type 0
  LIs e = Loads z (put x e' e) → Loads z e ⊎ Loads z e'

  abbrev LKnown : Type 0
  LKnown = (e : IExpr) × LIs e

  abbrev linside : IExpr-F LKnown → IExpr-F IExpr
  linside y = map-IExpr LKnown IExpr (λ (k : LKnown). k.0) y

  lmade : (d : IExpr-F IExpr) → Loads z (roll-IExpr d) → loads_step (map-IExpr IExpr (ℕ → Bool) loads d) z ≡ true
  lmade d n = sym (ap (λ (r : ℕ → Bool). r z) (fold-roll-IExpr (ℕ → Bool) loads_step d)) ∙ n

  lone : (a b : LKnown) → (loads (put x e' a.0) z || loads (put x e' b.0) z) ≡ true → ((loads a.0 z || loads b.0 z) ≡ true) ⊎ Loads z e'
  lone a b n = ⊎_elim
      (λ p. ⊎_elim (λ q. inl (or_left (loads a.0 z) (loads b.0 z) q)) (λ q. inr q) (a.1 p))
      (λ p. ⊎_elim (λ q. inl (or_right (loads a.0 z) (loads b.0 z) q)) (λ q. inr q) (b.1 p))
      (or_cases (loads (put x e' a.0) z) (loads (put x e' b.0) z) n)

  lthree : (a b c : LKnown) → (loads (put x e' a.0) z || (loads (put x e' b.0) z || loads (put x e' c.0) z)) ≡ true → ((loads a.0 z || (loads b.0 z || loads c.0 z)) ≡ true) ⊎ Loads z e'
  lthree a b c n = ⊎_elim
      (λ p. ⊎_elim (λ q. inl (or_left (loads a.0 z) (loads b.0 z || loads c.0 z) q)) (λ q. inr q) (a.1 p))
      (λ p. ⊎_elim (λ q. inl (or_right (loads a.0 z) (loads b.0 z || loads c.0 z) q)) (λ q. inr q) (lone b c p))
      (or_cases (loads (put x e' a.0) z) (loads (put x e' b.0) z || loads (put x e' c.0) z) n)

  self : (o : Bool) (a : LKnown) → (o || loads (put x e' a.0) z) ≡ true → ((o || loads a.0 z) ≡ true) ⊎ Loads z e'
  self true a n = inl refl
  self false a n = a.1 n

  self3 : (o : Bool) (a b c : LKnown) → (o || (loads (put x e' a.0) z || (loads (put x e' b.0) z || loads (put x e' c.0) z))) ≡ true → ((o || (loads a.0 z || (loads b.0 z || loads c.0 z))) ≡ true) ⊎ Loads z e'
  self3 true a b c n = inl refl
  self3 false a b c n = lthree a b c n

  local_loads : (b : Bool) (y : ℕ) → Loads z (if b then e' else Local y) → (false ≡ true) ⊎ Loads z e'
  local_loads true y n = inr n
  local_loads false y n = inl (sym (ap (λ (f : ℕ → Bool). f z) (of_local (ℕ → Bool) loads_step y)) ∙ n)

  lnode : (y : IExpr-F LKnown) → Loads z (put_step x e' (map-IExpr IExpr IExpr (put x e') (linside y))) → (loads_step (map-IExpr IExpr (ℕ → Bool) loads (linside y)) z ≡ true) ⊎ Loads z e'
  lnode (IExpr-F.Num k) n = inl (lmade (IExpr-F.Num k) n)
  lnode (IExpr-F.Local y) n = local_loads (nat_eq y x) y n
  lnode (IExpr-F.Neg a) n = a.1 (lmade (IExpr-F.Neg (put x e' a.0)) n)
  lnode (IExpr-F.Two op a b) n = lone a b (lmade (IExpr-F.Two op (put x e' a.0) (put x e' b.0)) n)
  lnode (IExpr-F.Pick a b c) n = lthree a b c (lmade (IExpr-F.Pick (put x e' a.0) (put x e' b.0) (put x e' c.0)) n)
  lnode (IExpr-F.Times by a b) n = lone a b (lmade (IExpr-F.Times by (put x e' a.0) (put x e' b.0)) n)
  lnode (IExpr-F.Cell tensor level table a) n = self (nat_eq z tensor) a (lmade (IExpr-F.Cell tensor level table (put x e' a.0)) n)
  lnode (IExpr-F.Seek tensor level a b c) n = self3 (nat_eq z tensor) a b c (lmade (IExpr-F.Seek tensor level (put x e' a.0) (put x e' b.0) (put x e' c.0)) n)
  lnode (IExpr-F.Val tensor a) n = self (nat_eq z tensor) a (lmade (IExpr-F.Val tensor (put x e' a.0)) n)

  lrolled : (d : IExpr-F IExpr) (y : IExpr-F LKnown) → linside y ≡ d → LIs (roll-IExpr d)
  lrolled d y is n =
      let m : Loads z (put_step x e' (map-IExpr IExpr IExpr (put x e') (linside y))) = ap (λ (w : IExpr-F IExpr). loads (put_step x e' (map-IExpr IExpr IExpr (put x e') w)) z) is ∙ sym (ap (λ (w : IExpr). loads w z) (fold-roll-IExpr IExpr (put_step x e') d)) ∙ n in
      ⊎_elim
      (λ q. inl (ap (λ (r : ℕ → Bool). r z) (fold-roll-IExpr (ℕ → Bool) loads_step d) ∙ sym (ap (λ (w : IExpr-F IExpr). loads_step (map-IExpr IExpr (ℕ → Bool) loads w) z) is) ∙ q))
      (λ q. inr q) (lnode y m)

  pub put_loads : (e : IExpr) → LIs e
  put_loads = ind-IExpr LIs lrolled
