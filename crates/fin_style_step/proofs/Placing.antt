-- The codes that place walkers: each has its coordinate and its cursor behind them.
use Rattle.std.proofs.Common.{◌≡◌, ◌≢◌, ℕ, ◌+◌, ◌<◌, ◌⊎◌, inl, inr, ⊎_elim, List, [], ◌∷◌, length, false, Option, Some, None, refl, sym, ap, ◌∙◌, subst, ℤ, pos, arith, get_or-set_same, get_or-set_other}
use Rattle.std.specs.Prelude.{slice_set}
use Rattle.std.proofs.Math.ListN.{length-set}
use Rattle.fin_ir.specs.declared.expression.IExpr.{IExpr}
use Rattle.fin_ir.specs.declared.code.Code.TheVariants.{Assign}
use Rattle.fin_ir.specs.declared.layout.Layout.{Layout}
use Rattle.fin_ir.specs.Machine.{Machine, assign, seen}
use Rattle.fin_ir.specs.Meaning.{meaning, meaning_all}
use Rattle.fin_ir.proofs.Codes.{meaning_assign}
use Rattle.fin_looplet.specs.declared.looplet.Walker.{Walker}
use Rattle.fin_looplet.specs.declared.looplet.Looplet.{Looplet}
use Rattle.fin_looplet.specs.Names.{Names, Loads}
use Rattle.fin_looplet.specs.View.{Store, value}
use Rattle.fin_looplet.specs.Locals.{Owns}
use Rattle.fin_looplet.specs.Lists.{AnyFree, AnyOwns, AllApart}
use Rattle.fin_looplet.proofs.Exprs.{get, value_same, value_seen}
use Rattle.fin_looplet.proofs.Frame.{set_same}
use Rattle.fin_nest.specs.Nests.{Sense}
use Rattle.fin_nest.specs.Laws.{Lawful}
use Rattle.fin_nest.proofs.Means.{with_local, assigns}
use Rattle.fin_style_step.specs.Steps.{listed, walkers, Among, place}
use Rattle.fin_style_step.proofs.Walks.{seek_at, Walks, Kind, any_walks}

-- a walker's cursor or coordinate
abbrev pub Cursor : ℕ → List Walker → Type 0
Cursor x [] = ⊥
Cursor x (w ∷ rest) = (x ≡ w.cursor) ⊎ ((x ≡ w.cursor + 1) ⊎ Cursor x rest)

abbrev pub Distinct : List Walker → Type 0
Distinct [] = Unit {0}
Distinct (w ∷ rest) = ((x : ℕ) → ((x ≡ w.cursor) ⊎ (x ≡ w.cursor + 1)) → Cursor x rest → ⊥) × Distinct rest

-- no seek names another walker's locals, nor its own cursor
abbrev pub Clear : List Walker → Type 0
Clear ws = (w : Walker) → Among w ws → (x : ℕ) → (x ≢ w.cursor + 1) → Names x w.seek → Cursor x ws → ⊥

-- in the locals `now` the cursors are those of the coordinate v in the locals `ls`
abbrev pub Placed : Store → List ℤ → ℤ → List ℤ → List Walker → Type 0
Placed ts ls v now ws = (w : Walker) → Among w ws → get now w.cursor ≡ seek_at ts ls w v

pub cursor_among : (w : Walker) (ws : List Walker) → Among w ws → Cursor w.cursor ws
cursor_among w [] a = absurd a
cursor_among w (v ∷ rest) (inl e) = inl (ap (λ (u : Walker). u.cursor) e)
cursor_among w (v ∷ rest) (inr a) = inr (inr (cursor_among w rest a))

-- from other locals in which the seeks see the same
pub placed_from : (ts : Store) (ws : List Walker) (ls ls' : List ℤ) (v : ℤ) (now : List ℤ) → length ls ≡ length ls'
    → ((w : Walker) → Among w ws → (x : ℕ) → (x ≢ w.cursor + 1) → Names x w.seek → get ls x ≡ get ls' x) → Placed ts ls v now ws → Placed ts ls' v now ws
placed_from ts ws ls ls' v now long h p w a =
    p w a ∙ value_same ts w.seek (slice_set ls (w.cursor + 1) v) (slice_set ls' (w.cursor + 1) v) (λ x n. set_same ls ls' (w.cursor + 1) x v long (λ ne. h w a x ne n))

-- in locals that have the same cursors
pub placed_in : (ts : Store) (ws : List Walker) (ls : List ℤ) (v : ℤ) (now now' : List ℤ) → ((x : ℕ) → Cursor x ws → get now' x ≡ get now x) → Placed ts ls v now ws → Placed ts ls v now' ws
placed_in ts ws ls v now now' h p w a = h w.cursor (cursor_among w ws a) ∙ p w a

pub record Placing {S : Type 0} (sense : Sense S) (ts : Store) (ws : List Walker) (v : ℤ) (m m' : Machine) : Type 0 where
  pub other : (x : ℕ) → (Cursor x ws → ⊥) → get m'.locals x ≡ get m.locals x
  pub placed : Placed ts m.locals v m'.locals ws
  pub same : (s : S) → sense.stands s m → sense.stands s m'
  pub long : length m'.locals ≡ length m.locals
  pub live : m'.cut ≡ false
  pub tensors : (t : ℕ) → seen m' t ≡ seen m t

module _ {S : Type 0} (layout : Layout) (sense : Sense S) (law : Lawful sense) (ts : Store) (at : IExpr) where
  pub places : (ws : List Walker) (m : Machine) → m.cut ≡ false → Distinct ws → ((x : ℕ) → Cursor x ws → x < length m.locals) → Clear ws → ((x : ℕ) → Names x at → Cursor x ws → ⊥)
      → ((t : ℕ) → Loads t at → seen m t ≡ ts t) → ((w : Walker) → Among w ws → (t : ℕ) → Loads t w.seek → seen m t ≡ ts t) → Placing sense ts ws (value ts m.locals at) m (meaning_all layout (place ws at) m)
  places [] m live apart room clear names loads seeks = record { other = λ x o. refl; placed = λ w a. absurd a; same = λ s r. r; long = refl; live = live; tensors = λ t. refl }
  places (w ∷ rest) m live apart room clear names loads seeks =
      let v = value ts m.locals at in
      let ls1 = slice_set m.locals (w.cursor + 1) v in
      let c = value ts ls1 w.seek in
      let ls2 = slice_set ls1 w.cursor c in
      let m1 : Machine = with_local (w.cursor + 1) v m in
      let m2 : Machine = with_local w.cursor c m1 in
      let first : meaning layout (Assign (w.cursor + 1) at) m ≡ m1 = meaning_assign layout (w.cursor + 1) at m ∙ ap (λ z. assign (w.cursor + 1) z m) (value_seen (seen m) ts at m.locals loads) ∙ assigns (w.cursor + 1) v m live in
      let second : meaning layout (Assign w.cursor w.seek) m1 ≡ m2 = meaning_assign layout w.cursor w.seek m1 ∙ ap (λ z. assign w.cursor z m1) (value_seen (seen m1) ts w.seek ls1 (λ t l. seeks w (inl refl) t l)) ∙ assigns w.cursor c m1 live in
      let far : length ls2 ≡ length m.locals = length-set ls1 w.cursor c ∙ length-set m.locals (w.cursor + 1) v in
      let same : (x : ℕ) → (x ≢ w.cursor) → (x ≢ w.cursor + 1) → get ls2 x ≡ get m.locals x = (λ x a b. get_or-set_other ls1 w.cursor x c (pos 0) a ∙ get_or-set_other m.locals (w.cursor + 1) x v (pos 0) b) in
      let v2 : value ts ls2 at ≡ v = value_same ts at ls2 m.locals (λ x n. same x (λ e. names x n (inl e)) (λ e. names x n (inr (inl e)))) in
      let p = places rest m2 live apart.1 (λ x o. let r = room x (inr (inr o)) in omega (arith, r, far)) (λ u a x ne n o. clear u (inr a) x ne n (inr (inr o))) (λ x n o. names x n (inr (inr o))) loads (λ u a. seeks u (inr a)) in
      let end : Machine = meaning_all layout (place rest at) m2 in
      let pl : Placed ts m.locals v end.locals rest = placed_from ts rest ls2 m.locals v end.locals far (λ u a x ne n. same x (λ e. clear u (inr a) x ne n (inl e)) (λ e. clear u (inr a) x ne n (inr (inl e)))) (subst (λ z. Placed ts ls2 z end.locals rest) v2 p.placed) in
      let within : w.cursor < length ls1 = let r = room w.cursor (inl refl) in omega (arith, r, length-set m.locals (w.cursor + 1) v) in
      let here : get end.locals w.cursor ≡ seek_at ts m.locals w v = p.other w.cursor (λ q. apart.0 w.cursor (inl refl) q) ∙ get_or-set_same ls1 w.cursor c (pos 0) within in
      let k : Placing sense ts (w ∷ rest) v m end = record {
        other = λ x o. p.other x (λ q. o (inr (inr q))) ∙ same x (λ e. o (inl e)) (λ e. o (inr (inl e)));
        placed = λ u a. ⊎_elim (λ e. subst (λ (z : Walker). get end.locals z.cursor ≡ seek_at ts m.locals z v) (sym e) here) (λ b. pl u b) a;
        same = λ s r. p.same s (subst (sense.stands s) (assigns w.cursor c m1 live) (law.assign w.cursor c s m1 (subst (sense.stands s) (assigns (w.cursor + 1) v m live) (law.assign (w.cursor + 1) v s m r))));
        long = p.long ∙ far;
        live = p.live;
        tensors = p.tensors;
      } in
      subst (λ (x : Machine). Placing sense ts (w ∷ rest) v m (meaning_all layout (place rest at) x)) (sym (ap (meaning layout (Assign w.cursor w.seek)) first ∙ second)) k

-- ---- the walkers of a list

cursor_one : (o : Option Walker) (l : Looplet) (rest : List Looplet) (ws : List Walker) → ((w : Walker) → o ≡ Some w → Walks l w) → (x : ℕ) → (Cursor x ws → AnyOwns x rest) → Cursor x (listed o ws) → AnyOwns x (l ∷ rest)
cursor_one None l rest ws h x k c = inr (k c)
cursor_one (Some w) l rest ws h x k c = ⊎_elim (λ e. inl ((h w refl).owns x (inl e))) (λ d. ⊎_elim (λ e. inl ((h w refl).owns x (inr (inl e)))) (λ q. inr (k q)) d) c

distinct_one : (o : Option Walker) (l : Looplet) (rest : List Looplet) (ws : List Walker) → ((w : Walker) → o ≡ Some w → Walks l w) → ((x : ℕ) → Owns x l → AnyOwns x rest → ⊥) → ((x : ℕ) → Cursor x ws → AnyOwns x rest) → Distinct ws → Distinct (listed o ws)
distinct_one None l rest ws h apart k d = d
distinct_one (Some w) l rest ws h apart k d = ((λ x e c. apart x ((h w refl).owns x (⊎_elim (λ a. inl a) (λ b. inr (inl b)) e)) (k x c)), d)

module _ (kind : Looplet → Option Walker) (walk : Kind kind) where
  pub cursor_owned : (rs : List Looplet) (x : ℕ) → Cursor x (walkers kind rs) → AnyOwns x rs
  cursor_owned [] x c = absurd c
  cursor_owned (l ∷ rest) x c = cursor_one (kind l) l rest (walkers kind rest) (λ w. walk l w) x (cursor_owned rest x) c

  pub distinct : (rs : List Looplet) → AllApart rs → Distinct (walkers kind rs)
  distinct [] h = tt
  distinct (l ∷ rest) h = distinct_one (kind l) l rest (walkers kind rest) (λ w. walk l w) h.0 (cursor_owned rest) (distinct rest h.1)

  pub clear : (rs : List Looplet) → ((x : ℕ) → AnyOwns x rs → AnyFree x rs → ⊥) → Clear (walkers kind rs)
  clear rs bound w a x ne n c = bound x (cursor_owned rs x c) ((any_walks kind walk rs w a).seeks x ne n)
