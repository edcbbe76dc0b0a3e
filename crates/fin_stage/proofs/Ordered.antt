-- Each update of an accepted program follows the one before.
use Rattle.std.proofs.Common.{◌≡◌, ◌<◌, ◌≤◌, ◌+◌, ℕ, zero, suc, ℤ, pos, Bool, true, false, List, [], ◌∷◌, ◌++◌, map, Option, Some, None, if◌then◌else◌, refl, sym, ap, ◌∙◌, subst, inl, inr, ◌⊎◌, arith, length, take, drop, get_or-set_same}
use Rattle.std.specs.Prelude.{is_some, slice_set, slice_get, unwrap_or, option_map, nat_eq}
use Rattle.fin_base.specs.Words.{apply}
use Rattle.fin_base.specs.declared.reduce.Reduce.{Reduce}
use Rattle.std.proofs.lemmas.Bool.{cases_lt}
use Rattle.fin_tensor.specs.Building.{Building, no_format, comes_behind, follows, updated, last_of}
use Rattle.fin_tensor.specs.Order.{ordered_levels}
use Rattle.fin_tensor.specs.declared.format.Format.{Format}
use Rattle.fin_tensor.specs.TensorFunction.{TensorFunction}
use Rattle.fin_ast.specs.declared.header.Header.{Header}
use Rattle.fin_ast.specs.declared.mode.Mode.{Mode}
use Rattle.fin_ast.specs.declared.mode.Mode.TheVariants.{Undeclared, Update, Read}
use Rattle.fin_ast.specs.declared.tree.Index.{Index}
use Rattle.fin_ast.specs.Choices.{levels_of}
use Rattle.fin_ast.specs.Modes.{is_input_at}
use Rattle.fin_ast.specs.Life.{is_declared}
use Rattle.fin_ast.specs.Order.{are_variables}
use Rattle.fin_ast.specs.Scope.{is_among}
use Rattle.fin_ast.specs.Value.{Numbers, place, coordinates}
use Rattle.fin_ast.specs.Dense.{Setting, made_at}
use Rattle.fin_life.specs.Passage.{ModeOf}
use Rattle.fin_life.specs.Tracks.{Tracks}
use Rattle.fin_life.specs.Tracks as track
use Rattle.fin_stage.specs.Stages.{Stage, Absent, Built, Frozen, stage_at}
use Rattle.fin_stage.specs.Staged.{Run, with_stage, unordered, put_at, update_at, format_at}
use Rattle.fin_stage.specs.Fitting.{StageFits, StagesFit}
use Rattle.fin_stage.proofs.Agreeing.{Agrees}
use Rattle.fin_stage.proofs.Alive.{Living}
use Rattle.fin_stage.proofs.Lexical.{Strict, Weak, weak_turns_strict, strict_is_weak, weak_prefix, weak_at_update, follows_by}
use Rattle.fin_stage.proofs.Touching.{last_in, LastKept}
use Rattle.fin_stage.proofs.Tracking.{depth, drop_end, long_end, Stays}
use Rattle.fin_stage.proofs.InOrder.{values, long_values, values_turn, first_coordinates, Stepped, InOrder, no_update}

module _ (hs : List Header) (w : Setting) (given_is : (t : ℕ) → is_some (made_at w.given t) ≡ is_input_at hs t) where
  abbrev Alive : ModeOf → Run → Type 0
  Alive now r = Living hs w given_is now r

  -- ---- where a statement stands
  pub record Here (now : ModeOf) (loops : List ℕ) (tracks : Tracks) (n : ℕ) (r : Run) : Type 0 where
    pub below : (k : ℕ) → is_among loops k ≡ true → k < n
    pub entered : (t : ℕ) → is_declared (now t) ≡ true → tracks.entered t ≤ length loops
    pub alive : Alive now r
    pub fits : StagesFit w r.stages
    pub ordered : r.ordered ≡ true

  abbrev pub last_at : Run → ℕ → Option (List ℕ)
  last_at r t = last_in (stage_at r.stages t)

  -- a tensor with a last update is in update mode
  updates_it : (m : Mode) (g : Option TensorFunction) (x : Stage) (cs : List ℕ) → last_in x ≡ Some cs → Agrees m g x → m ≡ Update
  updates_it Update g x cs e a = refl
  updates_it Undeclared None Absent cs e a = cc
  updates_it Undeclared None (Built b) cs e a = absurd a
  updates_it Undeclared None (Frozen format f) cs e a = cc
  updates_it Undeclared (Some g) x cs e a = absurd a
  updates_it Read None Absent cs e a = cc
  updates_it Read None (Built b) cs e a = absurd a
  updates_it Read None (Frozen format f) cs e a = cc
  updates_it Read (Some g) Absent cs e a = cc
  updates_it Read (Some g) (Built b) cs e a = absurd a
  updates_it Read (Some g) (Frozen format f) cs e a = cc

  pub in_update_mode : (now : ModeOf) (r : Run) (t : ℕ) (cs : List ℕ) → Alive now r → last_at r t ≡ Some cs → now t ≡ Update
  in_update_mode now r t cs a e = updates_it (now t) (made_at w.given t) (stage_at r.stages t) cs e (a.agree t)

  pub declared_mode : (m : Mode) → m ≡ Update → is_declared m ≡ true
  declared_mode m e = ap is_declared e

  -- ---- what is carried over a statement
  module _ (t : ℕ) (loops : List ℕ) (before after : Tracks) (n m : ℕ) (le : n ≤ m) (vars : Numbers) (stays : Stays hs t loops before after) where
    stepped_stays : Stepped hs t loops before n → Stepped hs t loops after m
    stepped_stays s = record {
      first = s.first;
      is = stays.first s.first s.is;
      next = s.next;
      goes = subst (λ (e : ℕ). take (suc (length (drop e loops))) (drop e s.first) ≡ drop e loops ++ s.next ∷ []) (sym stays.entered) s.goes;
      behind = omega (arith, s.behind, le);
    }

    pub order_stays : (last : Option (List ℕ)) → InOrder hs t loops before n vars last → InOrder hs t loops after m vars last
    order_stays last o = record {
      deep = λ d. subst (λ (e : ℕ). Weak (depth hs t) last (values vars (drop e loops))) (sym stays.entered) (o.deep (subst (λ (e : ℕ). depth hs t ≤ length (drop e loops)) stays.entered d));
      shallow = λ d. elim (o.shallow (subst (λ (e : ℕ). length (drop e loops) < depth hs t) stays.entered d)) [
        | inl s ↦ inl (subst (λ (e : ℕ). Strict last (values vars (drop e loops))) (sym stays.entered) s)
        | inr s ↦ inr (subst (λ (e : ℕ). Weak (length (drop e loops)) last (values vars (drop e loops))) (sym stays.entered) s.0, stepped_stays s.1)
      ];
    }

  -- what is left as it was
  pub carried_by : (now : ModeOf) (t : ℕ) (loops : List ℕ) (before after : Tracks) (n m : ℕ) → n ≤ m → (vars : Numbers) (r : Run) (stages : List Stage) → Alive now r
      → (now t ≡ Update → Stays hs t loops before after) → LastKept t r.stages stages → InOrder hs t loops before n vars (last_at r t) → InOrder hs t loops after m vars (last_in (stage_at stages t))
  carried_by now t loops before after n m le vars r stages alive stays (inr none) o = no_update hs t loops after m vars (last_in (stage_at stages t)) none
  carried_by now t loops before after n m le vars r stages alive stays (inl same) o = subst (InOrder hs t loops after m vars) (sym same) (by_last (last_at r t) refl) where
    by_last : (last : Option (List ℕ)) → last_at r t ≡ last → InOrder hs t loops after m vars (last_at r t)
    by_last None e = no_update hs t loops after m vars (last_at r t) e
    by_last (Some cs) e = order_stays t loops before after n m le vars (stays (in_update_mode now r t cs alive e)) (last_at r t) o

  -- ---- an update
  same_levels : (t : ℕ) → w.headers ≡ hs → (format_at w t).levels ≡ levels_of (slice_get hs t)
  same_levels t e = by_header (slice_get w.headers t) ∙ ap (λ (l : List Header). levels_of (slice_get l t)) e where
    by_header : (o : Option Header) → (unwrap_or (option_map (λ (h : Header). h.format) o) no_format).levels ≡ levels_of o
    by_header None = refl
    by_header (Some h) = refl

  built_depth : (t : ℕ) (b : Building) → w.headers ≡ hs → StageFits w t (Built b) → ordered_levels b.format.levels ≡ depth hs t
  built_depth t b e f = ap ordered_levels (ap (λ (x : Format). x.levels) f.0 ∙ same_levels t e)

  pub record Updated (t : ℕ) (loops : List ℕ) (tracks : Tracks) (m : ℕ) (vars : Numbers) (r : Run) : Type 0 where
    pub ordered : r.ordered ≡ true
    pub order : InOrder hs t loops (track.updated t loops tracks) m vars (last_at r t)

  -- the weak order alone, where the loops are deep enough
  pub deep_alone : (t : ℕ) (loops : List ℕ) (tracks : Tracks) (m : ℕ) (vars : Numbers) (last : Option (List ℕ)) → depth hs t ≤ length (drop (tracks.entered t) loops) → Weak (depth hs t) last (values vars (drop (tracks.entered t) loops)) → InOrder hs t loops (track.updated t loops tracks) m vars last
  deep_alone t loops tracks m vars last d weak = record { deep = λ _. weak; shallow = λ lt. absurd (omega (arith, lt, d)) }

  last_is : (d : ℕ) (cs : List ℕ) (xs : List ℕ) → take d cs ≡ take d xs → Weak d (last_of d cs) xs
  last_is d cs xs e = elim (nat_eq d 0) as (λ b. Weak d (if b then None else Some cs) xs) [ true ↦ refl | false ↦ weak_at_update d cs xs e ]

  module _ (t : ℕ) (loops : List ℕ) (tracks : Tracks) (m : ℕ) (vars : Numbers) (at : List Index) (by : Reduce) (v : ℤ) (headers_is : w.headers ≡ hs) (inside : t < length hs)
      (deep : depth hs t ≤ length (drop (tracks.entered t) loops)) (bare : are_variables (take (depth hs t) (drop (tracks.entered t) loops)) (take (depth hs t) at) ≡ true) where
    put_follows : (b : Building) (o : Option (List ℕ)) (r : Run) → coordinates b.function.shape (map (place vars) at) ≡ o → stage_at r.stages t ≡ Built b → StageFits w t (Built b) → length r.stages ≡ length hs → r.ordered ≡ true
        → Weak (depth hs t) (last_at r t) (values vars (drop (tracks.entered t) loops)) → Updated t loops tracks m vars (put_at t b o by v r)
    put_follows b None r e is fit long g weak = record { ordered = g; order = deep_alone t loops tracks m vars (last_at r t) deep weak }
    put_follows b (Some cs) r e is fit long g weak =
        let d : ordered_levels b.format.levels ≡ depth hs t = built_depth t b headers_is fit in
        let begins : take (depth hs t) cs ≡ take (depth hs t) (values vars (drop (tracks.entered t) loops)) = first_coordinates (depth hs t) vars (drop (tracks.entered t) loops) b.function.shape at cs deep bare e in
        let follow : follows b cs ≡ true = subst (λ (k : ℕ). comes_behind k b.last cs ≡ true) (sym d) (follows_by (depth hs t) b.last cs (values vars (drop (tracks.entered t) loops)) begins (subst (λ (y : Stage). Weak (depth hs t) (last_in y) (values vars (drop (tracks.entered t) loops))) is weak)) in
        let new : Run = with_stage t (Built (updated b cs (λ old. apply by old v))) r in
        let last : last_at new t ≡ last_of (depth hs t) cs = ap last_in (get_or-set_same r.stages t (Built (updated b cs (λ old. apply by old v))) Absent (omega (arith, inside, long))) ∙ ap (λ (k : ℕ). last_of k cs) d in
        let done : Updated t loops tracks m vars new = record { ordered = g; order = subst (InOrder hs t loops (track.updated t loops tracks) m vars) (sym last) (deep_alone t loops tracks m vars (last_of (depth hs t) cs) deep (last_is (depth hs t) cs (values vars (drop (tracks.entered t) loops)) begins)) } in
        subst (λ (k : Bool). Updated t loops tracks m vars (if k then new else unordered r)) (sym follow) done

    pub update_follows : (x : Stage) (r : Run) → stage_at r.stages t ≡ x → StageFits w t x → length r.stages ≡ length hs → r.ordered ≡ true
        → Weak (depth hs t) (last_at r t) (values vars (drop (tracks.entered t) loops)) → Updated t loops tracks m vars (update_at t x (map (place vars) at) by v r)
    update_follows Absent r is fit long g weak = record { ordered = g; order = deep_alone t loops tracks m vars (last_at r t) deep weak }
    update_follows (Built b) r is fit long g weak = put_follows b (coordinates b.function.shape (map (place vars) at)) r refl is fit long g weak
    update_follows (Frozen format f) r is fit long g weak = record { ordered = g; order = deep_alone t loops tracks m vars (last_at r t) deep weak }

  -- ---- a turn of a loop
  module _ (t : ℕ) (loops : List ℕ) (tracks : Tracks) (n : ℕ) (vars : Numbers) (below : (k : ℕ) → is_among loops k ≡ true → k < n) (room : n < length vars) where
    abbrev D : List ℕ
    D = drop (tracks.entered t) loops

    abbrev vs : List ℕ
    vs = values vars D

    -- before the turn at k
    pub record AtTurn (k : ℕ) (last : Option (List ℕ)) : Type 0 where
      pub deep : depth hs t ≤ length D → Weak (depth hs t) last vs
      pub shallow : length D < depth hs t → Strict last (vs ++ k ∷ [])

    pub no_turn : (k : ℕ) (last : Option (List ℕ)) → last ≡ None → AtTurn k last
    no_turn k last e = subst (AtTurn k) (sym e) (record { deep = λ _. refl; shallow = λ _. tt })

    take_of : (d k : ℕ) (xs : List ℕ) → d ≤ length xs → take d (xs ++ k ∷ []) ≡ take d xs
    take_of zero k xs h = refl
    take_of (suc d) k [] h = absurd (omega (arith, h))
    take_of (suc d) k (x ∷ xs) h = ap (λ (ys : List ℕ). x ∷ ys) (take_of d k xs (omega (arith, h)))

    long_of : length vs ≡ length D
    long_of = long_values vars D

    inner_drop : tracks.entered t ≤ length loops → drop (tracks.entered t) (loops ++ n ∷ []) ≡ D ++ n ∷ []
    inner_drop le = drop_end (tracks.entered t) loops n le

    inner_values : tracks.entered t ≤ length loops → (k : ℕ) → values (slice_set vars n (pos k)) (drop (tracks.entered t) (loops ++ n ∷ [])) ≡ vs ++ k ∷ []
    inner_values le k = ap (values (slice_set vars n (pos k))) (inner_drop le) ∙ values_turn vars loops (tracks.entered t) n k below room

    inner_long : tracks.entered t ≤ length loops → length (drop (tracks.entered t) (loops ++ n ∷ [])) ≡ suc (length D)
    inner_long le = ap length (inner_drop le) ∙ long_end D n

    longer : (xs : List ℕ) (k : ℕ) → length (xs ++ k ∷ []) ≡ suc (length xs)
    longer xs k = long_end xs k

    pub turn_begins : (m k : ℕ) (last : Option (List ℕ)) → tracks.entered t ≤ length loops → AtTurn k last → InOrder hs t (loops ++ n ∷ []) tracks m (slice_set vars n (pos k)) last
    turn_begins m k last le a = record {
      deep = λ d. subst (Weak (depth hs t) last) (sym (inner_values le k)) (deeper (omega (arith, d, inner_long le)));
      shallow = λ d. inl (subst (Strict last) (sym (inner_values le k)) (a.shallow (omega (arith, d, inner_long le))));
    } where
      deeper : depth hs t ≤ suc (length D) → Weak (depth hs t) last (vs ++ k ∷ [])
      deeper d = elim (cases_lt (length D) (depth hs t)) [
        | inl lt ↦ let is : length (vs ++ k ∷ []) ≡ depth hs t = omega (arith, lt, d, longer vs k, long_of) in subst (λ (j : ℕ). Weak j last (vs ++ k ∷ [])) is (strict_is_weak last (vs ++ k ∷ []) (a.shallow lt))
        | inr ge ↦ weak_prefix (depth hs t) last vs (vs ++ k ∷ []) (sym (take_of (depth hs t) k vs (omega (arith, ge, long_of)))) (a.deep (omega (arith, ge)))
      ]

    abbrev DeepAt : ℕ → Numbers → Option (List ℕ) → Type 0
    DeepAt e inner last = depth hs t ≤ length (drop e (loops ++ n ∷ [])) → Weak (depth hs t) last (values inner (drop e (loops ++ n ∷ [])))

    abbrev ShallowAt : ℕ → Numbers → Option (List ℕ) → Type 0 → Type 0
    ShallowAt e inner last S = length (drop e (loops ++ n ∷ [])) < depth hs t → Strict last (values inner (drop e (loops ++ n ∷ []))) ⊎ (Weak (length (drop e (loops ++ n ∷ []))) last (values inner (drop e (loops ++ n ∷ []))) × S)

    ends_here : (k : ℕ) (last : Option (List ℕ)) (S : Type 0) → tracks.entered t ≤ length loops → DeepAt (tracks.entered t) (slice_set vars n (pos k)) last → ShallowAt (tracks.entered t) (slice_set vars n (pos k)) last S → AtTurn (k + 1) last
    ends_here k last S le f g = record {
      deep = λ d. weak_prefix (depth hs t) last (vs ++ k ∷ []) vs (take_of (depth hs t) k vs (omega (arith, d, long_of))) (subst (Weak (depth hs t) last) (inner_values le k) (f (omega (arith, d, inner_long le))));
      shallow = λ d. weak_turns_strict last vs k (elim (cases_lt (suc (length D)) (depth hs t)) [
        | inl lt ↦ elim (g (omega (arith, lt, inner_long le))) [
          | inl s ↦ let strict : Strict last (vs ++ k ∷ []) = subst (Strict last) (inner_values le k) s in subst (λ (j : ℕ). Weak j last (vs ++ k ∷ [])) (longer vs k) (strict_is_weak last (vs ++ k ∷ []) strict)
          | inr s ↦ let same : length (drop (tracks.entered t) (loops ++ n ∷ [])) ≡ suc (length vs) = omega (arith, inner_long le, long_of) in subst (λ (j : ℕ). Weak j last (vs ++ k ∷ [])) same (subst (Weak (length (drop (tracks.entered t) (loops ++ n ∷ []))) last) (inner_values le k) s.0)
        ]
        | inr ge ↦ let same : depth hs t ≡ suc (length vs) = omega (arith, ge, d, long_of) in subst (λ (j : ℕ). Weak j last (vs ++ k ∷ [])) same (subst (Weak (depth hs t) last) (inner_values le k) (f (omega (arith, ge, inner_long le))))
      ]);
    }

    pub turn_ends : (after : Tracks) (m k : ℕ) (last : Option (List ℕ)) → after.entered t ≡ tracks.entered t → tracks.entered t ≤ length loops → InOrder hs t (loops ++ n ∷ []) after m (slice_set vars n (pos k)) last → AtTurn (k + 1) last
    turn_ends after m k last same le o =
        subst (λ (e : ℕ). DeepAt e (slice_set vars n (pos k)) last → ShallowAt e (slice_set vars n (pos k)) last (Stepped hs t (loops ++ n ∷ []) after m) → AtTurn (k + 1) last) (sym same) (ends_here k last (Stepped hs t (loops ++ n ∷ []) after m) le) o.deep o.shallow
