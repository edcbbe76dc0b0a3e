-- Ties by flags are the ties of the program, and their loops have flags.
use Rattle.std.proofs.Common.{◌≡◌, ◌<◌, ℕ, zero, suc, Bool, true, false, if◌then◌else◌, List, [], ◌∷◌, refl, sym, ap, ◌∙◌, subst, arith, length, Option, Some, None}
use Rattle.std.specs.Prelude.{All, IsPermutation, filter_map, MatchOption}
use Rattle.std.specs.List.{cons_option}
use Rattle.std.proofs.lemmas.List.Elements.{All-nil, All-cons}
use Rattle.fin_ast.specs.declared.place.Place.{Place}
use Rattle.fin_ast.specs.declared.place.Place.TheVariants.{Loop, Let, Use}
use Rattle.fin_ast.specs.declared.place.Tie.{Tie}
use Rattle.fin_ast.specs.Ties.{bare, is_open, tie_at, tie_of, ties_of}
use Rattle.fin_dims.specs.Start.{flag_of}

filter_map_alike : (f g : Place → Option Tie) → ((p : Place) → f p ≡ g p) → (ps : List Place) → filter_map f ps ≡ filter_map g ps
filter_map_alike f g h [] = refl
filter_map_alike f g h (p ∷ ps) = ap (λ (o : Option Tie). cons_option o (filter_map f ps)) (h p) ∙ ap (cons_option (g p)) (filter_map_alike f g h ps)

abbrev tie : ℕ → ℕ → ℕ → Tie
tie dimension var line = record { dimension = dimension; var = var; line = line }

module _ (f g : ℕ → Bool) (h : (var : ℕ) → f var ≡ g var) where
  tie_at_alike : (dimension line : ℕ) (o : Option ℕ) → tie_at f dimension line o ≡ tie_at g dimension line o
  tie_at_alike dimension line None = refl
  tie_at_alike dimension line (Some var) = ap (λ (b : Bool). if b then Some (tie dimension var line) else None) (h var)

  tie_of_alike : (p : Place) → tie_of f p ≡ tie_of g p
  tie_of_alike (Loop var range line) = refl
  tie_of_alike Let = refl
  tie_of_alike (Use dimension i line) = tie_at_alike dimension line (bare i)

pub by_flags : (flags flags' : List Bool) (places : List Place) (items sorted : List Tie) → flags' ≡ flags → ((var : ℕ) → flag_of flags var ≡ is_open places var) → IsPermutation (filter_map (tie_of (flag_of flags')) places) items → sorted ≡ items → IsPermutation (ties_of places) sorted
by_flags flags flags' places items sorted e h same es =
    subst (λ (xs : List Tie). IsPermutation xs sorted)
    (filter_map_alike (tie_of (flag_of flags')) (tie_of (is_open places)) (tie_of_alike (flag_of flags') (is_open places) (λ v. ap (λ (fs : List Bool). flag_of fs v) e ∙ h v)) places)
    (subst (λ (ys : List Tie). IsPermutation (filter_map (tie_of (flag_of flags')) places) ys) (sym es) same)

module _ (flags : List Bool) where
  flag_within : (fs : List Bool) (var : ℕ) → flag_of fs var ≡ true → var < length fs
  flag_within [] var e = absurd (cc)
  flag_within (f ∷ fs) zero e = omega arith
  flag_within (f ∷ fs) (suc var) e = let h = flag_within fs var e in omega arith

  abbrev IsFlagged : Option Tie → Type 0
  IsFlagged o = MatchOption o (Unit {0}) (λ t. t.var < length flags)

  raised : (dimension line var : ℕ) (b : Bool) → flag_of flags var ≡ b → IsFlagged (if b then Some (tie dimension var line) else None)
  raised dimension line var true e = flag_within flags var e
  raised dimension line var false e = tt

  tie_at_flagged : (dimension line : ℕ) (o : Option ℕ) → IsFlagged (tie_at (flag_of flags) dimension line o)
  tie_at_flagged dimension line None = tt
  tie_at_flagged dimension line (Some var) = raised dimension line var (flag_of flags var) refl

  tie_of_flagged : (p : Place) → IsFlagged (tie_of (flag_of flags) p)
  tie_of_flagged (Loop var range line) = tt
  tie_of_flagged Let = tt
  tie_of_flagged (Use dimension i line) = tie_at_flagged dimension line (bare i)

  put_first : (o : Option Tie) (ts : List Tie) → IsFlagged o → All (λ t. t.var < length flags) ts → All (λ t. t.var < length flags) (cons_option o ts)
  put_first None ts h all = all
  put_first (Some t) ts h all = All-cons (λ (x : Tie). x.var < length flags) t ts h all

  pub all_flagged : (places : List Place) → All (λ t. t.var < length flags) (filter_map (tie_of (flag_of flags)) places)
  all_flagged [] = All-nil (λ (x : Tie). x.var < length flags)
  all_flagged (p ∷ ps) = put_first (tie_of (flag_of flags) p) (filter_map (tie_of (flag_of flags)) ps) (tie_of_flagged p) (all_flagged ps)
