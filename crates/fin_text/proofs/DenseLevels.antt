-- Levels without lines.
use Rattle.std.proofs.Common.{◌≡◌, ℕ, suc, ◌<◌, ◌≤◌, List, [], ◌∷◌, ◌++◌, length, get_or, drop, drop-cons, IsTrue, Bool, false, subst, sym, ap, ◌∙◌, refl, append_assoc, arith}
use Rattle.std.specs.Prelude.{slice_index_or, if◌then◌else◌}
use Rattle.std.proofs.lemmas.List.{append-nil, drop_all, length_push}
use Rattle.fin_tensor.specs.declared.format.Format.{Format}
use Rattle.fin_tensor.specs.declared.format.Level.{Level}
use Rattle.fin_tensor.specs.declared.format.Level.TheVariants as level
use Rattle.fin_tensor.specs.declared.part.Part.{Part}
use Rattle.fin_tensor.specs.declared.part.Part.TheVariants as part
use Rattle.fin_tensor.specs.Levels.{IsLevel, IsPtr}
use Rattle.fin_tensor.specs.Placement.{is_dense}
use Rattle.fin_text.specs.DueLines.{leading_dense, with_dense, part_with, IsSecond}

pub dense_level : (l : Level) (n fibres : ℕ) → IsTrue (is_dense l) → IsLevel l n fibres part.Dense
dense_level level.Dense n fibres h = tt
dense_level level.List n fibres h = cc h
dense_level level.Dict n fibres h = cc h
dense_level level.Runs n fibres h = cc h
dense_level level.Band n fibres h = cc h

leading_more : (l : Level) (ls : List Level) → IsTrue (is_dense l) → leading_dense (l ∷ ls) ≡ part.Dense ∷ leading_dense ls
leading_more level.Dense ls h = refl
leading_more level.List ls h = cc h
leading_more level.Dict ls h = cc h
leading_more level.Runs ls h = cc h
leading_more level.Band ls h = cc h

leading_none : (l : Level) (ls : List Level) → is_dense l ≡ false → leading_dense (l ∷ ls) ≡ []
leading_none l ls h = ap (λ (b : Bool). if b then part.Dense ∷ leading_dense ls else []) h

pub dense_more : (format : Format) (parts : List Part) → length parts < length format.levels → IsTrue (is_dense (slice_index_or format.levels (length parts) level.Dense)) → with_dense format (parts ++ part.Dense ∷ []) ≡ with_dense format parts
dense_more format parts lt h =
    let ls = format.levels in let k = length parts in
    let long : length (parts ++ part.Dense ∷ []) ≡ suc k = omega (arith, length_push parts part.Dense) in
    ap (λ (n : ℕ). (parts ++ part.Dense ∷ []) ++ leading_dense (drop n ls)) long
    ∙ append_assoc parts (part.Dense ∷ []) (leading_dense (drop (suc k) ls))
    ∙ sym (ap (λ t. parts ++ t) (ap leading_dense (drop-cons ls k level.Dense lt) ∙ leading_more (get_or ls k level.Dense) (drop (suc k) ls) h))

pub dense_end : (format : Format) (parts : List Part) → length format.levels ≤ length parts → parts ≡ with_dense format parts
dense_end format parts le = sym (ap (λ t. parts ++ leading_dense t) (drop_all (length parts) format.levels le) ∙ append-nil parts)

pub dense_stop : (format : Format) (parts : List Part) → length parts < length format.levels → is_dense (slice_index_or format.levels (length parts) level.Dense) ≡ false → parts ≡ with_dense format parts
dense_stop format parts lt h =
    let ls = format.levels in let k = length parts in
    sym (ap (λ t. parts ++ t) (ap leading_dense (drop-cons ls k level.Dense lt) ∙ leading_none (get_or ls k level.Dense) (drop (suc k) ls) h) ∙ append-nil parts)

pub dense_step : (format format' : Format) (parts parts' all : List Part) → format' ≡ format → length parts < length format'.levels → IsTrue (is_dense (slice_index_or format'.levels (length parts) level.Dense)) → parts' ≡ parts ++ part.Dense ∷ []
    → with_dense format parts ≡ all → with_dense format parts' ≡ all
dense_step format format' parts parts' all e lt h next inv =
    ap (with_dense format) next
    ∙ dense_more format parts (subst (λ (f : Format). length parts < length f.levels) e lt) (subst (λ (f : Format). IsTrue (is_dense (slice_index_or f.levels (length parts) level.Dense))) e h)
    ∙ inv

pub dense_within : (format format' : Format) (parts parts' : List Part) → format' ≡ format → length parts < length format.levels → parts' ≡ parts ++ part.Dense ∷ [] → length parts' ≤ length format'.levels
dense_within format format' parts parts' e lt next = omega (arith, ap (λ (f : Format). length f.levels) e, ap length next, length_push parts part.Dense)

-- the lines of a level make its part
pub second_level : (l : Level) (n fibres : ℕ) (ptr xs : List ℕ) → IsPtr fibres ptr → IsSecond l n fibres ptr xs → IsLevel l n fibres (part_with l ptr xs)
second_level level.Dense n fibres ptr xs p h = absurd h
second_level level.List n fibres ptr xs p h = (p, h)
second_level level.Dict n fibres ptr xs p h = (p, h)
second_level level.Runs n fibres ptr xs p h = (p, h)
second_level level.Band n fibres ptr xs p h = (p, h)
