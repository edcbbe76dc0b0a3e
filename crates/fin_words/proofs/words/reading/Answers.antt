use Rattle.std.proofs.Common.{◌≡◌, ◌∙◌, ◌∷◌, ap, sym, refl, map, true, List, [], ℕ, subst, inl, inr}
use Rattle.std.specs.Prelude.{Option, None, string_bytes}
use Rattle.clap.specs.Words.{Kinds, fault_of, kind_of, is_simple_and_free, matches_of}
use Rattle.clap.specs.Simple.{is_simple}
use Rattle.clap.specs.Kinds.{HasKind, IsAmong}
use Rattle.clap.specs.declared.error.kind.ErrorKind.{ErrorKind}
use Rattle.fin_words.specs.Command.{finch}
use Rattle.fin_words.specs.declared.mode.Asked.{Asked}
use Rattle.fin_words.specs.Reading.{asked_by, reading, unless_fault}
use Rattle.fin_words.proofs.Ranges.{has_ranges}
use Rattle.fin_words.proofs.words.reading.Goals as goal

simple : is_simple_and_free finch ≡ true
simple = refl

pub asked-requires : goal.asked-requires
asked-requires c = has_ranges c.in_ok-command.command c.in-Ok.matches c.in_ok-command.ensures c.in-Ok.ensures.parsed

-- words without a fault, and words with one
reading_there : (words : List (List ℕ)) → fault_of finch words ≡ [] → reading words ≡ asked_by (matches_of finch words)
unfolding reading
reading_there words none = ap (λ (kinds : Kinds). unless_fault kinds (asked_by (matches_of finch words))) none

none_among : (k : ErrorKind) (kinds : Kinds) (asked : Option Asked) → IsAmong k kinds → unless_fault kinds asked ≡ None
none_among k [] asked h = absurd h
none_among k (x ∷ xs) asked h = refl

reading_none : (words : List (List ℕ)) (k : ErrorKind) → IsAmong k (fault_of finch words) → None ≡ reading words
unfolding reading
reading_none words k among = sym (none_among k (fault_of finch words) (asked_by (matches_of finch words)) among)

pub returns-in-Ok-clause-value : goal.returns-in-Ok-clause-value
returns-in-Ok-clause-value c =
    let words = map string_bytes c.args.words.now in
    let is = c.in_ok-command.ensures in
    let free = ap is_simple_and_free is ∙ simple in
    let fault : fault_of finch words ≡ [] = ap (λ a. fault_of a words) (sym is) ∙ c.in-Ok.ensures.kinds free in
    let rows = (c.in-Ok.ensures.matches (ap is_simple is ∙ refl)).0 ∙ ap (λ a. matches_of a words) is in
    c.asked.ensures.value ∙ ap asked_by rows ∙ sym (reading_there words fault)

pub returns-clause-value : goal.returns-clause-value
returns-clause-value c =
    let words = map string_bytes c.args.words.now in
    let is = c.in_ok-command.ensures in
    let failed : HasKind (fault_of finch words) c.in-Err.e =
    subst (λ a. HasKind (fault_of a words) c.in-Err.e) is (c.in-Err.ensures.kinds (ap is_simple_and_free is ∙ simple)) in
    elim failed [
      | inl memory ↦ absurd (c.in_default.not-OutOfMemory (c.kind.ensures ∙ memory))
      | inr among ↦ reading_none words (kind_of c.in-Err.e) among
    ]
