-- Ports in memory that have just the room for what is due.
use Rattle.std.proofs.Common.{◌≡◌, ◌∙◌, ◌≤◌, ◌⊎◌, ℕ, List, [], length, take, ap, subst, inl, inr, arith, length-append}
use Rattle.std.specs.Prelude.{Some, Option}
use Rattle.std.proofs.lemmas.List.{length-take-le}
use Rattle.fin_ports.specs.Bytes.{PutsFront}
use Rattle.fin_ports.specs.Causes.{Rose}
use Rattle.fin_ports.specs.Memory.{HasRoom}
use Rattle.fin_ports.specs.declared.memory.MemSink.{MemSink}
use Rattle.fin_words.specs.declared.mode.Asked.{Asked}
use Rattle.fin_cli.specs.Due.{Due, IsDue}
use Rattle.fin_cli.specs.Ends.{Across, Failed, Finished, Serves, Took, TookPart, Unwritten}
use Rattle.fin_cli.proofs.OneDue.{one_due}
use Rattle.fin_cli.proofs.Promised.{ranked, told_is}

-- a count that is 0 and stays hasn't risen
pub not_risen : (a b : ℕ) → a ≡ 0 → b ≡ a → Rose a b → ⊥
not_risen a b fresh same rose = omega arith

-- a sink that took less than it has room for isn't full, so no put of it failed
pub not_within : (a b : MemSink) (text : List ℕ) → HasRoom a (length text) → (a.fails.items ≡ [] → (b.faults ≡ a.faults) ⊎ (a.room ≤ length b.taken.items))
    → Rose a.faults b.faults → PutsFront (Some a.taken.items) (Some b.taken.items) text → ⊥
not_within a b text room later rose (n, short, took) =
    let much = room.room in
    elim (later room.never) [
      | inl same ↦ not_risen a.faults b.faults room.fresh same rose
      | inr full ↦ absurd (omega (arith, ap length took, length-append a.taken.items (take n text), length-take-le n text (omega arith), much))
    ]

-- Where the source is reliable, and neither sink failed within what was due, the call ended as it was due.
pub ends_as_due : (asked : Option Asked) (source out err : Across) (Within : List ℕ → Type 0) (status : ℕ) (text : List ℕ) → source.before ≡ Some text
    → Serves asked source out err Within status → (Failed source → ⊥)
    → ((d : Due) → IsDue asked text d → Failed out → TookPart out d.out → ⊥) → ((d : Due) → IsDue asked text d → Within d.err → ⊥)
    → (due : Due) → IsDue asked text due → (status ≡ 5) ⊎ ((status ≡ due.status) × Took out due.out × Took err due.err)
ends_as_due asked source out err Within status text told (x, reads, ends) quiet calm still due is =
    let here = told_is source.before text x told reads.told in
    elim (ranked status ends.small) [
      | inl small ↦
          let f = subst (λ j. Finished out err (IsDue asked j) status) here (ends.finished small) in
          let e = one_due asked text f.0 due f.1 is in
          inr (f.2.0 ∙ ap (λ d. d.status) e, subst (λ d. Took out d.out) e f.2.1, subst (λ d. Took err d.err) e f.2.2)
      | inr rest ↦ elim rest [
        | inl three ↦ absurd (quiet (ends.read_fault three).0)
        | inr others ↦ elim others [
          | inl four ↦ absurd (unwritten (subst (λ j. Unwritten source out err Within (IsDue asked j)) here (ends.write_fault four)))
          | inr five ↦ inl five
        ]
      ]
    ]
  where
    unwritten : Unwritten source out err Within (IsDue asked text) → ⊥
    unwritten w = elim w [
      | inl h ↦ calm h.1.0 h.1.1 h.0 h.1.2
      | inr h ↦ elim h.1 [ inl d ↦ still d.0 d.1 d.2.1 | inr s ↦ quiet s.0 ]
    ]
