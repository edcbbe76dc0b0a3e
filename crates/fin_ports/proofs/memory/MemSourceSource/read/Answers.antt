use Rattle.std.proofs.Common.{◌≡◌, ℕ, ◌+◌, ◌-◌, List, ◌++◌, length, take, drop, sym, ap, ◌∙◌, arith, drop_of_length-le}
use Rattle.std.proofs.Math.Seq.{take-append_seam}
use Rattle.std.proofs.lemmas.List.Folds.{drop_split}
use Rattle.fin_ports.proofs.memory.MemSourceSource.read.Goals as goal

split : (xs copied rest : List ℕ) (at n : ℕ) → copied ≡ take (at + n - at) (drop at xs) → length copied ≡ n
    → drop at xs ≡ take n (copied ++ rest) ++ drop (at + n) xs
split xs copied rest at n is len =
    let front : take n (copied ++ rest) ≡ copied = ap (λ k. take k (copied ++ rest)) (sym len) ∙ take-append_seam copied rest in
    drop_split xs at (at + n) (omega arith) ∙ ap (λ l. l ++ drop (at + n) xs) (sym is ∙ sym front)

pub returns-clause-bytes : goal.returns-clause-bytes
returns-clause-bytes c =
    let xs = c.args.self.now.bytes.items in let at = c.args.self.now.at in let n = c.min-count.result in
    let copied : length c.copy_from_slice.new.self ≡ n = omega (arith, ap length c.copy_from_slice.ensures.after) in (
      split xs c.copy_from_slice.new.self (drop n c.args.into.now) at n (c.copy_from_slice.ensures.after ∙ ap (λ l. take (at + n - at) (drop at l)) c.deref.ensures.value) copied,
      λ none some. drop_of_length-le xs (omega (arith, none, some)),
    )
