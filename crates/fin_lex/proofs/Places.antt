-- What is left of a text from a place on, and the lines up to it.
use Rattle.std.proofs.Common.{◌≡◌, ℕ, ◌+◌, ◌-◌, ◌≤◌, List, length, length-drop, take, drop, sym, ap, ◌∙◌, subst, arith}
use Rattle.std.proofs.lemmas.List.{take_all}
use Rattle.std.proofs.lemmas.List.Sums.{sum_by-append}
use Rattle.std.proofs.Math.Seq.{take-add}
use Rattle.fin_lex.specs.declared.piece.Piece.{Piece}
use Rattle.fin_lex.specs.Piece.{cut, newlines}
use Rattle.fin_lex.specs.Tokens.{line_at}

pub left_of : (text : List ℕ) (at : ℕ) → take (length text - at) (drop at text) ≡ drop at text
left_of text at = take_all (length text - at) (drop at text) (simp length-drop (omega arith))

pub cut_there : (text : List ℕ) (at : ℕ) (f : Piece) → f ≡ cut (take (length text - at) (drop at text)) → cut (drop at text) ≡ f
cut_there text at f h = sym (ap cut (left_of text at)) ∙ sym h

pub lines_after : (text : List ℕ) (first_line at n line counted : ℕ) → line ≡ line_at text first_line at → counted ≡ newlines (take (at + n - at) (drop at text)) → line + counted ≡ line_at text first_line (at + n)
lines_after text first_line at n line counted h k =
    let e : at + n - at ≡ n = omega arith in
    let k' : counted ≡ newlines (take n (drop at text)) = k ∙ ap (λ m. newlines (take m (drop at text))) e in
    let s : newlines (take (at + n) text) ≡ newlines (take at text) + newlines (take n (drop at text)) = ap newlines (take-add at n text) ∙ sum_by-append _ (take at text) (take n (drop at text)) in
    omega arith

pub within_after : (text : List ℕ) (at n : ℕ) → at ≤ length text → n ≤ length (take (length text - at) (drop at text)) → at + n ≤ length text
within_after text at n le h =
    let k : n ≤ length (drop at text) = subst (λ m. n ≤ m) (ap length (left_of text at)) h in
    let l : length (drop at text) ≡ length text - at = length-drop at text in
    omega arith
