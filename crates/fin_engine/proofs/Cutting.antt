-- Looking at the lines of a job one after another.
use Rattle.std.proofs.Common.{◌≡◌, ◌≢◌, ◌∙◌, ◌≤◌, ◌+◌, ℕ, List, [], ◌∷◌, ◌++◌, length, take, drop, refl, sym, ap, ap₂, subst, arith, append_assoc, append-nil, length-append, get_or, false, codes}
use Rattle.std.specs.Prelude.{All, ◌==◌}
use Rattle.std.proofs.Math.Seq.{take-append_seam, drop-append_seam}
use Rattle.std.proofs.lemmas.Grind.{flat_map-append}
use Rattle.std.proofs.lemmas.List.{length-take-le, take-append-drop}
use Rattle.std.proofs.lemmas.List.Elements.{All-nil, All-push}
use Rattle.std.proofs.lemmas.List.Splits.{join_with_byte-slice_split, slice_split_at, slice_split_none}
use Rattle.std.proofs.lemmas.Bool.Decides.{nat_tests}
use Rattle.fin_text.specs.Text.{text_of_lines}
use Rattle.fin_engine.specs.Cut.{IsBefore, IsCut, IsEndless, IsReached, lines}

unlike : (b : ℕ) → b ≢ 10 → (b == 10) ≡ false
unlike b n = grind (arith, nat_tests)

passes : (xs : List ℕ) → All (λ b. b ≢ 10) xs → All (λ b. (b == 10) ≡ false) xs
passes xs h = λ k d lt. unlike (get_or xs k d) (h k d lt)

-- the first of the lines
pub first_line : (line rest : List ℕ) → All (λ b. b ≢ 10) line → lines (line ++ 10 ∷ rest) ≡ line ∷ lines rest
first_line line rest h = slice_split_at (λ b. b == 10) line 10 rest (passes line h) refl

pub only_line : (line : List ℕ) → All (λ b. b ≢ 10) line → lines line ≡ line ∷ []
only_line line h = slice_split_none (λ b. b == 10) line (passes line h)

pub begun : (text : List ℕ) → IsReached text 0 1
begun text = record {
  before = [];
  lines_are = refl;
  none = All-nil IsBefore;
  front = refl;
  counted = refl;
}

-- a text around one of its lines
around : (text line rest : List ℕ) (at : ℕ) → drop at text ≡ line ++ 10 ∷ rest → text ≡ (take at text ++ (line ++ 10 ∷ [])) ++ rest
around text line rest at is =
    sym (take-append-drop at text) ∙ ap (λ l. take at text ++ l) (is ∙ sym (append_assoc line (10 ∷ []) rest)) ∙ sym (append_assoc (take at text) (line ++ 10 ∷ []) rest)

long : (text line : List ℕ) (at : ℕ) → at ≤ length text → length (take at text ++ (line ++ 10 ∷ [])) ≡ at + (length line + 1)
long text line at le = omega (arith, length-take-le at text le, length-append (take at text) (line ++ 10 ∷ []), length-append line (10 ∷ []))

behind_line : (text line rest : List ℕ) (at : ℕ) → at ≤ length text → drop at text ≡ line ++ 10 ∷ rest → drop (at + (length line + 1)) text ≡ rest
behind_line text line rest at le is =
    let front = take at text ++ (line ++ 10 ∷ []) in
    ap₂ (λ n l. drop n l) (sym (long text line at le)) (around text line rest at is) ∙ drop-append_seam front rest

before_line : (text line rest : List ℕ) (at : ℕ) → at ≤ length text → drop at text ≡ line ++ 10 ∷ rest → take (at + (length line + 1)) text ≡ take at text ++ (line ++ 10 ∷ [])
before_line text line rest at le is =
    let front = take at text ++ (line ++ 10 ∷ []) in
    ap₂ (λ n l. take n l) (sym (long text line at le)) (around text line rest at is) ∙ take-append_seam front rest

one_more : (before : List (List ℕ)) (line : List ℕ) → text_of_lines before ++ (line ++ 10 ∷ []) ≡ text_of_lines (before ++ line ∷ [])
one_more before line =
    ap (λ l. text_of_lines before ++ l) (sym (append-nil (line ++ 10 ∷ []))) ∙ sym (flat_map-append (λ l. l ++ 10 ∷ []) before (line ∷ []))

pub inside_line : (text line rest : List ℕ) (at : ℕ) → at ≤ length text → drop at text ≡ line ++ 10 ∷ rest → at + (length line + 1) ≤ length text
inside_line text line rest at le is = omega (arith, ap length (around text line rest at is), long text line at le, length-append (take at text ++ (line ++ 10 ∷ [])) rest)

pub next_line : (text line rest : List ℕ) (at next : ℕ) → at ≤ length text → IsReached text at next → drop at text ≡ line ++ 10 ∷ rest → All (λ b. b ≢ 10) line → line ≢ codes "%%"
    → IsReached text (at + (length line + 1)) (next + 1)
next_line text line rest at next le r is h other = record {
  before = r.before ++ line ∷ [];
  lines_are = r.lines_are ∙ ap (λ l. r.before ++ lines l) is ∙ ap (λ l. r.before ++ l) (first_line line rest h)
      ∙ sym (append_assoc r.before (line ∷ []) (lines rest)) ∙ ap (λ l. (r.before ++ line ∷ []) ++ lines l) (sym (behind_line text line rest at le is));
  none = All-push IsBefore r.before line r.none other;
  front = before_line text line rest at le is ∙ ap (λ l. l ++ (line ++ 10 ∷ [])) r.front ∙ one_more r.before line;
  counted = omega (arith, r.counted, length-append r.before (line ∷ []));
}

pub found : (text line rest : List ℕ) (at next : ℕ) → IsReached text at next → drop at text ≡ line ++ 10 ∷ rest → All (λ b. b ≢ 10) line → line ≡ codes "%%"
    → IsCut text (take at text) rest next
found text line rest at next r is h end = record {
  before = r.before;
  behind = lines rest;
  split = r.lines_are ∙ ap (λ l. r.before ++ lines l) is ∙ ap (λ l. r.before ++ l) (first_line line rest h) ∙ ap (λ l. r.before ++ l ∷ lines rest) end;
  first = r.none;
  program_is = r.front;
  tensors_is = sym (join_with_byte-slice_split 10 rest);
  last_is = r.counted;
}

pub found_last : (text : List ℕ) (at next : ℕ) → IsReached text at next → All (λ b. b ≢ 10) (drop at text) → drop at text ≡ codes "%%" → IsCut text (take at text) [] next
found_last text at next r h end = record {
  before = r.before;
  behind = [];
  split = r.lines_are ∙ ap (λ l. r.before ++ l) (only_line (drop at text) h) ∙ ap (λ l. r.before ++ l ∷ []) end;
  first = r.none;
  program_is = r.front;
  tensors_is = refl;
  last_is = r.counted;
}

pub endless : (text : List ℕ) (at next : ℕ) → IsReached text at next → All (λ b. b ≢ 10) (drop at text) → drop at text ≢ codes "%%" → IsEndless text
endless text at next r h other = subst (All IsBefore) (sym (r.lines_are ∙ ap (λ l. r.before ++ l) (only_line (drop at text) h))) (All-push IsBefore r.before (drop at text) r.none other)

-- each line has a byte, its newline
lines_fit : (ls : List (List ℕ)) → length ls ≤ length (text_of_lines ls)
lines_fit [] = omega arith
lines_fit (l ∷ ls) = omega (arith, lines_fit ls, length-append (l ++ 10 ∷ []) (text_of_lines ls), length-append l (10 ∷ []))

-- a line's number is no greater than the bytes before it and 1
pub early : (text program tensors : List ℕ) (last : ℕ) → IsCut text program tensors last → last ≤ length program + 1
early text program tensors last c =
    let few : length c.before ≤ length (text_of_lines c.before) = lines_fit c.before in
    let long : length program ≡ length (text_of_lines c.before) = ap length c.program_is in
    omega (arith, c.last_is)
