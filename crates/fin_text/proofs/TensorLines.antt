-- The lines of a tensor, one after another.
use Rattle.std.proofs.Common.{◌≡◌, ℕ, zero, suc, ◌+◌, ◌<◌, add-one, List, [], ◌∷◌, ◌++◌, take, drop, get_or, length, map, refl, sym, ap, ◌∙◌, subst, append_assoc, length-append, arith}
use Rattle.std.specs.declared.option.Option.{Option}
use Rattle.std.specs.Fmt.{decimal}
use Rattle.std.proofs.lemmas.List.{append-nil, take-append-drop, flat_map_more}
use Rattle.std.proofs.lemmas.Grind.{flat_map-append}
use Rattle.std.proofs.Math.Seq.{take-suc}
use Rattle.fin_tensor.specs.declared.part.Part.{Part}
use Rattle.fin_ports.specs.Bytes.{PutsFront}
use Rattle.fin_text.specs.Numbers.{spaced_sizes}
use Rattle.fin_text.specs.Pieces.{line_text, numbers_text}
use Rattle.fin_text.specs.Putting.{Waits}
use Rattle.fin_text.specs.Tensors.{part_lines, lines_of_parts}
use Rattle.fin_text.specs.Text.{text_of_lines}
use Rattle.fin_text.specs.declared.pieces.Line.{Line}
use Rattle.fin_text.proofs.Waiting.{more_waits, some_put, part_put, front_put}

-- numbers behind a text, up to one of them

pub next_size : (text : List ℕ) (ns : List ℕ) (i d : ℕ) → i < length ns → (text ++ spaced_sizes (take i ns)) ++ (32 ∷ decimal (get_or ns i d)) ≡ text ++ spaced_sizes (take (i + 1) ns)
next_size text ns i d within = flat_map_more (λ n. 32 ∷ decimal n) text (take i ns) (get_or ns i d) ∙ ap (λ l. text ++ spaced_sizes l) (sym (rw add-one (take-suc ns i d within)))

pub other_sizes : (text : List ℕ) (ns : List ℕ) (i : ℕ) → text ++ spaced_sizes ns ≡ (text ++ spaced_sizes (take i ns)) ++ spaced_sizes (drop i ns)
other_sizes text ns i =
    ap (λ l. text ++ l) (ap spaced_sizes (sym (take-append-drop i ns)) ∙ flat_map-append (λ n. 32 ∷ decimal n) (take i ns) (drop i ns))
    ∙ sym (append_assoc text (spaced_sizes (take i ns)) (spaced_sizes (drop i ns)))

pub size_waits : (a b : Option (List ℕ)) (text waiting after : List ℕ) (ns : List ℕ) (i d : ℕ) → i < length ns → Waits a b (text ++ spaced_sizes (take i ns)) waiting
    → after ≡ waiting ++ 32 ∷ decimal (get_or ns i d) → Waits a b (text ++ spaced_sizes (take (i + 1) ns)) after
size_waits a b text waiting after ns i d within waits e =
    subst (λ t. Waits a b t after) (next_size text ns i d within) (more_waits a b (text ++ spaced_sizes (take i ns)) waiting (32 ∷ decimal (get_or ns i d)) after waits e)

-- the lines of the levels, up to one of them
pub parts_more : (d : Part) (k : ℕ) (ps : List Part) (i j : ℕ) → i < length ps → j ≡ k + i → lines_of_parts k (take (suc i) ps) ≡ lines_of_parts k (take i ps) ++ part_lines j (get_or ps i d)
parts_more d k (p ∷ ps) zero j lt e =
    let same : k ≡ j = omega (arith, e) in
    append-nil (part_lines k p) ∙ ap (λ (n : ℕ). part_lines n p) same
parts_more d k (p ∷ ps) (suc i) j lt e =
    ap (λ t. part_lines k p ++ t) (parts_more d (suc k) ps i j (omega arith) (omega (arith, e)))
    ∙ sym (append_assoc (part_lines k p) (lines_of_parts (suc k) (take i ps)) (part_lines j (get_or ps i d)))
parts_more d k [] i j lt e = absurd (omega arith)

pub part_more : (first old new : List (List ℕ)) (ps parts : List Part) (i level : ℕ) (p : Part) → ps ≡ parts → p ≡ get_or ps i p → i < length ps → level ≡ i
    → old ≡ first ++ lines_of_parts 0 (take i parts) → new ≡ old ++ part_lines level p → new ≡ first ++ lines_of_parts 0 (take (i + 1) parts)
part_more first old new ps parts i level p e is within l before after =
    after
    ∙ ap (λ t. t ++ part_lines level p) before
    ∙ append_assoc first (lines_of_parts 0 (take i parts)) (part_lines level p)
    ∙ ap (λ t. first ++ t) (sym (subst (λ (n : ℕ). lines_of_parts 0 (take n parts) ≡ lines_of_parts 0 (take i parts) ++ part_lines level p) (sym (add-one i)) next))
  where
    same : get_or parts i p ≡ p
    same = ap (λ qs. get_or qs i p) (sym e) ∙ sym is

    short : i < length parts
    short = omega (arith, within, ap length e)

    next : lines_of_parts 0 (take (suc i) parts) ≡ lines_of_parts 0 (take i parts) ++ part_lines level p
    next = parts_more p 0 parts i level short (omega (arith, l)) ∙ ap (λ q. lines_of_parts 0 (take i parts) ++ part_lines level q) same

-- a line and what follows are some bytes
pub some_text : (l after : List ℕ) → 0 < length ((l ++ 10 ∷ []) ++ after)
some_text l after = omega (arith, length-append (l ++ 10 ∷ []) after, length-append l (10 ∷ []))

-- lines to be put, up to one of them
lines_more : (d : Line) (ls : List Line) (i : ℕ) → i < length ls → text_of_lines (map line_text (take (suc i) ls)) ≡ text_of_lines (map line_text (take i ls)) ++ (line_text (get_or ls i d) ++ 10 ∷ [])
lines_more d (l ∷ ls) zero lt = append-nil (line_text l ++ 10 ∷ [])
lines_more d (l ∷ ls) (suc i) lt =
    ap (λ t. (line_text l ++ 10 ∷ []) ++ t) (lines_more d ls i (omega arith))
    ∙ sym (append_assoc (line_text l ++ 10 ∷ []) (text_of_lines (map line_text (take i ls))) (line_text (get_or ls i d) ++ 10 ∷ []))
lines_more d [] i lt = absurd (omega arith)

lines_split : (ls : List Line) (i : ℕ) → text_of_lines (map line_text ls) ≡ text_of_lines (map line_text (take i ls)) ++ text_of_lines (map line_text (drop i ls))
lines_split ls zero = refl
lines_split [] (suc i) = refl
lines_split (l ∷ ls) (suc i) = ap (λ t. (line_text l ++ 10 ∷ []) ++ t) (lines_split ls i) ∙ sym (append_assoc (line_text l ++ 10 ∷ []) (text_of_lines (map line_text (take i ls))) (text_of_lines (map line_text (drop i ls))))

pub other_lines : (text : List ℕ) (ls : List Line) (i : ℕ) → text ++ text_of_lines (map line_text ls) ≡ (text ++ text_of_lines (map line_text (take i ls))) ++ text_of_lines (map line_text (drop i ls))
other_lines text ls i = ap (λ t. text ++ t) (lines_split ls i) ∙ sym (append_assoc text (text_of_lines (map line_text (take i ls))) (text_of_lines (map line_text (drop i ls))))

-- lines from one on are some bytes
pub some_lines : (ls : List Line) (i : ℕ) → i < length ls → 0 < length (text_of_lines (map line_text (drop i ls)))
some_lines (l ∷ ls) zero lt = some_text (line_text l) (text_of_lines (map line_text ls))
some_lines (l ∷ ls) (suc i) lt = some_lines ls i (omega arith)
some_lines [] i lt = absurd (omega arith)

in_five : (w t h n e : List ℕ) → (((w ++ t) ++ h) ++ n) ++ e ≡ w ++ (t ++ ((h ++ n) ++ e))
in_five w t h n e = simp append_assoc

in_six : (w t h n e r : List ℕ) → (w ++ (t ++ ((h ++ n) ++ e))) ++ r ≡ (((w ++ t) ++ h) ++ n) ++ (e ++ r)
in_six w t h n e r = simp append_assoc

module _ (a : Option (List ℕ)) (text : List ℕ) (ls : List Line) (i : ℕ) (l : Line) (is : l ≡ get_or ls i l) (within : i < length ls) where
  abbrev pub front : List ℕ
  front = text_of_lines (map line_text (take i ls))

  next : text_of_lines (map line_text (take (i + 1) ls)) ≡ front ++ ((l.head.items ++ numbers_text l.numbers) ++ 10 ∷ [])
  next = subst (λ (n : ℕ). text_of_lines (map line_text (take n ls)) ≡ front ++ ((l.head.items ++ numbers_text l.numbers) ++ 10 ∷ [])) (sym (add-one i)) (lines_more l ls i within ∙ ap (λ m. front ++ (line_text m ++ 10 ∷ [])) (sym is))

  -- before the numbers
  pub head_waits : (b : Option (List ℕ)) (waiting after : List ℕ) → Waits a b (text ++ front) waiting → after ≡ waiting ++ l.head.items → Waits a b ((text ++ front) ++ l.head.items) after
  head_waits b waiting after waits e = more_waits a b (text ++ front) waiting l.head.items after waits e

  -- and with them
  pub line_waits : (b c : Option (List ℕ)) (waiting put after : List ℕ) → Waits a b ((text ++ front) ++ l.head.items) waiting → Waits b c (waiting ++ numbers_text l.numbers) put → after ≡ put ++ 10 ∷ []
      → Waits a c (text ++ text_of_lines (map line_text (take (i + 1) ls))) after
  line_waits b c waiting put after waits numbers e =
      let w = some_put a b c _ _ put (more_waits a b _ waiting (numbers_text l.numbers) _ waits refl) numbers in
      subst (λ t. Waits a c t after) (in_five text front l.head.items (numbers_text l.numbers) (10 ∷ []) ∙ ap (λ t. text ++ t) (sym next)) (more_waits a c _ put (10 ∷ []) after w e)

  whole : text ++ text_of_lines (map line_text ls) ≡ (((text ++ front) ++ l.head.items) ++ numbers_text l.numbers) ++ ((10 ∷ []) ++ text_of_lines (map line_text (drop (i + 1) ls)))
  whole =
      other_lines text ls (i + 1)
      ∙ ap (λ t. (text ++ t) ++ text_of_lines (map line_text (drop (i + 1) ls))) next
      ∙ in_six text front l.head.items (numbers_text l.numbers) (10 ∷ []) (text_of_lines (map line_text (drop (i + 1) ls)))

  pub numbers_part : (b c : Option (List ℕ)) (waiting : List ℕ) → Waits a b ((text ++ front) ++ l.head.items) waiting → PutsFront b c (waiting ++ numbers_text l.numbers)
      → PutsFront a c (text ++ text_of_lines (map line_text ls))
  numbers_part b c waiting waits part = part_put a b c _ _ _ _ whole (more_waits a b _ waiting (numbers_text l.numbers) _ waits refl) part

  pub numbers_waits : (b c : Option (List ℕ)) (waiting put : List ℕ) → Waits a b ((text ++ front) ++ l.head.items) waiting → Waits b c (waiting ++ numbers_text l.numbers) put
      → PutsFront a c (text ++ text_of_lines (map line_text ls))
  numbers_waits b c waiting put waits numbers = front_put a c _ _ _ _ whole (omega arith) (some_put a b c _ _ put (more_waits a b _ waiting (numbers_text l.numbers) _ waits refl) numbers)
