-- Steps along two lists, and along one.
use Rattle.std.proofs.Common.{◌≡◌, ◌⊎◌, ◌<◌, ◌≤◌, ◌+◌, inl, inr, ℕ, zero, suc, List, [], ◌∷◌, ◌++◌, refl, ap, ◌∙◌, arith, length, get_or, min, take, drop, add-one, Option, None}
use Rattle.std.specs.List.{cons_option}
use Rattle.std.specs.Prelude.{filter_map}
use Rattle.std.proofs.lemmas.List.{take_more}
use Rattle.std.proofs.lemmas.List.Elements.{filter_map-append}
use Rattle.fin_tensor.specs.declared.format.Level.{Level}
use Rattle.fin_ast.specs.declared.tree.Index.{Index}
use Rattle.fin_ast.specs.declared.header.Header.{Header}
use Rattle.fin_ast.specs.Sizes.{first_dense}
use Rattle.fin_ast.specs.Choices.{choice_at, choices_at}

at_next : (ls : List Level) (is : List Index) (k n : ℕ) (l : Level) (i : Index) → k < length ls → k < length is → choices_at (drop k ls) (drop k is) n ≡ choices_at (drop (suc k) ls) (drop (suc k) is) (choice_at (get_or ls k l) (get_or is k i) n)
at_next [] is k n l i h m = absurd (omega arith)
at_next (x ∷ ls) [] k n l i h m = absurd (omega arith)
at_next (x ∷ ls) (y ∷ is) zero n l i h m = refl
at_next (x ∷ ls) (y ∷ is) (suc k) n l i h m = at_next ls is k n l i (omega arith) (omega arith)

pub choices_next : (ls : List Level) (is : List Index) (k n : ℕ) (l : Level) (i : Index) → k < length ls → k < length is → choices_at (drop k ls) (drop k is) n ≡ choices_at (drop (k + 1) ls) (drop (k + 1) is) (choice_at (get_or ls k l) (get_or is k i) n)
choices_next ls is k n l i h m = rw add-one (at_next ls is k n l i h m)

none : (ls : List Level) (n : ℕ) → choices_at ls [] n ≡ n
none [] n = refl
none (l ∷ ls) n = refl

none_left : (is : List Index) (n : ℕ) → choices_at [] is n ≡ n
none_left [] n = refl
none_left (i ∷ is) n = refl

pub choices_end : (ls : List Level) (is : List Index) (k n : ℕ) → (length ls ≤ k) ⊎ (length is ≤ k) → choices_at (drop k ls) (drop k is) n ≡ n
choices_end [] is zero n h = none_left is n
choices_end [] is (suc k) n h = none_left (drop (suc k) is) n
choices_end (l ∷ ls) [] zero n h = refl
choices_end (l ∷ ls) [] (suc k) n h = none (drop k ls) n
choices_end (l ∷ ls) (i ∷ is) zero n h = absurd (elim h [ inl e ↦ omega arith | inr e ↦ omega arith ])
choices_end (l ∷ ls) (i ∷ is) (suc k) n h = choices_end ls is k n (elim h [ inl e ↦ inl (omega arith) | inr e ↦ inr (omega arith) ])

pub either : (a b k : ℕ) → min a b ≤ k → (a ≤ k) ⊎ (b ≤ k)
either zero b k h = inl (omega arith)
either (suc a) zero k h = inr (omega arith)
either (suc a) (suc b) zero h = absurd (omega arith)
either (suc a) (suc b) (suc k) h = elim (either a b k (omega arith)) [ inl e ↦ inl (omega arith) | inr e ↦ inr (omega arith) ]

no_shapes : (hs : List Header) → first_dense hs [] ≡ None
no_shapes [] = refl
no_shapes (h ∷ hs) = refl

no_headers : (ss : List (List ℕ)) → first_dense [] ss ≡ None
no_headers [] = refl
no_headers (s ∷ ss) = refl

pub dense_end : (hs : List Header) (ss : List (List ℕ)) (k : ℕ) → (length hs ≤ k) ⊎ (length ss ≤ k) → first_dense (drop k hs) (drop k ss) ≡ None
dense_end [] ss zero h = no_headers ss
dense_end [] ss (suc k) h = no_headers (drop (suc k) ss)
dense_end (x ∷ hs) [] zero h = refl
dense_end (x ∷ hs) [] (suc k) h = no_shapes (drop k hs)
dense_end (x ∷ hs) (s ∷ ss) zero h = absurd (elim h [ inl e ↦ omega arith | inr e ↦ omega arith ])
dense_end (x ∷ hs) (s ∷ ss) (suc k) h = dense_end hs ss k (elim h [ inl e ↦ inl (omega arith) | inr e ↦ inr (omega arith) ])

pub filter_map_more : {X Y : Type 0} (h : X → Option Y) (xs : List X) (i : ℕ) (d : X) → i < length xs → filter_map h (take (i + 1) xs) ≡ filter_map h (take i xs) ++ cons_option (h (get_or xs i d)) []
filter_map_more h xs i d l = ap (filter_map h) (take_more xs i d l) ∙ filter_map-append h (take i xs) (get_or xs i d ∷ [])
