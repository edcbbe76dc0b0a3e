-- Headers one by one.
use Rattle.std.proofs.Common.{◌≡◌, ℕ, ◌+◌, ◌<◌, true, false, List, Option, map, drop, length, get_or, sym, ap, ◌∙◌}
use Rattle.std.specs.Option.{is_some}
use Rattle.fin_base.specs.declared.refusal.Refusal.{Refusal}
use Rattle.fin_parse.specs.declared.tree.Tree.{Tree}
use Rattle.fin_parse.specs.declared.scope.Tensor.{Tensor}
use Rattle.fin_parse.specs.Names.{first_of}
use Rattle.fin_parse.specs.Leaves.{HeadParts, header_of, leaves_of, fills_of}
use Rattle.fin_parse.specs.declared.scope.Fill.{Fill}
use Rattle.fin_parse.specs.HeaderNames.{head_breaches, header_breaches, with_tensor, tensors_of}
use Rattle.fin_parse.proofs.Finds.{first_found, first_passed}
use Rattle.fin_parse.proofs.Parts.{opened}

module _ (text : List ℕ) (earlier : List Tensor) (headers : List Tree) (i : ℕ) (t : Tree) (h : i < length headers) (e : t ≡ get_or headers i t) (head : HeadParts) (head_is : head ≡ header_of t) where
  pub header_found : (o : Option Refusal) → true ≡ is_some o → o ≡ first_of (head_breaches text earlier head) → o ≡ first_of (header_breaches text earlier (drop i (map header_of headers)))
  header_found o m k =
      first_found (head_breaches text earlier (header_of t)) (header_breaches text (with_tensor earlier (header_of t)) (drop (i + 1) (map header_of headers))) o m (k ∙ ap (λ q. first_of (head_breaches text earlier q)) head_is)
      ∙ ap (λ q. first_of (header_breaches text earlier q)) (sym (opened header_of headers i t h e))

  pub header_passed : (o : Option Refusal) (next : List Tensor) → false ≡ is_some o → o ≡ first_of (head_breaches text earlier head) → next ≡ with_tensor earlier head
      → first_of (header_breaches text next (drop (i + 1) (map header_of headers))) ≡ first_of (header_breaches text earlier (drop i (map header_of headers)))
  header_passed o next m k n =
      ap (λ q. first_of (header_breaches text q (drop (i + 1) (map header_of headers)))) (n ∙ ap (with_tensor earlier) head_is)
      ∙ sym (first_passed (head_breaches text earlier (header_of t)) (header_breaches text (with_tensor earlier (header_of t)) (drop (i + 1) (map header_of headers))) o m (k ∙ ap (λ q. first_of (head_breaches text earlier q)) head_is))
      ∙ ap (λ q. first_of (header_breaches text earlier q)) (sym (opened header_of headers i t h e))

  pub tensors_passed : (next : List Tensor) → next ≡ with_tensor earlier head → tensors_of next (drop (i + 1) (map header_of headers)) ≡ tensors_of earlier (drop i (map header_of headers))
  tensors_passed next n = ap (λ q. tensors_of q (drop (i + 1) (map header_of headers))) (n ∙ ap (with_tensor earlier) head_is) ∙ ap (tensors_of earlier) (sym (opened header_of headers i t h e))

-- ---- declarations, part by part

module _ (text : List ℕ) (known : List Fill) (parts : List Tree) (i : ℕ) (t : Tree) (h : i < length parts) (e : t ≡ get_or parts i t) where
  pub fill_found : (o : Option Refusal) → true ≡ is_some o → o ≡ first_of ((leaves_of t).fills text known) → o ≡ first_of (fills_of (drop i (map leaves_of parts)) text known)
  fill_found o m k = first_found ((leaves_of t).fills text known) (fills_of (drop (i + 1) (map leaves_of parts)) text known) o m k ∙ ap (λ q. first_of (fills_of q text known)) (sym (opened leaves_of parts i t h e))

  pub fill_passed : (o : Option Refusal) → false ≡ is_some o → o ≡ first_of ((leaves_of t).fills text known) → first_of (fills_of (drop (i + 1) (map leaves_of parts)) text known) ≡ first_of (fills_of (drop i (map leaves_of parts)) text known)
  fill_passed o m k = sym (first_passed ((leaves_of t).fills text known) (fills_of (drop (i + 1) (map leaves_of parts)) text known) o m k) ∙ ap (λ q. first_of (fills_of q text known)) (sym (opened leaves_of parts i t h e))
