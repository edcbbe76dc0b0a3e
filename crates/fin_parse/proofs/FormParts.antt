-- Formats of headers one by one.
use Rattle.std.proofs.Common.{◌≡◌, ℕ, ◌+◌, ◌<◌, true, false, List, Option, map, drop, length, get_or, sym, ap, ◌∙◌}
use Rattle.std.specs.Option.{is_some}
use Rattle.fin_base.specs.declared.refusal.Refusal.{Refusal}
use Rattle.fin_parse.specs.declared.tree.Tree.{Tree}
use Rattle.fin_parse.specs.declared.scope.Fill.{Fill}
use Rattle.fin_parse.specs.Names.{first_of}
use Rattle.fin_parse.specs.Leaves.{HeadParts, header_of}
use Rattle.fin_parse.specs.TextForms.{head_format, format_breaches, with_fill, known_fills}
use Rattle.fin_parse.proofs.Finds.{first_found, first_passed}
use Rattle.fin_parse.proofs.Parts.{opened}

module _ (headers : List Tree) (i : ℕ) (t : Tree) (h : i < length headers) (e : t ≡ get_or headers i t) (head : HeadParts) (head_is : head ≡ header_of t) where
  pub format_found : (o : Option Refusal) → true ≡ is_some o → o ≡ first_of (head_format head) → o ≡ first_of (format_breaches (drop i (map header_of headers)))
  format_found o m k =
      first_found (head_format (header_of t)) (format_breaches (drop (i + 1) (map header_of headers))) o m (k ∙ ap (λ q. first_of (head_format q)) head_is)
      ∙ ap (λ q. first_of (format_breaches q)) (sym (opened header_of headers i t h e))

  pub format_passed : (o : Option Refusal) → false ≡ is_some o → o ≡ first_of (head_format head) → first_of (format_breaches (drop (i + 1) (map header_of headers))) ≡ first_of (format_breaches (drop i (map header_of headers)))
  format_passed o m k =
      sym (first_passed (head_format (header_of t)) (format_breaches (drop (i + 1) (map header_of headers))) o m (k ∙ ap (λ q. first_of (head_format q)) head_is))
      ∙ ap (λ q. first_of (format_breaches q)) (sym (opened header_of headers i t h e))

  pub known_passed : (known next : List Fill) → next ≡ with_fill known head → known_fills next (drop (i + 1) (map header_of headers)) ≡ known_fills known (drop i (map header_of headers))
  known_passed known next n = ap (λ q. known_fills q (drop (i + 1) (map header_of headers))) (n ∙ ap (with_fill known) head_is) ∙ ap (known_fills known) (sym (opened header_of headers i t h e))
