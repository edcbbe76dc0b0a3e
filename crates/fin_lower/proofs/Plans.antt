-- Codes with a program's layout make a plan of it.
use Rattle.std.proofs.Common.{◌≡◌, ℕ, ◌≤◌, Bool, true, List, None, refl, sym, ◌∙◌, subst, arith}
use Rattle.std.specs.List.{list_all}
use Rattle.std.proofs.lemmas.List.Folds.{list_all-map}
use Rattle.fin_ast.specs.declared.checked.Checked.{Checked}
use Rattle.fin_ast.specs.Accepted.{IsAccepted}
use Rattle.fin_ir.specs.declared.code.Code.{Code}
use Rattle.fin_ir.specs.declared.code.Code.TheVariants.{Seq}
use Rattle.fin_ir.specs.declared.layout.Layout.{Layout}
use Rattle.fin_ir.specs.Named.{code_step, is_named}
use Rattle.fin_ir.proofs.Nodes.{of_seq}
use Rattle.fin_simp.specs.Numbered.{outset}
use Rattle.fin_perform.specs.Layouts.{variables_in, layout_with}
use Rattle.fin_perform.specs.Meanings.{Means, turns_deed}
use Rattle.fin_lower.specs.Plans.{IsPlan}

named_seq : (layout : Layout) (codes : List Code) → list_all (is_named layout) codes ≡ true → is_named layout (Seq codes) ≡ true
named_seq layout codes h = of_seq Bool (code_step layout) codes ∙ list_all-map (λ (b : Bool). b) (is_named layout) codes ∙ h

module _ (c : Checked) (codes : List Code) (need : ℕ) where
  pub plan_is : (l : Layout) → l ≡ layout_with c need → variables_in c ≤ need
      → (IsAccepted c → (room : ℕ) → need ≤ room → list_all (is_named (layout_with c room)) codes ≡ true)
      → (IsAccepted c → Means c (variables_in c) need codes (turns_deed c.program.body outset None))
      → IsPlan c (record { code = Seq codes; layout = l })
  plan_is l e low named means = subst (λ (x : Layout). IsPlan c (record { code = Seq codes; layout = x })) (sym e) record {
    codes = codes;
    code = refl;
    layout = refl;
    room = low;
    named = λ accepted. named_seq (layout_with c need) codes (named accepted need (omega arith));
    means = means;
  }
