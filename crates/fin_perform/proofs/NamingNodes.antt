-- Each node of code is named in a layout where its parts are.
use Rattle.std.proofs.Common.{◌≡◌, ℕ, ◌<◌, Bool, true, ◌&&◌, List, [], ◌∷◌, ◌++◌, refl, ◌∙◌, pos}
use Rattle.std.specs.List.{list_all}
use Rattle.std.proofs.lemmas.List.Folds.{list_all-append, list_all-map}
use Rattle.fin_base.specs.declared.reduce.Reduce.{Reduce}
use Rattle.fin_ir.specs.declared.code.Code.{Code}
use Rattle.fin_ir.specs.declared.code.Code.TheVariants.{Seq, Assign, When, Update, Declare, Freeze, Thaw, Charge}
use Rattle.fin_ir.specs.declared.expression.IExpr.{IExpr}
use Rattle.fin_ir.specs.declared.expression.IExpr.TheVariants.{Num}
use Rattle.fin_ir.specs.declared.layout.Layout.{Layout}
use Rattle.fin_ir.specs.Named.{has_local, has_tensor, is_named_in, code_step, is_named}
use Rattle.fin_ir.proofs.Nodes.{of_seq, of_assign, of_when, of_update, of_declare, of_freeze, of_thaw, of_charge}
use Rattle.fin_stage.proofs.Alive.{both}
use Rattle.fin_read.proofs.Naming.{local_below, num}
use Rattle.fin_perform.specs.Codes.{charge_of}

module _ (layout : Layout) where
  abbrev pub All : List Code → Type 0
  All cs = list_all (is_named layout) cs ≡ true

  pub named_seq : (cs : List Code) → All cs → is_named layout (Seq cs) ≡ true
  named_seq cs h = of_seq Bool (code_step layout) cs ∙ list_all-map (λ (b : Bool). b) (is_named layout) cs ∙ h

  pub named_assign : (to : ℕ) (value : IExpr) → to < layout.locals → is_named_in layout value ≡ true → is_named layout (Assign to value) ≡ true
  named_assign to value lt h = of_assign Bool (code_step layout) to value ∙ both (has_local layout to) (is_named_in layout value) (local_below layout to lt) h

  pub named_when : (test : IExpr) (body : Code) → is_named_in layout test ≡ true → is_named layout body ≡ true → is_named layout (When test body) ≡ true
  named_when test body h k = of_when Bool (code_step layout) test body ∙ both (is_named_in layout test) (is_named layout body) h k

  pub named_charge : (value : IExpr) → is_named_in layout value ≡ true → is_named layout (Charge value) ≡ true
  named_charge value h = of_charge Bool (code_step layout) value ∙ h

  pub charge_named : (n : ℕ) → is_named layout (charge_of n) ≡ true
  charge_named n = named_charge (Num (pos n)) (num layout (pos n))

  pub named_update : (t : ℕ) (at : List IExpr) (by : Reduce) (value : IExpr) → has_tensor layout t ≡ true → list_all (is_named_in layout) at ≡ true → is_named_in layout value ≡ true
      → is_named layout (Update t at by value) ≡ true
  named_update t at by value has are is =
      of_update Bool (code_step layout) t at by value
      ∙ both (has_tensor layout t && list_all (is_named_in layout) at) (is_named_in layout value) (both (has_tensor layout t) (list_all (is_named_in layout) at) has are) is

  pub named_declare : (t : ℕ) → has_tensor layout t ≡ true → is_named layout (Declare t) ≡ true
  named_declare t has = of_declare Bool (code_step layout) t ∙ has

  pub named_freeze : (t : ℕ) → has_tensor layout t ≡ true → is_named layout (Freeze t) ≡ true
  named_freeze t has = of_freeze Bool (code_step layout) t ∙ has

  pub named_thaw : (t : ℕ) → has_tensor layout t ≡ true → is_named layout (Thaw t) ≡ true
  named_thaw t has = of_thaw Bool (code_step layout) t ∙ has

  -- ---- one after another

  pub one_more : (x : Code) (xs : List Code) → is_named layout x ≡ true → All xs → All (x ∷ xs)
  one_more x xs h k = both (is_named layout x) (list_all (is_named layout) xs) h k

  pub alone : (x : Code) → is_named layout x ≡ true → All (x ∷ [])
  alone x h = one_more x [] h refl

  pub some_more : (xs ys : List Code) → All xs → All ys → All (xs ++ ys)
  some_more xs ys h k = list_all-append (is_named layout) xs ys ∙ both (list_all (is_named layout) xs) (list_all (is_named layout) ys) h k
