-- What the test of two expressions comes to for each kind of node.
use Rattle.std.proofs.Common.{◌≡◌, ℕ, Bool, refl, sym, ap, ◌∙◌}
use Rattle.std.specs.Prelude.{◌&&◌, nat_eq}
use denote.Hole.Carrier.{hidden}
use denote.Enum.Bare.{sameb}
use Rattle.fin_base.specs.declared.reduce.Reduce.{Reduce}
use Rattle.fin_base.specs.declared.reduce.Reduce.TheVariants as reduce
use Rattle.fin_base.specs.declared.terms.Op.{Op}
use Rattle.fin_base.specs.declared.terms.Op.TheVariants as op
use Rattle.fin_base.specs.contracts.terms.Op as an_op
use Rattle.fin_base.specs.contracts.reduce.Reduce as a_reduce
use Rattle.fin_ir.specs.contracts.expression.Table as a_table
use Rattle.fin_ir.specs.declared.expression.Table.{Table}
use Rattle.fin_ir.specs.declared.expression.Table.TheVariants as table
use Rattle.fin_ir.specs.declared.expression.IExpr.{IExpr}
use Rattle.fin_ir.specs.declared.expression.IExpr.TheVariants.{Neg, Two, Pick, Times, Cell, Seek, Val}
use Rattle.fin_ir.specs.declared.expression.IExpr.TheBlock.{shape-the_row-IExpr-0, hidden-the_row-IExpr-0}
use Rattle.fin_ir.proofs.Nodes.{of_neg, of_two, of_pick, of_times, of_cell, of_seek, of_val}
use Rattle.fin_looplet.specs.Same.{same_op, same_reduce, same_table, same_step, same}

op_test : (a b : Op) → sameb an_op.the_type a b ≡ same_op a b
op_test op.Add op.Add = refl
op_test op.Sub op.Sub = refl
op_test op.Mul op.Mul = refl
op_test op.Min op.Min = refl
op_test op.Max op.Max = refl
op_test op.And op.And = refl
op_test op.Or op.Or = refl
op_test op.Xor op.Xor = refl
op_test op.Lt op.Lt = refl
op_test op.Le op.Le = refl
op_test op.Gt op.Gt = refl
op_test op.Ge op.Ge = refl
op_test op.Eq op.Eq = refl
op_test op.Ne op.Ne = refl
op_test a b = refl

reduce_test : (a b : Reduce) → sameb a_reduce.the_type a b ≡ same_reduce a b
reduce_test reduce.Add reduce.Add = refl
reduce_test reduce.Mul reduce.Mul = refl
reduce_test reduce.Min reduce.Min = refl
reduce_test reduce.Max reduce.Max = refl
reduce_test reduce.And reduce.And = refl
reduce_test reduce.Or reduce.Or = refl
reduce_test reduce.Xor reduce.Xor = refl
reduce_test reduce.Put reduce.Put = refl
reduce_test a b = refl

table_test : (a b : Table) → sameb a_table.the_type a b ≡ same_table a b
table_test table.Ptr table.Ptr = refl
table_test table.Idx table.Idx = refl
table_test table.Stop table.Stop = refl
table_test table.Start table.Start = refl
table_test a b = refl

-- a part, by what `get` gives
pub part : (y : Bool) (p p' l l' : IExpr) → y ≡ same p p' → p ≡ l → p' ≡ l' → y ≡ same l l'
part y p p' l l' e f g = e ∙ ap (λ z. same z p') f ∙ ap (same l) g

at : (a b d e : IExpr) → a ≡ d → b ≡ e → same d e ≡ same a b
at a b d e f g = ap (λ z. same z e) (sym f) ∙ ap (same a) (sym g)

pub neg_arm : (a b c d : IExpr) (x : Bool) → a ≡ Neg c → b ≡ Neg d → x ≡ same c d → x ≡ same a b
unfolding shape-the_row-IExpr-0 hidden-the_row-IExpr-0 hidden
neg_arm a b c d x ea eb ex = ex ∙ sym (ap (λ (f : IExpr → Bool). f (Neg d)) (of_neg (IExpr → Bool) same_step c)) ∙ at a b (Neg c) (Neg d) ea eb

pub two_arm : (a b l r l' r' : IExpr) (o o' : Op) (x y z : Bool) → a ≡ Two o l r → b ≡ Two o' l' r' → x ≡ sameb an_op.the_type o o' → y ≡ same l l' → z ≡ same r r' → ((x && y) && z) ≡ same a b
unfolding shape-the_row-IExpr-0 hidden-the_row-IExpr-0 hidden
two_arm a b l r l' r' o o' x y z ea eb ex ey ez =
    ap (λ w. (w && y) && z) (ex ∙ op_test o o') ∙ ap (λ w. (same_op o o' && w) && z) ey ∙ ap (λ w. (same_op o o' && same l l') && w) ez
    ∙ sym (ap (λ (f : IExpr → Bool). f (Two o' l' r')) (of_two (IExpr → Bool) same_step o l r)) ∙ at a b (Two o l r) (Two o' l' r') ea eb

pub pick_arm : (a b c d e c' d' e' : IExpr) (x y z : Bool) → a ≡ Pick c d e → b ≡ Pick c' d' e' → x ≡ same c c' → y ≡ same d d' → z ≡ same e e' → ((x && y) && z) ≡ same a b
unfolding shape-the_row-IExpr-0 hidden-the_row-IExpr-0 hidden
pick_arm a b c d e c' d' e' x y z ea eb ex ey ez =
    ap (λ w. (w && y) && z) ex ∙ ap (λ w. (same c c' && w) && z) ey ∙ ap (λ w. (same c c' && same d d') && w) ez
    ∙ sym (ap (λ (f : IExpr → Bool). f (Pick c' d' e')) (of_pick (IExpr → Bool) same_step c d e)) ∙ at a b (Pick c d e) (Pick c' d' e') ea eb

pub times_arm : (a b l r l' r' : IExpr) (o o' : Reduce) (x y z : Bool) → a ≡ Times o l r → b ≡ Times o' l' r' → x ≡ sameb a_reduce.the_type o o' → y ≡ same l l' → z ≡ same r r' → ((x && y) && z) ≡ same a b
unfolding shape-the_row-IExpr-0 hidden-the_row-IExpr-0 hidden
times_arm a b l r l' r' o o' x y z ea eb ex ey ez =
    ap (λ w. (w && y) && z) (ex ∙ reduce_test o o') ∙ ap (λ w. (same_reduce o o' && w) && z) ey ∙ ap (λ w. (same_reduce o o' && same l l') && w) ez
    ∙ sym (ap (λ (f : IExpr → Bool). f (Times o' l' r')) (of_times (IExpr → Bool) same_step o l r)) ∙ at a b (Times o l r) (Times o' l' r') ea eb

pub cell_arm : (a b c d : IExpr) (t l t' l' : ℕ) (k k' : Table) (x y : Bool) → a ≡ Cell t l k c → b ≡ Cell t' l' k' d → x ≡ sameb a_table.the_type k k' → y ≡ same c d → (((nat_eq t t' && nat_eq l l') && x) && y) ≡ same a b
unfolding shape-the_row-IExpr-0 hidden-the_row-IExpr-0 hidden
cell_arm a b c d t l t' l' k k' x y ea eb ex ey =
    ap (λ w. ((nat_eq t t' && nat_eq l l') && w) && y) (ex ∙ table_test k k') ∙ ap (λ w. ((nat_eq t t' && nat_eq l l') && same_table k k') && w) ey
    ∙ sym (ap (λ (f : IExpr → Bool). f (Cell t' l' k' d)) (of_cell (IExpr → Bool) same_step t l k c)) ∙ at a b (Cell t l k c) (Cell t' l' k' d) ea eb

pub seek_arm : (a b c d e c' d' e' : IExpr) (t l t' l' : ℕ) (x y z : Bool) → a ≡ Seek t l c d e → b ≡ Seek t' l' c' d' e' → x ≡ same c c' → y ≡ same d d' → z ≡ same e e' → ((((nat_eq t t' && nat_eq l l') && x) && y) && z) ≡ same a b
unfolding shape-the_row-IExpr-0 hidden-the_row-IExpr-0 hidden
seek_arm a b c d e c' d' e' t l t' l' x y z ea eb ex ey ez =
    ap (λ w. (((nat_eq t t' && nat_eq l l') && w) && y) && z) ex ∙ ap (λ w. (((nat_eq t t' && nat_eq l l') && same c c') && w) && z) ey ∙ ap (λ w. (((nat_eq t t' && nat_eq l l') && same c c') && same d d') && w) ez
    ∙ sym (ap (λ (f : IExpr → Bool). f (Seek t' l' c' d' e')) (of_seek (IExpr → Bool) same_step t l c d e)) ∙ at a b (Seek t l c d e) (Seek t' l' c' d' e') ea eb

pub val_arm : (a b c d : IExpr) (t t' : ℕ) (x : Bool) → a ≡ Val t c → b ≡ Val t' d → x ≡ same c d → (nat_eq t t' && x) ≡ same a b
unfolding shape-the_row-IExpr-0 hidden-the_row-IExpr-0 hidden
val_arm a b c d t t' x ea eb ex =
    ap (λ w. nat_eq t t' && w) ex ∙ sym (ap (λ (f : IExpr → Bool). f (Val t' d)) (of_val (IExpr → Bool) same_step t c)) ∙ at a b (Val t c) (Val t' d) ea eb
