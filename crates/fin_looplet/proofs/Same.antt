-- Two expressions are written alike exactly where they are one.
use Rattle.std.proofs.Common.{◌≡◌, ℕ, ℤ, Bool, true, refl, sym, ap, ◌∙◌, subst, T}
use Rattle.std.specs.Prelude.{◌&&◌, nat_eq}
use Rattle.std.specs.Ordering.{int_eq}
use Rattle.std.proofs.lemmas.Bool.{eqb-true, and_parts, and_from}
use Rattle.std.proofs.lemmas.Bool.Decides.{Decides-int_eq}
use denote.Hole.Carrier.{hidden}
use Rattle.fin_base.specs.declared.reduce.Reduce.{Reduce}
use Rattle.fin_base.specs.declared.reduce.Reduce.TheVariants as reduce
use Rattle.fin_base.specs.declared.terms.Op.{Op}
use Rattle.fin_base.specs.declared.terms.Op.TheVariants as op
use Rattle.fin_ir.specs.declared.expression.Table.{Table}
use Rattle.fin_ir.specs.declared.expression.Table.TheVariants as table
use Rattle.fin_ir.specs.declared.expression.IExpr.{IExpr, ind-IExpr, map-IExpr, fold-roll-IExpr, roll-IExpr, end_of-IExpr, more_of-IExpr}
use Rattle.fin_ir.specs.declared.expression.IExpr.TheOpen.{IExpr-F}
use Rattle.fin_ir.specs.declared.expression.IExpr.TheVariants.{Num, Local, Neg, Neg', Two, Two', Pick, Pick', Times, Times', Cell, Cell', Seek, Seek', Val, Val', rolls-Num, rolls-Local, rolls-Neg, rolls-Two, rolls-Pick, rolls-Times, rolls-Cell, rolls-Seek, rolls-Val}
use Rattle.fin_ir.specs.declared.expression.IExpr.TheBlock.{shape-the_row-IExpr-0, hidden-the_row-IExpr-0}
use Rattle.fin_looplet.specs.Same.{same_op, same_reduce, same_table, same_step, same}
use Rattle.fin_looplet.proofs.Exprs.{same_nat}

op_is : (a b : Op) → same_op a b ≡ true → a ≡ b
op_is op.Add op.Add h = refl
op_is op.Sub op.Sub h = refl
op_is op.Mul op.Mul h = refl
op_is op.Min op.Min h = refl
op_is op.Max op.Max h = refl
op_is op.And op.And h = refl
op_is op.Or op.Or h = refl
op_is op.Xor op.Xor h = refl
op_is op.Lt op.Lt h = refl
op_is op.Le op.Le h = refl
op_is op.Gt op.Gt h = refl
op_is op.Ge op.Ge h = refl
op_is op.Eq op.Eq h = refl
op_is op.Ne op.Ne h = refl
op_is a b h = absurd (subst T (sym h) tt)

op_self : (a : Op) → same_op a a ≡ true
op_self op.Add = refl
op_self op.Sub = refl
op_self op.Mul = refl
op_self op.Min = refl
op_self op.Max = refl
op_self op.And = refl
op_self op.Or = refl
op_self op.Xor = refl
op_self op.Lt = refl
op_self op.Le = refl
op_self op.Gt = refl
op_self op.Ge = refl
op_self op.Eq = refl
op_self op.Ne = refl

reduce_is : (a b : Reduce) → same_reduce a b ≡ true → a ≡ b
reduce_is reduce.Add reduce.Add h = refl
reduce_is reduce.Mul reduce.Mul h = refl
reduce_is reduce.Min reduce.Min h = refl
reduce_is reduce.Max reduce.Max h = refl
reduce_is reduce.And reduce.And h = refl
reduce_is reduce.Or reduce.Or h = refl
reduce_is reduce.Xor reduce.Xor h = refl
reduce_is reduce.Put reduce.Put h = refl
reduce_is a b h = absurd (subst T (sym h) tt)

reduce_self : (a : Reduce) → same_reduce a a ≡ true
reduce_self reduce.Add = refl
reduce_self reduce.Mul = refl
reduce_self reduce.Min = refl
reduce_self reduce.Max = refl
reduce_self reduce.And = refl
reduce_self reduce.Or = refl
reduce_self reduce.Xor = refl
reduce_self reduce.Put = refl

table_is : (a b : Table) → same_table a b ≡ true → a ≡ b
table_is table.Ptr table.Ptr h = refl
table_is table.Idx table.Idx h = refl
table_is table.Stop table.Stop h = refl
table_is table.Start table.Start h = refl
table_is a b h = absurd (subst T (sym h) tt)

table_self : (a : Table) → same_table a a ≡ true
table_self table.Ptr = refl
table_self table.Idx = refl
table_self table.Stop = refl
table_self table.Start = refl

int_is : (a b : ℤ) → int_eq a b ≡ true → a ≡ b
int_is a b h = (Decides-int_eq a b).0 h

int_self : (a : ℤ) → int_eq a a ≡ true
int_self a = (Decides-int_eq a a).1 refl

-- ---- where they are written alike
abbrev Is : IExpr → Type 0
Is a = (b : IExpr) → same a b ≡ true → a ≡ b

abbrev Known : Type 0
Known = (a : IExpr) × Is a

abbrev inside : IExpr-F Known → IExpr-F IExpr
inside y = map-IExpr Known IExpr (λ (k : Known). k.0) y

node : (y : IExpr-F Known) (b : IExpr) → same_step (map-IExpr IExpr (IExpr → Bool) same (inside y)) b ≡ true → roll-IExpr (inside y) ≡ b
unfolding shape-the_row-IExpr-0 hidden-the_row-IExpr-0 hidden
node (IExpr-F.Num n) (Num m) h = rolls-Num n ∙ ap Num (int_is n m h)
node (IExpr-F.Local x) (Local y) h = rolls-Local x ∙ ap Local (eqb-true x y h)
node (IExpr-F.Neg a) (Neg' p (more_of-IExpr d end_of-IExpr)) h = rolls-Neg a.0 ∙ ap Neg (a.1 d h)
node (IExpr-F.Two o a b) (Two' o' p (more_of-IExpr d end_of-IExpr) q (more_of-IExpr e end_of-IExpr)) h =
    let k = and_parts (same_op o o' && same a.0 d) (same b.0 e) h in
    let m = and_parts (same_op o o') (same a.0 d) k.0 in
    rolls-Two o a.0 b.0 ∙ ap (λ (z : Op). Two z a.0 b.0) (op_is o o' m.0) ∙ ap (λ (z : IExpr). Two o' z b.0) (a.1 d m.1) ∙ ap (λ (z : IExpr). Two o' d z) (b.1 e k.1)
node (IExpr-F.Pick a b c) (Pick' p (more_of-IExpr d end_of-IExpr) q (more_of-IExpr e end_of-IExpr) r (more_of-IExpr f end_of-IExpr)) h =
    let k = and_parts (same a.0 d && same b.0 e) (same c.0 f) h in
    let m = and_parts (same a.0 d) (same b.0 e) k.0 in
    rolls-Pick a.0 b.0 c.0 ∙ ap (λ (z : IExpr). Pick z b.0 c.0) (a.1 d m.0) ∙ ap (λ (z : IExpr). Pick d z c.0) (b.1 e m.1) ∙ ap (λ (z : IExpr). Pick d e z) (c.1 f k.1)
node (IExpr-F.Times by a b) (Times' by' p (more_of-IExpr d end_of-IExpr) q (more_of-IExpr e end_of-IExpr)) h =
    let k = and_parts (same_reduce by by' && same a.0 d) (same b.0 e) h in
    let m = and_parts (same_reduce by by') (same a.0 d) k.0 in
    rolls-Times by a.0 b.0 ∙ ap (λ (z : Reduce). Times z a.0 b.0) (reduce_is by by' m.0) ∙ ap (λ (z : IExpr). Times by' z b.0) (a.1 d m.1) ∙ ap (λ (z : IExpr). Times by' d z) (b.1 e k.1)
node (IExpr-F.Cell tensor level t a) (Cell' tensor' level' t' p (more_of-IExpr d end_of-IExpr)) h =
    let k = and_parts ((nat_eq tensor tensor' && nat_eq level level') && same_table t t') (same a.0 d) h in
    let m = and_parts (nat_eq tensor tensor' && nat_eq level level') (same_table t t') k.0 in
    let n = and_parts (nat_eq tensor tensor') (nat_eq level level') m.0 in
    rolls-Cell tensor level t a.0 ∙ ap (λ (z : ℕ). Cell z level t a.0) (eqb-true tensor tensor' n.0) ∙ ap (λ (z : ℕ). Cell tensor' z t a.0) (eqb-true level level' n.1) ∙ ap (λ (z : Table). Cell tensor' level' z a.0) (table_is t t' m.1) ∙ ap (λ (z : IExpr). Cell tensor' level' t' z) (a.1 d k.1)
node (IExpr-F.Seek tensor level a b c) (Seek' tensor' level' p (more_of-IExpr d end_of-IExpr) q (more_of-IExpr e end_of-IExpr) r (more_of-IExpr f end_of-IExpr)) h =
    let k = and_parts (((nat_eq tensor tensor' && nat_eq level level') && same a.0 d) && same b.0 e) (same c.0 f) h in
    let m = and_parts ((nat_eq tensor tensor' && nat_eq level level') && same a.0 d) (same b.0 e) k.0 in
    let n = and_parts (nat_eq tensor tensor' && nat_eq level level') (same a.0 d) m.0 in
    let o = and_parts (nat_eq tensor tensor') (nat_eq level level') n.0 in
    rolls-Seek tensor level a.0 b.0 c.0 ∙ ap (λ (z : ℕ). Seek z level a.0 b.0 c.0) (eqb-true tensor tensor' o.0) ∙ ap (λ (z : ℕ). Seek tensor' z a.0 b.0 c.0) (eqb-true level level' o.1)
    ∙ ap (λ (z : IExpr). Seek tensor' level' z b.0 c.0) (a.1 d n.1) ∙ ap (λ (z : IExpr). Seek tensor' level' d z c.0) (b.1 e m.1) ∙ ap (λ (z : IExpr). Seek tensor' level' d e z) (c.1 f k.1)
node (IExpr-F.Val tensor a) (Val' tensor' p (more_of-IExpr d end_of-IExpr)) h =
    let k = and_parts (nat_eq tensor tensor') (same a.0 d) h in
    rolls-Val tensor a.0 ∙ ap (λ (z : ℕ). Val z a.0) (eqb-true tensor tensor' k.0) ∙ ap (λ (z : IExpr). Val tensor' z) (a.1 d k.1)
node y b h = absurd (subst T (sym h) tt)

rolled : (z : IExpr-F IExpr) (y : IExpr-F Known) → inside y ≡ z → Is (roll-IExpr z)
rolled z y is b h =
    let at : same_step (map-IExpr IExpr (IExpr → Bool) same (inside y)) b ≡ true =
    ap (λ (w : IExpr-F IExpr). same_step (map-IExpr IExpr (IExpr → Bool) same w) b) is ∙ sym (ap (λ (r : IExpr → Bool). r b) (fold-roll-IExpr (IExpr → Bool) same_step z)) ∙ h in
    ap roll-IExpr (sym is) ∙ node y b at

pub same_is : (a b : IExpr) → same a b ≡ true → a ≡ b
same_is = ind-IExpr Is rolled

-- ---- an expression is written as itself
abbrev Self : IExpr → Type 0
Self a = same a a ≡ true

abbrev Selfs : Type 0
Selfs = (a : IExpr) × Self a

abbrev within : IExpr-F Selfs → IExpr-F IExpr
within y = map-IExpr Selfs IExpr (λ (k : Selfs). k.0) y

abbrev AtRoll : IExpr-F IExpr → IExpr → Type 0
AtRoll z a = same_step (map-IExpr IExpr (IExpr → Bool) same z) a ≡ true

own : (y : IExpr-F Selfs) → AtRoll (within y) (roll-IExpr (within y))
unfolding shape-the_row-IExpr-0 hidden-the_row-IExpr-0 hidden
own (IExpr-F.Num n) = subst (AtRoll (IExpr-F.Num n)) (sym (rolls-Num n)) (int_self n)
own (IExpr-F.Local x) = subst (AtRoll (IExpr-F.Local x)) (sym (rolls-Local x)) (same_nat x)
own (IExpr-F.Neg a) = subst (AtRoll (IExpr-F.Neg a.0)) (sym (rolls-Neg a.0)) a.1
own (IExpr-F.Two o a b) =
    subst (AtRoll (IExpr-F.Two o a.0 b.0)) (sym (rolls-Two o a.0 b.0)) (and_from (same_op o o && same a.0 a.0) (same b.0 b.0) (and_from (same_op o o) (same a.0 a.0) (op_self o) a.1) b.1)
own (IExpr-F.Pick a b c) =
    subst (AtRoll (IExpr-F.Pick a.0 b.0 c.0)) (sym (rolls-Pick a.0 b.0 c.0)) (and_from (same a.0 a.0 && same b.0 b.0) (same c.0 c.0) (and_from (same a.0 a.0) (same b.0 b.0) a.1 b.1) c.1)
own (IExpr-F.Times by a b) =
    subst (AtRoll (IExpr-F.Times by a.0 b.0)) (sym (rolls-Times by a.0 b.0)) (and_from (same_reduce by by && same a.0 a.0) (same b.0 b.0) (and_from (same_reduce by by) (same a.0 a.0) (reduce_self by) a.1) b.1)
own (IExpr-F.Cell tensor level t a) =
    subst (AtRoll (IExpr-F.Cell tensor level t a.0)) (sym (rolls-Cell tensor level t a.0))
    (and_from ((nat_eq tensor tensor && nat_eq level level) && same_table t t) (same a.0 a.0) (and_from (nat_eq tensor tensor && nat_eq level level) (same_table t t) (and_from (nat_eq tensor tensor) (nat_eq level level) (same_nat tensor) (same_nat level)) (table_self t)) a.1)
own (IExpr-F.Seek tensor level a b c) =
    let at = and_from (nat_eq tensor tensor) (nat_eq level level) (same_nat tensor) (same_nat level) in
    let from = and_from (nat_eq tensor tensor && nat_eq level level) (same a.0 a.0) at a.1 in
    let to = and_from ((nat_eq tensor tensor && nat_eq level level) && same a.0 a.0) (same b.0 b.0) from b.1 in
    subst (AtRoll (IExpr-F.Seek tensor level a.0 b.0 c.0)) (sym (rolls-Seek tensor level a.0 b.0 c.0)) (and_from (((nat_eq tensor tensor && nat_eq level level) && same a.0 a.0) && same b.0 b.0) (same c.0 c.0) to c.1)
own (IExpr-F.Val tensor a) = subst (AtRoll (IExpr-F.Val tensor a.0)) (sym (rolls-Val tensor a.0)) (and_from (nat_eq tensor tensor) (same a.0 a.0) (same_nat tensor) a.1)

own_rolled : (z : IExpr-F IExpr) (y : IExpr-F Selfs) → within y ≡ z → Self (roll-IExpr z)
own_rolled z y is =
    ap (λ (r : IExpr → Bool). r (roll-IExpr z)) (fold-roll-IExpr (IExpr → Bool) same_step z)
    ∙ subst (λ (w : IExpr-F IExpr). AtRoll w (roll-IExpr w)) is (own y)

pub same_self : (a : IExpr) → same a a ≡ true
same_self = ind-IExpr Self own_rolled
