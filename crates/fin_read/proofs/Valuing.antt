-- The code of an expression gives its value.
use Rattle.std.proofs.Common.{◌≡◌, ℕ, ◌+◌, ◌<◌, ◌≤◌, Bool, true, false, List, [], ◌∷◌, ◌++◌, append-nil, map, length, Option, Some, None, refl, sym, ap, ◌∙◌, subst, ℤ, pos, arith}
use Rattle.std.specs.Prelude.{is_some, slice_get, slice_index_or, ◌==◌}
use Rattle.std.specs.List.{list_all}
use Rattle.fin_base.specs.declared.terms.Op.{Op}
use Rattle.fin_base.specs.Words.{operate, negated}
use Rattle.fin_tensor.specs.TensorFunction.{TensorFunction}
use Rattle.fin_ast.specs.declared.header.Header.{Header}
use Rattle.fin_ast.specs.declared.tree.Index.{Index}
use Rattle.fin_ast.specs.declared.tree.Expr.{Expr}
use Rattle.fin_ast.specs.declared.tree.Expr.TheVariants as e
use Rattle.fin_ast.specs.Scope.{Scope, holds_of, is_index, is_named_expr}
use Rattle.fin_ast.specs.Value.{Numbers, Tensors, number, place, coordinates, value_in, read}
use Rattle.fin_ast.specs.Value as language
use Rattle.fin_ast.proofs.Values as meant
use Rattle.fin_ir.specs.declared.expression.IExpr.TheVariants.{Num, Local}
use Rattle.fin_ir.specs.Machine.{Tensor}
use Rattle.fin_ir.specs.Value.{value_of}
use Rattle.fin_ir.proofs.Values.{value_num, value_local, value_neg, value_two}
use Rattle.fin_stage.specs.Staged.{are_small, can_read, has_small_indices}
use Rattle.fin_stage.proofs.Alive.{left, right}
use Rattle.fin_read.specs.Steps.{Step, stepped, Agree}
use Rattle.fin_read.specs.Reads.{step_to, read_steps}
use Rattle.fin_read.specs.Values.{Heads, Lowered, format_of, shape_of, index_code, is_shallow, rested_where, rested, opposite, two_after, value_code}
use Rattle.fin_read.specs.Sees.{SeesAll}
use Rattle.fin_read.specs.Means.{AreAt, IsRead, IsWithin, IsValued, ValuesMean}
use Rattle.fin_read.proofs.ByKind.{Kinds, by_kind}
use Rattle.fin_read.proofs.Equations.{lowered, code_num, code_var, code_read, code_neg, code_two, named_var, named_read, named_neg, named_two, reads_read, reads_neg, reads_two, small_read, small_neg, small_two, code_grows, rested_grows}
use Rattle.fin_read.proofs.Indexing.{indices_are}
use Rattle.fin_read.proofs.Reading.{reads_mean}
use Rattle.fin_read.proofs.Stepping.{agree_refl, agree_then, agree_less, stepped_append, one_step}

module _ (h : Heads) (ts : ℕ → Tensor) (fs : Tensors) (s : Scope) (vars : Numbers) (sees : SeesAll h ts fs) (within : IsWithin s (length vars)) where
  -- what is known of an expression where its code begins
  record IsAsked (x : Expr) (next : ℕ) (ls : List ℤ) : Type 0 where
    named : is_named_expr x s ≡ true
    reads : can_read x fs ≡ true
    small : has_small_indices x vars ≡ true
    bound : length vars ≤ next
    agree : Agree (length vars) ls vars
    room : (value_code h x next).next + 1 ≤ length ls

  abbrev Valued : Expr → Type 0
  Valued x = (next : ℕ) (ls : List ℤ) → IsAsked x next ls → IsValued ts (value_code h x next) next ls (language.value_of x vars fs)

  by_equations : (v w : Lowered) (next : ℕ) (ls : List ℤ) (y z : ℤ) → v ≡ w → y ≡ z → IsValued ts w next ls z → IsValued ts v next ls y
  by_equations v w next ls y z code value is = subst (λ (u : Lowered). IsValued ts u next ls y) (sym code) (subst (λ (k : ℤ). IsValued ts w next ls k) (sym value) is)

  -- ---- without steps
  num : (n : ℤ) → Valued (e.Num n)
  num n next ls asked = by_equations (value_code h (e.Num n) next) (lowered [] (Num n) next) next ls (language.value_of (e.Num n) vars fs) n (code_num h next n) (meant.value_num vars fs n) (record {
    long = refl;
    kept = agree_refl next ls;
    grows = omega arith;
    value = λ ks same. value_num ts ks n;
  })

  var : (v line : ℕ) → Valued (e.Var v line)
  var v line next ls asked =
      let here : v < length vars = within v (sym (named_var s v line) ∙ asked.named) in
      by_equations (value_code h (e.Var v line) next) (lowered [] (Local v) next) next ls (language.value_of (e.Var v line) vars fs) (number vars v) (code_var h next v line) (meant.value_var vars fs v line) (record {
        long = refl;
        kept = agree_refl next ls;
        grows = omega arith;
        value = λ ks same. value_local ts ks v ∙ same v (omega (arith, here, asked.bound)) ∙ asked.agree v here;
      })

  -- ---- accesses
  given_by : (o : Option TensorFunction) → is_some o ≡ true → (f : TensorFunction) × (o ≡ Some f)
  given_by None k = absurd cc
  given_by (Some f) k = (f, refl)

  read_valued : (tensor : ℕ) (at : List Index) (f : TensorFunction) (next : ℕ) (ls : List ℤ) → fs tensor ≡ Some f → list_all (is_index s) at ≡ true → are_small vars at ≡ true → length vars ≤ next → Agree (length vars) ls vars → next + 2 ≤ length ls
      → IsValued ts (lowered (read_steps tensor (format_of h tensor).levels (shape_of h tensor) (format_of h tensor).fill (map index_code at) next) (Local next) (next + 1)) next ls (value_in f (coordinates (shape_of h tensor) (map (place vars) at)))
  read_valued tensor at f next ls is named small bound agree room =
      let levels = (format_of h tensor).levels in
      let shape = shape_of h tensor in
      let fill = (format_of h tensor).fill in
      let xs = map index_code at in
      let zs = map (place vars) at in
      let there : AreAt ts next ls xs zs = λ ks same. indices_are ts s vars within ks (agree_then (length vars) ks ls vars (agree_less (length vars) next ks ls bound same) agree) at named small in
      let steps = read_steps tensor levels shape fill xs next in
      let got : IsRead ts steps next ls (value_in f (coordinates shape zs)) = reads_mean ts tensor levels shape fill f xs zs next ls (sees tensor f is) there (omega (arith, room)) in
      record {
        long = got.long;
        kept = got.kept;
        grows = omega arith;
        value = λ ks same. value_local ts ks next ∙ same next (omega arith) ∙ got.value;
      }

  read_value : (tensor : ℕ) (f : TensorFunction) (zs : List ℤ) → fs tensor ≡ Some f → read (fs tensor) zs ≡ value_in f (coordinates (shape_of h tensor) zs)
  read_value tensor f zs is = ap (λ (o : Option TensorFunction). read o zs) is ∙ ap (λ (ns : List ℕ). value_in f (coordinates ns zs)) (sees tensor f is).f_shape

  access : (tensor : ℕ) (at : List Index) (line : ℕ) → Valued (e.Read tensor at line)
  access tensor at line next ls asked =
      let given = given_by (fs tensor) (sym (reads_read fs tensor at line) ∙ asked.reads) in
      let named : list_all (is_index s) at ≡ true = right (holds_of (λ (x : Header). length at == length x.format.levels) (slice_get s.headers tensor)) (list_all (is_index s) at) (sym (named_read s tensor at line) ∙ asked.named) in
      let small = sym (small_read vars tensor at line) ∙ asked.small in
      let code = code_read h next tensor at line in
      let room : (next + 1) + 1 ≤ length ls = subst (λ (v : Lowered). v.next + 1 ≤ length ls) code asked.room in
      by_equations (value_code h (e.Read tensor at line) next) _ next ls (language.value_of (e.Read tensor at line) vars fs) (value_in given.0 (coordinates (shape_of h tensor) (map (place vars) at))) code
      (meant.value_read vars fs tensor at line ∙ read_value tensor given.0 (map (place vars) at) given.1)
      (read_valued tensor at given.0 next ls given.1 named small asked.bound asked.agree (omega (arith, room)))

  -- ---- what is set down
  rested_valued : (shallow : Bool) (a : Lowered) (next : ℕ) (ls : List ℤ) (z : ℤ) → (rested_where shallow a).next ≤ length ls → IsValued ts a next ls z → IsValued ts (rested_where shallow a) next ls z
  rested_valued true a next ls z room got =
      subst (λ (ss : List Step). IsValued ts (record { steps = ss; value = a.value; depth = a.depth; next = a.next }) next ls z) (sym (append-nil a.steps))
      (record { long = got.long; kept = got.kept; grows = got.grows; value = got.value })
  rested_valued false a next ls z room got =
      let middle = stepped ts a.steps ls in
      let set = step_to a.next a.value ∷ [] in
      let is : stepped ts (a.steps ++ set) ls ≡ stepped ts set middle = stepped_append ts a.steps set ls in
      let read : IsRead ts set a.next middle z = one_step ts a.next middle a.value z (omega (arith, room, got.long)) (got.value middle (agree_refl a.next middle)) in
      record {
        long = ap length is ∙ read.long ∙ got.long;
        kept = subst (λ (ks : List ℤ). Agree next ks ls) (sym is) (agree_then next (stepped ts set middle) middle ls (agree_less next a.next (stepped ts set middle) middle got.grows read.kept) got.kept);
        grows = omega (arith, got.grows);
        value = λ ks same. value_local ts ks a.next ∙ same a.next (omega arith) ∙ ap (λ (js : List ℤ). slice_index_or js a.next (pos 0)) is ∙ read.value;
      }

  -- ---- operators
  opposite_valued : (a : Lowered) (next : ℕ) (ls : List ℤ) (z : ℤ) → IsValued ts a next ls z → IsValued ts (opposite a) next ls (negated z)
  opposite_valued a next ls z got = record {
    long = got.long;
    kept = got.kept;
    grows = got.grows;
    value = λ ks same. value_neg ts ks a.value ∙ ap negated (got.value ks same);
  }

  turned : (x : Expr) → Valued x → Valued (e.Neg x)
  turned x part next ls asked =
      let inner = value_code h x next in
      let z = language.value_of x vars fs in
      let code = code_neg h next x in
      let room : (rested inner).next + 1 ≤ length ls = subst (λ (v : Lowered). v.next + 1 ≤ length ls) code asked.room in
      let got = part next ls (record {
        named = sym (named_neg s x) ∙ asked.named;
        reads = sym (reads_neg fs x) ∙ asked.reads;
        small = sym (small_neg vars x) ∙ asked.small;
        bound = asked.bound;
        agree = asked.agree;
        room = omega (arith, room, rested_grows h inner);
      }) in
      by_equations (value_code h (e.Neg x) next) (opposite (rested inner)) next ls (language.value_of (e.Neg x) vars fs) (negated z) code (meant.value_neg vars fs x)
      (opposite_valued (rested inner) next ls z (rested_valued (is_shallow inner.depth) inner next ls z (omega (arith, room)) got))

  -- one after the other
  both_valued : (op : Op) (a b : Lowered) (next : ℕ) (ls : List ℤ) (y z : ℤ) → IsValued ts a next ls y → IsValued ts b a.next (stepped ts a.steps ls) z → IsValued ts (two_after op a b) next ls (operate op y z)
  both_valued op a b next ls y z first second =
      let middle = stepped ts a.steps ls in
      let last = stepped ts b.steps middle in
      let is : stepped ts (a.steps ++ b.steps) ls ≡ last = stepped_append ts a.steps b.steps ls in
      record {
        long = ap length is ∙ second.long ∙ first.long;
        kept = subst (λ (ks : List ℤ). Agree next ks ls) (sym is) (agree_then next last middle ls (agree_less next a.next last middle first.grows second.kept) first.kept);
        grows = omega (arith, first.grows, second.grows);
        value = λ ks same.
            let same_last : Agree b.next ks last = subst (λ (js : List ℤ). Agree b.next ks js) is same in
            let same_middle : Agree a.next ks middle = agree_then a.next ks last middle (agree_less a.next b.next ks last second.grows same_last) second.kept in
            value_two ts ks op a.value b.value ∙ ap (λ (u : ℤ). operate op u (value_of b.value ts ks)) (first.value ks same_middle) ∙ ap (λ (u : ℤ). operate op y u) (second.value ks same_last);
      }

  pair : (op : Op) (x y : Expr) → Valued x → Valued y → Valued (e.Two op x y)
  pair op x y one other next ls asked =
      let first_code = value_code h x next in
      let a = rested first_code in
      let b = value_code h y a.next in
      let code = code_two h next op x y in
      let named = sym (named_two s op x y) ∙ asked.named in
      let reads = sym (reads_two fs op x y) ∙ asked.reads in
      let small = sym (small_two vars op x y) ∙ asked.small in
      let room : b.next + 1 ≤ length ls = subst (λ (v : Lowered). v.next + 1 ≤ length ls) code asked.room in
      let more : a.next ≤ b.next = code_grows h y a.next in
      let first = rested_valued (is_shallow first_code.depth) first_code next ls (language.value_of x vars fs) (omega (arith, room, more)) (one next ls (record {
        named = left (is_named_expr x s) (is_named_expr y s) named;
        reads = left (can_read x fs) (can_read y fs) reads;
        small = left (has_small_indices x vars) (has_small_indices y vars) small;
        bound = asked.bound;
        agree = asked.agree;
        room = omega (arith, room, more, rested_grows h first_code);
      })) in
      let middle = stepped ts a.steps ls in
      let second = other a.next middle (record {
        named = right (is_named_expr x s) (is_named_expr y s) named;
        reads = right (can_read x fs) (can_read y fs) reads;
        small = right (has_small_indices x vars) (has_small_indices y vars) small;
        bound = omega (arith, asked.bound, first.grows);
        agree = agree_then (length vars) middle ls vars (agree_less (length vars) next middle ls asked.bound first.kept) asked.agree;
        room = omega (arith, room, first.long);
      }) in
      by_equations (value_code h (e.Two op x y) next) (two_after op a b) next ls (language.value_of (e.Two op x y) vars fs) (operate op (language.value_of x vars fs) (language.value_of y vars fs)) code (meant.value_two vars fs op x y)
      (both_valued op a b next ls (language.value_of x vars fs) (language.value_of y vars fs) first second)

  kinds : Kinds Valued
  kinds = record { num = num; var = var; read = access; neg = turned; two = pair }

  all_valued : (x : Expr) → Valued x
  all_valued = by_kind Valued kinds

pub values_mean : ValuesMean
values_mean h ts fs s vars x next ls sees within named reads small bound agree room = all_valued h ts fs s vars sees within x next ls (record { named = named; reads = reads; small = small; bound = bound; agree = agree; room = room })
