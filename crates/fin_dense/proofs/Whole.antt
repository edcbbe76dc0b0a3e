-- What a whole run gives, and where it is over the limits.
use Rattle.std.proofs.Common.{◌≡◌, ◌<◌, ◌≤◌, ◌^◌, refl, sym, ap, ◌∙◌, subst, List}
use Rattle.std.specs.Prelude.{Result, Err}
use Rattle.fin_tensor.specs.declared.storage.Storage.{Storage}
use Rattle.fin_tensor.specs.declared.outputs.Outputs.{Outputs}
use Rattle.fin_base.specs.declared.refusal.Fail.{Fail}
use Rattle.fin_ast.specs.declared.checked.Checked.{Checked}
use Rattle.fin_ast.specs.Dense.{Setting, State, setting_of, evaluated}
use Rattle.fin_dense.specs.Plain.{AreStored, outputs_from, IsPlain, IsOver, Plains}
use Rattle.fin_dense.specs.Plain.IsOver.{turns, large}
use Rattle.fin_dense.specs.Halts.{fail_of}
use Rattle.fin_dense.specs.declared.halt.Halt.{Halt}
use Rattle.fin_dense.specs.declared.halt.Halt.TheVariants.{Spent, Memory}
use Rattle.fin_dense.specs.Fitting.{HasLarge, function_in, whole}

module _ (c : Checked) (inputs : List Storage) (w : Setting) (d : Checked) (same : w ≡ setting_of c inputs) (program : d ≡ c) where
  all_is : whole w d ≡ evaluated c inputs
  all_is = ap (λ (x : Setting). whole x d) same ∙ ap (λ (x : Checked). whole (setting_of c inputs) x) program

  pub too_many : 2 ^ 24 < (whole w d).turns → IsOver c inputs
  too_many h = turns (subst (λ (s : State). 2 ^ 24 < s.turns) all_is h)

  module _ (s : State) (is : s ≡ whole w d) where
    pub is_plain : (o : Outputs) → s.turns ≤ 2 ^ 24 → AreStored (function_in w s.made) (outputs_from 0 d.program.headers) o.tensors → IsPlain c inputs o
    is_plain o few stored = record {
      turns = subst (λ (x : State). x.turns ≤ 2 ^ 24) (is ∙ all_is) few;
      stored =
          subst (λ (x : Setting). AreStored (function_in x (evaluated c inputs).made) (outputs_from 0 c.program.headers) o.tensors) same
          (subst (λ (x : State). AreStored (function_in w x.made) (outputs_from 0 c.program.headers) o.tensors) (is ∙ all_is)
          (subst (λ (x : Checked). AreStored (function_in w s.made) (outputs_from 0 x.program.headers) o.tensors) program stored));
    }

    pub too_large : HasLarge (function_in w s.made) d.program.headers → IsOver c inputs
    too_large h =
        let p = subst (λ (x : Setting). HasLarge (function_in x (evaluated c inputs).made) c.program.headers) same
        (subst (λ (x : State). HasLarge (function_in w x.made) c.program.headers) (is ∙ all_is)
        (subst (λ (x : Checked). HasLarge (function_in w s.made) x.program.headers) program h)) in
        large p.0 p.1 p.2

-- what is told where it stops early
told : (c : Checked) (inputs : List Storage) (h : Halt) → (h ≡ Spent → IsOver c inputs) → Plains c inputs (Err (fail_of h))
told c inputs Spent over = (refl, over refl)
told c inputs (Memory a) over = tt

pub stops : (c : Checked) (inputs : List Storage) (h : Halt) (f : Fail) (r : Result Outputs Fail) → (h ≡ Spent → IsOver c inputs) → r ≡ Err f → f ≡ fail_of h → Plains c inputs r
stops c inputs h f r over e g = subst (Plains c inputs) (sym e) (subst (λ (x : Fail). Plains c inputs (Err x)) (sym g) (told c inputs h over))
