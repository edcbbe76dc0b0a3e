use Rattle.std.proofs.Common.{◌≡◌, ◌∙◌, sym, ap, ℕ, ◌+◌, arith, true, false, Bool, drop}
use Rattle.std.specs.Option.{option_or}
use Rattle.fin_base.specs.declared.refusal.Rule.TheVariants.{L6}
use Rattle.fin_ast.specs.Sizes.{broken, first_from}
use Rattle.fin_ast.specs.Life.{is_changed}
use Rattle.fin_life.specs.Table.{mode_in}
use Rattle.fin_life.proofs.Headers.{first_next}
use Rattle.fin_life.proofs.life.first_changed.Goals as goal

pub loop-tensor-preserved : goal.loop-tensor-preserved
loop-tensor-preserved c =
    let change = λ (t : ℕ). broken (is_changed (mode_in c.args.begin.now t) (mode_in c.args.now.now t)) L6 c.args.line in
    let same : is_changed (mode_in c.args.begin.now c.loop-tensor.tensor) (mode_in c.args.now.now c.loop-tensor.tensor) ≡ false = cc in
    let rest = first_from (λ t h. change t) (c.loop-tensor.tensor + 1) (drop (c.loop-tensor.tensor + 1) c.args.headers.now) in
    sym (first_next change c.loop-tensor.tensor c.args.headers.now (omega arith) ∙ ap (λ (b : Bool). option_or (broken b L6 c.args.line) rest) same) ∙ c.loop-tensor.invariant

pub returns-then-is_changed : goal.returns-then-is_changed
returns-then-is_changed c =
    let change = λ (t : ℕ). broken (is_changed (mode_in c.args.begin.now t) (mode_in c.args.now.now t)) L6 c.args.line in
    let same : is_changed (mode_in c.args.begin.now c.loop-tensor.tensor) (mode_in c.args.now.now c.loop-tensor.tensor) ≡ true = cc in
    let rest = first_from (λ t h. change t) (c.loop-tensor.tensor + 1) (drop (c.loop-tensor.tensor + 1) c.args.headers.now) in
    sym (first_next change c.loop-tensor.tensor c.args.headers.now (omega arith) ∙ ap (λ (b : Bool). option_or (broken b L6 c.args.line) rest) same) ∙ c.loop-tensor.invariant
