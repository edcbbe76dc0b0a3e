use Rattle.std.proofs.Common.{◌∷◌, [], List, ℕ, sym, subst, refl}
use Rattle.fin_tensor.specs.TensorFunction.{value_at}
use Rattle.fin_tensor.specs.Canon.{IsAllowed}
use Rattle.fin_canon.specs.Entries.{named}
use Rattle.fin_canon.proofs.Whole.{allowed_in, allowed_from}
use Rattle.fin_canon.proofs.build.store.Goals as goal

pub returns-then-not-is_allowed-clause-large : goal.returns-then-not-is_allowed-clause-large
returns-then-not-is_allowed-clause-large c =
    let format = c.args.format.now in
    let es = c.args.entries.now in (
      λ _ a.
          let b = allowed_from format c.args.shape.now es a in
          let t = c.is_allowed.ensures.1 (subst (λ (z : List ℕ). IsAllowed format.levels format.fill z (value_at (named z format.fill es) ∷ [])) (sym c.as_slice.ensures) b) in
          let f = c.if-not-is_allowed.true in
          absurd (cc),
      λ _. refl,
    )

pub returns-in-Ok-clause-large : goal.returns-in-Ok-clause-large
returns-in-Ok-clause-large c =
    let format = c.args.format.now in
    let es = c.args.entries.now in
    let a = subst (λ (z : List ℕ). IsAllowed format.levels format.fill z (value_at (named z format.fill es) ∷ [])) c.as_slice.ensures (c.is_allowed.ensures.0 c.if-not-is_allowed.false) in
    (λ x. absurd (cc), λ out. absurd (out (allowed_in format c.args.shape.now es a)))

pub returns-in-Err-clause-large : goal.returns-in-Err-clause-large
returns-in-Err-clause-large c =
    let format = c.args.format.now in
    let es = c.args.entries.now in
    let a = subst (λ (z : List ℕ). IsAllowed format.levels format.fill z (value_at (named z format.fill es) ∷ [])) c.as_slice.ensures (c.is_allowed.ensures.0 c.if-not-is_allowed.false) in
    (λ x. absurd (cc), λ out. absurd (out (allowed_in format c.args.shape.now es a)))
