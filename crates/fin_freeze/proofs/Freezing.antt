-- A builder's entries are those of a storage of its function.
use Rattle.std.proofs.Common.{◌≡◌, ℕ, ℤ, List, sym, ap, ◌∙◌, subst, IfOk, OnOk}
use Rattle.std.specs.Prelude.{Result}
use Rattle.std.specs.FinMap as finite
use Rattle.std.proofs.lemmas.Result.{IfOk-weaker}
use Rattle.fin_tensor.specs.declared.format.Format.{Format}
use Rattle.fin_tensor.specs.declared.outputs.StoreFail.{StoreFail}
use Rattle.fin_tensor.specs.declared.storage.Storage.{Storage}
use Rattle.fin_tensor.specs.TensorFunction.{TensorFunction}
use Rattle.fin_tensor.specs.Building.{Building}
use Rattle.fin_tensor.specs.Canon.{IsCanon, IsAllowedIn}
use Rattle.fin_canon.specs.Entries.{Entry, AreEntries, named, undecorated}
use Rattle.fin_canon.proofs.Mapped.{entries_name}
use Rattle.fin_canon.proofs.Canonical.{canonical_is_valid}
use Rattle.fin_build.specs.Builders.{IsBuilding}

module _ (b : Building) (k : IsBuilding b) (shape : List ℕ) (es : List Entry) (same : shape ≡ b.function.shape) (e : es ≡ finite.entries b.function.cells) where
  pub entries_are : AreEntries shape es
  entries_are = subst (λ (ns : List ℕ). AreEntries ns es) (sym same) (subst (λ (xs : List Entry). AreEntries b.function.shape xs) (sym e) (entries_name b.function k.tensor).0)

  pub names : (fm : Format) → fm ≡ b.format → named shape fm.fill es ≡ b.function
  names fm ef =
      ap (λ (ns : List ℕ). named ns fm.fill es) same
      ∙ ap (λ (z : ℤ). named b.function.shape z es) (ap (λ (x : Format). x.fill) ef ∙ sym k.fill_is)
      ∙ ap (named b.function.shape b.function.fill) e
      ∙ (entries_name b.function k.tensor).1

pub canon_as : (fm fm' : Format) (f f' : TensorFunction) (r : Result Storage StoreFail) → fm ≡ fm' → f ≡ f' → IfOk r (λ s. IsCanon (undecorated fm) f s) → IfOk r (λ s. IsCanon (undecorated fm') f' s)
canon_as fm fm' f f' r a b h = subst (λ (g : TensorFunction). IfOk r (λ s. IsCanon (undecorated fm') g s)) b (subst (λ (x : Format). IfOk r (λ s. IsCanon (undecorated x) f s)) a h)

pub allowed_as : (fm : Format) (f : TensorFunction) (r : Result Storage StoreFail) → IfOk r (λ s. IsCanon (undecorated fm) f s) → OnOk r (IsAllowedIn (undecorated fm) f)
allowed_as fm f r h = IfOk-weaker r _ _ (λ s c. (canonical_is_valid (undecorated fm) f).1 s c) h

pub large_as : (fm fm' : Format) (f f' : TensorFunction) → fm ≡ fm' → f ≡ f' → (IsAllowedIn (undecorated fm) f → ⊥) → IsAllowedIn (undecorated fm') f' → ⊥
large_as fm fm' f f' a b h allowed = h (subst (λ (x : Format). IsAllowedIn (undecorated x) f) (sym a) (subst (λ (g : TensorFunction). IsAllowedIn (undecorated fm') g) (sym b) allowed))
