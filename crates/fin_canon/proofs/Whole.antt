-- The canonical storage of the function that entries name.
use Rattle.std.proofs.Common.{◌≡◌, ℕ, ℤ, List, [], ◌∷◌, sym, ap, ◌∙◌, subst}
use Rattle.fin_tensor.specs.declared.format.Format.{Format}
use Rattle.fin_tensor.specs.declared.part.Part.{Part}
use Rattle.fin_tensor.specs.declared.storage.Storage.{Storage}
use Rattle.fin_tensor.specs.TensorFunction.{filled, value_at}
use Rattle.fin_tensor.specs.Placement.{IsPlaced, IsBare}
use Rattle.fin_tensor.specs.Lines.{IsShape}
use Rattle.fin_tensor.specs.Levels.{IsStored}
use Rattle.fin_tensor.specs.Canon.{Slice, canon_parts, canon_values, IsAllowed, IsAllowedIn, IsCanon}
use Rattle.fin_canon.specs.Entries.{Entry, named, undecorated}
use Rattle.fin_canon.proofs.Naming.{given_shape, given_fill}
use Rattle.fin_canon.proofs.Placed.{placed_over}
use Rattle.fin_canon.proofs.Valid.{slices_are_valid}

module _ (format : Format) (ns : List ℕ) (es : List Entry) where
  named_shape : (named ns format.fill es).shape ≡ ns
  named_shape = given_shape es (filled ns format.fill)

  named_fill : (named ns format.fill es).fill ≡ format.fill
  named_fill = given_fill es (filled ns format.fill)

  pub allowed_in : IsAllowed format.levels format.fill ns (value_at (named ns format.fill es) ∷ []) → IsAllowedIn (undecorated format) (named ns format.fill es)
  allowed_in a =
      let fs : List Slice = value_at (named ns format.fill es) ∷ [] in
      subst (λ (v : ℤ). IsAllowed format.levels v (named ns format.fill es).shape fs) (sym named_fill) (subst (λ (z : List ℕ). IsAllowed format.levels format.fill z fs) (sym named_shape) a)

  pub allowed_from : IsAllowedIn (undecorated format) (named ns format.fill es) → IsAllowed format.levels format.fill ns (value_at (named ns format.fill es) ∷ [])
  allowed_from a =
      let fs : List Slice = value_at (named ns format.fill es) ∷ [] in
      subst (λ (z : List ℕ). IsAllowed format.levels format.fill z fs) named_shape (subst (λ (v : ℤ). IsAllowed format.levels v (named ns format.fill es).shape fs) named_fill a)

  pub canon_named : (s : Storage) → s.format ≡ undecorated format → s.shape ≡ ns → s.parts ≡ canon_parts format.levels format.fill ns (value_at (named ns format.fill es) ∷ []) → s.val ≡ canon_values format.levels format.fill ns (value_at (named ns format.fill es) ∷ []) → IsCanon (undecorated format) (named ns format.fill es) s
  canon_named s a b p v =
      let fs : List Slice = value_at (named ns format.fill es) ∷ [] in
      record {
        fill = sym named_fill;
        format_is = a;
        shape = b ∙ sym named_shape;
        parts = p ∙ ap (λ (x : ℤ). canon_parts format.levels x ns fs) (sym named_fill) ∙ ap (λ (z : List ℕ). canon_parts format.levels (named ns format.fill es).fill z fs) (sym named_shape);
        val = v ∙ ap (λ (x : ℤ). canon_values format.levels x ns fs) (sym named_fill) ∙ ap (λ (z : List ℕ). canon_values format.levels (named ns format.fill es).fill z fs) (sym named_shape);
      }

  module _ (placed : IsPlaced format.levels format.wrap) (shape : IsShape format.levels ns) (allowed : IsAllowed format.levels format.fill ns (value_at (named ns format.fill es) ∷ [])) (fm : Format) (ns' : List ℕ) (ps : List Part) (vs : List ℤ) (a : fm ≡ undecorated format) (b : ns' ≡ ns)
      (p : ps ≡ canon_parts format.levels format.fill ns (value_at (named ns format.fill es) ∷ [])) (v : vs ≡ canon_values format.levels format.fill ns (value_at (named ns format.fill es) ∷ [])) where
    pub is_placed : IsPlaced fm.levels fm.wrap
    is_placed = subst (λ (x : Format). IsPlaced x.levels x.wrap) (sym a) (record { few = placed.few; runs = placed.runs; fits = tt })

    pub is_bare : IsBare fm.wrap
    is_bare = subst (λ (x : Format). IsBare x.wrap) (sym a) tt

    pub is_stored : IsStored 1 fm.levels ns' ps vs
    is_stored =
        let fs : List Slice = value_at (named ns format.fill es) ∷ [] in
        let s = slices_are_valid format.levels format.fill ns fs (placed_over format.levels ns placed.runs shape.long) shape.small allowed in
        subst (λ (x : Format). IsStored 1 x.levels ns' ps vs) (sym a)
        (subst (λ (z : List ℕ). IsStored 1 format.levels z ps vs) (sym b)
        (subst (λ (x : List Part). IsStored 1 format.levels ns x vs) (sym p)
        (subst (λ (x : List ℤ). IsStored 1 format.levels ns (canon_parts format.levels format.fill ns fs) x) (sym v) s)))
