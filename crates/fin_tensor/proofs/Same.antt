-- Storages with the same lists are equal.
use Rattle.std.proofs.Common.{◌≡◌, ℕ, List, ℤ, subst}
use Rattle.fin_tensor.specs.declared.format.Format.{Format}
use Rattle.fin_tensor.specs.declared.part.Part.{Part}
use Rattle.fin_tensor.specs.declared.storage.Storage.{Storage}
use Rattle.fin_tensor.specs.Levels.{IsStored}
use Rattle.fin_tensor.specs.Placement.{IsPlaced, IsBare}
use Rattle.fin_tensor.specs.OneProof.{IsPlaced-prop, IsBare-prop, IsStored-prop}

module _ (s : Storage) where
  abbrev storage : (fm : Format) (ns : List ℕ) (ps : List Part) (vs : List ℤ) → IsPlaced fm.levels fm.wrap → IsBare fm.wrap → IsStored 1 fm.levels ns ps vs → Storage
  storage fm ns ps vs placed bare valid = record { format = fm; shape = ns; parts = ps; val = vs; placed = placed; bare = bare; valid = valid }

  abbrev Same : Format → List ℕ → List Part → List ℤ → Type 0
  Same fm ns ps vs = (placed : IsPlaced fm.levels fm.wrap) (bare : IsBare fm.wrap) (valid : IsStored 1 fm.levels ns ps vs) → s ≡ storage fm ns ps vs placed bare valid

  own : Same s.format s.shape s.parts s.val
  own placed bare valid = λ i. record {
    format = s.format;
    shape = s.shape;
    parts = s.parts;
    val = s.val;
    placed = IsPlaced-prop s.format.levels s.format.wrap s.placed placed i;
    bare = IsBare-prop s.format.wrap s.bare bare i;
    valid = IsStored-prop 1 s.format.levels s.shape s.parts s.val s.valid valid i;
  }

  pub same_storage : (t : Storage) → s.format ≡ t.format → s.shape ≡ t.shape → s.parts ≡ t.parts → s.val ≡ t.val → s ≡ t
  same_storage t ef es ep ev =
      let same : Same t.format t.shape t.parts t.val =
      subst (λ (vs : List ℤ). Same t.format t.shape t.parts vs) ev
      (subst (λ (ps : List Part). Same t.format t.shape ps s.val) ep
      (subst (λ (ns : List ℕ). Same t.format ns s.parts s.val) es
      (subst (λ (fm : Format). Same fm s.shape s.parts s.val) ef own))) in
      same t.placed t.bare t.valid
