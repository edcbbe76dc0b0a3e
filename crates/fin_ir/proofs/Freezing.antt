-- Canonical storages as plain lists, and which are valid by their size.
use Rattle.std.proofs.Common.{◌≡◌, ℕ, ◌≤◌, ◌^◌, true, false, List, [], ◌∷◌, length, refl, ap, ◌∙◌, ℤ, arith}
use Rattle.std.specs.Prelude.{not}
use Rattle.fin_tensor.specs.declared.format.Format.{Format}
use Rattle.fin_tensor.specs.declared.format.Wrap.TheVariants.{Bare}
use Rattle.fin_tensor.specs.declared.storage.Storage.{Storage}
use Rattle.fin_tensor.specs.TensorFunction.{value_at}
use Rattle.fin_tensor.specs.Building.{Building}
use Rattle.fin_tensor.specs.Canon.{IsAllowedIn, IsCanon, is_allowed}
use Rattle.fin_ir.specs.Frozen.{frozen_of, canon, is_large}
use Rattle.fin_tensor.proofs.Allowed.{allowed_by, by_allowed}

-- the format of a frozen tensor
abbrev pub bare : Format → Format
bare format = record format { wrap = Bare }

pub allowed_not_large : (b : Building) → IsAllowedIn (bare b.format) b.function → is_large b ≡ false
allowed_not_large b h = ap not (by_allowed b.format.levels b.function.fill b.function.shape (value_at b.function ∷ []) h)

pub large_not_allowed : (b : Building) → is_large b ≡ true → IsAllowedIn (bare b.format) b.function → ⊥
large_not_allowed b e h = let f = allowed_not_large b h in cc

pub refused_is_large : (b : Building) → (IsAllowedIn (bare b.format) b.function → ⊥) → is_large b ≡ true
refused_is_large b h =
    elim (is_allowed b.format.levels b.function.fill b.function.shape (value_at b.function ∷ [])) as (λ few. is_allowed b.format.levels b.function.fill b.function.shape (value_at b.function ∷ []) ≡ few → not few ≡ true) [
      | true ↦ (λ e. absurd (h (allowed_by b.format.levels b.function.fill b.function.shape (value_at b.function ∷ []) e)))
      | false ↦ (λ e. refl)
    ] refl

-- a canonical storage is the one that the meaning names
pub canon_is : (b : Building) (s : Storage) → IsCanon (bare b.format) b.function s → frozen_of s ≡ canon b
canon_is b s c =
    ap (λ (f : Format). record (frozen_of s) { format = f }) c.format_is
    ∙ ap (λ (n : List ℕ). record (frozen_of s) { format = bare b.format; shape = n }) c.shape
    ∙ ap (λ (p : List _). record (frozen_of s) { format = bare b.format; shape = b.function.shape; parts = p }) c.parts
    ∙ ap (λ (v : List ℤ). record (canon b) { val = v }) c.val
