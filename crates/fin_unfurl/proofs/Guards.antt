-- A position that may be absent.
use Rattle.std.proofs.Common.{◌≡◌, List, [], ◌∷◌, refl, sym, ap, ◌∙◌, subst, inl, inr, Bool, true, false, T, ℤ, pos}
use Rattle.std.specs.Prelude.{not, if◌then◌else◌}
use Rattle.fin_ir.specs.declared.expression.IExpr.{IExpr}
use Rattle.fin_ir.specs.declared.expression.IExpr.TheVariants.{Num}
use Rattle.fin_ir.specs.Value.{is_off}
use Rattle.fin_ir.proofs.Values.{value_num}
use Rattle.fin_looplet.specs.declared.looplet.Leaf.TheVariants.{Fill}
use Rattle.fin_looplet.specs.declared.looplet.Looplet.{Looplet}
use Rattle.fin_looplet.specs.declared.looplet.Looplet.TheVariants.{Run, Switch}
use Rattle.fin_looplet.specs.declared.looplet.Case.{Case}
use Rattle.fin_looplet.specs.View.{Store, value, view, View, gap, plain}
use Rattle.fin_looplet.specs.Sound.{Places, SoundWithin}
use Rattle.fin_looplet.proofs.Bridges.{view_case, sound_case}
use Rattle.fin_unfurl.specs.declared.fibre.Fibre.{Fibre}
use Rattle.fin_unfurl.specs.Walks.{is_there, guarded}

off_not : (b : Bool) → not b ≡ true → b ≡ false
off_not true e = sym e
off_not false e = refl

-- a number that is there is on
pub there_on : (ts : Store) (ls : List ℤ) (there : IExpr) → is_there there ≡ true → is_off (value ts ls there) ≡ false
there_on ts ls (Num n) e = ap is_off (value_num ts ls n) ∙ off_not (is_off n) e
there_on ts ls there e = absurd (subst T (sym e) tt)

module _ (ts : Store) (ls : List ℤ) (f : Fibre) (there : IExpr) (walk : Looplet) where
  abbrev walks : Case
  walks = record { test = there; child = walk }

  abbrev filling : Case
  filling = record { test = Num (pos 1); child = Run (Fill f.fill) }

  filling_on : is_off (value ts ls (Num (pos 1))) ≡ false
  filling_on = ap is_off (value_num ts ls (pos 1))

  switch_view : (end i : ℤ) → view ts ls (Switch (walks ∷ filling ∷ [])) end i ≡ (if is_off (value ts ls there) then plain false (gap f.fill) else view ts ls walk end i)
  switch_view end i =
      view_case ts ls walks (filling ∷ []) end i
      ∙ ap (λ (v : View). if is_off (value ts ls there) then v else view ts ls walk end i)
      (view_case ts ls filling [] end i ∙ ap (λ b. if b then view ts ls (Switch []) end i else plain false (gap f.fill)) filling_on)

  pub guarded_on : (end i : ℤ) → is_off (value ts ls there) ≡ false → view ts ls (guarded f there walk) end i ≡ view ts ls walk end i
  guarded_on end i on = elim (is_there there) as (λ b. view ts ls (if b then walk else Switch (walks ∷ filling ∷ [])) end i ≡ view ts ls walk end i) [
    | true ↦ refl
    | false ↦ switch_view end i ∙ ap (λ b. if b then plain false (gap f.fill) else view ts ls walk end i) on
  ]

  pub guarded_off : (end i : ℤ) → is_off (value ts ls there) ≡ true → view ts ls (guarded f there walk) end i ≡ plain false (gap f.fill)
  guarded_off end i off = elim (is_there there) as (λ b. is_there there ≡ b → view ts ls (if b then walk else Switch (walks ∷ filling ∷ [])) end i ≡ plain false (gap f.fill)) [
    | true ↦ (λ e. absurd (subst T (sym off ∙ there_on ts ls there e) tt))
    | false ↦ (λ e. switch_view end i ∙ ap (λ b. if b then plain false (gap f.fill) else view ts ls walk end i) off)
  ] refl

  pub guarded_sound_on : (bound served : Places) (i : ℤ) → is_off (value ts ls there) ≡ false → SoundWithin bound ts ls walk served i → SoundWithin bound ts ls (guarded f there walk) served i
  guarded_sound_on bound served i on h = elim (is_there there) as (λ b. SoundWithin bound ts ls (if b then walk else Switch (walks ∷ filling ∷ [])) served i) [
    | true ↦ h
    | false ↦ sound_case bound ts ls walks (filling ∷ []) served i (inr (on, h))
  ]

  pub guarded_sound_off : (bound served : Places) (i : ℤ) → is_off (value ts ls there) ≡ true → SoundWithin bound ts ls (guarded f there walk) served i
  guarded_sound_off bound served i off = elim (is_there there) as (λ b. is_there there ≡ b → SoundWithin bound ts ls (if b then walk else Switch (walks ∷ filling ∷ [])) served i) [
    | true ↦ (λ e. absurd (subst T (sym off ∙ there_on ts ls there e) tt))
    | false ↦ (λ e. sound_case bound ts ls walks (filling ∷ []) served i (inl (off, sound_case bound ts ls filling [] served i (inr (filling_on, tt)))))
  ] refl
