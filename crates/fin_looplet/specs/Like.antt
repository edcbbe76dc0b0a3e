-- Views that are alike.
use Rattle.std.specs.Prelude.{◌≡◌, List, [], ◌∷◌}
use Rattle.fin_looplet.specs.View.{View}

-- one view is the other, but for what ends after a coordinate that isn't inside
pub record Like (inside : Type 0) (v w : View) : Type 0 where
  pub seen : v.seen ≡ w.seen
  pub ends : inside → v.ends ≡ w.ends
  pub stop : inside → v.stop ≡ w.stop

abbrev pub AllLike : Type 0 → List View → List View → Type 0
AllLike inside [] [] = Unit {0}
AllLike inside [] (w ∷ ws) = ⊥
AllLike inside (v ∷ vs) [] = ⊥
AllLike inside (v ∷ vs) (w ∷ ws) = Like inside v w × AllLike inside vs ws
