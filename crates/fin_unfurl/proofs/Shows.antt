-- What a view shows at a coordinate.
use Rattle.std.proofs.Common.{◌≡◌, ℕ, Bool, true, Some, None}
use Rattle.std.specs.Prelude.{Option}
use Rattle.fin_ir.specs.Frozen.{Frozen}
use Rattle.fin_looplet.specs.View.{Sight, gap, View}
use Rattle.fin_unfurl.specs.declared.fibre.Fibre.{Fibre}
use Rattle.fin_unfurl.proofs.Places.{sight_below}

abbrev pub shown : Sight → Bool → Bool → Bool → View
shown sight varies ends stop = record { seen = record { sight = sight; varies = varies }; ends = ends; stop = stop }

-- where parts end is said of coordinates inside, of which the next one still is
pub record ShowsAt (v : View) (s : Sight) (does_vary does_end does_stop : Bool) (inside : Type 0) : Type 0 where
  pub sight : v.seen.sight ≡ s
  pub varies : v.seen.varies ≡ does_vary
  pub ends : inside → v.ends ≡ does_end
  pub stop : v.stop ≡ true → does_stop ≡ true

-- what is seen where a place is found or not
abbrev pub sight_or : Fibre → Frozen → Option ℕ → Sight
sight_or f s None = gap f.fill
sight_or f s (Some q) = sight_below f.tensor s.val f.below q
