-- The placement of a header's format has one proof.
use Rattle.std.proofs.Common.{Bool, List}
use Rattle.std.proofs.Props.{props}
use Rattle.fin_tensor.specs.declared.format.Level.{Level}
use Rattle.fin_tensor.specs.declared.format.Wrap.{Wrap}
use Rattle.fin_tensor.specs.OneProof.{IsPlaced-prop, IsBare-prop}
use Rattle.fin_tensor.specs.Placement.{IsPlacedAs}

pub IsPlacedAs-prop : (input : Bool) (levels : List Level) (wrap : Wrap) → IsProp (IsPlacedAs input levels wrap)
IsPlacedAs-prop input levels wrap = hlevel (props, IsPlaced-prop levels wrap, IsBare-prop wrap)
