-- Equal tracks.
use Rattle.std.proofs.Common.{◌≡◌, ◌∙◌, ap, ℕ, List, Option}
use Rattle.fin_life.specs.Tracks.{Tracks}

pub same_tracks : (e e' : ℕ → ℕ) (f f' : ℕ → Option (List ℕ)) → e ≡ e' → f ≡ f' → (let a : Tracks = record { entered = e; firsts = f } in let b : Tracks = record { entered = e'; firsts = f' } in a ≡ b)
same_tracks e e' f f' p q = ap (λ (x : ℕ → ℕ). let t : Tracks = record { entered = x; firsts = f } in t) p ∙ ap (λ (x : ℕ → Option (List ℕ)). let t : Tracks = record { entered = e'; firsts = x } in t) q
