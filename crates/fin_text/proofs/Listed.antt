-- Words among others.
use Rattle.std.proofs.Common.{◌≡◌, ℕ, zero, suc, Bool, true, false, not, ◌||◌, List, [], ◌∷◌, map, Bor, refl, sym, arith}
use Rattle.std.specs.Prelude.{Contains}
use Rattle.std.specs.Bool.{Decides}
use Rattle.std.specs.List.{list_any}
use Rattle.std.specs.Str.{bytes_eq}
use Rattle.std.proofs.lemmas.Slice.Eq.{bytes_eq-Decides}

later : (w x : List ℕ) (ws : List (List ℕ)) → Contains ws x → Contains (w ∷ ws) x
later w x ws (k, below, is) = (suc k, omega arith, is)

earlier : (w x : List ℕ) (ws : List (List ℕ)) → (w ≡ x → ⊥) → Contains (w ∷ ws) x → Contains ws x
earlier w x ws other (zero, below, is) = absurd (other is)
earlier w x ws other (suc k, below, is) = (k, omega arith, is)

pub either : (b : Bool) (w x : List ℕ) (ws : List (List ℕ)) (r : Bool) → Decides b (w ≡ x) → Decides r (Contains ws x) → Decides (b || r) (Contains (w ∷ ws) x)
either true w x ws r same more = (λ _. (0, omega arith, same.0 refl), λ _. refl)
either false w x ws r same more = (λ e. later w x ws (more.0 e), λ h. more.1 (earlier w x ws (λ e. cc (same.1 e)) h))

-- a word is found among others exactly where it is one of them
pub found : (words : List (Bor (List ℕ))) (x : List ℕ) → Decides (list_any (λ w. bytes_eq w.now x) words) (Contains (map (λ w. w.now) words) x)
found [] x = (λ e. cc e, λ h. absurd (omega (arith, h.1)))
found (w ∷ words) x = either (bytes_eq w.now x) w.now x (map (λ w. w.now) words) _ (bytes_eq-Decides w.now x) (found words x)

-- a word is new exactly where it is found among no others
pub not_found : (words : List (Bor (List ℕ))) (x : List ℕ) (r : Bool) → r ≡ list_any (λ w. bytes_eq w.now x) words → Decides (not r) (¬ (Contains (map (λ w. w.now) words) x))
not_found words x true e = (λ z. cc, λ h. absurd (h ((found words x).0 (sym e))))
not_found words x false e = (λ z h. cc (e, (found words x).1 h), λ h. refl)
