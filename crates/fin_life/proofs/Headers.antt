-- Steps along headers.
use Rattle.std.proofs.Common.{◌≡◌, ◌<◌, ◌+◌, ℕ, zero, suc, Bool, true, false, if◌then◌else◌, List, [], ◌∷◌, ◌++◌, refl, ap, sym, ◌∙◌, arith, length, get_or, take, drop, Option, ◌≢◌, ◌≤◌, length-take}
use Rattle.std.specs.Option.{option_or}
use Rattle.std.proofs.lemmas.List.{take_more}
use Rattle.std.proofs.Math.Path.{fun_ext}
use Rattle.std.proofs.lemmas.Option.{slice_get_past}
use Rattle.std.proofs.lemmas.Bool.Decides.{nat_tests}
use Rattle.fin_base.specs.declared.refusal.Refusal.{Refusal}
use Rattle.fin_ast.specs.declared.header.Header.{Header}
use Rattle.fin_ast.specs.declared.mode.Mode.{Mode}
use Rattle.fin_ast.specs.declared.mode.Mode.TheVariants.{Undeclared, Read}
use Rattle.fin_ast.specs.Kinds.{is_input}
use Rattle.fin_ast.specs.Sizes.{first_from}
use Rattle.fin_ast.specs.Modes.{is_input_header, is_input_at, mode_at_start}
use Rattle.fin_life.specs.Drafts.{Carried, in_turn}
use Rattle.fin_life.specs.Passage.{turned}

from_next : (f : ℕ → Option Refusal) (m k : ℕ) (hs : List Header) → k < length hs → first_from (λ t h. f t) m (drop k hs) ≡ option_or (f m) (first_from (λ t h. f t) (m + 1) (drop (suc k) hs))
from_next f m k [] l = absurd (omega arith)
from_next f m zero (h ∷ hs) l = refl
from_next f m (suc k) (h ∷ hs) l = from_next f m k hs (omega arith)

-- a test that looks at no header
pub first_next : (f : ℕ → Option Refusal) (k : ℕ) (hs : List Header) → k < length hs → first_from (λ t h. f t) k (drop k hs) ≡ option_or (f k) (first_from (λ t h. f t) (k + 1) (drop (k + 1) hs))
first_next f k hs l = let e : k + 1 ≡ suc k = omega arith in from_next f k k hs l ∙ ap (λ (n : ℕ). option_or (f k) (first_from (λ t h. f t) (k + 1) (drop n hs))) (sym e)

turn_at : (f : ℕ → Carried → Carried) (m k : ℕ) (hs : List Header) (d : Carried) → k < length hs → in_turn (λ t h. f t) m (drop k hs) d ≡ in_turn (λ t h. f t) (m + 1) (drop (suc k) hs) (f m d)
turn_at f m k [] d l = absurd (omega arith)
turn_at f m zero (h ∷ hs) d l = refl
turn_at f m (suc k) (h ∷ hs) d l = turn_at f m k hs d (omega arith)

-- a step that looks at no header
pub turn_next : (f : ℕ → Carried → Carried) (k : ℕ) (hs : List Header) (d : Carried) → k < length hs → in_turn (λ t h. f t) k (drop k hs) d ≡ in_turn (λ t h. f t) (k + 1) (drop (k + 1) hs) (f k d)
turn_next f k hs d l = let e : k + 1 ≡ suc k = omega arith in turn_at f k k hs d l ∙ ap (λ (n : ℕ). in_turn (λ t h. f t) (k + 1) (drop n hs) (f k d)) (sym e)

last_input : (xs : List Header) (h : Header) (t : ℕ) → t ≡ length xs → is_input_at (xs ++ h ∷ []) t ≡ is_input h.kind
last_input [] h zero e = refl
last_input [] h (suc t) e = absurd (omega arith)
last_input (x ∷ xs) h zero e = absurd (omega arith)
last_input (x ∷ xs) h (suc t) e = last_input xs h t (omega arith)

other_input : (xs : List Header) (h : Header) (t : ℕ) → t ≢ length xs → is_input_at (xs ++ h ∷ []) t ≡ is_input_at xs t
other_input [] h zero n = absurd (n refl)
other_input [] h (suc t) n = refl
other_input (x ∷ xs) h zero n = refl
other_input (x ∷ xs) h (suc t) n = other_input xs h t (omega arith)

start_of : Bool → Mode
start_of b = if b then Read else Undeclared

module _ (hs : List Header) (k : ℕ) (h : Header) (l : k < length hs) (e : h ≡ get_or hs k h) where
  more : take (k + 1) hs ≡ take k hs ++ h ∷ []
  more = take_more hs k h l ∙ ap (λ (x : Header). take k hs ++ x ∷ []) (sym e)

  size : length (take k hs) ≡ k
  size = omega (arith, length-take k hs)

  at_next : (t : ℕ) → t ≢ k → mode_at_start (take (k + 1) hs) t ≡ mode_at_start (take k hs) t
  at_next t n = ap (λ (xs : List Header). mode_at_start xs t) more ∙ ap (λ (b : Bool). if b then Read else Undeclared) (other_input (take k hs) h t (omega (arith, size)))

  at_last : (t : ℕ) → t ≡ k → mode_at_start (take (k + 1) hs) t ≡ (if is_input h.kind then Read else Undeclared)
  at_last t s = ap (λ (xs : List Header). mode_at_start xs t) more ∙ ap (λ (b : Bool). if b then Read else Undeclared) (last_input (take k hs) h t (omega (arith, size)))

  pub led_input : is_input h.kind ≡ true → turned (mode_at_start (take k hs)) k Read ≡ mode_at_start (take (k + 1) hs)
  led_input i = fun_ext (λ t. grind (arith, nat_tests, at_next t, at_last t, i))

  none_at : (xs : List Header) (t : ℕ) → length xs ≤ t → mode_at_start xs t ≡ Undeclared
  none_at xs t m = ap (λ (o : Option Header). if is_input_header o then Read else Undeclared) (slice_get_past xs t m)

  pub kept_other : is_input h.kind ≡ false → mode_at_start (take k hs) ≡ mode_at_start (take (k + 1) hs)
  kept_other i = fun_ext (λ t. grind (arith, nat_tests, at_next t, at_last t, i, none_at (take k hs) t, size))

  pub led_next : (if is_input h.kind then turned (mode_at_start (take k hs)) k Read else mode_at_start (take k hs)) ≡ mode_at_start (take (k + 1) hs)
  led_next = by_kind (is_input h.kind) refl
    where
      by_kind : (b : Bool) → is_input h.kind ≡ b → (if b then turned (mode_at_start (take k hs)) k Read else mode_at_start (take k hs)) ≡ mode_at_start (take (k + 1) hs)
      by_kind true i = led_input i
      by_kind false i = kept_other i
