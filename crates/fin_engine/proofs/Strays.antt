-- The first breach among tensors, one by one.
use Rattle.std.proofs.Common.{◌≡◌, ℕ, zero, suc, ◌+◌, true, false, List, [], ◌∷◌, drop, Option, Some, None, refl, sym, ap, ◌∙◌, arith}
use Rattle.std.specs.Option.{is_some, option_or}
use Rattle.fin_base.specs.declared.refusal.Refusal.{Refusal}
use Rattle.fin_ast.specs.declared.header.Header.{Header}
use Rattle.fin_ast.specs.Sizes.{first_of}
use Rattle.fin_text.specs.declared.read.Given.{Given}
use Rattle.fin_engine.specs.Inputs.{Tensors, straying, straying_at}

nothing_left : (n : ℕ) → drop {A = List ℕ × Given} n [] ≡ []
nothing_left zero = refl
nothing_left (suc n) = refl

pub at_place : (headers : List Header) (given : Tensors) (i : ℕ) → first_of (straying headers) (drop i given) ≡ option_or (straying_at headers given i) (first_of (straying headers) (drop (i + 1) given))
at_place headers [] zero = refl
at_place headers [] (suc i) = ap (first_of (straying headers)) (sym (nothing_left (suc i + 1)))
at_place headers (e ∷ given) zero = refl
at_place headers (e ∷ given) (suc i) = at_place headers given i ∙ ap (λ n. option_or (straying_at headers given i) (first_of (straying headers) (drop n (e ∷ given)))) (let s : suc (i + 1) ≡ suc i + 1 = omega arith in s)

pub first_one : (o rest : Option Refusal) → true ≡ is_some o → option_or o rest ≡ o
first_one None rest h = cc
first_one (Some r) rest h = refl

pub none_there : (o rest : Option Refusal) → false ≡ is_some o → option_or o rest ≡ rest
none_there None rest h = refl
none_there (Some r) rest h = cc
