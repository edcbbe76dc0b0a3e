-- The headers of a program by number: what the layout has of each, and that each tensor can be built.
use Rattle.std.proofs.Common.{◌≡◌, ◌<◌, ℕ, zero, suc, List, [], ◌∷◌, map, length, Option, Some, refl, ap, arith}
use Rattle.std.specs.Prelude.{slice_get, slice_index_or, unwrap_or, option_map, nat_eq}
use Rattle.fin_tensor.specs.Building.{no_format, CanBuild}
use Rattle.fin_ast.specs.declared.header.Header.{Header}
use Rattle.fin_ast.specs.declared.header.Kind.{Kind}
use Rattle.fin_ast.specs.declared.header.Kind.TheVariants.{Input, Output, Local}
use Rattle.fin_ast.specs.Kinds.{is_input}
use Rattle.fin_ast.specs.Shaped.{AreShaped}
use Rattle.fin_read.specs.Values.{heads_of, format_of, shape_of}
use Rattle.fin_perform.specs.Layouts.{kind_number}

pub header_there : (hs : List Header) (t : ℕ) → t < length hs → (x : Header) × (slice_get hs t ≡ Some x)
header_there [] t lt = absurd (omega arith)
header_there (x ∷ hs) zero lt = (x, refl)
header_there (x ∷ hs) (suc t) lt = header_there hs t (omega arith)

pub formats_are : (hs : List Header) (shapes : List (List ℕ)) (t : ℕ) → slice_index_or (map (λ (x : Header). x.format) hs) t no_format ≡ format_of (heads_of hs shapes) t
formats_are [] shapes t = refl
formats_are (x ∷ hs) shapes zero = refl
formats_are (x ∷ hs) shapes (suc t) = formats_are hs shapes t

pub format_is : (hs : List Header) (shapes : List (List ℕ)) (t : ℕ) (x : Header) → slice_get hs t ≡ Some x → format_of (heads_of hs shapes) t ≡ x.format
format_is hs shapes t x e = ap (λ (o : Option Header). unwrap_or (option_map (λ (y : Header). y.format) o) no_format) e

pub kind_is : (hs : List Header) (t : ℕ) (x : Header) → slice_get hs t ≡ Some x → slice_index_or (map (λ (y : Header). kind_number y.kind) hs) t 0 ≡ kind_number x.kind
kind_is [] t x e = cc
kind_is (y ∷ hs) zero x e = ap (λ (o : Option Header). unwrap_or (option_map (λ (z : Header). kind_number z.kind) o) 0) e
kind_is (y ∷ hs) (suc t) x e = kind_is hs t x e

pub input_number : (k : Kind) → nat_eq (kind_number k) 0 ≡ is_input k
input_number Input = refl
input_number Output = refl
input_number Local = refl

pub shapes_long : (hs : List Header) (shapes : List (List ℕ)) → AreShaped hs shapes → length shapes ≡ length hs
shapes_long [] [] a = refl
shapes_long [] (n ∷ shapes) a = absurd a
shapes_long (x ∷ hs) [] a = absurd a
shapes_long (x ∷ hs) (n ∷ shapes) a = ap suc (shapes_long hs shapes a.1)

pub builds_there : (hs : List Header) (shapes : List (List ℕ)) → AreShaped hs shapes → (t : ℕ) → t < length hs → CanBuild (format_of (heads_of hs shapes) t) (shape_of (heads_of hs shapes) t)
builds_there [] shapes a t lt = absurd (omega arith)
builds_there (x ∷ hs) [] a t lt = absurd a
builds_there (x ∷ hs) (n ∷ shapes) a zero lt = a.0
builds_there (x ∷ hs) (n ∷ shapes) a (suc t) lt = builds_there hs shapes a.1 t (omega arith)
