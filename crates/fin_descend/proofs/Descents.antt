-- What the codes of nests mean, from what their parts' codes do.
use Rattle.std.proofs.Common.{◌≡◌, ◌≢◌, ℕ, zero, suc, ◌+◌, ◌<◌, ◌≤◌, List, [], ◌∷◌, ◌++◌, length, map, take, get_or, Bool, false, sym, ap, subst, ◌∙◌, arith}
use Rattle.std.specs.Prelude.{nat_eq, Result, Ok, Err, IfOk}
use Rattle.std.specs.List.{All}
use Rattle.std.proofs.lemmas.Bool.{eqb-false}
use Rattle.std.proofs.lemmas.List.{take_more, take_all}
use Rattle.std.proofs.lemmas.List.Elements.{All-nil, All-cons, All-head, All-tail}
use Rattle.fin_ir.specs.declared.code.Code.{Code}
use Rattle.fin_ir.specs.declared.code.Code.TheVariants.{Skip}
use Rattle.fin_ir.specs.declared.layout.Layout.{Layout}
use Rattle.fin_stage.specs.Staged.{Run}
use Rattle.fin_nest.specs.Related.{Start}
use Rattle.fin_nest.specs.Senses.{runs}
use Rattle.fin_nest.specs.Courses.{Behind, nest_with, Meant, MeantAll}
use Rattle.fin_nest.specs.Frames.{fill}
use Rattle.fin_nest.proofs.Both.{turns_are_free}
use Rattle.fin_style_point.specs.declared.nest.Nest.{Nest}
use Rattle.fin_style_point.specs.Parts.{course_of}
use Rattle.fin_style_point.proofs.Both.{nothing_is_skipped}
use Rattle.fin_descend.specs.declared.lowered.Lowered.{Lowered}
use Rattle.fin_descend.specs.declared.lowered.Known.TheVariants.{Nothing, Open}
use Rattle.fin_descend.specs.declared.stepping.Split.{Split}
use Rattle.fin_descend.specs.Parts.{weight_in, heaviest}
use Rattle.fin_descend.specs.Promises.{Family, Stands, MeansIn, Tells, Divides, StaySeparate, MeanEach, Joins}

-- ---- a nest

pub nothing_means : (family : Family) (n : Nest) (l : Lowered) → Tells family n Nothing → l.code ≡ Skip → MeansIn family l n
nothing_means family n l nothing e s layout b stands room =
    let whole = nest_with b (course_of n) in
    let means = (nothing_is_skipped s layout).0 whole (nothing s layout b stands) in
    let meant : Meant layout (runs s) whole Skip = record { means = means; counted = λ w. turns_are_free s layout Skip whole means } in
    subst (λ (c : Code). Meant layout (runs s) whole c) (sym e) meant

pub stepped_means : (family : Family) (n : Nest) (p : Split) (l : Lowered) → Tells family n Open → 0 < weight_in n → Divides p n → StaySeparate p n
    → p.room ≤ l.room → Joins family p l → MeansIn family l n
stepped_means family n p l may heavy divides apart below joins s layout b stands room =
    let parts : All (Stands family s layout b) p.nests =
    λ k d h. record { ours = stands.ours; separate = apart b stands.separate k d h; onward = stands.onward; points = stands.points } in
    joins s layout b parts room n (divides s layout b stands.separate stands.onward stands.points (may s layout b stands heavy) (omega (arith, below, room)))

-- ---- its parts

pub joined : (family : Family) (p : Split) (l : Lowered) (cs : List Code) (r : ℕ) → MeanEach family p.nests cs r → r ≤ l.room → l.code ≡ fill p.frame cs → Joins family p l
joined family p l cs r each below e s layout b stands room n fills =
    subst (λ (c : Code). Meant layout (runs s) (nest_with b (course_of n)) c) (sym e) (fills cs (each s layout b stands (omega (arith, below, room))))

-- ---- one nest more

pub all_first : {X : Type 0} (P : X → Type 0) (xs : List X) (x : X) → All P (xs ++ x ∷ []) → All P xs
all_first P [] x a = All-nil P
all_first P (y ∷ xs) x a = All-cons P y xs (All-head P y (xs ++ x ∷ []) a) (all_first P xs x (All-tail P y (xs ++ x ∷ []) a))

pub all_last : {X : Type 0} (P : X → Type 0) (xs : List X) (x : X) → All P (xs ++ x ∷ []) → P x
all_last P [] x a = All-head P x [] a
all_last P (y ∷ xs) x a = all_last P xs x (All-tail P y (xs ++ x ∷ []) a)

meant_more : (s : Start) (layout : Layout) (b : Behind Run) (xs : List Nest) (cs : List Code) (n : Nest) (c : Code) → MeantAll layout (runs s) b (map course_of xs) cs
    → Meant layout (runs s) (nest_with b (course_of n)) c → MeantAll layout (runs s) b (map course_of (xs ++ n ∷ [])) (cs ++ c ∷ [])
meant_more s layout b [] [] n c h m = (m, tt)
meant_more s layout b [] (d ∷ cs) n c h m = absurd h
meant_more s layout b (x ∷ xs) [] n c h m = absurd h
meant_more s layout b (x ∷ xs) (d ∷ cs) n c h m = (h.0, meant_more s layout b xs cs n c h.1 m)

pub mean_more : (family : Family) (ns : List Nest) (i : ℕ) (n : Nest) (l : Lowered) (cs : List Code) (room more : ℕ) → i < length ns → n ≡ get_or ns i n
    → MeanEach family (take i ns) cs room → MeansIn family l n → room ≤ more → l.room ≤ more → MeanEach family (take (i + 1) ns) (cs ++ l.code ∷ []) more
mean_more family ns i n l cs room more h e so_far means a b =
    let t : take (i + 1) ns ≡ take i ns ++ n ∷ [] = take_more ns i n h ∙ ap (λ (x : Nest). take i ns ++ x ∷ []) (sym e) in
    subst (λ (xs : List Nest). MeanEach family xs (cs ++ l.code ∷ []) more) (sym t) (λ s layout x stands fits.
    meant_more s layout x (take i ns) cs n l.code
    (so_far s layout x (all_first (Stands family s layout x) (take i ns) n stands) (omega (arith, a, fits)))
    (means s layout x (all_last (Stands family s layout x) (take i ns) n stands) (omega (arith, b, fits))))

-- ---- what is known of a call's answer

pub both_ok : {X Y : Type 0} (P Q R : X → Type 0) (r : Result X Y) → IfOk r P → IfOk r Q → ((x : X) → P x → Q x → R x) → IfOk r R
both_ok P Q R (Ok x) p q f = f x p q
both_ok P Q R (Err e) p q f = tt

-- ---- weights

pub heaviest_below : (ns : List Nest) (w : ℕ) → 0 < w → All (λ (n : Nest). weight_in n < w) ns → heaviest ns < w
heaviest_below [] w h a = h
heaviest_below (n ∷ rest) w h a =
    omega (arith, All-head (λ (x : Nest). weight_in x < w) n rest a, heaviest_below rest w h (All-tail (λ (x : Nest). weight_in x < w) n rest a))

pub heaviest_at : (ns : List Nest) (i : ℕ) (n : Nest) → i < length ns → n ≡ get_or ns i n → weight_in n ≤ heaviest ns
heaviest_at [] i n h e = absurd (omega (arith, h))
heaviest_at (x ∷ rest) zero n h e = omega (arith, ap (λ (y : Nest). weight_in y) e)
heaviest_at (x ∷ rest) (suc i) n h e = omega (arith, heaviest_at rest i n (omega (arith, h)) e)

pub heavy : (b : Bool) (w : ℕ) → b ≡ nat_eq w 0 → b ≡ false → 0 < w
heavy b w e f = let z : w ≢ 0 = eqb-false w 0 (sym e ∙ f) in omega (arith, z)

pub all_taken : (P : List Nest → Type 0) (ns : List Nest) (i : ℕ) → length ns ≤ i → P (take i ns) → P ns
all_taken P ns i h p = subst P (take_all i ns h) p
