-- Folds over regions: two that do the same, a fold in parts, and a nest that looks like another one.
use Rattle.std.proofs.Common.{◌≡◌, ℕ, zero, suc, ◌+◌, ◌<◌, ◌⊎◌, inl, inr, List, [], ◌∷◌, Bool, true, false, refl, sym, ap, ◌∙◌, ℤ, pos, ◌+ℤ◌, ◌≤ℤ◌, ◌<ℤ◌, arith}
use Rattle.std.specs.Prelude.{◌||◌, ◌&&◌}
use borrow.Author.Differences.{same_in, sum_is_lem, below_in, at_most_in}
use Rattle.fin_ir.specs.Machine.{Machine}
use Rattle.fin_ir.specs.Meaning.{span}
use Rattle.fin_ir.proofs.Loops.{span_is}
use Rattle.fin_looplet.specs.View.{Store, value, Seen, View}
use Rattle.fin_looplet.specs.Like.{AllLike}
use Rattle.fin_looplet.specs.Lists.{seens, any_ends}
use Rattle.fin_looplet.proofs.Lists.{like_seens, like_ends}
use Rattle.fin_nest.specs.Nests.{over, Flags, fresh, flag_at, any_counted, Nest, Sense, paid_if, paid_at, views_of, at_act, at_flags, part, fold}
use Rattle.fin_nest.specs.Laws.{Lawful, Onward}

here : (at : ℤ) → at ≡ at +ℤ pos 0
here at = same_in at (at +ℤ pos 0) (omega (arith, sum_is_lem at (pos 0)))

pub further : (at : ℤ) (j : ℕ) → (at +ℤ pos 1) +ℤ pos j ≡ at +ℤ pos (suc j)
further at j = same_in ((at +ℤ pos 1) +ℤ pos j) (at +ℤ pos (suc j)) (omega (arith, sum_is_lem (at +ℤ pos 1) (pos j), sum_is_lem at (pos 1), sum_is_lem at (pos (suc j))))

-- folds that do the same and have the same flags
pub over_same : {F S : Type 0} (f g : F → ℤ → S → S) (p q : ℤ → F) (n : ℕ) (b : F) (at : ℤ) (s : S) → ((j : ℕ) → j < n → (b : F) (s : S) → f b (at +ℤ pos j) s ≡ g b (at +ℤ pos j) s)
    → ((j : ℕ) → suc j < n → p (at +ℤ pos j) ≡ q (at +ℤ pos j)) → over f p n b at s ≡ over g q n b at s
over_same f g p q zero b at s h k = refl
over_same f g p q (suc zero) b at s h k = ap (λ i. f b i s) (here at) ∙ h 0 (omega arith) b s ∙ sym (ap (λ i. g b i s) (here at))
over_same {F = F} {S = S} f g p q (suc (suc n)) b at s h k =
    let first : f b at s ≡ g b at s = ap (λ i. f b i s) (here at) ∙ h 0 (omega arith) b s ∙ sym (ap (λ i. g b i s) (here at)) in
    let flag : p at ≡ q at = ap p (here at) ∙ k 0 (omega arith) ∙ sym (ap q (here at)) in
    let rest : (j : ℕ) → j < suc n → (b : F) (s : S) → f b ((at +ℤ pos 1) +ℤ pos j) s ≡ g b ((at +ℤ pos 1) +ℤ pos j) s =
    (λ j lt b s. ap (λ i. f b i s) (further at j) ∙ h (suc j) (omega arith) b s ∙ sym (ap (λ i. g b i s) (further at j))) in
    let flags : (j : ℕ) → suc j < suc n → p ((at +ℤ pos 1) +ℤ pos j) ≡ q ((at +ℤ pos 1) +ℤ pos j) = (λ j lt. ap p (further at j) ∙ k (suc j) (omega arith) ∙ sym (ap q (further at j))) in
    over_same f g p q (suc n) (p at) (at +ℤ pos 1) (f b at s) rest flags ∙ ap (λ x. over g q (suc n) x (at +ℤ pos 1) (f b at s)) flag ∙ ap (over g q (suc n) (q at) (at +ℤ pos 1)) first

-- a fold in two parts
pub over_parts : {F S : Type 0} (f : F → ℤ → S → S) (p : ℤ → F) (m n : ℕ) (b : F) (at : ℤ) (s : S) → over f p (m + n) b at s ≡ over f p n (flag_at p b at m) (at +ℤ pos m) (over f p m b at s)
over_parts f p zero n b at s = let z : zero + n ≡ n = omega arith in ap (λ k. over f p k b at s) z ∙ ap (λ i. over f p n b i s) (here at)
over_parts f p (suc zero) n b at s = let z : suc zero + n ≡ suc n = omega arith in ap (λ k. over f p k b at s) z ∙ ap (λ i. over f p n (p i) (at +ℤ pos 1) (f b at s)) (here at)
over_parts f p (suc (suc m)) n b at s =
    let z : suc (suc m) + n ≡ suc (suc m + n) = omega arith in
    ap (λ k. over f p k b at s) z ∙ over_parts f p (suc m) n (p at) (at +ℤ pos 1) (f b at s)
    ∙ ap (λ i. over f p n (p i) ((at +ℤ pos 1) +ℤ pos (suc m)) (over f p (suc m) (p at) (at +ℤ pos 1) (f b at s))) (further at m)
    ∙ ap (λ i. over f p n (p (at +ℤ pos (suc m))) i (over f p (suc m) (p at) (at +ℤ pos 1) (f b at s))) (further at (suc m))

-- ---- views that are alike, one by one
pub like_counted : (bs : List Bool) (inside : Type 0) (vs ws : List View) → inside → AllLike inside vs ws → any_counted bs vs ≡ any_counted bs ws
like_counted [] inside vs ws i h = refl
like_counted (b ∷ bs) inside [] [] i h = refl
like_counted (b ∷ bs) inside [] (w ∷ ws) i h = absurd h
like_counted (b ∷ bs) inside (v ∷ vs) [] i h = absurd h
like_counted (b ∷ bs) inside (v ∷ vs) (w ∷ ws) i h = ap (λ (x : Bool). (b && x) || any_counted bs vs) (h.0.stop i) ∙ ap (λ (x : Bool). (b && w.stop) || x) (like_counted bs inside vs ws i h.1)

-- ---- cut where a part begins

module _ {S : Type 0} (pay : S → S) (ts : Store) (ls : List ℤ) (n : Nest S) where
  fresh_or : (k : ℕ) (f : Flags) (at : ℤ) (s : S) → (k ≡ 0) ⊎ (f.begins ≡ true) → part pay ts ls n k f at s ≡ part pay ts ls n k fresh at (paid_at pay k f.stopped s)
  fresh_or zero f at s h = refl
  fresh_or (suc k) f at s (inl e) = cc
  fresh_or (suc k) f at s (inr e) = ap (λ b. part pay ts ls n k (at_flags ts ls n at) (at +ℤ pos 1) (n.body (seens (views_of ts ls n at)) b at (paid_if pay f.stopped s))) e

  pub over_cut : (m k : ℕ) (at : ℤ) (s : S) → ((k ≡ 0) ⊎ ((flag_at (at_flags ts ls n) fresh at m).begins ≡ true))
      → part pay ts ls n (m + k) fresh at s ≡ part pay ts ls n k fresh (at +ℤ pos m) (paid_at pay k (flag_at (at_flags ts ls n) fresh at m).stopped (part pay ts ls n m fresh at s))
  over_cut m k at s h = over_parts (at_act pay ts ls n) (at_flags ts ls n) m k fresh at s ∙ fresh_or k (flag_at (at_flags ts ls n) fresh at m) (at +ℤ pos m) (part pay ts ls n m fresh at s) h

-- ---- a nest with the same body that in a region from a to c looks like another one
pub record Shows {S : Type 0} (ts : Store) (ls ls' : List ℤ) (n n' : Nest S) (a c : ℤ) : Type 0 where
  pub lo : value ts ls' n'.lo ≡ a
  pub hi : value ts ls' n'.hi ≡ c
  pub like : (i : ℤ) → a ≤ℤ i → i <ℤ c → AllLike ((i +ℤ pos 1) <ℤ c) (views_of ts ls' n' i) (views_of ts ls n i)

-- its fold is then a part of the other's
pub shown : {S : Type 0} (pay : S → S) (ts : Store) (ls ls' : List ℤ) (n n' : Nest S) (a c : ℤ) (s : S) → n'.body ≡ n.body → n'.counts ≡ n.counts → Shows ts ls ls' n n' a c
    → fold pay ts ls' n' s ≡ part pay ts ls n (span a c) fresh a s
shown {S = S} pay ts ls ls' n n' a c s body counts sh =
    let f = at_act pay ts ls' n' in
    let p = at_flags ts ls' n' in
    let g = at_act pay ts ls n in
    let q = at_flags ts ls n in
    let inside : (j : ℕ) → j < span a c → (a ≤ℤ (a +ℤ pos j)) × ((a +ℤ pos j) <ℤ c) =
    (λ j lt. (at_most_in a (a +ℤ pos j) (omega (arith, sum_is_lem a (pos j))), below_in (a +ℤ pos j) c (omega (arith, lt, span_is a c, sum_is_lem a (pos j))))) in
    let acts : (j : ℕ) → j < span a c → (b : Flags) (s : S) → f b (a +ℤ pos j) s ≡ g b (a +ℤ pos j) s = (λ j lt b s.
    let i = a +ℤ pos j in
    let vs' = views_of ts ls' n' i in
    let vs = views_of ts ls n i in
    let e = like_seens ((i +ℤ pos 1) <ℤ c) vs' vs (sh.like i (inside j lt).0 (inside j lt).1) in
    ap (λ (w : List Seen → Bool → ℤ → S → S). w (seens vs') b.begins i (paid_if pay b.stopped s)) body
    ∙ ap (λ (w : List Seen). n.body w b.begins i (paid_if pay b.stopped s)) e) in
    let flags : (j : ℕ) → suc j < span a c → p (a +ℤ pos j) ≡ q (a +ℤ pos j) = (λ j lt.
    let i = a +ℤ pos j in
    let vs' = views_of ts ls' n' i in
    let vs = views_of ts ls n i in
    let x = below_in (i +ℤ pos 1) c (omega (arith, lt, span_is a c, sum_is_lem a (pos j), sum_is_lem i (pos 1))) in
    let l = sh.like i (inside j (omega (arith, lt))).0 (inside j (omega (arith, lt))).1 in
    ap (λ b. record { begins = b; stopped = any_counted n'.counts vs' }) (like_ends ((i +ℤ pos 1) <ℤ c) vs' vs x l)
    ∙ ap (λ (bs : List Bool). record { begins = any_ends vs; stopped = any_counted bs vs' }) counts
    ∙ ap (λ b. record { begins = any_ends vs; stopped = b }) (like_counted n.counts ((i +ℤ pos 1) <ℤ c) vs' vs x l)) in
    ap (λ z. over f p (span z (value ts ls' n'.hi)) fresh z s) sh.lo ∙ ap (λ z. over f p (span a z) fresh a s) sh.hi ∙ over_same f g p q (span a c) fresh a s acts flags

-- ---- what is cut stands for the whole fold
module _ {S : Type 0} (sense : Sense S) (law : Lawful sense) where
  paid_on : (b : Bool) (s : S) (m : Machine) → sense.stands s m → sense.stands (paid_if sense.pay b s) m
  paid_on true s m r = law.spare s m r
  paid_on false s m r = r

  pub paid_at_on : (k : ℕ) (b : Bool) (s : S) (m : Machine) → sense.stands s m → sense.stands (paid_at sense.pay k b s) m
  paid_at_on zero b s m r = r
  paid_at_on (suc k) b s m r = paid_on b s m r

  pub cut_stands : (ts : Store) (ls : List ℤ) (n : Nest S) → Onward sense n.body → (k : ℕ) (f : Flags) (at : ℤ) (s : S) (m : Machine) → m.cut ≡ true → sense.stands s m
      → sense.stands (part sense.pay ts ls n k f at s) m
  cut_stands ts ls n on zero f at s m c r = r
  cut_stands ts ls n on (suc k) f at s m c r =
      cut_stands ts ls n on k (at_flags ts ls n at) (at +ℤ pos 1) (at_act sense.pay ts ls n f at s) m c
      (on (seens (views_of ts ls n at)) f.begins at (paid_if sense.pay f.stopped s) m c (paid_on f.stopped s m r))

-- what a body doesn't look at, its fold doesn't
pub over_commutes : {F S : Type 0} (f : F → ℤ → S → S) (p : ℤ → F) (g : S → S) → ((b : F) (i : ℤ) (s : S) → f b i (g s) ≡ g (f b i s)) → (n : ℕ) (b : F) (at : ℤ) (s : S)
    → over f p n b at (g s) ≡ g (over f p n b at s)
over_commutes f p g h zero b at s = refl
over_commutes f p g h (suc n) b at s = ap (over f p n (p at) (at +ℤ pos 1)) (h b at s) ∙ over_commutes f p g h n (p at) (at +ℤ pos 1) (f b at s)
