-- The ranges of neighbouring coordinates.
use Rattle.std.proofs.Common.{◌≡◌, ◌≢◌, ℕ, ◌+◌, ◌<◌, ◌≤◌, List, [], ◌∷◌, ◌++◌, refl, sym, ap, ◌∙◌, subst, ⊎_elim, arith, append_assoc, ℤ}
use Rattle.std.proofs.lemmas.Bool.{cases_lt}
use Rattle.std.proofs.lemmas.List.{append-nil, get_or_append_left, get_or_at, length_push}
use Rattle.fin_canon.specs.declared.entry.Range.{Range}
use Rattle.fin_canon.specs.Entries.{Entry}
use Rattle.fin_canon.specs.Ranges.{head_of, range_at, IsCut, AllCut}

-- the ranges of the coordinates low..i so far
pub record CutSoFar (es : List Entry) (fill : ℤ) (d a b low at i : ℕ) (next next' : List Range) : Type 0 where
  pub m : ℕ
  pub many : low + m ≡ i
  pub from : a ≤ at
  pub high : at ≤ b
  pub cuts : AllCut es fill d a b low m next next'
  pub before : (k : ℕ) → a ≤ k → k < at → head_of es d k < i
  pub after : (k : ℕ) → at ≤ k → k < b → i ≤ head_of es d k

pub cut_none : (es : List Entry) (fill : ℤ) (d a b low : ℕ) (out : List Range) → a ≤ b → ((k : ℕ) → a ≤ k → k < b → low ≤ head_of es d k) → CutSoFar es fill d a b low a low out out
cut_none es fill d a b low out le above = record {
  m = 0;
  many = omega arith;
  from = omega arith;
  high = le;
  cuts = record { rs = []; next_is = sym (append-nil out); long = refl; cut = λ j h. absurd (omega arith) };
  before = λ k x y. absurd (omega arith);
  after = above;
}

cut_more : (es : List Entry) (fill : ℤ) (d a b low m at e i : ℕ) (out0 out out' : List Range) → low + m ≡ i → a ≤ at → at ≤ e → e ≤ b → ((k : ℕ) → a ≤ k → k < at → head_of es d k < i) → ((k : ℕ) → at ≤ k → k < e → head_of es d k ≡ i) → ((k : ℕ) → e ≤ k → k < b → i + 1 ≤ head_of es d k) →
    out' ≡ out ++ record { from = at; to = e } ∷ [] → AllCut es fill d a b low m out0 out → AllCut es fill d a b low (m + 1) out0 out'
cut_more es fill d a b low m at e i out0 out out' mi lo mid hi before same after p c =
    let r : Range = record { from = at; to = e } in
    let here : IsCut es fill d a b i r = record {
      low = lo;
      order = mid;
      high = hi;
      has = λ k x y _ h. (⊎_elim (λ (l : k < at). absurd (omega (arith, before k x l))) (λ (l : at ≤ k). l) (cases_lt k at), ⊎_elim (λ (l : k < e). l) (λ (l : e ≤ k). absurd (omega (arith, after k l y))) (cases_lt k e));
      all = same;
    } in
    record {
      rs = c.rs ++ r ∷ [];
      next_is = p ∙ ap (λ (l : List Range). l ++ r ∷ []) c.next_is ∙ append_assoc out0 c.rs (r ∷ []);
      long = omega (arith, length_push c.rs r, c.long);
      cut = λ j h. ⊎_elim
          (λ (l : j < m). subst (IsCut es fill d a b (low + j)) (sym (get_or_append_left c.rs (r ∷ []) (record { from = 0; to = 0 }) j (omega (arith, c.long)))) (c.cut j l))
          (λ (l : m ≤ j). let x : m ≡ j = omega arith in subst (λ (z : ℕ). IsCut es fill d a b (low + z) (range_at (c.rs ++ r ∷ []) z)) x (subst (λ (z : ℕ). IsCut es fill d a b z (range_at (c.rs ++ r ∷ []) m)) (sym mi) (subst (IsCut es fill d a b i) (sym (get_or_at c.rs r [] (record { from = 0; to = 0 }) m c.long)) here)))
          (cases_lt j m);
    }

pub cut_step : (es : List Entry) (fill : ℤ) (d a b low at e i : ℕ) (out0 out out' : List Range) → at ≤ e → e ≤ b → ((k : ℕ) → at ≤ k → k < e → head_of es d k ≡ i) → (e < b → head_of es d e ≢ i) → ((j k : ℕ) → a ≤ j → j ≤ k → k < b → head_of es d j ≤ head_of es d k) →
    out' ≡ out ++ record { from = at; to = e } ∷ [] → CutSoFar es fill d a b low at i out0 out → CutSoFar es fill d a b low e (i + 1) out0 out'
cut_step es fill d a b low at e i out0 out out' mid hi same ends rise p h =
    let after : (k : ℕ) → e ≤ k → k < b → i + 1 ≤ head_of es d k = (λ k x y. omega (arith, h.after e mid (omega arith), ends (omega arith), rise e k (omega (arith, h.from)) x y)) in
    record {
      m = h.m + 1;
      many = omega (arith, h.many);
      from = omega (arith, h.from);
      high = hi;
      cuts = cut_more es fill d a b low h.m at e i out0 out out' h.many h.from mid hi h.before same after p h.cuts;
      before = λ k x y. ⊎_elim (λ (l : k < at). omega (arith, h.before k x l)) (λ (l : at ≤ k). omega (arith, same k l y)) (cases_lt k at);
      after = after;
    }

pub cut_all : (es : List Entry) (fill : ℤ) (d a b low m at i : ℕ) (out out' : List Range) → i ≡ low + m → CutSoFar es fill d a b low at i out out' → AllCut es fill d a b low m out out'
cut_all es fill d a b low m at i out out' e h = let s : h.m ≡ m = omega (arith, h.many) in subst (λ (x : ℕ). AllCut es fill d a b low x out out') s h.cuts
