-- What the code reads of entries.
use Rattle.std.proofs.Common.{◌≡◌, ℕ, zero, suc, ◌<◌, List, [], ◌∷◌, length, get_or, sym, ap, arith}
use Rattle.fin_canon.specs.declared.entry.Range.{Range}
use Rattle.fin_canon.specs.Entries.{Entry, coords, word_of}
use Rattle.fin_canon.specs.Ranges.{range_at}

pub coords_is : (es : List Entry) (k : ℕ) (e : Entry) → k < length es → e ≡ get_or es k e → coords es k ≡ e.0
coords_is [] k e h s = absurd (omega arith)
coords_is (x ∷ es) zero e h s = ap (λ (y : Entry). y.0) (sym s)
coords_is (x ∷ es) (suc k) e h s = coords_is es k e (omega arith) s

pub word_is : (es : List Entry) (k : ℕ) (e : Entry) → k < length es → e ≡ get_or es k e → word_of es k ≡ e.1
word_is [] k e h s = absurd (omega arith)
word_is (x ∷ es) zero e h s = ap (λ (y : Entry). y.1) (sym s)
word_is (x ∷ es) (suc k) e h s = word_is es k e (omega arith) s

pub same_range : (rs : List Range) (i : ℕ) (r : Range) → i < length rs → r ≡ get_or rs i r → range_at rs i ≡ r
same_range [] i r h e = absurd (omega arith)
same_range (x ∷ rs) zero r h e = sym e
same_range (x ∷ rs) (suc i) r h e = same_range rs i r (omega arith) e
