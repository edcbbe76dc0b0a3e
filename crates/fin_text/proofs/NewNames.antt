-- Names among those of the tensors before.
use Rattle.std.proofs.Common.{◌≡◌, ℕ, Bool, true, false, cond, ℤ, List, [], ◌∷◌, ◌++◌, Option, None, Some, is_some, refl, sym, ap, subst, arith}
use Rattle.std.specs.Prelude.{Contains}
use Rattle.std.specs.Bool.{Decides}
use Rattle.std.specs.Map.{keys_of, lookup}
use Rattle.std.specs.Str.{bytes_eq}
use Rattle.std.proofs.lemmas.Slice.Eq.{bytes_eq-Decides}
use Rattle.indexmap.specs.IndexMap.{IndexMap, get, insert_entry, keys}
use Rattle.indexmap.proofs.CallerLemmas.{insert_entry-new}
use Rattle.fin_tensor.specs.declared.draft.Draft.{Draft}
use Rattle.fin_tensor.specs.declared.format.Format.{Format as TensorFormat}
use Rattle.fin_tensor.specs.declared.format.Level.{Level}
use Rattle.fin_tensor.specs.declared.part.Part.{Part}
use Rattle.fin_text.specs.DueLines.{IsAfter, IsNextEnd, IsNextFill, IsNextName, IsNextSecond, IsNextShape, due_level, part_with}
use Rattle.fin_text.specs.Reading.{ComesTo, IsAfterRest, IsBetween, IsNew, Reads, names_of}
use Rattle.fin_text.specs.declared.due.Due.{Due}
use Rattle.fin_text.specs.declared.due.Due.TheVariants.{Tensor, Format, Fill, Shape, Ptr, Second, Val, End}
use Rattle.fin_text.specs.declared.read.Reader.{Reader}
use Rattle.fin_text.proofs.Listed.{either}

-- a name has an entry exactly where it is among the keys
pub has_entry : {V : Type 0} (es : List (List ℕ × V)) (x : List ℕ) → Decides (is_some (lookup (bytes_eq x) es)) (Contains (keys_of es) x)
has_entry [] x = (λ e. cc e, λ h. absurd (omega (arith, h.1)))
has_entry {V} (e ∷ es) x = by (bytes_eq x e.0) (bytes_eq-Decides x e.0) (has_entry es x)
  where
    by : (b : Bool) → Decides b (x ≡ e.0) → Decides (is_some (lookup (bytes_eq x) es)) (Contains (keys_of es) x) → Decides (is_some (cond b (Some e.1) (lookup (bytes_eq x) es))) (Contains (e.0 ∷ keys_of es) x)
    by true d more = either true e.0 x (keys_of es) (is_some (lookup (bytes_eq x) es)) (λ h. sym (d.0 h), λ h. d.1 (sym h)) more
    by false d more = either false e.0 x (keys_of es) (is_some (lookup (bytes_eq x) es)) (λ h. sym (d.0 h), λ h. d.1 (sym h)) more

-- one that has none goes last
pub put_new : {V S : Type 0} (m : IndexMap (List ℕ) V S) (x : List ℕ) (v : V) → (Contains (keys m) x → ⊥) → insert_entry bytes_eq m.entries x v ≡ m.entries ++ (x, v) ∷ []
put_new {V} m x v new = insert_entry-new bytes_eq m x v (none (get bytes_eq m x) refl)
  where
    none : (r : Option V) → get bytes_eq m x ≡ r → get bytes_eq m x ≡ None
    none None e = e
    none (Some w) e = absurd (new ((has_entry m.entries x).0 (ap is_some e)))

-- ---- the tensor that is being read has another name than those before it
between_new : (names : List (List ℕ)) (d : Due) → IsBetween d → IsNew names d
between_new names Tensor h = tt
between_new names _ h = elim h [ ]

named : (names : List (List ℕ)) (name other : List ℕ) → other ≡ name → (Contains names name → ⊥) → Contains names other → ⊥
named names name other e new h = new (subst (Contains names) e h)

after_new : (names : List (List ℕ)) (name : List ℕ) (format : TensorFormat) (shape : List ℕ) (parts : List Part) (x : Due) → (Contains names name → ⊥) → IsAfter name format shape parts x → IsNew names x
after_new names name format shape parts (Ptr at) new h = named names name at.name h.name_is new
after_new names name format shape parts (Val at) new h = named names name at.name h.name_is new
after_new names name format shape parts _ new h = elim h [ ]

begun_new : (names : List (List ℕ)) (name : List ℕ) (x : Due) → (Contains names name → ⊥) → IsNextName name x → IsNew names x
begun_new names name (Format other) new h = named names name other h new
begun_new names name _ new h = elim h [ ]

fill_new : (names : List (List ℕ)) (name : List ℕ) (levels : List Level) (x : Due) → (Contains names name → ⊥) → IsNextFill name levels x → IsNew names x
fill_new names name levels (Fill head) new h = named names name head.name h.0 new
fill_new names name levels _ new h = elim h [ ]

shape_new : (names : List (List ℕ)) (name : List ℕ) (levels : List Level) (v : ℤ) (x : Due) → (Contains names name → ⊥) → IsNextShape name levels v x → IsNew names x
shape_new names name levels v (Shape head) new h = named names name head.name h.0 new
shape_new names name levels v _ new h = elim h [ ]

second_new : (names : List (List ℕ)) (name : List ℕ) (draft : Draft) (ptr : List ℕ) (x : Due) → (Contains names name → ⊥) → IsNextSecond name draft ptr x → IsNew names x
second_new names name draft ptr (Second below) new h = named names name below.name h.0.name_is new
second_new names name draft ptr _ new h = elim h [ ]

end_new : (names : List (List ℕ)) (name : List ℕ) (draft : Draft) (val : List ℤ) (x : Due) → (Contains names name → ⊥) → IsNextEnd name draft val x → IsNew names x
end_new names name draft val (End other s) new h = named names name other h.0 new
end_new names name draft val _ new h = elim h [ ]

rest_new : (d : Due) (old : Reader) (line : ℕ) (after : List ℕ) (x : Reader) → IsNew (names_of old) d → IsAfterRest d old line after x → IsNew (names_of x) x.due
rest_new Tensor old line after x new (same, _, _, (name, _, fresh, h)) = subst (λ es. IsNew (keys_of es) x.due) (sym same) (begun_new (names_of old) name x.due fresh h)
rest_new (End name s) old line after x new h = between_new (names_of x) x.due h.1
rest_new (Format name) old line after x new (same, _, _, (ls, _, h)) = subst (λ es. IsNew (keys_of es) x.due) (sym same) (fill_new (names_of old) name ls x.due new h)
rest_new (Fill head) old line after x new (same, _, _, (v, _, h)) = subst (λ es. IsNew (keys_of es) x.due) (sym same) (shape_new (names_of old) head.name head.format.levels v x.due new h)
rest_new (Shape head) old line after x new (same, _, _, (ns, _, _, h)) = subst (λ es. IsNew (keys_of es) x.due) (sym same) (after_new (names_of old) head.name head.format ns [] x.due new h)
rest_new (Ptr at) old line after x new (same, _, _, (ns, _, _, h)) = subst (λ es. IsNew (keys_of es) x.due) (sym same) (second_new (names_of old) at.name at.draft ns x.due new h)
rest_new (Second below) old line after x new (same, _, _, (ns, _, _, h)) =
    subst (λ es. IsNew (keys_of es) x.due) (sym same)
    (after_new (names_of old) below.name below.draft.format below.draft.shape (below.draft.parts ++ part_with (due_level below.draft) below.ptr ns ∷ []) x.due new h)
rest_new (Val at) old line after x new (same, _, _, (vs, _, _, h)) = subst (λ es. IsNew (keys_of es) x.due) (sym same) (end_new (names_of old) at.name at.draft vs x.due new h)

pub reads_new : (text : List ℕ) (first : ℕ) (left : List ℕ) (line : ℕ) (reader : Reader) → Reads text first left line reader → IsNew (names_of reader) reader.due
reads_new text first left line reader (Reads.begin r fresh) = between_new (names_of reader) reader.due fresh.1
reads_new text first left line reader (Reads.next old x bytes rest at before plain comes) = come old at bytes x (reads_new text first (bytes ++ 10 ∷ rest) at old before) comes
  where
    come : (r : Reader) (n : ℕ) (b : List ℕ) (y : Reader) → IsNew (names_of r) r.due → ComesTo r n b y → IsNew (names_of y) y.due
    come r n b y new (ComesTo.skipped h) = new
    come r n b y new (ComesTo.taken z looked h) = rest_new r.due r n h.after y new h.rest
