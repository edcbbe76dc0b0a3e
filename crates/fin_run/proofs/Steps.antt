-- Single statements: what regular ones are asked for, and what they leave.
use Rattle.std.proofs.Common.{◌≡◌, ℕ, ◌+◌, ◌<◌, ◌≤◌, ◌^◌, Bool, true, false, List, [], ◌∷◌, map, length, refl, sym, ap, ◌∙◌, subst, ℤ, pos, negsuc, arith, Option, Some, None, get_or, ◌++◌, take, SFits, Fits, T, w64, to_z, of_z}
use Rattle.std.specs.Prelude.{slice_get, slice_set, if◌then◌else◌, nat_abs, OnOk, Ok, Err, Result, nat_lt, ◌&&◌}
use Rattle.std.specs.declared.alloc.AllocError.{AllocError}
use lib.Signed.{non_neg}
use Rattle.std.proofs.lemmas.Int.{to_z-of_z}
use Rattle.std.proofs.lemmas.Bool.{and_parts}
use Rattle.std.proofs.lemmas.Option.{get_or_from_slice_get}
use Rattle.fin_tensor.specs.declared.format.Format.{Format}
use Rattle.fin_ir.specs.CanBuild.{can_build}
use Rattle.fin_ir.proofs.Builds.{builds}
use Rattle.std.proofs.lemmas.List.{map-set, set-set, get_or-map, length-map, map-append, take_more}
use Rattle.fin_base.specs.declared.reduce.Reduce.{Reduce}
use Rattle.fin_tensor.specs.declared.storage.Storage.{Storage}
use Rattle.fin_tensor.specs.Building.{Building, no_format, started, CanBuild}
use Rattle.fin_ir.specs.declared.layout.Layout.{Layout}
use Rattle.fin_ir.specs.Frozen.{Frozen, frozen_of, canon, is_large}
use Rattle.fin_ir.specs.Machine.{Tensor, nothing, building, stored, held, Effect, Machine, refused, set_tensor, with_first, coordinates, can_update, put, listed, changed_by, update_at, update, can_declare, format_at, shape_at, declare, cut_off, frozen_at, freeze, thawed, thawed_at, thaw, is_made}
use Rattle.fin_ir.specs.Start.{given_if}
use Rattle.fin_run.specs.declared.state.Held.{Held}
use Rattle.fin_run.specs.declared.state.Held.TheVariants as h
use Rattle.fin_run.specs.declared.state.State.{State}
use Rattle.fin_run.specs.declared.statements.Change.{Change}
use Rattle.fin_run.specs.States.{tensor_of, tensors_of, machine}
use Rattle.fin_run.specs.Storages.{storage_if, storage_in}
use Rattle.fin_run.specs.Ends.{joined}
use Rattle.fin_run.proofs.Reading.{held_is, tensor_if}

-- ---- coordinates

first_points : (c : ℕ) (o : Option (List ℕ)) (cs : List ℕ) → with_first c o ≡ Some cs → (ds : List ℕ) × (o ≡ Some ds) × (cs ≡ c ∷ ds)
first_points c None cs e = cc
first_points c (Some ds) cs e = (ds, refl, (cc))

pub points_of : (zs : List ℤ) (cs : List ℕ) → coordinates zs ≡ Some cs → zs ≡ map pos cs
points_of [] [] e = refl
points_of [] (c ∷ cs) e = cc
points_of (pos c ∷ zs) cs e = let q = first_points c (coordinates zs) cs e in ap (λ l. pos c ∷ l) (points_of zs q.0 q.1) ∙ ap (map pos) (sym q.2)
points_of (negsuc c ∷ zs) cs e = cc

pub of_points : (cs : List ℕ) → coordinates (map pos cs) ≡ Some cs
of_points [] = refl
of_points (c ∷ cs) = ap (with_first c) (of_points cs)

-- ---- what is held

given_builder : (o : Option Storage) (b : Building) → given_if o ≡ building b → ⊥
given_builder None b e = cc
given_builder (Some s) b e = cc

builder_of : (inputs : List Storage) (o : Option Held) (b : Building) → tensor_if inputs o ≡ building b → o ≡ Some (h.Building b)
builder_of inputs None b e = cc
builder_of inputs (Some h.Nothing) b e = cc
builder_of inputs (Some (h.Lent k)) b e = absurd (given_builder (slice_get inputs k) b e)
builder_of inputs (Some (h.Building x)) b e = cc
builder_of inputs (Some (h.Frozen s)) b e = cc

given_storage : (o : Option Storage) (f : Frozen) → given_if o ≡ stored f → (s : Storage) × (o ≡ Some s) × (frozen_of s ≡ f)
given_storage None f e = cc
given_storage (Some s) f e = (s, refl, (cc))

storage_held : (inputs : List Storage) (o : Option Held) (f : Frozen) → tensor_if inputs o ≡ stored f → (s : Storage) × (storage_if inputs o ≡ Some s) × (frozen_of s ≡ f)
storage_held inputs None f e = cc
storage_held inputs (Some h.Nothing) f e = cc
storage_held inputs (Some (h.Lent k)) f e = given_storage (slice_get inputs k) f e
storage_held inputs (Some (h.Building x)) f e = cc
storage_held inputs (Some (h.Frozen s)) f e = (s, refl, (cc))

given_is : (o : Option Storage) (st : Storage) → o ≡ Some st → given_if o ≡ stored (frozen_of st)
given_is o st e = ap given_if e

stored_held : (inputs : List Storage) (o : Option Held) (st : Storage) → storage_if inputs o ≡ Some st → tensor_if inputs o ≡ stored (frozen_of st)
stored_held inputs None st e = cc
stored_held inputs (Some h.Nothing) st e = cc
stored_held inputs (Some (h.Lent k)) st e = given_is (slice_get inputs k) st e
stored_held inputs (Some (h.Building x)) st e = cc
stored_held inputs (Some (h.Frozen x)) st e = let same : x ≡ st = cc in ap (λ y. stored (frozen_of y)) same

module _ (inputs : List Storage) (hs : List Held) (t : ℕ) where
  pub storage_is_held : (st : Storage) → storage_in inputs hs t ≡ Some st → held (tensors_of inputs hs) t ≡ stored (frozen_of st)
  storage_is_held st e = held_is inputs hs t ∙ stored_held inputs (slice_get hs t) st e

  pub held_builder : (b : Building) → held (tensors_of inputs hs) t ≡ building b → slice_get hs t ≡ Some (h.Building b)
  held_builder b e = builder_of inputs (slice_get hs t) b (sym (held_is inputs hs t) ∙ e)

  pub builder_held : (b : Building) → slice_get hs t ≡ Some (h.Building b) → held (tensors_of inputs hs) t ≡ building b
  builder_held b e = held_is inputs hs t ∙ ap (tensor_if inputs) e

  pub held_storage : (f : Frozen) → held (tensors_of inputs hs) t ≡ stored f → (s : Storage) × (storage_in inputs hs t ≡ Some s) × (frozen_of s ≡ f)
  held_storage f e = storage_held inputs (slice_get hs t) f (sym (held_is inputs hs t) ∙ e)

  pub set_is : (new : List Held) (x : Held) → new ≡ slice_set hs t x → tensors_of inputs new ≡ slice_set (tensors_of inputs hs) t (tensor_of inputs x)
  set_is new x e = ap (tensors_of inputs) e ∙ map-set (tensor_of inputs) hs t x

-- ---- what regular statements are asked for

asked : (b : Bool) (m n : Machine) → (if b then n else refused m).regular ≡ true → b ≡ true
asked true m n e = refl
asked false m n e = cc

build_asks : (t : ℕ) (x : Tensor) (m : Machine) → (frozen_at t x m).regular ≡ true → (b : Building) × (x ≡ building b)
build_asks t nothing m e = cc
build_asks t (building b) m e = (b, refl)
build_asks t (stored f) m e = cc

store_asks : (layout : Layout) (t : ℕ) (x : Tensor) (m : Machine) → (thawed_at layout t x m).regular ≡ true → (f : Frozen) × (x ≡ stored f) × (is_made layout t ≡ true)
store_asks layout t nothing m e = cc
store_asks layout t (building b) m e = cc
store_asks layout t (stored f) m e = (f, refl, asked (is_made layout t) m (set_tensor t (building (thawed f)) m) e)

put_asks : (e : Effect) (x : Tensor) (m : Machine) → m.shared ≡ [] → (changed_by e x m).regular ≡ true → (b : Building) × (x ≡ building b) × (can_update b e.at ≡ true)
put_asks e nothing m none r = let gone : (refused m).regular ≡ true = subst (λ (ts : List Tensor). (listed e (held ts e.tensor) m).regular ≡ true) none r in cc
put_asks e (building b) m none r = (b, refl, asked (can_update b e.at) m (set_tensor e.tensor (building (put e b)) m) r)
put_asks e (stored f) m none r = cc

point_asks : (t : ℕ) (o : Option (List ℕ)) (by : Reduce) (v : ℤ) (m : Machine) → m.shared ≡ [] → (update_at t o by v m).regular ≡ true → (cs : List ℕ) × (b : Building) × (o ≡ Some cs) × (held m.tensors t ≡ building b) × (can_update b cs ≡ true)
point_asks t None by v m none r = cc
point_asks t (Some cs) by v m none r = let q = put_asks (record { tensor = t; at = cs; by = by; value = v }) (held m.tensors t) m none r in (cs, q.0, refl, q.1, q.2)

module _ (inputs : List Storage) (s : State) (n : ℕ) where
  pub declare_asks : (layout : Layout) (t : ℕ) → (declare layout t (machine inputs s n)).regular ≡ true → can_declare layout t ≡ true
  declare_asks layout t r = asked (can_declare layout t) (machine inputs s n) (set_tensor t (building (started (format_at layout t) (shape_at layout t))) (machine inputs s n)) r

  pub freeze_asks : (t : ℕ) → (freeze t (machine inputs s n)).regular ≡ true → (b : Building) × (slice_get s.tensors.items t ≡ Some (h.Building b))
  freeze_asks t r = let q = build_asks t (held (tensors_of inputs s.tensors.items) t) (machine inputs s n) r in (q.0, held_builder inputs s.tensors.items t q.0 q.1)

  pub thaw_asks : (layout : Layout) (t : ℕ) → (thaw layout t (machine inputs s n)).regular ≡ true → (st : Storage) × (storage_in inputs s.tensors.items t ≡ Some st)
  thaw_asks layout t r =
      let q = store_asks layout t (held (tensors_of inputs s.tensors.items) t) (machine inputs s n) r in
      let p = held_storage inputs s.tensors.items t q.0 q.1 in (p.0, p.1)

  pub made_asks : (layout : Layout) (t : ℕ) → (thaw layout t (machine inputs s n)).regular ≡ true → is_made layout t ≡ true
  made_asks layout t r = (store_asks layout t (held (tensors_of inputs s.tensors.items) t) (machine inputs s n) r).2

  pub update_asks : (t : ℕ) (zs : List ℤ) (by : Reduce) (v : ℤ) → (update t zs by v (machine inputs s n)).regular ≡ true → (cs : List ℕ) × (b : Building) × (coordinates zs ≡ Some cs) × (slice_get s.tensors.items t ≡ Some (h.Building b)) × (can_update b cs ≡ true)
  update_asks t zs by v r =
      let q = point_asks t (coordinates zs) by v (machine inputs s n) refl r in
      (q.0, q.1, q.2, held_builder inputs s.tensors.items t q.1 q.3, q.4)

-- ---- what they leave

yes_does : (b : Bool) (m n : Machine) → b ≡ true → (if b then n else m) ≡ n
yes_does true m n e = refl
yes_does false m n e = cc

no_does : (b : Bool) (m n : Machine) → b ≡ false → (if b then n else m) ≡ m
no_does true m n e = cc
no_does false m n e = refl

module _ (inputs : List Storage) (s : State) (n : ℕ) (new : List Held) where
  abbrev pub with_held : Machine
  with_held = record (machine inputs s n) { tensors = tensors_of inputs new }

  set_does : (t : ℕ) (x : Held) → new ≡ slice_set s.tensors.items t x → with_held ≡ set_tensor t (tensor_of inputs x) (machine inputs s n)
  set_does t x e = ap (λ (ts : List Tensor). record (machine inputs s n) { tensors = ts }) (set_is inputs s.tensors.items t new x e)

  pub declare_does : (layout : Layout) (t : ℕ) (b : Building) → can_declare layout t ≡ true → b ≡ started (format_at layout t) (shape_at layout t) → new ≡ slice_set s.tensors.items t (h.Building b) → with_held ≡ declare layout t (machine inputs s n)
  declare_does layout t b can eb e =
      set_does t (h.Building b) e ∙ ap (λ (x : Building). set_tensor t (building x) (machine inputs s n)) eb
      ∙ sym (yes_does (can_declare layout t) (refused (machine inputs s n)) (set_tensor t (building (started (format_at layout t) (shape_at layout t))) (machine inputs s n)) can)

  pub freeze_does : (t : ℕ) (b : Building) (st : Storage) → slice_get s.tensors.items t ≡ Some (h.Building b) → is_large b ≡ false → frozen_of st ≡ canon b → new ≡ slice_set s.tensors.items t (h.Frozen st) → with_held ≡ freeze t (machine inputs s n)
  freeze_does t b st eb small ef e =
      let m = machine inputs s n in
      set_does t (h.Frozen st) e ∙ ap (λ (f : Frozen). set_tensor t (stored f) m) ef
      ∙ sym (no_does (is_large b) (set_tensor t (stored (canon b)) m) (cut_off m) small) ∙ ap (λ x. frozen_at t x m) (sym (builder_held inputs s.tensors.items t b eb))

  pub thaw_does : (layout : Layout) (t : ℕ) (b : Building) (st : Storage) → is_made layout t ≡ true → storage_in inputs s.tensors.items t ≡ Some st → b ≡ thawed (frozen_of st) → new ≡ slice_set s.tensors.items t (h.Building b) → with_held ≡ thaw layout t (machine inputs s n)
  thaw_does layout t b st made es eb e =
      let m = machine inputs s n in
      set_does t (h.Building b) e ∙ ap (λ (x : Building). set_tensor t (building x) m) eb
      ∙ sym (yes_does (is_made layout t) (refused m) (set_tensor t (building (thawed (frozen_of st))) m) made)
      ∙ ap (λ x. thawed_at layout t x m) (sym (storage_is_held inputs s.tensors.items t st es))

  pub update_does : (t : ℕ) (zs : List ℤ) (cs : List ℕ) (c : Change) (b : Building) → map pos cs ≡ zs → slice_get s.tensors.items t ≡ Some (h.Building b) → can_update b cs ≡ true → new ≡ slice_set s.tensors.items t (h.Building (joined c cs b)) → with_held ≡ update t zs c.by c.value (machine inputs s n)
  update_does t zs cs c b ez eb can e =
      let m = machine inputs s n in
      let change : Effect = record { tensor = t; at = cs; by = c.by; value = c.value } in
      set_does t (h.Building (joined c cs b)) e
      ∙ sym (yes_does (can_update b cs) (refused m) (set_tensor t (building (joined c cs b)) m) can)
      ∙ ap (λ x. changed_by change x m) (sym (builder_held inputs s.tensors.items t b eb))
      ∙ ap (λ o. update_at t o c.by c.value m) (sym (ap coordinates (sym ez) ∙ of_points cs))

pub freeze_over : (inputs : List Storage) (s : State) (n t budget : ℕ) (b : Building) → slice_get s.tensors.items t ≡ Some (h.Building b) → is_large b ≡ true → budget ≤ 2 ^ 40 → budget < (freeze t (machine inputs s n)).charges
freeze_over inputs s n t budget b eb large le =
    let m = machine inputs s n in
    let same : freeze t m ≡ cut_off m = ap (λ x. frozen_at t x m) (builder_held inputs s.tensors.items t b eb) ∙ yes_does (is_large b) (set_tensor t (stored (canon b)) m) (cut_off m) large in
    let charged : (freeze t m).charges ≡ s.work + (2 ^ 40 + 1) = ap (λ (x : Machine). x.charges) same in
    omega arith

-- ---- parts of answers

pub here_is : (hs : List Held) (t : ℕ) (x y : Held) → x ≡ get_or hs t x → slice_get hs t ≡ Some y → x ≡ y
here_is hs t x y e f = e ∙ get_or_from_slice_get hs t y x f

pub on_ok : (r : Result (Unit {0}) AllocError) (P Q : Type 0) → (P → Q) → OnOk r P → OnOk r Q
on_ok (Ok u) P Q f p = f p
on_ok (Err x) P Q f p = p

pub set_same : (hs : List Held) (t : ℕ) (x y : Held) → x ≡ y → slice_set hs t x ≡ slice_set hs t y
set_same hs t x y e = ap (slice_set hs t) e

pub set_twice : (hs : List Held) (t : ℕ) (x y : Held) (mid new : List Held) → mid ≡ slice_set hs t x → new ≡ slice_set mid t y → new ≡ slice_set hs t y
set_twice hs t x y mid new e f = f ∙ ap (λ (l : List Held). slice_set l t y) e ∙ set-set hs t x y

pub declare_builds : (layout : Layout) (t : ℕ) (f : Format) (ns : List ℕ) → can_declare layout t ≡ true → slice_get layout.formats t ≡ Some f → slice_get layout.shapes t ≡ Some ns → CanBuild f ns
declare_builds layout t f ns can ef en =
    let p = and_parts (is_made layout t && nat_lt t (length layout.formats) && nat_lt t (length layout.shapes)) (can_build (format_at layout t) (shape_at layout t)) can in
    subst (λ (g : Format). CanBuild g ns) (get_or_from_slice_get layout.formats t f no_format ef)
    (subst (λ (ms : List ℕ). CanBuild (format_at layout t) ms) (get_or_from_slice_get layout.shapes t ns [] en) (builds (format_at layout t) (shape_at layout t) p.1))

pub nth_point : {A : Type 0} (f : A → ℤ) (xs : List A) (cs : List ℕ) (i : ℕ) (x : A) → map f xs ≡ map pos cs → i < length xs → x ≡ get_or xs i x → f x ≡ pos (get_or cs i 0)
nth_point f xs cs i x e lt ex =
    let long : length (map f xs) ≡ length (map pos cs) = ap length e in
    ap f ex ∙ sym (get_or-map f xs i x (pos 0) lt) ∙ ap (λ l. get_or l i (pos 0)) e ∙ get_or-map pos cs i 0 (pos 0) (let a = length-map xs f in let b = length-map cs pos in omega arith)

pub point_fits : (v : ℤ) (k : ℕ) → SFits w64 v → v ≡ pos k → T (non_neg (to_z w64 (of_z w64 v))) × Fits w64 (nat_abs (to_z w64 (of_z w64 v)))
point_fits v k f e =
    let back : to_z w64 (of_z w64 v) ≡ pos k = to_z-of_z w64 v f ∙ e in
    let g : SFits w64 (pos k) = subst (SFits w64) e f in
    let small : k < 2 ^ 63 = g.sfits in
    subst (λ (z : ℤ). T (non_neg z) × Fits w64 (nat_abs z)) (sym back) (tt, record { fits = omega arith })

pub point_is : (v : ℤ) (k : ℕ) → SFits w64 v → v ≡ pos k → pos (nat_abs (to_z w64 (of_z w64 v))) ≡ v
point_is v k f e = ap (λ z. pos (nat_abs z)) (to_z-of_z w64 v f ∙ e) ∙ sym e

pub more_points : {A : Type 0} (f : A → ℤ) (xs : List A) (i : ℕ) (x : A) (coords new : List ℕ) (n : ℕ) → map pos coords ≡ take i (map f xs) → i < length xs → x ≡ get_or xs i x → pos n ≡ f x → new ≡ coords ++ n ∷ [] → map pos new ≡ take (i + 1) (map f xs)
more_points f xs i x coords new n e lt ex en enew =
    ap (map pos) enew ∙ map-append pos coords (n ∷ []) ∙ ap (λ l. l ++ pos n ∷ []) e
    ∙ ap (λ z. take i (map f xs) ++ z ∷ []) (en ∙ ap f ex ∙ sym (get_or-map f xs i x (pos 0) lt))
    ∙ sym (take_more (map f xs) i (pos 0) (let a = length-map xs f in omega arith))

pub same_points : (cs ds : List ℕ) (zs : List ℤ) → map pos cs ≡ zs → coordinates zs ≡ Some ds → cs ≡ ds
same_points cs ds zs e f = let g : Some cs ≡ Some ds = sym (of_points cs) ∙ ap coordinates e ∙ f in cc
