-- How what is reached moves on by a phrase, and ends.
use Rattle.std.proofs.Common.{◌≡◌, List, [], ◌∷◌, ◌++◌, Bool, false, Result, Err, refl, sym, ap, ◌∙◌, subst, append_assoc, arith}
use Rattle.std.proofs.lemmas.List.{append_cancel_left}
use Rattle.fin_lex.specs.declared.token.Token.{Token}
use Rattle.fin_parse.specs.declared.class.Class.{Class}
use Rattle.fin_parse.specs.declared.tree.Room.{Room}
use Rattle.fin_parse.specs.declared.tree.Stop.{Stop}
use Rattle.fin_parse.specs.declared.tree.Stop.TheVariants.{Unexpected, Deep, Crowded, Memory}
use Rattle.fin_parse.specs.Syntax.{Sign, real, beyond, signs, look}
use Rattle.fin_parse.specs.Reading.{Kind, Ended, AtLeast, Reached, Refused, TooDeep, Along, Outcome}

pub nil-append : {T : Type 0} (x : List T) → x ++ [] ≡ x
nil-append [] = refl
nil-append (t ∷ x) = ap (λ y. t ∷ y) (nil-append x)

pub signs-append : (a b : List Token) → signs (a ++ b) ≡ signs a ++ signs b
signs-append [] b = refl
signs-append (t ∷ a) b = ap (λ q. real t ∷ q) (signs-append a b)

pub look-append : (x a b : List Sign) → look a ≡ look b → look (x ++ a) ≡ look (x ++ b)
look-append [] a b h = h
look-append (real t ∷ x) a b h = refl
look-append (beyond o ∷ x) a b h = refl

pub same_room : (n : Room) → AtLeast n n
same_room n = record { headers = omega arith; levels = omega arith; loops = omega arith }

-- the look of a text that goes on as old does
pub looks_as : (old new taken : List Token) (p r after : List Sign) → old ≡ taken ++ new → p ++ r ≡ signs taken ++ after → look after ≡ look (signs new) → look (p ++ r) ≡ look (signs old)
looks_as old new taken p r after split same next =
    ap look same ∙ look-append (signs taken) after (signs new) next ∙ ap look (sym (signs-append taken new)) ∙ ap (λ q. look (signs q)) (sym split)

left_over : (x p r after z : List Sign) → p ++ r ≡ x ++ after → p ≡ x ++ z → z ++ r ≡ after
left_over x p r after z same is = append_cancel_left x (z ++ r) after (sym (append_assoc x z r) ∙ sym (ap (λ q. q ++ r) is) ∙ same)

module _ {A : Type 0} (N : Kind A) (n : Room) (c : Class → Bool) where
  pub begin : (old : List Token) → Along N n c old old N
  begin old = record { taken = []; split = refl; reached = record { build = λ z e h. h; only = λ k p r after e al h stops same next. (p, refl, h) } }

  pub decide : (M M' : Kind A) (old new : List Token) → Along N n c old new M
      → ((z : List Sign) (e : A) → M' n z e → M n z e)
      → ((k : Room) (z r : List Sign) (e : A) → M k z e → c (look r) ≡ false → look (z ++ r) ≡ look (signs new) → M' k z e)
      → Along N n c old new M'
  decide M M' old new a up down = record {
    taken = a.taken;
    split = a.split;
    reached = record {
      build = λ z e m. a.reached.build z e (up z e m);
      only = λ k p r after e al h stops same next.
          let o = a.reached.only k p r after e al h stops same next in
          (o.0, o.1, down k o.0 r e o.2 stops (ap look (left_over (signs a.taken) p r after o.0 same o.1) ∙ next));
    };
  }

-- M k is a phrase of B and then, by its value, M' k
pub record Sequence {A C : Type 0} (n : Room) (c : Class → Bool) (M : Kind A) (B : Kind C) (d : Class → Bool) (M' : C → Kind A) : Type 0 where
  pub join : (u v : List Sign) (b : C) (e : A) → B n u b → M' b n v e → M n (u ++ v) e
  pub parts : (k : Room) (z : List Sign) (e : A) → M k z e → (u v : List Sign) × (b : C) × (z ≡ u ++ v) × B k u b × M' b k v e
  pub follow : (k : Room) (v r : List Sign) (b : C) (e : A) → M' b k v e → c (look r) ≡ false → d (look (v ++ r)) ≡ false

module _ {A C : Type 0} (N M : Kind A) (n : Room) (c : Class → Bool) (B : Kind C) (d : Class → Bool) (M' : C → Kind A) (q : Sequence n c M B d M') (x w left : List Sign) (h : Reached N n c x (w ++ left) M) where
  by_phrase : (b : C) → Reached B n d w left (Ended b) → Reached N n c (x ++ w) left (M' b)
  by_phrase b s = record {
    build = λ z e m. subst (λ l. N n l e) (sym (append_assoc x w z)) (h.build (w ++ z) e (q.join w z b e (subst (λ l. B n l b) (nil-append w) (s.build [] b (refl, refl))) m));
    only = λ k p r after e al a stops same next.
        let same' : p ++ r ≡ x ++ (w ++ after) = same ∙ append_assoc x w after in
        let o = h.only k p r (w ++ after) e al a stops same' (look-append w after left next) in
        let f = q.parts k o.0 e o.2 in
        let inner : f.0 ++ (f.1 ++ r) ≡ w ++ after = sym (append_assoc f.0 f.1 r) ∙ sym (ap (λ l. l ++ r) f.3) ∙ left_over x p r (w ++ after) o.0 same' o.1 in
        let i = s.only k f.0 (f.1 ++ r) after f.2 al f.4 (q.follow k f.1 r f.2 e f.5 stops) inner next in
        let u_is : f.0 ≡ w = i.1 ∙ ap (λ l. w ++ l) i.2.0 ∙ nil-append w in
        (f.1, o.1 ∙ ap (λ l. x ++ l) (f.3 ∙ ap (λ l. l ++ f.1) u_is) ∙ sym (append_assoc x w f.1), subst (λ l. M' l k f.1 e) i.2.1 f.5);
  }

  -- a text that begins with x and w begins a phrase of B with w
  inside : (k : Room) (p r after : List Sign) (e : A) → AtLeast n k → N k p e → c (look r) ≡ false → p ++ r ≡ (x ++ w) ++ after → look after ≡ look left
      → (u r' : List Sign) × (b : C) × B k u b × (d (look r') ≡ false) × (u ++ r' ≡ w ++ after)
  inside k p r after e al a stops same next =
      let same' : p ++ r ≡ x ++ (w ++ after) = same ∙ append_assoc x w after in
      let o = h.only k p r (w ++ after) e al a stops same' (look-append w after left next) in
      let f = q.parts k o.0 e o.2 in
      (f.0, f.1 ++ r, f.2, f.4, q.follow k f.1 r f.2 e f.5 stops, sym (append_assoc f.0 f.1 r) ∙ sym (ap (λ l. l ++ r) f.3) ∙ left_over x p r (w ++ after) o.0 same' o.1)

  phrase_refused : Refused B n d w left → ((b : C) → (v : List Sign) × (e : A) × M' b n v e) → Refused N n c (x ++ w) left
  phrase_refused s ending = record {
    none = λ k p r after e al a stops same next.
        let i = inside k p r after e al a stops same next in
        s.none k i.0 i.1 after i.2 al i.3 i.4 i.5 next;
    some =
        let t = s.some in
        let i = ending t.1 in
        let same : x ++ ((w ++ t.0) ++ i.0) ≡ (x ++ w) ++ (t.0 ++ i.0) = ap (λ l. x ++ l) (append_assoc w t.0 i.0) ∙ sym (append_assoc x w (t.0 ++ i.0)) in
        (t.0 ++ i.0, i.1, subst (λ l. N n l i.1) same (h.build ((w ++ t.0) ++ i.0) i.1 (q.join (w ++ t.0) i.0 t.1 i.1 t.2 i.2)));
  }

  phrase_too_deep : TooDeep B n d w left → ((b : C) → (v : List Sign) × (e : A) × M' b n v e) → TooDeep N n c (x ++ w) left
  phrase_too_deep s ending = record {
    none = λ p r after e a stops same next is_real.
        let i = inside n p r after e (same_room n) a stops same next in
        s.none i.0 i.1 after i.2 i.3 i.4 i.5 next is_real;
    some =
        let t = s.some in
        let i = ending t.2 in
        let rest = beyond t.0 ∷ t.1 in
        let same : x ++ ((w ++ rest) ++ i.0) ≡ (x ++ w) ++ (rest ++ i.0) = ap (λ l. x ++ l) (append_assoc w rest i.0) ∙ sym (append_assoc x w (rest ++ i.0)) in
        (t.0, t.1 ++ i.0, i.1, t.3, subst (λ l. N n l i.1) same (h.build ((w ++ rest) ++ i.0) i.1 (q.join (w ++ rest) i.0 t.2 i.1 t.4 i.2)));
  }

module _ {A C : Type 0} (N M : Kind A) (n : Room) (c : Class → Bool) (B : Kind C) (d : Class → Bool) (M' : C → Kind A) (q : Sequence n c M B d M') (old mid new : List Token) (a : Along N n c old mid M) where
  at_split : (w : List Token) → mid ≡ w ++ new → Reached N n c (signs a.taken) (signs w ++ signs new) M
  at_split w is = subst (λ l. Reached N n c (signs a.taken) l M) (ap signs is ∙ signs-append w new) a.reached

  whole_split : (w : List Token) → mid ≡ w ++ new → old ≡ (a.taken ++ w) ++ new
  whole_split w is = a.split ∙ ap (λ l. a.taken ++ l) is ∙ sym (append_assoc a.taken w new)

  pub phrase_read : (b : C) → Along B n d mid new (Ended b) → Along N n c old new (M' b)
  phrase_read b s = record {
    taken = a.taken ++ s.taken;
    split = whole_split s.taken s.split;
    reached = subst (λ l. Reached N n c l (signs new) (M' b)) (sym (signs-append a.taken s.taken))
        (by_phrase N M n c B d M' q (signs a.taken) (signs s.taken) (signs new) (at_split s.taken s.split) b s.reached);
  }

  pub phrase_fails : (f : Stop) → Outcome B n d mid new (Err f) → ((b : C) → (v : List Sign) × (e : A) × M' b n v e) → Outcome N n c old new (Err f)
  phrase_fails Unexpected s ending = record {
    taken = a.taken ++ s.taken;
    split = whole_split s.taken s.split;
    refused = subst (λ l. Refused N n c l (signs new)) (sym (signs-append a.taken s.taken))
        (phrase_refused N M n c B d M' q (signs a.taken) (signs s.taken) (signs new) (at_split s.taken s.split) s.refused ending);
  }
  phrase_fails Deep s ending = record {
    taken = a.taken ++ s.taken;
    split = whole_split s.taken s.split;
    deep = subst (λ l. TooDeep N n c l (signs new)) (sym (signs-append a.taken s.taken))
        (phrase_too_deep N M n c B d M' q (signs a.taken) (signs s.taken) (signs new) (at_split s.taken s.split) s.deep ending);
  }
  phrase_fails Crowded s ending = s
  phrase_fails (Memory m) s ending = tt

-- ---- a phrase that is a whole phrase of another kind

-- each phrase of N', before a token of the class l, is a phrase of N with as much room as g leaves
pub record Through {A B : Type 0} (N : Kind A) (g : Room → Room) (c : Class → Bool) (N' : Kind B) (n : Room) (c' : Class → Bool) (f : A → B) (l : Class) : Type 0 where
  pub to : (p : List Sign) (e : A) → N (g n) p e → N' n p (f e)
  pub back : (k : Room) (p r : List Sign) (e' : B) → AtLeast n k → N' k p e' → c' (look r) ≡ false → look (p ++ r) ≡ l → (e : A) × (e' ≡ f e) × N (g k) p e
  pub rise : (k : Room) → AtLeast n k → AtLeast (g n) (g k)
  pub stops : (d : Class) → c' d ≡ false → c d ≡ false

module _ {A B : Type 0} (N : Kind A) (g : Room → Room) (c : Class → Bool) (N' : Kind B) (n : Room) (c' : Class → Bool) (f : A → B) (old new : List Token) (q : Through N g c N' n c' f (look (signs old))) where
  pub through : (e : A) → Along N (g n) c old new (Ended e) → Along N' n c' old new (Ended (f e))
  through e a = record {
    taken = a.taken;
    split = a.split;
    reached = record {
      build = λ z e' m. subst (λ w. N' n (signs a.taken ++ z) w) (sym m.1) (q.to (signs a.taken ++ z) e (a.reached.build z e (m.0, refl)));
      only = λ k p r after e' al h stops same next.
          let b = q.back k p r e' al h stops (looks_as old new a.taken p r after a.split same next) in
          let o = a.reached.only (g k) p r after b.0 (q.rise k al) b.2 (q.stops (look r) stops) same next in
          (o.0, o.1, (o.2.0, b.1 ∙ ap f o.2.1));
    };
  }

  pub through_fails : (s : Stop) → Outcome N (g n) c old new (Err s) → Outcome N' n c' old new (Err s)
  through_fails Unexpected a = record {
    taken = a.taken;
    split = a.split;
    refused = record {
      none = λ k p r after e' al h stops same next.
          let b = q.back k p r e' al h stops (looks_as old new a.taken p r after a.split same next) in
          a.refused.none (g k) p r after b.0 (q.rise k al) b.2 (q.stops (look r) stops) same next;
      some = let t = a.refused.some in (t.0, f t.1, q.to (signs a.taken ++ t.0) t.1 t.2);
    };
  }
  through_fails Deep a = record {
    taken = a.taken;
    split = a.split;
    deep = record {
      none = λ p r after e' h stops same next is_real.
          let b = q.back n p r e' (same_room n) h stops (looks_as old new a.taken p r after a.split same next) in
          a.deep.none p r after b.0 b.2 (q.stops (look r) stops) same next is_real;
      some = let t = a.deep.some in (t.0, t.1, f t.2, t.3, q.to (signs a.taken ++ (beyond t.0 ∷ t.1)) t.2 t.4);
    };
  }
  through_fails Crowded a = a
  through_fails (Memory m) a = tt

-- ---- how the outcome of a call becomes that of its caller

module _ {A : Type 0} (N : Kind A) (n : Room) (c : Class → Bool) (old : List Token) where
  pub fails_as : (new : List Token) (r : Result A Stop) (f : Stop) → r ≡ Err f → Outcome N n c old new (Err f) → Outcome N n c old new r
  fails_as new r f is h = subst (λ q. Outcome N n c old new q) (sym is) h
