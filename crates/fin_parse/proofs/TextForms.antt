-- What is read of a whole text.
use Rattle.std.proofs.Common.{◌≡◌, ◌+◌, ◌<◌, ◌≤◌, true, false, List, [], ◌∷◌, ◌++◌, Err, length, length-append, refl, sym, ap, ◌∙◌, subst, append_assoc, inl, inr, arith}
use Rattle.std.proofs.lemmas.List.{append_cancel_left}
use Rattle.fin_lex.specs.declared.token.Token.{Token}
use Rattle.fin_parse.specs.declared.class.Class.{Class}
use Rattle.fin_parse.specs.declared.class.Class.TheVariants as class
use Rattle.fin_parse.specs.declared.grammar.Phrase.TheVariants.{Header, Stmt}
use Rattle.fin_parse.specs.declared.grammar.Symbol.TheVariants.{Many, One}
use Rattle.fin_parse.specs.declared.tree.Tree.{Tree}
use Rattle.fin_parse.specs.declared.tree.Room.{Room}
use Rattle.fin_parse.specs.declared.tree.Stop.{Stop}
use Rattle.fin_parse.specs.declared.tree.Stop.TheVariants.{Unexpected, Deep, Crowded, Memory}
use Rattle.fin_parse.specs.declared.trees.Text.{Text}
use Rattle.fin_parse.specs.Choices.{begins, goes_on, continues}
use Rattle.fin_parse.specs.Syntax.{Sign, signs, look, IsTree, IsGroup, none, more}
use Rattle.fin_parse.specs.Reading.{Kind, Ended, AtLeast, Along, Outcome, Trees, Groups}
use Rattle.fin_parse.specs.Text.{AreHeaders, Headers, Texts, is_inside, HeadersFrom, goes_on_headers, Gathered, IsWhole, TextRead}
use Rattle.fin_parse.proofs.Table.{impossible, header_apart, header_clear}
use Rattle.fin_parse.proofs.Leads.{group_leads}
use Rattle.fin_parse.proofs.Steps.{nil-append, begin, decide, same_room, Sequence, phrase_read, phrase_fails}
use Rattle.fin_parse.proofs.Symbols.{not_true, one_begins, follow, stops_many}

abbrev header_stops : (d : Class) → continues (Many Header) d ≡ false → (begins Header d ≡ false) × (goes_on Header d ≡ false)
header_stops = stops_many Header

-- ---- headers

abbrev OneHeader : List Tree → Kind (List Tree)
OneHeader all k z e = (x y : List Sign) × (u : Tree) × (z ≡ x ++ y) × IsTree k (One Header) x u × HeadersFrom (all ++ u ∷ []) k y e

pub headers_start : (k : Room) (old : List Token) → Along Headers k goes_on_headers old old (HeadersFrom [])
headers_start k old = decide Headers k goes_on_headers Headers (HeadersFrom []) old old (begin Headers k goes_on_headers old)
    (λ z e m. record { group = subst (λ q. IsGroup k Header z q) (sym m.1) m.2; few = m.3 }) (λ j z r e m s next. (e, refl, m.group, m.few))

headers_go : (k : Room) (old mid : List Token) (all : List Tree) → Along Headers k goes_on_headers old mid (HeadersFrom all) → begins Header (look (signs mid)) ≡ true → Along Headers k goes_on_headers old mid (OneHeader all)
headers_go k old mid all s goes = decide Headers k goes_on_headers (HeadersFrom all) (OneHeader all) old mid s up (λ j z r e m stop next. down j z r e m.0 m.1 m.2 m.3 stop next)
  where
    up : (z : List Sign) (e : List Tree) → OneHeader all k z e → HeadersFrom all k z e
    up z e (x, y, u, q, h, m) = (u ∷ m.0, m.1 ∙ append_assoc all (u ∷ []) m.0, subst (λ w. IsGroup k Header w (u ∷ m.0)) (sym q) (more h m.2), m.3)

    down : (j : Room) (z r : List Sign) (e us : List Tree) → e ≡ all ++ us → IsGroup j Header z us → length e ≤ j.headers → goes_on_headers (look r) ≡ false → look (z ++ r) ≡ look (signs mid) → OneHeader all j z e
    down j z r e us q none few stop next = impossible (sym (header_stops (look r) stop).0 ∙ ap (begins Header) next ∙ goes)
    down j z r e us q (more {x = x} {y = y} {u = u} {us = vs} h m) few stop next = (x, y, u, refl, h, (vs, q ∙ sym (append_assoc all (u ∷ []) vs), m, few))

headers_end : (k : Room) (old mid : List Token) (all : List Tree) → length all ≤ k.headers → Along Headers k goes_on_headers old mid (HeadersFrom all) → begins Header (look (signs mid)) ≡ false → Along Headers k goes_on_headers old mid (Ended all)
headers_end k old mid all few s ended = decide Headers k goes_on_headers (HeadersFrom all) (Ended all) old mid s up (λ j z r e m stop next. down j z r e m.0 m.1 m.2 next)
  where
    up : (z : List Sign) (e : List Tree) → Ended all k z e → HeadersFrom all k z e
    up z e (h, q) = ([], q ∙ sym (nil-append all), subst (λ w. IsGroup k Header w []) (sym h) none, subst (λ w. length w ≤ k.headers) (sym q) few)

    down : (j : Room) (z r : List Sign) (e us : List Tree) → e ≡ all ++ us → IsGroup j Header z us → look (z ++ r) ≡ look (signs mid) → Ended all j z e
    down j z r e us q none next = (refl, q ∙ nil-append all)
    down j z r e us q (more {x = x} {y = y} {u = u} h m) next =
        impossible (sym ended ∙ sym (ap (begins Header) next) ∙ ap (λ w. begins Header (look w)) (append_assoc x y r) ∙ one_begins Header j goes_on_headers header_stops refl header_apart h (y ++ r))

one_header : (k : Room) (all : List Tree) → Sequence k goes_on_headers (OneHeader all) (Trees (One Header)) (goes_on Header) (λ u. HeadersFrom (all ++ u ∷ []))
one_header k all = record {
  join = λ x y u e h m. (x, y, u, refl, h, m);
  parts = λ j z e m. (m.0, m.1, m.2, m.3, m.4, m.5);
  follow = λ j v r u e m stop. follow Header j goes_on_headers header_stops refl header_apart j v r m.0 m.2 stop;
}

pub headers_more : (k : Room) (old mid new : List Token) (all : List Tree) (u : Tree) → Along Headers k goes_on_headers old mid (HeadersFrom all) → begins Header (look (signs mid)) ≡ true → Along (Trees (One Header)) k (goes_on Header) mid new (Ended u) → Along Headers k goes_on_headers old new (HeadersFrom (all ++ u ∷ []))
headers_more k old mid new all u s goes t = phrase_read Headers (OneHeader all) k goes_on_headers (Trees (One Header)) (goes_on Header) (λ v. HeadersFrom (all ++ v ∷ [])) (one_header k all) old mid new (headers_go k old mid all s goes) u t

pub headers_fail : (k : Room) (old mid new : List Token) (all : List Tree) (f : Stop) → length all < k.headers → Along Headers k goes_on_headers old mid (HeadersFrom all) → begins Header (look (signs mid)) ≡ true → Outcome (Trees (One Header)) k (goes_on Header) mid new (Err f) → Outcome {A = List Tree} Headers k goes_on_headers old new (Err f)
headers_fail k old mid new all f fewer s goes t = phrase_fails Headers (OneHeader all) k goes_on_headers (Trees (One Header)) (goes_on Header) (λ v. HeadersFrom (all ++ v ∷ [])) (one_header k all) old mid new (headers_go k old mid all s goes) f t
    (λ u. ([], all ++ u ∷ [], ([], sym (nil-append (all ++ u ∷ [])), none, (let l : length (all ++ u ∷ []) ≡ length all + length (u ∷ []) = length-append all (u ∷ []) in omega arith))))

-- ---- statements behind headers

abbrev StmtsOf : List Tree → Kind Text
StmtsOf hs k z e = (e.headers ≡ hs) × IsGroup k Stmt z e.body

inside_end : (c : Class) → is_inside c ≡ false → c ≡ class.End
inside_end class.End h = refl
inside_end _ h = impossible (sym h)

text_from : (k : Room) → Sequence k is_inside Texts Headers goes_on_headers StmtsOf
text_from k = record {
  join = λ u v hs e h m. (u, v, refl, subst (λ q. AreHeaders k u q) (sym m.0) h, m.1);
  parts = λ j z e m. (m.0, m.1, e.headers, m.2, m.3, (refl, m.4));
  follow = λ j v r hs e m stop. elim (group_leads m.1) [
    | inl h ↦ subst (λ w. goes_on_headers (look (w ++ r)) ≡ false) (sym h.0) (subst (λ c. goes_on_headers c ≡ false) (sym (inside_end (look r) stop)) refl)
    | inr g ↦ not_true (goes_on_headers (look (v ++ r))) (header_clear (look (v ++ r)) (g r))
  ];
}

stmts_from : (k : Room) (hs : List Tree) → Sequence k is_inside (StmtsOf hs) (Groups Stmt) (continues (Many Stmt)) (λ body. Ended (record { headers = hs; body = body }))
stmts_from k hs = record {
  join = λ u v body e h m. (ap (λ (t : Text). t.headers) m.1, subst (λ w. IsGroup k Stmt (u ++ w) e.body) (sym m.0) (subst (λ w. IsGroup k Stmt w e.body) (sym (nil-append u)) (subst (λ (t : Text). IsGroup k Stmt u t.body) (sym m.1) h)));
  parts = λ j z e m. (z, [], e.body, sym (nil-append z), m.1, (refl, ap (λ q. record { headers = q; body = e.body }) m.0));
  follow = λ j v r body e m stop. subst (λ w. continues (Many Stmt) (look (w ++ r)) ≡ false) (sym m.0) (subst (λ c. continues (Many Stmt) c ≡ false) (sym (inside_end (look r) stop)) refl);
}

-- ---- the outcome of a text

along_text : (k : Room) (old : List Token) → Along Texts k is_inside old old Texts
along_text k old = begin Texts k is_inside old

pub fails_plainly : (k : Room) (old new : List Token) (f : Stop) → Outcome {A = Text} Texts k is_inside old new (Err f) → TextRead k old new (Err f)
fails_plainly k old new Unexpected s = (
  s.taken,
  s.split,
  record {
    begins = s.refused.some;
    ends = λ j after text al next h. s.refused.none j (signs s.taken ++ after) [] after text al h refl (nil-append (signs s.taken ++ after)) next;
  },
)
fails_plainly k old new Deep s = (
  s.taken,
  s.split,
  record {
    opens = s.deep.some;
    ends = λ after text next is_real h. s.deep.none (signs s.taken ++ after) [] after text h refl (nil-append (signs s.taken ++ after)) next is_real;
  },
)
fails_plainly k old new Crowded s = elim s [ ]
fails_plainly k old new (Memory a) s = tt

pub headers_fail_text : (k : Room) (old new : List Token) (f : Stop) → Outcome {A = List Tree} Headers k goes_on_headers old new (Err f) → TextRead k old new (Err f)
headers_fail_text k old new f s = fails_plainly k old new f (phrase_fails Texts Texts k is_inside Headers goes_on_headers StmtsOf (text_from k) old old new (along_text k old) f s (λ hs. ([], record { headers = hs; body = [] }, (refl, none))))

after_headers : (k : Room) (old mid : List Token) (hs : List Tree) → Gathered k old mid hs → begins Header (look (signs mid)) ≡ false → Along Texts k is_inside old mid (StmtsOf hs)
after_headers k old mid hs g ended = phrase_read Texts Texts k is_inside Headers goes_on_headers StmtsOf (text_from k) old old mid (along_text k old) hs (headers_end k old mid hs g.few g.along ended)

pub stmts_fail_text : (k : Room) (old mid new : List Token) (hs : List Tree) (f : Stop) → Gathered k old mid hs → begins Header (look (signs mid)) ≡ false → Outcome {A = List Tree} (Groups Stmt) k (continues (Many Stmt)) mid new (Err f) → TextRead k old new (Err f)
stmts_fail_text k old mid new hs f g ended s = fails_plainly k old new f (phrase_fails Texts (StmtsOf hs) k is_inside (Groups Stmt) (continues (Many Stmt)) (λ body. Ended (record { headers = hs; body = body })) (stmts_from k hs) old mid new (after_headers k old mid hs g ended) f s (λ body. ([], record { headers = hs; body = body }, (refl, refl))))

whole_text : (k : Room) (old mid new : List Token) (hs body : List Tree) → Gathered k old mid hs → begins Header (look (signs mid)) ≡ false → Along (Groups Stmt) k (continues (Many Stmt)) mid new (Ended body) → Along Texts k is_inside old new (Ended (record { headers = hs; body = body }))
whole_text k old mid new hs body g ended s = phrase_read Texts (StmtsOf hs) k is_inside (Groups Stmt) (continues (Many Stmt)) (λ body. Ended (record { headers = hs; body = body })) (stmts_from k hs) old mid new (after_headers k old mid hs g ended) body s

pub crowded_text : (k : Room) (old mid : List Token) (hs : List Tree) → Gathered k old mid hs → begins Header (look (signs mid)) ≡ true → TextRead k old mid (Err Crowded)
crowded_text k old mid hs g goes = (
  g.along.taken,
  g.along.split,
  record {
    full = (hs, read_so_far, all_taken);
    further = goes;
    ends = λ after text next h. no_further after text next h.0 h.1 h.2 h.3 h.4;
  },
)
  where
    built : AreHeaders k (signs g.along.taken ++ []) hs
    built = g.along.reached.build [] hs ([], sym (nil-append hs), none, g.few)

    read_so_far : AreHeaders k (signs g.along.taken) hs
    read_so_far = subst (λ q. AreHeaders k q hs) (nil-append (signs g.along.taken)) built

    all_taken : length hs ≡ k.headers
    all_taken = elim g.stopped [ inl e ↦ e | inr e ↦ impossible (sym e ∙ goes) ]

    -- statements don't begin as headers do
    not_stmts : (z : List Sign) (us : List Tree) → IsGroup k Stmt z us → begins Header (look z) ≡ true → ⊥
    not_stmts z us m first = elim (group_leads m) [
      | inl h ↦ impossible (sym (ap (λ w. begins Header (look w)) h.0) ∙ first)
      | inr h ↦ impossible (sym (header_stops (look z) (not_true (goes_on_headers (look z)) (header_clear (look z) (subst (λ w. begins Stmt (look w) ≡ true) (nil-append z) (h []))))).0 ∙ first)
    ]

    -- behind all headers that there may be, a text has statements
    no_headers : (us more_of : List Tree) (w z : List Sign) (body : List Tree) → us ≡ hs ++ more_of → length us ≤ k.headers → IsGroup k Header w more_of → IsGroup k Stmt z body → begins Header (look (w ++ z)) ≡ true → ⊥
    no_headers us [] w z body q few none m first = not_stmts z body m first
    no_headers us (t ∷ ts) w z body q few (more h n) m first =
        let l : length (hs ++ t ∷ ts) ≡ length hs + length (t ∷ ts) = length-append hs (t ∷ ts) in
        let s : length us ≡ length (hs ++ t ∷ ts) = ap length q in
        let a : length hs ≡ k.headers = all_taken in
        absurd (omega arith)

    no_further : (after : List Sign) (text : Text) → look after ≡ look (signs mid) → (y z : List Sign) → signs g.along.taken ++ after ≡ y ++ z → AreHeaders k y text.headers → IsGroup k Stmt z text.body → ⊥
    no_further after text next y z q h m =
        let x = signs g.along.taken in
        let stop : goes_on_headers (look z) ≡ false = subst (λ w. goes_on_headers (look w) ≡ false) (nil-append z) ((text_from k).follow k z [] text.headers text (refl, m) refl) in
        let o = g.along.reached.only k y z after text.headers (same_room k) h stop (sym q) next in
        let left : after ≡ o.0 ++ z = append_cancel_left x after (o.0 ++ z) (q ∙ ap (λ w. w ++ z) o.1 ∙ append_assoc x o.0 z) in
        no_headers text.headers o.2.0 o.0 z text.body o.2.1 o.2.3 o.2.2 m (sym (ap (λ w. begins Header (look w)) left) ∙ ap (begins Header) next ∙ goes)

pub text_ended : (k : Room) (old mid new : List Token) (hs body : List Tree) → Gathered k old mid hs → begins Header (look (signs mid)) ≡ false → Along (Groups Stmt) k (continues (Many Stmt)) mid new (Ended body) → new ≡ [] → IsWhole k old (record { headers = hs; body = body })
text_ended k old mid new hs body g ended s none_left =
    let a = whole_text k old mid new hs body g ended s in
    let text : Text = record { headers = hs; body = body } in
    let all : old ≡ a.taken = a.split ∙ ap (λ q. a.taken ++ q) none_left ∙ nil-append a.taken in
    let same : signs old ++ [] ≡ signs a.taken ++ [] = ap (λ q. signs q ++ []) all in
    record {
      stands = subst (λ q. Texts k (signs q) text) (sym all) (subst (λ q. Texts k q text) (nil-append (signs a.taken)) (a.reached.build [] text (refl, refl)));
      one = λ j other al h. (a.reached.only j (signs old) [] [] other al h refl same (ap (λ q. look (signs q)) (sym none_left))).2.1;
    }

pub text_goes_on : (k : Room) (old mid new : List Token) (hs body : List Tree) → Gathered k old mid hs → begins Header (look (signs mid)) ≡ false → Along (Groups Stmt) k (continues (Many Stmt)) mid new (Ended body) → (look (signs new) ≡ class.End → ⊥) → TextRead k old new (Err Unexpected)
text_goes_on k old mid new hs body g ended s not_end =
    let a = whole_text k old mid new hs body g ended s in (
      a.taken,
      a.split,
      record {
        begins = ([], record { headers = hs; body = body }, a.reached.build [] (record { headers = hs; body = body }) (refl, refl));
        ends = λ j after text al next h. end_only a j after text al next h;
      },
    )
  where
    end_only : (a : Along Texts k is_inside old new (Ended (record { headers = hs; body = body }))) (j : Room) (after : List Sign) (text : Text) → AtLeast k j → look after ≡ look (signs new) → Texts j (signs a.taken ++ after) text → ⊥
    end_only a j after text al next h =
        let x = signs a.taken in
        let o = a.reached.only j (x ++ after) [] after text al h refl (nil-append (x ++ after)) next in
        let e : after ≡ [] = append_cancel_left x after [] (o.1 ∙ ap (λ z. x ++ z) o.2.0) in
        not_end (sym next ∙ ap look e)
