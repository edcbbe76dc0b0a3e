-- The headers and statements of a text that breaks no rule make a program, and one alone.
use Rattle.std.proofs.Common.{◌≡◌, ◌≤◌, ◌<◌, ℕ, zero, suc, ◌+◌, ◌-◌, ◌^◌, ℤ, pos, negsuc, ◌==◌, not, Bool, true, false, List, [], ◌∷◌, ◌++◌, map, length, Option, Some, None, refl, sym, ap, ◌∙◌, subst, arith, nat_eq}
use Rattle.std.specs.Prelude.{slice_get, if◌then◌else◌, IsTrue}
use Rattle.std.specs.List.{All, IsDistinct, find}
use Rattle.std.proofs.lemmas.List.Elements.{All-head, All-tail}
use Rattle.std.specs.Cmp.Lexicographic.{pointwise}
use Rattle.std.specs.Int.{w64}
use Rattle.std.specs.Str.{bytes_eq}
use Rattle.std.proofs.lemmas.Bool.{eqb-true}
use Rattle.std.proofs.lemmas.Int.{int_wrap_fits}
use Rattle.fin_base.specs.Words.{IsWord}
use Rattle.fin_ast.specs.declared.header.Header.{Header}
use Rattle.fin_ast.specs.declared.tree.Stmt.{Stmt}
use Rattle.fin_ast.specs.Bindings.{counts_from, bindings_of_all}
use Rattle.fin_ast.specs.Depth.{IsShallow}
use Rattle.fin_ast.specs.Scope.{are_named, outermost}
use Rattle.fin_lex.specs.declared.token.Token.{Token}
use Rattle.fin_parse.specs.declared.grammar.Phrase.TheVariants as phrase
use Rattle.fin_parse.specs.declared.scope.Tensor.{Tensor}
use Rattle.fin_parse.specs.declared.scope.Fill.{Fill}
use Rattle.fin_parse.specs.declared.scope.Literal.{Literal}
use Rattle.fin_parse.specs.declared.tree.Tree.{Tree}
use Rattle.fin_parse.specs.declared.trees.Text.{Text}
use Rattle.fin_parse.specs.Breaches.{limits}
use Rattle.fin_parse.specs.Elaboration.{Elaboration, Naming, elaboration_of, naming_of, statements_of, stmts_in, binders_in, tensor_from, plus_word, minus_word}
use Rattle.fin_parse.specs.Fills.{fill_named, literal_of, negated, number_of, head_token}
use Rattle.fin_parse.specs.HeaderNames.{tensors_of, header_breaches}
use Rattle.fin_parse.specs.HeaderTrees.{integer_of, AreHeadersOf, IsHeader, IsSound, IsAcceptedText}
use Rattle.fin_parse.specs.Leaves.{HeadParts, header_of, leaves_of, fills_of}
use Rattle.fin_parse.specs.Names as names
use Rattle.fin_parse.specs.Names.{facts_of, is_same, tensor_named, text_at, part_breaches}
use Rattle.fin_parse.specs.Program.{IsProgram, StandsFor, OnlyProgram}
use Rattle.fin_parse.specs.Syntax.{IsGroup, Sign, signs}
use Rattle.fin_parse.specs.Text.{IsWhole}
use Rattle.fin_parse.specs.TextForms.{known_fills, with_fill, named_fill, given_fill, format_breaches}
use Rattle.fin_parse.specs.TextNames as rules
use Rattle.fin_parse.specs.Verdict.{IsAccepted}
use Rattle.fin_parse.proofs.Bounds.{none_bound}
use Rattle.fin_parse.proofs.HeadLinks.{IsTensorOf, IsFillOf, AreTensorsOf, AreFillsOf, tensors_of_accepted, fills_of_accepted}
use Rattle.fin_parse.proofs.HeadSound.{sound_of_accepted}
use Rattle.fin_parse.proofs.Keeping.{literal_word, AreNamed, Context, Agrees, first_nil, second_nil}
use Rattle.fin_parse.proofs.Named.{body_keeps}
use Rattle.fin_parse.proofs.NamedStatements.{stmts_row}
use Rattle.fin_parse.proofs.OneVerdict.{one_text}
use Rattle.fin_ast.specs.Literals.{are_worded}
use Rattle.fin_parse.proofs.WordLiterals.{statements_worded}
use Rattle.fin_parse.proofs.Sizes.{Fits, body_sized, numbers_count}

-- ---- fills

-- a minus stands before no 0
abbrev IsNormal : Literal → Type 0
IsNormal l = l.negative ≡ true → l.magnitude ≡ 0 → ⊥

negated_normal : (n : ℕ) → IsNormal (negated n)
negated_normal n h e = cc (ap (λ (m : ℕ). not (m == 0)) e, h)

literal_normal : (ts : List Token) → IsNormal (literal_of ts)
literal_normal [] h e = cc
literal_normal (n ∷ []) h e = cc
literal_normal (m ∷ n ∷ ts) h e = negated_normal (number_of n.kind) h e

given_normal : (ts : List Token) → IsNormal (given_fill ts)
given_normal [] h e = cc
given_normal (t ∷ ts) h e = literal_normal ts h e

-- and the literal is a word
abbrev IsGood : Literal → Type 0
IsGood l = IsNormal l × IsWord (integer_of l)

abbrev AreGood : List Fill → Type 0
AreGood [] = Unit {0}
AreGood (f ∷ fs) = IsGood f.value × AreGood fs

one_more_good : (fs : List Fill) (o : Option Token) (value : Literal) → AreGood fs → IsGood value → AreGood (fs ++ named_fill o value)
one_more_good [] None value h k = tt
one_more_good [] (Some t) value h k = (k, tt)
one_more_good (f ∷ fs) o value h k = (h.0, one_more_good fs o value h.1 k)

known_good : (fs : List Fill) (us : List Tree) → AreGood fs → All (λ u. IsSound (header_of u)) us → AreGood (known_fills fs (map header_of us))
known_good fs [] h sound = h
known_good fs (u ∷ us) h sound =
    let p : HeadParts = header_of u in
    known_good (with_fill fs p) us (one_more_good fs (head_token p.name) (given_fill p.fill) h (given_normal p.fill, (All-head (λ w. IsSound (header_of w)) u us sound).fill)) (All-tail (λ w. IsSound (header_of w)) u us sound)

minus_is : (m : ℕ) → (m ≡ 0 → ⊥) → IsWord (negsuc (m - 1)) → minus_word m ≡ negsuc (m - 1)
minus_is zero h word = absurd (h refl)
minus_is (suc m) h word = let e : m ≡ suc m - 1 = omega arith in int_wrap_fits w64 (negsuc m) (subst (λ n. IsWord (negsuc n)) (sym e) word) ∙ ap negsuc e

literal_is : (negative : Bool) (m : ℕ) → (negative ≡ true → m ≡ 0 → ⊥) → IsWord (if negative then negsuc (m - 1) else pos m) → (if negative then minus_word m else plus_word m) ≡ (if negative then negsuc (m - 1) else pos m)
literal_is true m h word = minus_is m (h refl) word
literal_is false m h word = int_wrap_fits w64 (pos m) word

-- ---- the tensors of headers

module _ (text : List ℕ) where
  same_test : (a b : Token) (bytes : List ℕ) → text_at text a ≡ bytes → (name : Token) → is_same text a name ≡ bytes_eq bytes (text_at text name)
  same_test a b bytes h name = ap (λ z. bytes_eq z (text_at text name)) h

  named_from : (n : ℕ) (ts : List Tensor) (hs : List Header) → AreTensorsOf text ts hs → (name : Token) (t : Tensor) → tensor_named text ts name ≡ Some t → (k : ℕ) × (h : Header) × (tensor_from n text ts name ≡ Some (n + k)) × (slice_get hs k ≡ Some h) × (t.levels ≡ length h.format.levels) × (t.levels ≤ 8)
  named_from n [] [] are name t h = cc
  named_from n [] (d ∷ hs) are name t h = absurd are
  named_from n (u ∷ ts) [] are name t h = absurd are
  named_from n (u ∷ ts) (d ∷ hs) are name t h = by (is_same text u.name name) h (λ k. named_from (n + 1) ts hs are.1 name t k) where
    by : (b : Bool) → (if b then Some u else tensor_named text ts name) ≡ Some t
        → (tensor_named text ts name ≡ Some t → (k : ℕ) × (e : Header) × (tensor_from (n + 1) text ts name ≡ Some (n + 1 + k)) × (slice_get hs k ≡ Some e) × (t.levels ≡ length e.format.levels) × (t.levels ≤ 8))
        → (k : ℕ) × (e : Header) × ((if b then Some n else tensor_from (n + 1) text ts name) ≡ Some (n + k)) × (slice_get (d ∷ hs) k ≡ Some e) × (t.levels ≡ length e.format.levels) × (t.levels ≤ 8)
    by true h rest =
        let is : u ≡ t = cc in
        let same : t.levels ≡ length d.format.levels = subst (λ (v : Tensor). v.levels ≡ length d.format.levels) is are.0.levels in
        (0, d, ap Some (let e : n ≡ n + 0 = omega arith in e), refl, same, omega (arith, same, d.placed.0.few))
    by false h rest =
        let (k, e, at, header, levels, few) = rest h in
        (suc k, e, at ∙ ap Some (let i : n + 1 + k ≡ n + suc k = omega arith in i), header, levels, few)

  above : (m : ℕ) (ts : List Tensor) (name : Token) (j : ℕ) → tensor_from m text ts name ≡ Some j → m ≤ j
  above m [] name j h = cc
  above m (t ∷ ts) name j h = by (is_same text t.name name) h (λ k. above (m + 1) ts name j k) where
    by : (b : Bool) → (if b then Some m else tensor_from (m + 1) text ts name) ≡ Some j → (tensor_from (m + 1) text ts name ≡ Some j → m + 1 ≤ j) → m ≤ j
    by true h rest = let e : m ≡ j = cc in omega (arith, e)
    by false h rest = omega (arith, rest h)

  one_filled : (f : Fill) (d : Header) → IsFillOf text f d → IsGood f.value → literal_word f.value ≡ d.format.fill
  one_filled f d is good = literal_is f.value.negative f.value.magnitude good.0 good.1 ∙ is.value

  filled_from : (n : ℕ) (ts : List Tensor) (fs : List Fill) (hs : List Header) → AreTensorsOf text ts hs → AreFillsOf text fs hs → AreGood fs → (name : Token) (k : ℕ) (h : Header) → tensor_from n text ts name ≡ Some (n + k) → slice_get hs k ≡ Some h
      → (f : Fill) × (fill_named text fs name ≡ Some f) × (literal_word f.value ≡ h.format.fill)
  filled_from n [] fs hs are fills good name k h at header = cc
  filled_from n (t ∷ ts) fs [] are fills good name k h at header = absurd are
  filled_from n (t ∷ ts) [] (d ∷ hs) are fills good name k h at header = absurd fills
  filled_from n (t ∷ ts) (f ∷ fs) (d ∷ hs) are fills good name k h at header =
      by (bytes_eq d.name (text_at text name)) k (sym (same_test t.name name d.name are.0.name name)) (sym (same_test f.name name d.name fills.0.name name)) at header (λ j e m. filled_from (n + 1) ts fs hs are.1 fills.1 good.1 name j h e m) where
        by : (b : Bool) (k : ℕ) → b ≡ is_same text t.name name → b ≡ is_same text f.name name → (if is_same text t.name name then Some n else tensor_from (n + 1) text ts name) ≡ Some (n + k) → slice_get (d ∷ hs) k ≡ Some h
            → ((j : ℕ) → tensor_from (n + 1) text ts name ≡ Some (n + 1 + j) → slice_get hs j ≡ Some h → (g : Fill) × (fill_named text fs name ≡ Some g) × (literal_word g.value ≡ h.format.fill))
            → (g : Fill) × ((if is_same text f.name name then Some f else fill_named text fs name) ≡ Some g) × (literal_word g.value ≡ h.format.fill)
        by true zero e1 e2 at header rest =
            let is : d ≡ h = cc in
            (f, ap (λ b. if b then Some f else fill_named text fs name) (sym e2), subst (λ (x : Header). literal_word f.value ≡ x.format.fill) is (one_filled f d fills.0 good.0))
        by true (suc k) e1 e2 at header rest =
            let at' : Some n ≡ Some (n + suc k) = ap (λ b. if b then Some n else tensor_from (n + 1) text ts name) e1 ∙ at in
            let e : n ≡ n + suc k = cc in absurd (omega (arith, e))
        by false zero e1 e2 at header rest =
            let at' : tensor_from (n + 1) text ts name ≡ Some (n + 0) = ap (λ b. if b then Some n else tensor_from (n + 1) text ts name) e1 ∙ at in
            absurd (omega (arith, above (n + 1) ts name (n + 0) at'))
        by false (suc k) e1 e2 at header rest =
            let at' : tensor_from (n + 1) text ts name ≡ Some (n + suc k) = ap (λ b. if b then Some n else tensor_from (n + 1) text ts name) e1 ∙ at in
            let (g, found, word) = rest k (at' ∙ ap Some (let i : n + suc k ≡ n + 1 + k = omega arith in i)) header in
            (g, ap (λ b. if b then Some f else fill_named text fs name) (sym e2) ∙ found, word)

  some_from_zero : (o : Option ℕ) (k : ℕ) → o ≡ Some k → o ≡ Some (0 + k)
  some_from_zero o k h = h ∙ ap Some (let e : k ≡ 0 + k = omega arith in e)

  -- what names stand for by the rules, and in the headers
  agree : (ts : List Tensor) (fs : List Fill) (hs : List Header) → AreTensorsOf text ts hs → AreFillsOf text fs hs → AreGood fs → AreNamed text fs ts hs
  agree ts fs hs are fills good = record {
    named = λ name t h. let (k, d, at, header, levels, few) = named_from 0 ts hs are name t h in (k, d, at ∙ ap Some (let e : 0 + k ≡ k = omega arith in e), header, levels, few);
    filled = λ name k h at header. filled_from 0 ts fs hs are fills good name k h (some_from_zero (tensor_from 0 text ts name) k at) header;
  }

-- ---- the statements of a text that breaks no rule

-- tokens end where headers do, and statements begin
module _ (text : List ℕ) (trees : Text) (headers : List Header) (accepted : IsAcceptedText text trees) (are : AreHeadersOf text (map header_of trees.headers) headers) where
  abbrev tensors : List Tensor
  tensors = tensors_of [] (map header_of trees.headers)

  abbrev fills : List Fill
  fills = known_fills [] (map header_of trees.headers)

  abbrev start : Context
  start = record { scope = rules.outermost trees; naming = naming_of tensors []; next = 0; around = outermost headers }

  start_agrees : Agrees text fills start
  start_agrees = record {
    tensors = refl;
    named = agree text tensors fills headers (tensors_of_accepted text trees headers accepted are) (fills_of_accepted text trees headers accepted are) (known_good [] trees.headers tt (sound_of_accepted text trees accepted));
    bound = none_bound text 0 [] [];
  }

  signs_cut : (y z : List Sign) (ts : List Token) → signs ts ≡ y ++ z → (us : List Token) × (z ≡ signs us) × (length us ≤ length ts)
  signs_cut [] z ts h = (ts, sym h, omega arith)
  signs_cut (s ∷ y) z [] h = cc
  signs_cut (s ∷ y) z (t ∷ ts) h = let (us, e, few) = signs_cut y z ts (cc) in (us, e, omega (arith, few))

  pub body_is_named : are_named (statements_of text tensors trees.body) (outermost headers) ≡ true
  body_is_named =
      let (tokens, ok) = accepted in
      let (y, z, cut, head, body) = ok.whole.stands in
      let (us, e, few) = signs_cut y z tokens cut in
      stmts_row text fills trees.body limits (signs us) (body_keeps text fills limits us trees.body (subst (λ x. IsGroup limits phrase.Stmt x trees.body) e body)) start start_agrees
      (second_nil (header_breaches text [] (map header_of trees.headers)) (part_breaches 0 (map (facts_of text) trees.body) (rules.outermost trees) (rules.outermost trees)) ok.names)
      (second_nil (format_breaches (map header_of trees.headers)) (fills_of (map leaves_of trees.body) text fills) ok.forms)

module _ (text : List ℕ) (trees : Text) (tokens : List Token) (ok : IsAccepted text tokens trees) where
  abbrev names' : List Tensor
  names' = tensors_of [] (map header_of trees.headers)

  abbrev binders : ℕ
  binders = binders_in text (map (elaboration_of text) trees.body)

  signs_length : (ts : List Token) → length (signs ts) ≡ length ts
  signs_length [] = refl
  signs_length (t ∷ ts) = omega (arith, signs_length ts)

  cut_signs : (y z : List Sign) (ts : List Token) → signs ts ≡ y ++ z → (us : List Token) × (z ≡ signs us) × (length us ≤ length ts)
  cut_signs [] z ts h = (ts, sym h, omega arith)
  cut_signs (s ∷ y) z [] h = cc
  cut_signs (s ∷ y) z (t ∷ ts) h = let (us, e, few) = cut_signs y z ts (cc) in (us, e, omega (arith, few))

  body_fits : (us : List Token) × (Fits (statements_of text names' trees.body) 0 binders 16) × (binders ≤ length (signs us)) × (length us ≤ length tokens)
  body_fits =
      let (y, z, cut, head, body) = ok.whole.stands in
      let (us, e, few) = cut_signs y z tokens cut in
      let (fits, small) = body_sized text limits us trees.body (subst (λ x. IsGroup limits phrase.Stmt x trees.body) e body) (naming_of names' []) in
      (us, fits, small, few)

  pub body_is_numbered : counts_from 0 (bindings_of_all (statements_of text names' trees.body)) ≡ true
  body_is_numbered = let (us, fits, small, few) = body_fits in ap (counts_from 0) fits.bindings ∙ numbers_count 0 binders

  pub body_is_shallow : IsShallow (statements_of text names' trees.body)
  body_is_shallow = let (us, fits, small, few) = body_fits in fits.depth

  pub binders_few : binders ≤ length tokens
  binders_few = let (us, fits, small, few) = body_fits in omega (arith, small, few, signs_length us)

-- as many tensors as headers
pub tensors_length : (text : List ℕ) (ts : List Tensor) (hs : List Header) → AreTensorsOf text ts hs → length ts ≡ length hs
tensors_length text [] [] are = refl
tensors_length text [] (h ∷ hs) are = absurd are
tensors_length text (t ∷ ts) [] are = absurd are
tensors_length text (t ∷ ts) (h ∷ hs) are = ap suc (tensors_length text ts hs are.1)

pub few_tensors : (text : List ℕ) (trees : Text) (headers : List Header) → IsAcceptedText text trees → AreHeadersOf text (map header_of trees.headers) headers → length headers ≤ 64 → (ts : List Tensor) → ts ≡ tensors_of [] (map header_of trees.headers) → length ts ≤ 64
few_tensors text trees headers accepted are few ts is = omega (arith, few, ap length is, tensors_length text (tensors_of [] (map header_of trees.headers)) headers (tensors_of_accepted text trees headers accepted are))

-- what a program keeps
module _ (text : List ℕ) (trees : Text) (tokens : List Token) (ok : IsAccepted text tokens trees) (headers : List Header) (are : AreHeadersOf text (map header_of trees.headers) headers) (body : List Stmt) (is : body ≡ statements_of text (tensors_of [] (map header_of trees.headers)) trees.body) where
  pub numbered : IsTrue (counts_from 0 (bindings_of_all body))
  numbered = ap (λ ss. counts_from 0 (bindings_of_all ss)) is ∙ body_is_numbered text trees tokens ok

  pub named : IsTrue (are_named body (outermost headers))
  named = ap (λ ss. are_named ss (outermost headers)) is ∙ body_is_named text trees headers (tokens, ok) are

  pub shallow : IsShallow body
  shallow = subst IsShallow (sym is) (body_is_shallow text trees tokens ok)

  pub worded : IsTrue (are_worded body)
  worded = ap are_worded is ∙ statements_worded text (tensors_of [] (map header_of trees.headers)) trees.body
