-- What the rules know of headers, and the headers themselves.
use Rattle.std.proofs.Common.{◌≡◌, ℕ, ◌+◌, ◌<◌, ◌≤◌, Bool, true, false, cond, List, [], ◌∷◌, ◌++◌, map, take, length, get_or, Option, Some, None, nat_eq, refl, sym, ap, ◌∙◌, subst, append_assoc, arith}
use Rattle.std.specs.Option.{is_some}
use Rattle.std.specs.List.{All, AllByRecursion, IsDistinct}
use Rattle.std.specs.Cmp.Lexicographic.{pointwise}
use Rattle.std.proofs.lemmas.List.{map-append, append-nil, length-map, take_all, take_more}
use Rattle.std.proofs.lemmas.List.Elements.{All-head, All-tail, All-get_or}
use Rattle.fin_base.specs.declared.refusal.Rule.TheVariants.{N2}
use Rattle.fin_ast.specs.declared.header.Header.{Header}
use Rattle.fin_ast.specs.Headers.{names_of}
use Rattle.fin_lex.specs.declared.token.Token.{Token}
use Rattle.fin_parse.specs.declared.tree.Tree.{Tree}
use Rattle.fin_parse.specs.declared.scope.Tensor.{Tensor}
use Rattle.fin_parse.specs.declared.scope.Fill.{Fill}
use Rattle.fin_parse.specs.declared.trees.Text.{Text}
use Rattle.fin_parse.specs.Names.{text_at, is_same, tensor_named, breach, binding}
use Rattle.fin_parse.specs.Fills.{head_token}
use Rattle.fin_parse.specs.HeaderNames.{levels_of, shape_breach, shape_count, name_breach, head_breaches, header_breaches, with_tensor, named_tensor, tensors_of}
use Rattle.fin_parse.specs.TextForms.{given_fill, named_fill, with_fill, known_fills}
use Rattle.fin_parse.specs.Leaves.{HeadParts, header_of}
use Rattle.fin_parse.specs.HeaderTrees.{integer_of, name_of, IsSound, IsHeader, AreHeadersOf, IsAcceptedText}
use Rattle.fin_parse.proofs.Table.{impossible}
use Rattle.fin_parse.proofs.HeaderRows.{IsHead}
use Rattle.fin_parse.proofs.HeadSound.{nil_both, heads_of_accepted, names_of_accepted, sound_of_accepted, few_of_accepted}
use Rattle.fin_parse.proofs.WordPlacement.{length-levels}

-- ---- headers one by one

headers_more : (text : List ℕ) (ps : List HeadParts) (hs : List Header) (p : HeadParts) (h : Header) → AreHeadersOf text ps hs → IsHeader text p h → AreHeadersOf text (ps ++ p ∷ []) (hs ++ h ∷ [])
headers_more text [] [] p h are is = (is, tt)
headers_more text [] (g ∷ hs) p h are is = absurd are
headers_more text (q ∷ ps) [] p h are is = absurd are
headers_more text (q ∷ ps) (g ∷ hs) p h are is = (are.0, headers_more text ps hs p h are.1 is)

pub headers_length : (text : List ℕ) (ps : List HeadParts) (hs : List Header) → AreHeadersOf text ps hs → length hs ≡ length ps
headers_length text [] [] are = refl
headers_length text [] (g ∷ hs) are = absurd are
headers_length text (q ∷ ps) [] are = absurd are
headers_length text (q ∷ ps) (g ∷ hs) are = let e : length hs ≡ length ps = headers_length text ps hs are.1 in omega arith

-- ---- different names

abbrev Differs : List ℕ → List (List ℕ) → Type 0
Differs x names = AllByRecursion (λ y. pointwise nat_eq x y ≡ false) names

module _ (text : List ℕ) where
  -- each of the tensors has another name than all of these
  abbrev AreOther : List (List ℕ) → List Tensor → Type 0
  AreOther names [] = Unit {0}
  AreOther names (t ∷ ts) = Differs (text_at text t.name) names × AreOther names ts

  last_other : (names : List (List ℕ)) (ts : List Tensor) (t : Tensor) → AreOther names (ts ++ t ∷ []) → AreOther names ts × Differs (text_at text t.name) names
  last_other names [] t h = (tt, h.0)
  last_other names (u ∷ ts) t h = let r = last_other names ts t h.1 in ((h.0, r.0), r.1)

  with_other : (name : Token) (names : List (List ℕ)) (ts : List Tensor) → is_some (tensor_named text ts name) ≡ false → AreOther names ts → AreOther (text_at text name ∷ names) ts
  with_other name names [] h k = tt
  with_other name names (t ∷ ts) h k =
      let d = passed_over (is_same text t.name name) refl h in
      ((d.0, k.0), with_other name names ts d.1 k.1)
    where
      passed_over : (b : Bool) → is_same text t.name name ≡ b → is_some (cond b (Some t) (tensor_named text ts name)) ≡ false → (is_same text t.name name ≡ false) × (is_some (tensor_named text ts name) ≡ false)
      passed_over true e g = impossible (sym g)
      passed_over false e g = (e, g)

  free_name : (earlier : List Tensor) (t : Token) → binding t (is_some (tensor_named text earlier t)) ≡ [] → is_some (tensor_named text earlier t) ≡ false
  free_name earlier t h = by_test (is_some (tensor_named text earlier t)) h
    where
      by_test : (b : Bool) → cond b (breach N2 t) [] ≡ [] → b ≡ false
      by_test true g = absurd (cc)
      by_test false g = refl

  names_apart : (earlier : List Tensor) (us : List Tree) (hs : List Header) → All (λ u. IsHead (header_of u)) us → AreHeadersOf text (map header_of us) hs → header_breaches text earlier (map header_of us) ≡ []
      → IsDistinct (pointwise nat_eq) (names_of hs) × AreOther (names_of hs) earlier
  unfolding IsDistinct
  names_apart earlier [] [] heads are none = (tt, nothing earlier)
    where
      nothing : (ts : List Tensor) → AreOther [] ts
      nothing [] = tt
      nothing (t ∷ ts) = (tt, nothing ts)
  names_apart earlier [] (h ∷ hs) heads are none = absurd are
  names_apart earlier (u ∷ us) [] heads are none = absurd are
  names_apart earlier (u ∷ us) (h ∷ hs) heads are none =
      let p : HeadParts = header_of u in
      let name = (All-head (λ w. IsHead (header_of w)) u us heads).name in
      let t : Token = name.0 in
      let e : p.name ≡ t ∷ [] = name.1 in
      let n = nil_both (head_breaches text earlier p) (header_breaches text (with_tensor earlier p) (map header_of us)) none in
      let own = (nil_both (shape_breach (head_token p.kind) (shape_count p.shape) (levels_of p.format)) (name_breach text earlier (head_token p.name)) n.0).1 in
      let free : is_some (tensor_named text earlier t) ≡ false = free_name earlier t (sym (ap (λ w. name_breach text earlier (head_token w)) e) ∙ own) in
      let rest = names_apart (with_tensor earlier p) us hs (All-tail (λ w. IsHead (header_of w)) u us heads) are.1 n.1 in
      let others = last_other (names_of hs) earlier (record { name = t; levels = levels_of p.format }) (subst (λ w. AreOther (names_of hs) (earlier ++ named_tensor (head_token w) (levels_of p.format))) e rest.1) in
      let is : text_at text t ≡ h.name = sym (are.0.name ∙ ap (name_of text) e) in
      ((subst (λ w. Differs w (names_of hs)) is others.1, rest.0), subst (λ w. AreOther (w ∷ names_of hs) earlier) is (with_other t (names_of hs) earlier free others.0))

pub names_of_accepted_differ : (text : List ℕ) (trees : Text) (hs : List Header) → IsAcceptedText text trees → AreHeadersOf text (map header_of trees.headers) hs → IsDistinct (pointwise nat_eq) (names_of hs)
names_of_accepted_differ text trees hs accepted are = (names_apart text [] trees.headers hs (heads_of_accepted text trees accepted) are (names_of_accepted text trees accepted)).0

-- ---- the loop over header trees

module _ (text : List ℕ) (trees : Text) (items : List Tree) (items_are : items ≡ trees.headers) where
  pub sound_at : IsAcceptedText text trees → (i : ℕ) (u : Tree) (p : HeadParts) → i < length items → u ≡ get_or items i u → p ≡ header_of u → IsSound p
  sound_at accepted i u p less is parts =
      let all : All (λ w. IsSound (header_of w)) items = subst (λ q. All (λ w. IsSound (header_of w)) q) (sym items_are) (sound_of_accepted text trees accepted) in
      subst IsSound (sym (parts ∙ ap header_of is)) (All-get_or (λ w. IsSound (header_of w)) items i u less all)

  pub made_more : (i : ℕ) (u : Tree) (p : HeadParts) (hs next : List Header) (h : Header) → i < length items → u ≡ get_or items i u → p ≡ header_of u
      → AreHeadersOf text (map header_of (take i items)) hs → IsHeader text p h → next ≡ hs ++ h ∷ [] → AreHeadersOf text (map header_of (take (i + 1) items)) next
  made_more i u p hs next h less is parts are one pushed =
      let e : map header_of (take (i + 1) items) ≡ map header_of (take i items) ++ p ∷ [] =
      ap (map header_of) (take_more items i u less) ∙ map-append header_of (take i items) (get_or items i u ∷ []) ∙ ap (λ q. map header_of (take i items) ++ q ∷ []) (sym (parts ∙ ap header_of is)) in
      subst (λ q. AreHeadersOf text q next) (sym e) (subst (λ q. AreHeadersOf text (map header_of (take i items) ++ p ∷ []) q) (sym pushed) (headers_more text (map header_of (take i items)) hs p h are one))

  pub made_all : (i : ℕ) (hs : List Header) → length items ≤ i → AreHeadersOf text (map header_of (take i items)) hs → AreHeadersOf text (map header_of trees.headers) hs
  made_all i hs ended are = subst (λ q. AreHeadersOf text (map header_of q) hs) (take_all i items ended ∙ items_are) are

pub few_headers : (text : List ℕ) (trees : Text) (hs : List Header) → IsAcceptedText text trees → AreHeadersOf text (map header_of trees.headers) hs → length hs ≤ 64
few_headers text trees hs accepted are =
    let e = headers_length text (map header_of trees.headers) hs are in
    let m : length (map header_of trees.headers) ≡ length trees.headers = simp length-map in
    let few : length trees.headers ≤ 64 = few_of_accepted text trees accepted in
    omega arith

-- ---- the tensors and fills of headers

-- what is known of a tensor by its header
pub record IsTensorOf (text : List ℕ) (t : Tensor) (h : Header) : Type 0 where
  pub name : text_at text t.name ≡ h.name
  pub levels : t.levels ≡ length h.format.levels

pub record IsFillOf (text : List ℕ) (f : Fill) (h : Header) : Type 0 where
  pub name : text_at text f.name ≡ h.name
  pub value : integer_of f.value ≡ h.format.fill

abbrev pub AreTensorsOf : List ℕ → List Tensor → List Header → Type 0
AreTensorsOf text [] [] = Unit {0}
AreTensorsOf text [] (h ∷ hs) = ⊥
AreTensorsOf text (t ∷ ts) [] = ⊥
AreTensorsOf text (t ∷ ts) (h ∷ hs) = IsTensorOf text t h × AreTensorsOf text ts hs

abbrev pub AreFillsOf : List ℕ → List Fill → List Header → Type 0
AreFillsOf text [] [] = Unit {0}
AreFillsOf text [] (h ∷ hs) = ⊥
AreFillsOf text (f ∷ fs) [] = ⊥
AreFillsOf text (f ∷ fs) (h ∷ hs) = IsFillOf text f h × AreFillsOf text fs hs

module _ (text : List ℕ) where
  tensors_apart : (earlier : List Tensor) (ps : List HeadParts) → tensors_of earlier ps ≡ earlier ++ tensors_of [] ps
  tensors_apart earlier [] = sym (append-nil earlier)
  tensors_apart earlier (p ∷ ps) =
      tensors_apart (with_tensor earlier p) ps
      ∙ append_assoc earlier (named_tensor (head_token p.name) (levels_of p.format)) (tensors_of [] ps)
      ∙ ap (λ q. earlier ++ q) (sym (tensors_apart (with_tensor [] p) ps))

  fills_apart : (known : List Fill) (ps : List HeadParts) → known_fills known ps ≡ known ++ known_fills [] ps
  fills_apart known [] = sym (append-nil known)
  fills_apart known (p ∷ ps) =
      fills_apart (with_fill known p) ps
      ∙ append_assoc known (named_fill (head_token p.name) (given_fill p.fill)) (known_fills [] ps)
      ∙ ap (λ q. known ++ q) (sym (fills_apart (with_fill [] p) ps))

  tensors_link : (us : List Tree) (hs : List Header) → All (λ u. IsHead (header_of u)) us → AreHeadersOf text (map header_of us) hs → AreTensorsOf text (tensors_of [] (map header_of us)) hs
  tensors_link [] [] heads are = tt
  tensors_link [] (h ∷ hs) heads are = absurd are
  tensors_link (u ∷ us) [] heads are = absurd are
  tensors_link (u ∷ us) (h ∷ hs) heads are =
      let p : HeadParts = header_of u in
      let name = (All-head (λ w. IsHead (header_of w)) u us heads).name in
      let first : tensors_of [] (p ∷ map header_of us) ≡ record { name = name.0; levels = levels_of p.format } ∷ tensors_of [] (map header_of us) =
      tensors_apart (with_tensor [] p) (map header_of us) ∙ ap (λ w. named_tensor (head_token w) (levels_of p.format) ++ tensors_of [] (map header_of us)) name.1 in
      subst (λ ts. AreTensorsOf text ts (h ∷ hs)) (sym first) (
        record { name = sym (are.0.name ∙ ap (name_of text) name.1); levels = sym (ap length are.0.levels ∙ length-levels p.format) },
        tensors_link us hs (All-tail (λ w. IsHead (header_of w)) u us heads) are.1,
      )

  fills_link : (us : List Tree) (hs : List Header) → All (λ u. IsHead (header_of u)) us → AreHeadersOf text (map header_of us) hs → AreFillsOf text (known_fills [] (map header_of us)) hs
  fills_link [] [] heads are = tt
  fills_link [] (h ∷ hs) heads are = absurd are
  fills_link (u ∷ us) [] heads are = absurd are
  fills_link (u ∷ us) (h ∷ hs) heads are =
      let p : HeadParts = header_of u in
      let name = (All-head (λ w. IsHead (header_of w)) u us heads).name in
      let first : known_fills [] (p ∷ map header_of us) ≡ record { name = name.0; value = given_fill p.fill } ∷ known_fills [] (map header_of us) =
      fills_apart (with_fill [] p) (map header_of us) ∙ ap (λ w. named_fill (head_token w) (given_fill p.fill) ++ known_fills [] (map header_of us)) name.1 in
      subst (λ fs. AreFillsOf text fs (h ∷ hs)) (sym first) (
        record { name = sym (are.0.name ∙ ap (name_of text) name.1); value = sym are.0.fill },
        fills_link us hs (All-tail (λ w. IsHead (header_of w)) u us heads) are.1,
      )

  pub tensors_of_accepted : (trees : Text) (hs : List Header) → IsAcceptedText text trees → AreHeadersOf text (map header_of trees.headers) hs → AreTensorsOf text (tensors_of [] (map header_of trees.headers)) hs
  tensors_of_accepted trees hs accepted are = tensors_link trees.headers hs (heads_of_accepted text trees accepted) are

  pub fills_of_accepted : (trees : Text) (hs : List Header) → IsAcceptedText text trees → AreHeadersOf text (map header_of trees.headers) hs → AreFillsOf text (known_fills [] (map header_of trees.headers)) hs
  fills_of_accepted trees hs accepted are = fills_link trees.headers hs (heads_of_accepted text trees accepted) are

-- tensors and fills have the same name tokens, in the same order
pub same_names : (ts : List Tensor) (fs : List Fill) (ps : List HeadParts) → map (λ (t : Tensor). t.name) ts ≡ map (λ (f : Fill). f.name) fs → map (λ (t : Tensor). t.name) (tensors_of ts ps) ≡ map (λ (f : Fill). f.name) (known_fills fs ps)
same_names ts fs [] e = e
same_names ts fs (p ∷ ps) e = same_names (with_tensor ts p) (with_fill fs p) ps (further (head_token p.name))
  where
    further : (name : Option Token) → map (λ (t : Tensor). t.name) (ts ++ named_tensor name (levels_of p.format)) ≡ map (λ (f : Fill). f.name) (fs ++ named_fill name (given_fill p.fill))
    further None = ap (map (λ (t : Tensor). t.name)) (append-nil ts) ∙ e ∙ sym (ap (map (λ (f : Fill). f.name)) (append-nil fs))
    further (Some t) = map-append (λ (u : Tensor). u.name) ts (record { name = t; levels = levels_of p.format } ∷ []) ∙ ap (λ q. q ++ t ∷ []) e ∙ sym (map-append (λ (f : Fill). f.name) fs (record { name = t; value = given_fill p.fill } ∷ []))
