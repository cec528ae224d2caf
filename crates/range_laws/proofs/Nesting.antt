-- Elements that lie in others stand within them, and the others apart.
use Rattle.std.proofs.Common.{◌≡◌, ℕ, zero, suc, ◌+◌, ◌-◌, ◌<◌, ◌≤◌, true, false, ltb, List, [], ◌∷◌, ◌++◌, length, Some, IsTrue, refl, sym, ap, ◌∙◌, subst, inl, inr, arith}
use Rattle.std.specs.Prelude.{slice_get}
use Rattle.std.proofs.lemmas.Option.{slice_get_cases}
use Rattle.std.proofs.lemmas.Bool.{cases_lt, cond-true, cond-false, lt-ltb, le-ltb}
use Rattle.xml_spec.specs.Tree.{Attribute, Nodes, NoNodes, Element, Text, Comment, Instruction}
use Rattle.xml_spec.specs.Numbering.{size, from_node, kids_of, elements, elements_before}
use Rattle.xml_spec.specs.Document.{print_head, Spells, Span, spans_of, root_of}
use Rattle.xml_spec.proofs.Documents.{one_document}
use Rattle.canon_laws.specs.Trees.{begins_with_element}
use Rattle.range_laws.specs.Ranges.{StandsAt, LiesIn, IsWithin, AreApart}
use Rattle.range_laws.proofs.Fitting.{Fits, ordered, counted, root_fits}

-- the list begins with an element, and that has this range at this place of a list
record Shows (nodes : Nodes) (spans : List Span) (place : ℕ) (span : Span) : Type 0 where
  element : IsTrue (begins_with_element nodes)
  range : slice_get spans place ≡ Some span

-- node k of a list is an element with this range
abbrev ShowsNode : Nodes → List Span → ℕ → Span → Type 0
ShowsNode nodes spans k span = Shows (from_node nodes k) spans (elements_before nodes k) span

in_first : (xs ys : List Span) (i : ℕ) → i < length xs → slice_get (xs ++ ys) i ≡ slice_get xs i
in_first [] ys i h = absurd (omega arith)
in_first (x ∷ xs) ys zero h = refl
in_first (x ∷ xs) ys (suc i) h = in_first xs ys i (omega arith)

in_second : (xs ys : List Span) (i : ℕ) → slice_get (xs ++ ys) (length xs + i) ≡ slice_get ys i
in_second [] ys i = let same : 0 + i ≡ i = omega arith in ap (slice_get ys) same
in_second (x ∷ xs) ys i =
    let next : suc (length xs) + i ≡ suc (length xs + i) = omega arith in ap (slice_get (x ∷ xs ++ ys)) next ∙ in_second xs ys i

-- fewer elements come before an element than there are
fewer : (nodes : Nodes) (k : ℕ) → IsTrue (begins_with_element (from_node nodes k)) → elements_before nodes k < elements nodes
fewer NoNodes k h = absurd (let clash : false ≡ true = h in cc)
fewer (Element name attributes kids rest) zero h = omega arith
fewer (Element name attributes kids rest) (suc k) h = elim (cases_lt k (size kids)) [
  | inl less ↦
      let here = cond-true (ltb k (size kids)) (from_node kids k) (from_node rest (k - size kids)) (lt-ltb _ _ less) in
      let count = cond-true (ltb k (size kids)) (suc (elements_before kids k)) (suc (elements kids + elements_before rest (k - size kids))) (lt-ltb _ _ less) in
      omega (arith, count, fewer kids k (subst (λ nodes. IsTrue (begins_with_element nodes)) here h))
  | inr past ↦
      let here = cond-false (ltb k (size kids)) (from_node kids k) (from_node rest (k - size kids)) (le-ltb _ _ past) in
      let count = cond-false (ltb k (size kids)) (suc (elements_before kids k)) (suc (elements kids + elements_before rest (k - size kids))) (le-ltb _ _ past) in
      omega (arith, count, fewer rest (k - size kids) (subst (λ nodes. IsTrue (begins_with_element nodes)) here h))
]
fewer (Text text rest) zero h = absurd (let clash : false ≡ true = h in cc)
fewer (Text text rest) (suc k) h = fewer rest k h
fewer (Comment text rest) zero h = absurd (let clash : false ≡ true = h in cc)
fewer (Comment text rest) (suc k) h = fewer rest k h
fewer (Instruction target value rest) zero h = absurd (let clash : false ≡ true = h in cc)
fewer (Instruction target value rest) (suc k) h = fewer rest k h

module _ (name : List ℕ) (attributes : List Attribute) (kids rest : Nodes) (k : ℕ) where
  abbrev whole : Nodes
  whole = Element name attributes kids rest

  from_kids : k < size kids → from_node whole (suc k) ≡ from_node kids k
  from_kids h = cond-true (ltb k (size kids)) _ _ (lt-ltb _ _ h)

  from_rest : size kids ≤ k → from_node whole (suc k) ≡ from_node rest (k - size kids)
  from_rest h = cond-false (ltb k (size kids)) _ _ (le-ltb _ _ h)

  before_kids : k < size kids → elements_before whole (suc k) ≡ suc (elements_before kids k)
  before_kids h = cond-true (ltb k (size kids)) _ _ (lt-ltb _ _ h)

  before_rest : size kids ≤ k → elements_before whole (suc k) ≡ suc (elements kids + elements_before rest (k - size kids))
  before_rest h = cond-false (ltb k (size kids)) _ _ (le-ltb _ _ h)

  module _ (low high : ℕ) (spans : List Span) (fits : Fits low high whole spans) (span : Span) (shows : ShowsNode whole spans (suc k) span) where
    shown_in_kids : k < size kids → ShowsNode kids fits.1 k span
    shown_in_kids h =
        let element = subst (λ nodes. IsTrue (begins_with_element nodes)) (from_kids h) shows.element in
        let few = fewer kids k element in
        record {
          element = element;
          range =
              sym (in_first fits.1 fits.2 (elements_before kids k) (omega (arith, few, counted fits.0.start fits.0.end kids fits.1 fits.5)))
              ∙ (λ i. slice_get (sym fits.3 i) (sym (before_kids h) i)) ∙ shows.range;
        }

    shown_in_rest : size kids ≤ k → ShowsNode rest fits.2 (k - size kids) span
    shown_in_rest h =
        let count = counted fits.0.start fits.0.end kids fits.1 fits.5 in
        let place : length fits.1 + elements_before rest (k - size kids) ≡ elements kids + elements_before rest (k - size kids) = omega (arith, count) in
        record {
          element = subst (λ nodes. IsTrue (begins_with_element nodes)) (from_rest h) shows.element;
          range =
              sym (in_second fits.1 fits.2 (elements_before rest (k - size kids))) ∙ ap (slice_get (fits.1 ++ fits.2)) place
              ∙ (λ i. slice_get (sym fits.3 i) (sym (before_rest h) i)) ∙ shows.range;
        }

-- the first node has the first range
first_shown : (name : List ℕ) (attributes : List Attribute) (kids rest : Nodes) (low high : ℕ) (spans : List Span)
    (fits : Fits low high (Element name attributes kids rest) spans) (span : Span) → ShowsNode (Element name attributes kids rest) spans 0 span → fits.0 ≡ span
first_shown name attributes kids rest low high spans fits span shows =
    let same : Some fits.0 ≡ Some span = ap (λ (xs : List Span). slice_get xs 0) (sym fits.3) ∙ shows.range in cc

no_text : {P : Type 0} {spans : List Span} {place : ℕ} {span : Span} (nodes : Nodes) → begins_with_element nodes ≡ false → Shows nodes spans place span → P
no_text nodes h shows = absurd (let clash : false ≡ true = sym h ∙ shows.element in cc)

-- a range lies between the places
bounds : (low high : ℕ) (nodes : Nodes) (spans : List Span) → Fits low high nodes spans → (k : ℕ) (span : Span) → ShowsNode nodes spans k span →
    IsWithin (record { start = low; end = high }) span
bounds low high NoNodes spans fits k span shows = no_text NoNodes refl shows
bounds low high (Element name attributes kids rest) spans fits zero span shows =
    let same = first_shown name attributes kids rest low high spans fits span shows in
    subst (IsWithin (record { start = low; end = high })) same (record { start = fits.4; end = ordered fits.0.end high rest fits.2 fits.6 })
bounds low high (Element name attributes kids rest) spans fits (suc k) span shows = elim (cases_lt k (size kids)) [
  | inl less ↦
      let inner = bounds fits.0.start fits.0.end kids fits.1 fits.5 k span (shown_in_kids name attributes kids rest k low high spans fits span shows less) in
      record { start = omega (arith, fits.4, inner.start); end = omega (arith, inner.end, ordered fits.0.end high rest fits.2 fits.6) }
  | inr past ↦
      let inner = bounds fits.0.end high rest fits.2 fits.6 (k - size kids) span (shown_in_rest name attributes kids rest k low high spans fits span shows past) in
      record { start = omega (arith, fits.4, ordered fits.0.start fits.0.end kids fits.1 fits.5, inner.start); end = inner.end }
]
bounds low high (Text text rest) spans fits zero span shows = no_text (Text text rest) refl shows
bounds low high (Text text rest) spans fits (suc k) span shows = bounds low high rest spans fits k span shows
bounds low high (Comment text rest) spans fits zero span shows = no_text (Comment text rest) refl shows
bounds low high (Comment text rest) spans fits (suc k) span shows = bounds low high rest spans fits k span shows
bounds low high (Instruction target value rest) spans fits zero span shows = no_text (Instruction target value rest) refl shows
bounds low high (Instruction target value rest) spans fits (suc k) span shows = bounds low high rest spans fits k span shows

-- what is below a node has numbers of the list
below : (nodes : Nodes) (k : ℕ) → k < size nodes → k + size (kids_of (from_node nodes k)) < size nodes
below NoNodes k h = absurd (omega arith)
below (Element name attributes kids rest) zero h = omega arith
below (Element name attributes kids rest) (suc k) h = elim (cases_lt k (size kids)) [
  | inl less ↦ omega (arith, below kids k less, ap (λ nodes. size (kids_of nodes)) (from_kids name attributes kids rest k less))
  | inr past ↦
      omega (arith, below rest (k - size kids) (omega arith), ap (λ nodes. size (kids_of nodes)) (from_rest name attributes kids rest k past))
]
below (Text text rest) zero h = omega arith
below (Text text rest) (suc k) h = omega (arith, below rest k (omega arith))
below (Comment text rest) zero h = omega arith
below (Comment text rest) (suc k) h = omega (arith, below rest k (omega arith))
below (Instruction target value rest) zero h = omega arith
below (Instruction target value rest) (suc k) h = omega (arith, below rest k (omega arith))

nest : (low high : ℕ) (nodes : Nodes) (spans : List Span) → Fits low high nodes spans → (e n : ℕ) (outer inner : Span) →
    ShowsNode nodes spans e outer → ShowsNode nodes spans n inner → LiesIn nodes e n → IsWithin outer inner
nest low high NoNodes spans fits e n outer inner one other lies = no_text NoNodes refl one
nest low high (Element name attributes kids rest) spans fits zero zero outer inner one other lies =
    let first = first_shown name attributes kids rest low high spans fits outer one in
    let second = first_shown name attributes kids rest low high spans fits inner other in
    subst (λ span. IsWithin span inner) first (subst (IsWithin fits.0) second (record { start = omega arith; end = omega arith }))
nest low high (Element name attributes kids rest) spans fits zero (suc m) outer inner one other lies =
    let first = first_shown name attributes kids rest low high spans fits outer one in
    subst (λ span. IsWithin span inner) first
    (bounds fits.0.start fits.0.end kids fits.1 fits.5 m inner
    (shown_in_kids name attributes kids rest m low high spans fits inner other (omega (arith, lies.1))))
nest low high (Element name attributes kids rest) spans fits (suc i) zero outer inner one other lies = absurd (omega (arith, lies.0))
nest low high (Element name attributes kids rest) spans fits (suc i) (suc m) outer inner one other lies = elim (cases_lt i (size kids)) [
  | inl less ↦
      let count = ap (λ nodes. size (kids_of nodes)) (from_kids name attributes kids rest i less) in
      let few : m < size kids = omega (arith, lies.1, count, below kids i less) in
      nest fits.0.start fits.0.end kids fits.1 fits.5 i m outer inner (shown_in_kids name attributes kids rest i low high spans fits outer one less)
      (shown_in_kids name attributes kids rest m low high spans fits inner other few) (omega (arith, lies.0), omega (arith, lies.1, count))
  | inr past ↦
      let count = ap (λ nodes. size (kids_of nodes)) (from_rest name attributes kids rest i past) in
      nest fits.0.end high rest fits.2 fits.6 (i - size kids) (m - size kids) outer inner (shown_in_rest name attributes kids rest i low high spans fits outer one past)
      (shown_in_rest name attributes kids rest m low high spans fits inner other (omega (arith, lies.0))) (omega (arith, lies.0), omega (arith, lies.1, count))
]
nest low high (Text text rest) spans fits zero n outer inner one other lies = no_text (Text text rest) refl one
nest low high (Text text rest) spans fits (suc i) zero outer inner one other lies = absurd (omega (arith, lies.0))
nest low high (Text text rest) spans fits (suc i) (suc m) outer inner one other lies =
    nest low high rest spans fits i m outer inner one other (omega (arith, lies.0), omega (arith, lies.1))
nest low high (Comment text rest) spans fits zero n outer inner one other lies = no_text (Comment text rest) refl one
nest low high (Comment text rest) spans fits (suc i) zero outer inner one other lies = absurd (omega (arith, lies.0))
nest low high (Comment text rest) spans fits (suc i) (suc m) outer inner one other lies =
    nest low high rest spans fits i m outer inner one other (omega (arith, lies.0), omega (arith, lies.1))
nest low high (Instruction target value rest) spans fits zero n outer inner one other lies = no_text (Instruction target value rest) refl one
nest low high (Instruction target value rest) spans fits (suc i) zero outer inner one other lies = absurd (omega (arith, lies.0))
nest low high (Instruction target value rest) spans fits (suc i) (suc m) outer inner one other lies =
    nest low high rest spans fits i m outer inner one other (omega (arith, lies.0), omega (arith, lies.1))

-- an element that comes behind all that lies in another begins behind its end
follow : (low high : ℕ) (nodes : Nodes) (spans : List Span) → Fits low high nodes spans → (m n : ℕ) (one other : Span) →
    ShowsNode nodes spans m one → ShowsNode nodes spans n other → m + size (kids_of (from_node nodes m)) < n → one.end ≤ other.start
follow low high NoNodes spans fits m n one other shows also h = no_text NoNodes refl shows
follow low high (Element name attributes kids rest) spans fits m zero one other shows also h = absurd (omega arith)
follow low high (Element name attributes kids rest) spans fits zero (suc j) one other shows also h =
    let first = first_shown name attributes kids rest low high spans fits one shows in
    let later = bounds fits.0.end high rest fits.2 fits.6 (j - size kids) other
    (shown_in_rest name attributes kids rest j low high spans fits other also (omega arith)) in
    subst (λ span. span.end ≤ other.start) first later.start
follow low high (Element name attributes kids rest) spans fits (suc i) (suc j) one other shows also h = elim (cases_lt i (size kids)) [
  | inl less ↦
      let here = shown_in_kids name attributes kids rest i low high spans fits one shows less in
      let count = ap (λ nodes. size (kids_of nodes)) (from_kids name attributes kids rest i less) in
      elim (cases_lt j (size kids)) [
        | inl few ↦
            follow fits.0.start fits.0.end kids fits.1 fits.5 i j one other here
            (shown_in_kids name attributes kids rest j low high spans fits other also few) (omega (arith, count))
        | inr past ↦
            let first = bounds fits.0.start fits.0.end kids fits.1 fits.5 i one here in
            let second = bounds fits.0.end high rest fits.2 fits.6 (j - size kids) other
            (shown_in_rest name attributes kids rest j low high spans fits other also past) in
            omega (arith, first.end, second.start)
      ]
  | inr past ↦
      let count = ap (λ nodes. size (kids_of nodes)) (from_rest name attributes kids rest i past) in
      follow fits.0.end high rest fits.2 fits.6 (i - size kids) (j - size kids) one other
      (shown_in_rest name attributes kids rest i low high spans fits one shows past)
      (shown_in_rest name attributes kids rest j low high spans fits other also (omega arith)) (omega (arith, count))
]
follow low high (Text text rest) spans fits zero n one other shows also h = no_text (Text text rest) refl shows
follow low high (Text text rest) spans fits (suc i) zero one other shows also h = absurd (omega arith)
follow low high (Text text rest) spans fits (suc i) (suc j) one other shows also h = follow low high rest spans fits i j one other shows also (omega arith)
follow low high (Comment text rest) spans fits zero n one other shows also h = no_text (Comment text rest) refl shows
follow low high (Comment text rest) spans fits (suc i) zero one other shows also h = absurd (omega arith)
follow low high (Comment text rest) spans fits (suc i) (suc j) one other shows also h = follow low high rest spans fits i j one other shows also (omega arith)
follow low high (Instruction target value rest) spans fits zero n one other shows also h = no_text (Instruction target value rest) refl shows
follow low high (Instruction target value rest) spans fits (suc i) zero one other shows also h = absurd (omega arith)
follow low high (Instruction target value rest) spans fits (suc i) (suc j) one other shows also h =
    follow low high rest spans fits i j one other shows also (omega arith)

-- THE RANGES OF A DOCUMENT

module _ (bytes : List ℕ) (tree : Nodes) (spells : Spells bytes tree) where
  abbrev head : ℕ
  head = length (print_head spells.document)

  abbrev spans : List Span
  spans = spans_of head spells.document.content

  shown : (k : ℕ) (span : Span) → StandsAt bytes tree k span → ShowsNode (root_of spells.document.content) spans k span
  shown k span stands = record {
    element = subst (λ nodes. IsTrue (begins_with_element (from_node nodes k))) spells.means stands.element;
    range =
        (λ i. slice_get (spans_of (length (print_head (one_document bytes spells.document stands.range.document spells.writes stands.range.writes i)))
        (one_document bytes spells.document stands.range.document spells.writes stands.range.writes i).content) (elements_before (sym spells.means i) k))
        ∙ stands.range.place;
  }

  pub within : (e n : ℕ) (outer inner : Span) → LiesIn tree e n → StandsAt bytes tree e outer → StandsAt bytes tree n inner → IsWithin outer inner
  within e n outer inner lies one other =
      nest head _ (root_of spells.document.content) spans (root_fits head spells.document.content spells.writes.valid.shape) e n outer inner (shown e outer one) (shown n inner other)
      (subst (λ nodes. LiesIn nodes e n) spells.means lies)

  behind : (m n : ℕ) (one other : Span) → m + size (kids_of (from_node tree m)) < n → StandsAt bytes tree m one → StandsAt bytes tree n other → one.end ≤ other.start
  behind m n one other h first second =
      follow head _ (root_of spells.document.content) spans (root_fits head spells.document.content spells.writes.valid.shape) m n one other (shown m one first) (shown n other second)
      (subst (λ nodes. m + size (kids_of (from_node nodes m)) < n) spells.means h)

  pub apart : (m n : ℕ) (one other : Span) → ¬ (LiesIn tree m n) → ¬ (LiesIn tree n m) → StandsAt bytes tree m one → StandsAt bytes tree n other → AreApart one other
  apart m n one other not_first not_second first second = elim (cases_lt (m + size (kids_of (from_node tree m))) n) [
    | inl less ↦ inl (behind m n one other less first second)
    | inr past ↦ elim (cases_lt (n + size (kids_of (from_node tree n))) m) [
      | inl less ↦ inr (behind n m other one less second first)
      | inr later ↦ elim (cases_lt n m) [
        | inl less ↦ absurd (not_second (omega arith, later))
        | inr over ↦ absurd (not_first (over, past))
      ]
    ]
  ]

  -- each element stands somewhere
  pub somewhere : (k : ℕ) → IsTrue (begins_with_element (from_node tree k)) → (span : Span) × StandsAt bytes tree k span
  somewhere k element =
      let content = spells.document.content in
      let fits = root_fits head content spells.writes.valid.shape in
      let many : length spans ≡ elements tree = counted head _ (root_of content) spans fits ∙ ap elements (sym spells.means) in
      elim ((slice_get_cases spans (elements_before tree k)).1) [
        | inl there ↦ (there.0, record { element = element; range = record { document = spells.document; writes = spells.writes; place = there.2 } })
        | inr past ↦ absurd (omega (arith, many, past.0, fewer tree k element))
      ]
