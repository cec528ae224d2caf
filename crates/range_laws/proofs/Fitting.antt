-- The ranges of a content fit its tree: those of the kids of an element lie within its own, and those behind it follow.
use Rattle.std.proofs.Common.{◌≡◌, ℕ, ◌+◌, ◌≤◌, true, false, List, [], ◌∷◌, ◌++◌, length, length-append, IsTrue, refl, ap, ◌∙◌, arith}
use Rattle.std.specs.List.{list_all}
use Rattle.std.specs.Char.{encode_utf8}
use Rattle.std.proofs.lemmas.List.Concat.{flat_map-append}
use Rattle.xml_spec.specs.Tree.{Nodes, NoNodes, Element, Text, Comment, Instruction, with_text}
use Rattle.xml_spec.specs.Numbering.{elements}
use Rattle.xml_spec.specs.Syntax.{is_white, character_of, Item, Characters, Refers, Section, CommentItem, ProcessingInstruction, EmptyTag, print_item, Token, Alone, StartTag, EndTag, print_token, print_tokens, Content, NoContent, Then, Pair, tokens_of}
use Rattle.xml_spec.specs.Meaning.{line_ends, nodes_of}
use Rattle.xml_spec.specs.Document.{is_epilog, is_document, root_of, Span, spans_of}
use Rattle.xml_spec.proofs.Tests.{both_true}

-- these are the ranges of the elements of a list that is written between two places
abbrev pub Fits : ℕ → ℕ → Nodes → List Span → Type 0
Fits low high NoNodes spans = (spans ≡ []) × (low ≤ high)
Fits low high (Element name attributes kids rest) spans =
    (span : Span) × (within : List Span) × (behind : List Span) × (spans ≡ span ∷ within ++ behind) × (low ≤ span.start)
    × Fits span.start span.end kids within × Fits span.end high rest behind
Fits low high (Text text rest) spans = Fits low high rest spans
Fits low high (Comment text rest) spans = Fits low high rest spans
Fits low high (Instruction target value rest) spans = Fits low high rest spans

-- a list that may be written between two places may be so between wider ones
pub wider : (low high least most : ℕ) (nodes : Nodes) (spans : List Span) → least ≤ low → high ≤ most → Fits low high nodes spans → Fits least most nodes spans
wider low high least most NoNodes spans h k fits = (fits.0, omega (arith, fits.1))
wider low high least most (Element name attributes kids rest) spans h k fits = (
  fits.0,
  fits.1,
  fits.2,
  fits.3,
  omega (arith, fits.4),
  fits.5,
  wider fits.0.end high fits.0.end most rest fits.2 (omega arith) k fits.6,
)
wider low high least most (Text text rest) spans h k fits = wider low high least most rest spans h k fits
wider low high least most (Comment text rest) spans h k fits = wider low high least most rest spans h k fits
wider low high least most (Instruction target value rest) spans h k fits = wider low high least most rest spans h k fits

-- the first place is not behind the last
pub ordered : (low high : ℕ) (nodes : Nodes) (spans : List Span) → Fits low high nodes spans → low ≤ high
ordered low high NoNodes spans fits = fits.1
ordered low high (Element name attributes kids rest) spans fits =
    omega (arith, fits.4, ordered fits.0.start fits.0.end kids fits.1 fits.5, ordered fits.0.end high rest fits.2 fits.6)
ordered low high (Text text rest) spans fits = ordered low high rest spans fits
ordered low high (Comment text rest) spans fits = ordered low high rest spans fits
ordered low high (Instruction target value rest) spans fits = ordered low high rest spans fits

-- there are as many as elements
pub counted : (low high : ℕ) (nodes : Nodes) (spans : List Span) → Fits low high nodes spans → length spans ≡ elements nodes
counted low high NoNodes spans fits = ap length fits.0
counted low high (Element name attributes kids rest) spans fits =
    ap length fits.3
    ∙ omega (arith, length-append fits.1 fits.2, counted fits.0.start fits.0.end kids fits.1 fits.5, counted fits.0.end high rest fits.2 fits.6)
counted low high (Text text rest) spans fits = counted low high rest spans fits
counted low high (Comment text rest) spans fits = counted low high rest spans fits
counted low high (Instruction target value rest) spans fits = counted low high rest spans fits

-- texts have no range
text_fits : (low high : ℕ) (bytes : List ℕ) (nodes : Nodes) (spans : List Span) → Fits low high nodes spans → Fits low high (with_text bytes nodes) spans
text_fits low high [] nodes spans fits = fits
text_fits low high (b ∷ bytes) NoNodes spans fits = fits
text_fits low high (b ∷ bytes) (Element name attributes kids rest) spans fits = fits
text_fits low high (b ∷ bytes) (Text text rest) spans fits = fits
text_fits low high (b ∷ bytes) (Comment text rest) spans fits = fits
text_fits low high (b ∷ bytes) (Instruction target value rest) spans fits = fits

more : (token : Token) (tokens : List Token) → length (print_tokens (token ∷ tokens)) ≡ length (print_token token) + length (print_tokens tokens)
more token tokens = length-append (print_token token) (print_tokens tokens)

-- behind an item that is no element
behind_item : (at : ℕ) (item : Item) (rest : Content) (nodes : Nodes) (spans : List Span) →
    Fits (at + length (print_item item)) (at + length (print_item item) + length (print_tokens (tokens_of rest))) nodes spans →
    Fits at (at + length (print_tokens (tokens_of (Then item rest)))) nodes spans
behind_item at item rest nodes spans fits =
    wider (at + length (print_item item)) (at + length (print_item item) + length (print_tokens (tokens_of rest))) at
    (at + length (print_tokens (tokens_of (Then item rest)))) nodes spans (omega arith) (omega (arith, more (Alone item) (tokens_of rest))) fits

-- behind an item that means a text
behind_text : (at : ℕ) (item : Item) (text : List ℕ) (rest : Content) (nodes : Nodes) (spans : List Span) →
    Fits (at + length (print_item item)) (at + length (print_item item) + length (print_tokens (tokens_of rest))) nodes spans →
    Fits at (at + length (print_tokens (tokens_of (Then item rest)))) (with_text text nodes) spans
behind_text at item text rest nodes spans fits =
    text_fits at (at + length (print_tokens (tokens_of (Then item rest)))) text nodes spans (behind_item at item rest nodes spans fits)

-- the ranges of a content that begins at this place
pub content_fits : (at : ℕ) (content : Content) → Fits at (at + length (print_tokens (tokens_of content))) (nodes_of content) (spans_of at content)
content_fits at NoContent = (refl, omega arith)
content_fits at (Then (Characters bytes) rest) =
    let begin = at + length (print_item (Characters bytes)) in
    behind_text at (Characters bytes) (line_ends bytes) rest (nodes_of rest) (spans_of begin rest) (content_fits begin rest)
content_fits at (Then (Refers reference) rest) =
    let begin = at + length (print_item (Refers reference)) in
    behind_text at (Refers reference) (encode_utf8 (character_of reference)) rest (nodes_of rest) (spans_of begin rest) (content_fits begin rest)
content_fits at (Then (Section bytes) rest) =
    let begin = at + length (print_item (Section bytes)) in
    behind_text at (Section bytes) (line_ends bytes) rest (nodes_of rest) (spans_of begin rest) (content_fits begin rest)
content_fits at (Then (CommentItem bytes) rest) =
    let begin = at + length (print_item (CommentItem bytes)) in
    behind_item at (CommentItem bytes) rest (nodes_of rest) (spans_of begin rest) (content_fits begin rest)
content_fits at (Then (ProcessingInstruction target space value) rest) =
    let begin = at + length (print_item (ProcessingInstruction target space value)) in
    behind_item at (ProcessingInstruction target space value) rest (nodes_of rest) (spans_of begin rest) (content_fits begin rest)
content_fits at (Then (EmptyTag tag) rest) =
    let begin = at + length (print_item (EmptyTag tag)) in
    let count = more (Alone (EmptyTag tag)) (tokens_of rest) in (
      record { start = at; end = begin },
      [],
      spans_of begin rest,
      refl,
      omega arith,
      (refl, omega arith),
      wider begin (begin + length (print_tokens (tokens_of rest))) begin (at + length (print_tokens (tokens_of (Then (EmptyTag tag) rest))))
          (nodes_of rest) (spans_of begin rest) (omega arith) (omega (arith, count)) (content_fits begin rest),
    )
content_fits at (Pair tag inner space rest) =
    let start = length (print_token (StartTag tag)) in
    let end = length (print_token (EndTag tag.name space)) in
    let within = length (print_tokens (tokens_of inner)) in
    let left = length (print_tokens (tokens_of rest)) in
    let all = length (print_tokens (tokens_of (Pair tag inner space rest))) in
    let count : all ≡ start + (within + (end + left)) =
    more (StartTag tag) (tokens_of inner ++ EndTag tag.name space ∷ tokens_of rest)
    ∙ ap (λ (bytes : List ℕ). start + length bytes) (flat_map-append print_token (tokens_of inner) (EndTag tag.name space ∷ tokens_of rest))
    ∙ ap (λ n. start + n) (length-append (print_tokens (tokens_of inner)) (print_tokens (EndTag tag.name space ∷ tokens_of rest)))
    ∙ ap (λ n. start + (within + n)) (more (EndTag tag.name space) (tokens_of rest)) in
    let begin = at + start in
    let behind = begin + within + end in (
      record { start = at; end = behind },
      spans_of begin inner,
      spans_of behind rest,
      refl,
      omega arith,
      wider begin (begin + within) at behind (nodes_of inner) (spans_of begin inner) (omega arith) (omega arith) (content_fits begin inner),
      wider behind (behind + left) behind (at + all) (nodes_of rest) (spans_of behind rest) (omega arith) (omega (arith, count)) (content_fits behind rest),
    )

-- no element stands behind the root
none_behind : (at : ℕ) (content : Content) → IsTrue (is_epilog content) → spans_of at content ≡ []
none_behind at NoContent h = refl
none_behind at (Then (Characters bytes) rest) h = none_behind (at + length (print_item (Characters bytes))) rest (both_true (list_all is_white bytes) _ h).1
none_behind at (Then (Refers reference) rest) h = absurd (let clash : false ≡ true = h in cc)
none_behind at (Then (Section bytes) rest) h = absurd (let clash : false ≡ true = h in cc)
none_behind at (Then (CommentItem bytes) rest) h = none_behind (at + length (print_item (CommentItem bytes))) rest h
none_behind at (Then (ProcessingInstruction target space value) rest) h =
    none_behind (at + length (print_item (ProcessingInstruction target space value))) rest h
none_behind at (Then (EmptyTag tag) rest) h = absurd (let clash : false ≡ true = h in cc)
none_behind at (Pair tag inner space rest) h = absurd (let clash : false ≡ true = h in cc)

-- the ranges of a document, whose content begins at this place
pub root_fits : (at : ℕ) (content : Content) → IsTrue (is_document content) →
    Fits at (at + length (print_tokens (tokens_of content))) (root_of content) (spans_of at content)
unfolding content_fits
root_fits at NoContent h = absurd (let clash : false ≡ true = h in cc)
root_fits at (Then (Characters bytes) rest) h =
    let begin = at + length (print_item (Characters bytes)) in
    behind_item at (Characters bytes) rest (root_of rest) (spans_of begin rest) (root_fits begin rest (both_true (list_all is_white bytes) _ h).1)
root_fits at (Then (Refers reference) rest) h = absurd (let clash : false ≡ true = h in cc)
root_fits at (Then (Section bytes) rest) h = absurd (let clash : false ≡ true = h in cc)
root_fits at (Then (CommentItem bytes) rest) h =
    let begin = at + length (print_item (CommentItem bytes)) in
    behind_item at (CommentItem bytes) rest (root_of rest) (spans_of begin rest) (root_fits begin rest h)
root_fits at (Then (ProcessingInstruction target space value) rest) h =
    let begin = at + length (print_item (ProcessingInstruction target space value)) in
    behind_item at (ProcessingInstruction target space value) rest (root_of rest) (spans_of begin rest) (root_fits begin rest h)
root_fits at (Then (EmptyTag tag) rest) h =
    let begin = at + length (print_item (EmptyTag tag)) in (
      record { start = at; end = begin },
      [],
      spans_of begin rest,
      refl,
      omega arith,
      (refl, omega arith),
      (none_behind begin rest h, omega (arith, more (Alone (EmptyTag tag)) (tokens_of rest))),
    )
root_fits at (Pair tag inner space rest) h =
    let behind = at + length (print_token (StartTag tag)) + length (print_tokens (tokens_of inner)) + length (print_token (EndTag tag.name space)) in
    let fits = content_fits at (Pair tag inner space rest) in (
      fits.0,
      fits.1,
      fits.2,
      fits.3,
      fits.4,
      fits.5,
      (none_behind behind rest h, ordered behind (at + length (print_tokens (tokens_of (Pair tag inner space rest)))) (nodes_of rest) fits.2 fits.6),
    )
