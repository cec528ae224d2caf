-- Elements stand inside their text.
use Rattle.std.proofs.Common.{◌≡◌, ℕ, zero, suc, ◌+◌, ◌≤◌, List, [], ◌∷◌, ◌++◌, length, Some, None, ap, ◌∙◌, subst, arith, length-append}
use Rattle.std.specs.List.{slice_get, AllByRecursion}
use Rattle.std.proofs.lemmas.List.Concat.{flat_map-append}
use Rattle.xml_spec.specs.Syntax.{Item, Characters, Refers, Section, CommentItem, ProcessingInstruction, EmptyTag, print_item, Token, StartTag, EndTag, print_token, print_tokens, Content, NoContent, Then, Pair, tokens_of}
use Rattle.xml_spec.specs.Document.{print_head, Span, spans_of, IsRange}
use Rattle.xml_spec.proofs.Sorting.{each_weaker}
use Rattle.saml_tree.proofs.Contents.{join_all}

pub record Within (low high : ℕ) (span : Span) : Type 0 where
  pub from : low ≤ span.start
  pub ordered : span.start ≤ span.end
  pub to : span.end ≤ high

wider : (low high l h : ℕ) (spans : List Span) → low ≤ l → h ≤ high → AllByRecursion (Within l h) spans → AllByRecursion (Within low high) spans
wider low high l h spans a b all =
    each_weaker (Within l h) (Within low high)
    (λ span in_it. record { from = omega (arith, in_it.from); ordered = in_it.ordered; to = omega (arith, in_it.to) }) spans all

more : (token : Token) (tokens : List Token) → length (print_tokens (token ∷ tokens)) ≡ length (print_token token) + length (print_tokens tokens)
more token tokens = length-append (print_token token) (print_tokens tokens)

behind_item : (at : ℕ) (item : Item) (rest : Content) →
    AllByRecursion (Within (at + length (print_item item)) (at + length (print_item item) + length (print_tokens (tokens_of rest)))) (spans_of (at + length (print_item item)) rest) →
    AllByRecursion (Within at (at + length (print_tokens (tokens_of (Then item rest))))) (spans_of (at + length (print_item item)) rest)
behind_item at item rest all =
    let count = length-append (print_item item) (print_tokens (tokens_of rest)) in
    wider at (at + length (print_tokens (tokens_of (Then item rest)))) (at + length (print_item item))
    (at + length (print_item item) + length (print_tokens (tokens_of rest))) (spans_of (at + length (print_item item)) rest)
    (omega arith) (omega (arith, count)) all

pub spans_within : (at : ℕ) (content : Content) →
    AllByRecursion (Within at (at + length (print_tokens (tokens_of content)))) (spans_of at content)
spans_within at NoContent = tt
spans_within at (Then (EmptyTag tag) rest) =
    let count = length-append (print_item (EmptyTag tag)) (print_tokens (tokens_of rest)) in (
      record { from = omega arith; ordered = omega arith; to = omega (arith, count) },
      behind_item at (EmptyTag tag) rest (spans_within (at + length (print_item (EmptyTag tag))) rest),
    )
spans_within at (Then (Characters bytes) rest) = behind_item at (Characters bytes) rest (spans_within (at + length (print_item (Characters bytes))) rest)
spans_within at (Then (Refers reference) rest) = behind_item at (Refers reference) rest (spans_within (at + length (print_item (Refers reference))) rest)
spans_within at (Then (Section bytes) rest) = behind_item at (Section bytes) rest (spans_within (at + length (print_item (Section bytes))) rest)
spans_within at (Then (CommentItem bytes) rest) = behind_item at (CommentItem bytes) rest (spans_within (at + length (print_item (CommentItem bytes))) rest)
spans_within at (Then (ProcessingInstruction target space value) rest) =
    behind_item at (ProcessingInstruction target space value) rest (spans_within (at + length (print_item (ProcessingInstruction target space value))) rest)
spans_within at (Pair tag inner space rest) =
    let start = length (print_token (StartTag tag)) in
    let end = length (print_token (EndTag tag.name space)) in
    let within = length (print_tokens (tokens_of inner)) in
    let left = length (print_tokens (tokens_of rest)) in
    let all = length (print_tokens (tokens_of (Pair tag inner space rest))) in
    let count : all ≡ start + (within + (end + left)) =
    more (StartTag tag) (tokens_of inner ++ EndTag tag.name space ∷ tokens_of rest)
    ∙ ap (λ (bytes : List ℕ). start + length bytes) (flat_map-append print_token (tokens_of inner) (EndTag tag.name space ∷ tokens_of rest))
    ∙ ap (λ n. start + n) (length-append (print_tokens (tokens_of inner)) (print_tokens (EndTag tag.name space ∷ tokens_of rest)))
    ∙ ap (λ n. start + (within + n)) (more (EndTag tag.name space) (tokens_of rest)) in
    let begin = at + start in
    let behind = begin + within + end in (
      record { from = omega arith; ordered = omega arith; to = omega (arith, count) },
      join_all (Within at (at + all)) (spans_of begin inner) (spans_of behind rest)
          (wider at (at + all) begin (begin + within) (spans_of begin inner) (omega arith) (omega (arith, count)) (spans_within begin inner))
          (wider at (at + all) behind (behind + left) (spans_of behind rest) (omega arith) (omega (arith, count)) (spans_within behind rest)),
    )

at_place : (P : Span → Type 0) (spans : List Span) (n : ℕ) (span : Span) → AllByRecursion P spans → slice_get spans n ≡ Some span → P span
at_place P [] n span all h = absurd (let clash : None ≡ Some span = h in cc)
at_place P (x ∷ spans) zero span all h = subst P (let both : Some x ≡ Some span = h in cc) all.0
at_place P (x ∷ spans) (suc n) span all h = at_place P spans n span all.1 h

-- the range of an element lies in the text
pub range_within : (text : List ℕ) (n : ℕ) (span : Span) → IsRange text n span → (span.start ≤ span.end) × (span.end ≤ length text)
range_within text n span range =
    let head = length (print_head range.document) in
    let within = at_place (Within head (head + length (print_tokens (tokens_of range.document.content)))) (spans_of head range.document.content) n span
    (spans_within head range.document.content) range.place in
    let count : length text ≡ head + length (print_tokens (tokens_of range.document.content)) =
    ap length range.writes.printed ∙ length-append (print_head range.document) (print_tokens (tokens_of range.document.content)) in
    (within.ordered, omega (arith, within.to, count))
