-- The content that a canonical form writes, and what it means.
use Rattle.std.proofs.Common.{◌≡◌, ℕ, ◌<◌, Bool, true, false, ◌&&◌, ◌||◌, not, ◌==◌, length, List, [], ◌∷◌, ◌++◌, codes, Option, Some, None, IsFalse, refl, sym, ◌∙◌, ap, append_assoc, arith}
use Rattle.std.specs.Bool.{⊤}
use Rattle.std.specs.List.{list_all, AllByRecursion}
use Rattle.std.proofs.lemmas.List.{append-nil}
use Rattle.xml_spec.specs.Ascii.{carriage_return, ampersand, less_than, greater_than}
use Rattle.xml_spec.specs.Bytes.{AllPass, begins_with, no_two, has}
use Rattle.xml_spec.specs.Tree.{Nodes, NoNodes, Element, Text, Comment, Instruction, with_text}
use Rattle.xml_spec.specs.Syntax.{Reference, IsReference, is_white, IsTag, Characters, Refers, Section, CommentItem, ProcessingInstruction, EmptyTag, IsProcessingInstruction, EndTag, is_run, IsToken, print_tokens, AreTokens, Content, NoContent, Then, Pair, tokens_of}
use Rattle.xml_spec.specs.Meaning.{line_ends, nodes_of}
use Rattle.xml_spec.specs.Canonical.{escape_text_byte, escape_text}
use Rattle.xml_spec.proofs.Tests.{both_true, and_true}
use Rattle.canon_laws.proofs.Tests.{second_fails, either_fails}
use Rattle.canon_laws.proofs.Escapes.{is_plain_text, IsEscape, text_reference, text_escape}
use Rattle.canon_laws.proofs.Values.{line_ends_on}

-- a byte of text in front of a content, which stands as it is, or as a reference
abbrev pub with_character : ℕ → Content → Content
with_character b (Then (Characters bytes) rest) = Then (Characters (b ∷ bytes)) rest
with_character b behind = Then (Characters (b ∷ [])) behind

abbrev pub with_text_byte : ℕ → Option Reference → Content → Content
with_text_byte b None behind = with_character b behind
with_text_byte b (Some r) behind = Then (Refers r) behind

-- a text in front of a content
abbrev pub with_written : List ℕ → Content → Content
with_written [] behind = behind
with_written (b ∷ bytes) behind = with_text_byte b (text_reference b) (with_written bytes behind)

abbrev pub bytes_of : Content → List ℕ
bytes_of behind = print_tokens (tokens_of behind)

character_printed : (b : ℕ) (behind : Content) → bytes_of (with_character b behind) ≡ b ∷ bytes_of behind
character_printed b NoContent = refl
character_printed b (Then (Characters bytes) rest) = refl
character_printed b (Then (Refers r) rest) = refl
character_printed b (Then (Section bytes) rest) = refl
character_printed b (Then (CommentItem bytes) rest) = refl
character_printed b (Then (ProcessingInstruction target space value) rest) = refl
character_printed b (Then (EmptyTag tag) rest) = refl
character_printed b (Pair tag inner space rest) = refl

byte_printed : (b : ℕ) (written : List ℕ) (reference : Option Reference) (behind : Content) → IsEscape is_plain_text b written reference →
    bytes_of (with_text_byte b reference behind) ≡ written ++ bytes_of behind
byte_printed b written None behind e = character_printed b behind ∙ ap (λ z. z ++ bytes_of behind) (sym e.0)
byte_printed b written (Some r) behind e = ap (λ z. z ++ bytes_of behind) (sym e.printed)

pub written_printed : (text : List ℕ) (behind : Content) → bytes_of (with_written text behind) ≡ escape_text text ++ bytes_of behind
written_printed [] behind = refl
written_printed (b ∷ bytes) behind =
    byte_printed b (escape_text_byte b) (text_reference b) (with_written bytes behind) (text_escape b)
    ∙ ap (λ z. escape_text_byte b ++ z) (written_printed bytes behind)
    ∙ sym (append_assoc (escape_text_byte b) (escape_text bytes) (bytes_of behind))

-- a text of two parts in front of nodes
text_in_parts : (x y : List ℕ) (nodes : Nodes) → with_text (x ++ y) nodes ≡ with_text x (with_text y nodes)
text_in_parts [] y nodes = refl
text_in_parts (b ∷ x) [] nodes = ap (λ z. with_text (b ∷ z) nodes) (append-nil x)
text_in_parts (b ∷ x) (c ∷ y) NoNodes = refl
text_in_parts (b ∷ x) (c ∷ y) (Element name attributes kids rest) = refl
text_in_parts (b ∷ x) (c ∷ y) (Text text rest) = ap (λ z. Text (b ∷ z) rest) (append_assoc x (c ∷ y) text)
text_in_parts (b ∷ x) (c ∷ y) (Comment text rest) = refl
text_in_parts (b ∷ x) (c ∷ y) (Instruction target value rest) = refl

-- of a byte that is written as it is
plain_ends_no_line : (b : ℕ) → is_plain_text b ≡ true → (b == carriage_return) ≡ false
plain_ends_no_line b h = which (b == ampersand) (b == less_than) (b == greater_than) (b == carriage_return) h
  where
    which : (one two three four : Bool) → not (one || two || three || four) ≡ true → four ≡ false
    which true two three four k = absurd (let clash : false ≡ true = k in cc)
    which false true three four k = absurd (let clash : false ≡ true = k in cc)
    which false false true four k = absurd (let clash : false ≡ true = k in cc)
    which false false false true k = absurd (let clash : false ≡ true = k in cc)
    which false false false false k = refl

alone_means : (b : ℕ) (nodes : Nodes) → (b == carriage_return) ≡ false → with_text (line_ends (b ∷ [])) nodes ≡ with_text (b ∷ []) nodes
alone_means b nodes h = ap (λ z. with_text z nodes) (line_ends_on b [] h)

character_means : (b : ℕ) (behind : Content) → (b == carriage_return) ≡ false →
    nodes_of (with_character b behind) ≡ with_text (b ∷ []) (nodes_of behind)
character_means b NoContent h = alone_means b NoNodes h
character_means b (Then (Characters bytes) rest) h =
    ap (λ z. with_text z (nodes_of rest)) (line_ends_on b bytes h) ∙ text_in_parts (b ∷ []) (line_ends bytes) (nodes_of rest)
character_means b (Then (Refers r) rest) h = alone_means b (nodes_of (Then (Refers r) rest)) h
character_means b (Then (Section bytes) rest) h = alone_means b (nodes_of (Then (Section bytes) rest)) h
character_means b (Then (CommentItem bytes) rest) h = alone_means b (nodes_of (Then (CommentItem bytes) rest)) h
character_means b (Then (ProcessingInstruction target space value) rest) h = alone_means b (nodes_of (Then (ProcessingInstruction target space value) rest)) h
character_means b (Then (EmptyTag tag) rest) h = alone_means b (nodes_of (Then (EmptyTag tag) rest)) h
character_means b (Pair tag inner space rest) h = alone_means b (nodes_of (Pair tag inner space rest)) h

byte_means : (b : ℕ) (written : List ℕ) (reference : Option Reference) (behind : Content) → IsEscape is_plain_text b written reference →
    nodes_of (with_text_byte b reference behind) ≡ with_text (b ∷ []) (nodes_of behind)
byte_means b written None behind e = character_means b behind (plain_ends_no_line b e.1)
byte_means b written (Some r) behind e = ap (λ z. with_text z (nodes_of behind)) e.means

pub written_means : (text : List ℕ) (behind : Content) → nodes_of (with_written text behind) ≡ with_text text (nodes_of behind)
written_means [] behind = refl
written_means (b ∷ bytes) behind =
    byte_means b (escape_text_byte b) (text_reference b) (with_written bytes behind) (text_escape b)
    ∙ ap (with_text (b ∷ [])) (written_means bytes behind) ∙ sym (text_in_parts (b ∷ []) bytes (nodes_of behind))

abbrev begins_with_run : Content → Bool
begins_with_run (Then (Characters bytes) rest) = true
begins_with_run _ = false

-- a content as the canonical form writes it: runs of bytes that stand as they are, references, instructions, and
-- elements with both tags
abbrev pub IsWell : Content → Type 0
IsWell NoContent = ⊤
IsWell (Then (Characters bytes) rest) =
    (0 < length bytes) × AllPass is_plain_text bytes × IsFalse (begins_with_run rest) × IsWell rest
IsWell (Then (Refers r) rest) = IsReference r × IsWell rest
IsWell (Then (Section bytes) rest) = ⊥
IsWell (Then (CommentItem bytes) rest) = ⊥
IsWell (Then (ProcessingInstruction target space value) rest) = IsProcessingInstruction target space value × IsWell rest
IsWell (Then (EmptyTag tag) rest) = ⊥
IsWell (Pair tag inner space rest) = IsTag tag × AllPass is_white space × IsWell inner × IsWell rest

character_well : (b : ℕ) (behind : Content) → is_plain_text b ≡ true → IsWell behind → IsWell (with_character b behind)
character_well b NoContent h w = (omega arith, and_true _ _ h refl, refl, w)
character_well b (Then (Characters bytes) rest) h w = (omega arith, and_true _ _ h w.1, w.2, w.3)
character_well b (Then (Refers r) rest) h w = (omega arith, and_true _ _ h refl, refl, w)
character_well b (Then (Section bytes) rest) h w = absurd w
character_well b (Then (CommentItem bytes) rest) h w = absurd w
character_well b (Then (ProcessingInstruction target space value) rest) h w = (omega arith, and_true _ _ h refl, refl, w)
character_well b (Then (EmptyTag tag) rest) h w = absurd w
character_well b (Pair tag inner space rest) h w = (omega arith, and_true _ _ h refl, refl, w)

byte_well : (b : ℕ) (written : List ℕ) (reference : Option Reference) (behind : Content) → IsEscape is_plain_text b written reference →
    IsWell behind → IsWell (with_text_byte b reference behind)
byte_well b written None behind e w = character_well b behind e.1 w
byte_well b written (Some r) behind e w = (e.valid, w)

pub written_well : (text : List ℕ) (behind : Content) → IsWell behind → IsWell (with_written text behind)
written_well [] behind w = w
written_well (b ∷ bytes) behind w =
    byte_well b (escape_text_byte b) (text_reference b) (with_written bytes behind) (text_escape b) (written_well bytes behind w)

-- of a byte that is written as it is
plain_is_character : (b : ℕ) → is_plain_text b ≡ true → not (b == less_than || b == ampersand) ≡ true
plain_is_character b h = which (b == ampersand) (b == less_than) (b == greater_than) (b == carriage_return) h
  where
    which : (one two three four : Bool) → not (one || two || three || four) ≡ true → not (two || one) ≡ true
    which true two three four k = absurd (let clash : false ≡ true = k in cc)
    which false true three four k = absurd (let clash : false ≡ true = k in cc)
    which false false three four k = refl

plain_are_characters : (bytes : List ℕ) → AllPass is_plain_text bytes → AllPass (λ b. not (b == less_than || b == ampersand)) bytes
plain_are_characters [] h = refl
plain_are_characters (b ∷ bytes) h =
    let parts = both_true (is_plain_text b) (list_all is_plain_text bytes) h in
    and_true _ _ (plain_is_character b parts.0) (plain_are_characters bytes parts.1)

-- what holds of the parts of a list holds of the list
pub all_append : {X : Type 0} (P : X → Type 0) (xs ys : List X) → AllByRecursion P xs → AllByRecursion P ys → AllByRecursion P (xs ++ ys)
all_append P [] ys h k = k
all_append P (x ∷ xs) ys h k = (h.0, all_append P xs ys h.1 k)

plain_is_no_sign : (b : ℕ) → is_plain_text b ≡ true → (greater_than == b) ≡ false
plain_is_no_sign b h = grind arith

-- no run of bytes that stand as they are has the end of a CDATA section
plain_has_no_end : (bytes : List ℕ) → AllPass is_plain_text bytes → IsFalse (has (codes "]]>") bytes)
plain_has_no_end [] h = refl
plain_has_no_end (b ∷ []) h = either_fails _ false (second_fails (93 == b) _ refl) refl
plain_has_no_end (b ∷ c ∷ []) h =
    either_fails _ _ (second_fails (93 == b) _ (second_fails (93 == c) _ refl)) (plain_has_no_end (c ∷ []) (both_true (is_plain_text b) _ h).1)
plain_has_no_end (b ∷ c ∷ d ∷ bytes) h =
    let behind = both_true (is_plain_text b) _ h in
    let third = both_true (is_plain_text c) _ behind.1 in
    let sign : (greater_than == d) ≡ false = plain_is_no_sign d (both_true (is_plain_text d) _ third.1).0 in
    either_fails _ _ (second_fails (93 == b) _ (second_fails (93 == c) _ (ap (λ z. z && true) sign))) (plain_has_no_end (c ∷ d ∷ bytes) behind.1)

-- each token is valid
tokens_each : (content : Content) → IsWell content → AllByRecursion IsToken (tokens_of content)
tokens_each NoContent w = tt
tokens_each (Then (Characters bytes) rest) w = ((w.0, plain_are_characters bytes w.1, plain_has_no_end bytes w.1), tokens_each rest w.3)
tokens_each (Then (Refers r) rest) w = (w.0, tokens_each rest w.1)
tokens_each (Then (Section bytes) rest) w = absurd w
tokens_each (Then (CommentItem bytes) rest) w = absurd w
tokens_each (Then (ProcessingInstruction target space value) rest) w = (w.0, tokens_each rest w.1)
tokens_each (Then (EmptyTag tag) rest) w = absurd w
tokens_each (Pair tag inner space rest) w = (
  w.0,
  all_append IsToken (tokens_of inner) (EndTag tag.name space ∷ tokens_of rest) (tokens_each inner w.2)
      ((w.0.name, w.1), tokens_each rest w.3),
)

-- no two neighbours pass where none in each part do and the second part begins with one that fails
no_two_append : {X : Type 0} (test : X → Bool) (xs : List X) (y : X) (ys : List X) → no_two test xs ≡ true → test y ≡ false →
    no_two test (y ∷ ys) ≡ true → no_two test (xs ++ y ∷ ys) ≡ true
no_two_append test [] y ys h f k = k
no_two_append test (x ∷ []) y ys h f k = and_true _ _ (ap not (second_fails (test x) (test y) f)) k
no_two_append test (x ∷ z ∷ xs) y ys h f k =
    let parts = both_true (not (test x && test z)) (no_two test (z ∷ xs)) h in
    and_true _ _ parts.0 (no_two_append test (z ∷ xs) y ys parts.1 f k)

run_begins : (content : Content) → begins_with is_run (tokens_of content) ≡ begins_with_run content
run_begins NoContent = refl
run_begins (Then (Characters bytes) rest) = refl
run_begins (Then (Refers r) rest) = refl
run_begins (Then (Section bytes) rest) = refl
run_begins (Then (CommentItem bytes) rest) = refl
run_begins (Then (ProcessingInstruction target space value) rest) = refl
run_begins (Then (EmptyTag tag) rest) = refl
run_begins (Pair tag inner space rest) = refl

-- no run is cut in two
tokens_whole : (content : Content) → IsWell content → no_two is_run (tokens_of content) ≡ true
tokens_whole NoContent w = refl
tokens_whole (Then (Characters bytes) rest) w = and_true _ _ (ap not (run_begins rest ∙ w.2)) (tokens_whole rest w.3)
tokens_whole (Then (Refers r) rest) w = tokens_whole rest w.1
tokens_whole (Then (Section bytes) rest) w = absurd w
tokens_whole (Then (CommentItem bytes) rest) w = absurd w
tokens_whole (Then (ProcessingInstruction target space value) rest) w = tokens_whole rest w.1
tokens_whole (Then (EmptyTag tag) rest) w = absurd w
tokens_whole (Pair tag inner space rest) w =
    no_two_append is_run (tokens_of inner) (EndTag tag.name space) (tokens_of rest) (tokens_whole inner w.2) refl (tokens_whole rest w.3)

pub well_tokens : (content : Content) → IsWell content → AreTokens (tokens_of content)
well_tokens content w = record { each = tokens_each content w; whole_runs = tokens_whole content w }
