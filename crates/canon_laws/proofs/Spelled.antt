-- A tree that bytes spell can be written.
use Rattle.std.proofs.Common.{◌≡◌, ℕ, true, false, List, [], ◌∷◌, ◌++◌, map, IsTrue, refl, sym, subst}
use Rattle.std.specs.Char.{encode_utf8}
use Rattle.std.specs.List.{list_all, AllByRecursion}
use Rattle.xml_spec.specs.Characters.{IsText}
use Rattle.xml_spec.specs.Tree.{Nodes, NoNodes, Element, Text, Comment, Instruction, with_text}
use Rattle.xml_spec.specs.Syntax.{is_white, character_of, Assignment, IsAssignment, Item, Characters, Refers, Section, CommentItem, ProcessingInstruction, EmptyTag, IsProcessingInstruction, Token, Alone, EndTag, IsToken, print_tokens, Content, NoContent, Then, Pair, tokens_of}
use Rattle.xml_spec.specs.Meaning.{line_ends, attribute_of, with_item, nodes_of}
use Rattle.xml_spec.specs.Document.{is_document, root_of, print_head, Spells}
use Rattle.xml_spec.proofs.Tests.{both_true}
use Rattle.canon_laws.specs.Writable.{IsWritableAttribute, IsWritableInstruction, IsWritable}
use Rattle.canon_laws.proofs.Texts.{text_append}
use Rattle.canon_laws.proofs.Lines.{lines_text, no_return_left, begins_still, closed_still}
use Rattle.canon_laws.proofs.Cuts.{begins_low, cut}
use Rattle.canon_laws.proofs.Tokens.{HasText, reference_text, white_first, tokens_text}

with_text_writable : (text : List ℕ) (nodes : Nodes) → IsText text → IsWritable nodes → IsWritable (with_text text nodes)
with_text_writable [] nodes t w = w
with_text_writable (b ∷ bytes) NoNodes t w = (t, w)
with_text_writable (b ∷ bytes) (Element name attributes kids rest) t w = (t, w)
with_text_writable (b ∷ bytes) (Text text rest) t w = (text_append (b ∷ bytes) text t w.0, w.1)
with_text_writable (b ∷ bytes) (Comment text rest) t w = (t, w)
with_text_writable (b ∷ bytes) (Instruction target value rest) t w = (t, w)

attributes_writable : (ones : List Assignment) → AllByRecursion IsAssignment ones → AllByRecursion (λ a. IsText (attribute_of a).value) ones →
    AllByRecursion IsWritableAttribute (map attribute_of ones)
attributes_writable [] v t = tt
attributes_writable (a ∷ ones) v t = (record { name = v.0.name; value = t.0 }, attributes_writable ones v.1 t.1)

instruction_writable : (target space value : List ℕ) → IsProcessingInstruction target space value → IsText value → IsWritableInstruction target (line_ends value)
instruction_writable target space value v t = record {
  named = v.named;
  not_xml = v.not_xml;
  characters = lines_text value t;
  begins = begins_still value v.begins;
  closed = closed_still value v.closed;
  line_ends = no_return_left value;
}

-- a token that is valid, with its texts
record IsGood (t : Token) : Type 0 where
  valid : IsToken t
  text : HasText t

-- what holds of a list holds of its parts
front_good : (xs ys : List Token) → AllByRecursion IsGood (xs ++ ys) → AllByRecursion IsGood xs
front_good [] ys h = tt
front_good (x ∷ xs) ys h = (h.0, front_good xs ys h.1)

back_good : (xs ys : List Token) → AllByRecursion IsGood (xs ++ ys) → AllByRecursion IsGood ys
back_good [] ys h = h
back_good (x ∷ xs) ys h = back_good xs ys h.1

all_good : (ts : List Token) → AllByRecursion IsToken ts → AllByRecursion HasText ts → AllByRecursion IsGood ts
all_good [] v t = tt
all_good (u ∷ ts) v t = (record { valid = v.0; text = t.0 }, all_good ts v.1 t.1)

item_writable : (item : Item) (nodes : Nodes) → IsGood (Alone item) → IsWritable nodes → IsWritable (with_item item nodes)
item_writable (Characters bytes) nodes g w = with_text_writable (line_ends bytes) nodes (lines_text bytes g.text) w
item_writable (Refers r) nodes g w = with_text_writable (encode_utf8 (character_of r)) nodes (reference_text r g.valid) w
item_writable (Section bytes) nodes g w = with_text_writable (line_ends bytes) nodes (lines_text bytes g.text) w
item_writable (CommentItem bytes) nodes g w = w
item_writable (ProcessingInstruction target space value) nodes g w = (instruction_writable target space value g.valid g.text, w)
item_writable (EmptyTag tag) nodes g w = (g.valid.name, attributes_writable tag.assignments g.valid.assignments g.text, tt, w)

nodes_writable : (content : Content) → AllByRecursion IsGood (tokens_of content) → IsWritable (nodes_of content)
nodes_writable NoContent g = tt
nodes_writable (Then item rest) g = item_writable item (nodes_of rest) g.0 (nodes_writable rest g.1)
nodes_writable (Pair tag inner space rest) g =
    let inside = front_good (tokens_of inner) (EndTag tag.name space ∷ tokens_of rest) g.1 in
    let behind = back_good (tokens_of inner) (EndTag tag.name space ∷ tokens_of rest) g.1 in
    (g.0.valid.name, attributes_writable tag.assignments g.0.valid.assignments g.0.text, nodes_writable inner inside, nodes_writable rest behind.1)

root_writable : (content : Content) → AllByRecursion IsGood (tokens_of content) → IsWritable (root_of content)
root_writable NoContent g = tt
root_writable (Then (Characters bytes) rest) g = root_writable rest g.1
root_writable (Then (Refers r) rest) g = root_writable rest g.1
root_writable (Then (Section bytes) rest) g = root_writable rest g.1
root_writable (Then (CommentItem bytes) rest) g = root_writable rest g.1
root_writable (Then (ProcessingInstruction target space value) rest) g = root_writable rest g.1
root_writable (Then (EmptyTag tag) rest) g = (g.0.valid.name, attributes_writable tag.assignments g.0.valid.assignments g.0.text, tt, tt)
root_writable (Pair tag inner space rest) g =
    let inside = front_good (tokens_of inner) (EndTag tag.name space ∷ tokens_of rest) g.1 in
    (g.0.valid.name, attributes_writable tag.assignments g.0.valid.assignments g.0.text, nodes_writable inner inside, tt)

-- the content of a document begins with ASCII
content_begins_low : (content : Content) → IsTrue (is_document content) → AllByRecursion IsToken (tokens_of content) →
    begins_low (print_tokens (tokens_of content)) ≡ true
content_begins_low NoContent h v = refl
content_begins_low (Then (Characters bytes) rest) h v = white_first bytes _ v.0.0 (both_true (list_all is_white bytes) _ h).0
content_begins_low (Then (Refers r) rest) h v = absurd (let clash : false ≡ true = h in cc)
content_begins_low (Then (Section bytes) rest) h v = refl
content_begins_low (Then (CommentItem bytes) rest) h v = refl
content_begins_low (Then (ProcessingInstruction target space value) rest) h v = refl
content_begins_low (Then (EmptyTag tag) rest) h v = refl
content_begins_low (Pair tag inner space rest) h v = refl

pub spelled_writable : (bytes : List ℕ) (tree : Nodes) → Spells bytes tree → IsWritable tree
spelled_writable bytes tree s =
    let d = s.document in
    let valid = s.writes.valid in
    let whole : IsText (print_head d ++ print_tokens (tokens_of d.content)) = subst IsText s.writes.printed s.writes.characters in
    let parts = cut (print_head d) (print_tokens (tokens_of d.content)) whole (content_begins_low d.content valid.shape valid.tokens.each) in
    let texts = tokens_text (tokens_of d.content) valid.tokens.each valid.tokens.whole_runs parts.back in
    subst IsWritable (sym s.means) (root_writable d.content (all_good (tokens_of d.content) valid.tokens.each texts))
