-- The canonical form of an element spells its tree.
use Rattle.std.proofs.Common.{◌≡◌, ℕ, ◌<◌, false, not, ◌==◌, length, List, [], ◌∷◌, ◌++◌, codes, map, Option, None, IsTrue, refl, sym, ◌∙◌, ap, subst, append_assoc, arith}
use Rattle.std.specs.Prelude.{IfSome}
use Rattle.std.specs.List.{list_all}
use Rattle.std.proofs.lemmas.Grind.{flat_map-append}
use Rattle.std.proofs.lemmas.List.{append-nil}
use Rattle.std.proofs.lemmas.Bool.{not-true}
use Rattle.xml_spec.specs.Ascii.{carriage_return, space_character, less_than, greater_than}
use Rattle.xml_spec.specs.Bytes.{AllPass}
use Rattle.xml_spec.specs.Tree.{Attribute, Nodes, NoNodes, Element, Text, Comment, Instruction, with_text}
use Rattle.xml_spec.specs.Numbering.{from_node}
use Rattle.xml_spec.specs.Names.{Scope, outermost, inner_scope}
use Rattle.xml_spec.specs.Syntax.{is_white, Tag, ProcessingInstruction, IsProcessingInstruction, EndTag, print_token, print_tag, Content, NoContent, Then, Pair, tokens_of}
use Rattle.xml_spec.specs.Meaning.{line_ends, nodes_of}
use Rattle.xml_spec.specs.Document.{Spells}
use Rattle.xml_spec.specs.Canonical.{written_declarations, written_attributes, escape_text, print_end, print_instruction, canonical_nodes, scope_at, canonical}
use Rattle.xml_spec.proofs.Tests.{both_true}
use Rattle.canon_laws.specs.Trees.{declaration_of, canonical_tree_of, begins_with_element, canonical_tree}
use Rattle.canon_laws.specs.Writable.{IsWritableAttribute, IsWritableInstruction, IsWritable}
use Rattle.canon_laws.proofs.Values.{tag_of, tag_valid, tag_means, start_printed, line_ends_on}
use Rattle.canon_laws.proofs.Contents.{all_append, bytes_of, with_written, written_printed, written_means, IsWell, written_well, well_tokens}
use Rattle.canon_laws.proofs.Written.{canonical_text}
use Rattle.canon_laws.proofs.Kept.{scope_declarable, kept_is_element}
use Rattle.canon_laws.proofs.Scopes.{AreDeclarable, outermost_declarable, inner_declarable, written_declarable, written_writable}

-- the space between the target and the value of an instruction
abbrev space_before : List ℕ → List ℕ
space_before [] = []
space_before (b ∷ value) = space_character ∷ []

-- the content that the canonical form of a list of nodes writes
abbrev content_of : List (List ℕ) → Scope → Scope → Nodes → Content
content_of listed scope rendered NoNodes = NoContent
content_of listed scope rendered (Element name attributes kids rest) =
    let inner = inner_scope attributes scope in
    let written = written_declarations listed inner rendered name attributes in
    Pair (tag_of name (map declaration_of written ++ written_attributes inner attributes))
    (content_of listed inner (written ++ rendered) kids) [] (content_of listed scope rendered rest)
content_of listed scope rendered (Text text rest) = with_written text (content_of listed scope rendered rest)
content_of listed scope rendered (Comment text rest) = content_of listed scope rendered rest
content_of listed scope rendered (Instruction target value rest) =
    Then (ProcessingInstruction target (space_before value) value) (content_of listed scope rendered rest)

regroup : (s i e r : List ℕ) → s ++ (i ++ (e ++ r)) ≡ s ++ i ++ e ++ r
regroup s i e r = sym (append_assoc (s ++ i) e r ∙ append_assoc s i (e ++ r))

-- what a start tag, a content, the end tag and what follows print
pair_printed : (tag : Tag) (inner rest : Content) →
    bytes_of (Pair tag inner [] rest)
    ≡ (less_than ∷ print_tag tag ++ greater_than ∷ []) ++ bytes_of inner ++ print_end tag.name ++ bytes_of rest
pair_printed tag inner rest =
    ap (λ z. (less_than ∷ print_tag tag ++ greater_than ∷ []) ++ z)
    (flat_map-append print_token (tokens_of inner) (EndTag tag.name [] ∷ tokens_of rest)
    ∙ ap (λ z. bytes_of inner ++ (z ++ greater_than ∷ [] ++ bytes_of rest)) (append-nil (codes "</" ++ tag.name)))
    ∙ regroup (less_than ∷ print_tag tag ++ greater_than ∷ []) (bytes_of inner) (print_end tag.name) (bytes_of rest)

instruction_printed : (target value : List ℕ) → codes "<?" ++ target ++ space_before value ++ value ++ codes "?>" ≡ print_instruction target value
instruction_printed target [] = ap (λ z. codes "<?" ++ z ++ codes "?>") (append-nil (target ++ []) ∙ append-nil target)
instruction_printed target (b ∷ value) = ap (λ z. codes "<?" ++ z ++ codes "?>") (append_assoc target (space_character ∷ []) (b ∷ value))

content_printed : (listed : List (List ℕ)) (scope rendered : Scope) (nodes : Nodes) →
    bytes_of (content_of listed scope rendered nodes) ≡ canonical_nodes listed scope rendered nodes
content_printed listed scope rendered NoNodes = refl
content_printed listed scope rendered (Element name attributes kids rest) =
    let inner = inner_scope attributes scope in
    let written = written_declarations listed inner rendered name attributes in
    pair_printed (tag_of name (map declaration_of written ++ written_attributes inner attributes)) (content_of listed inner (written ++ rendered) kids) (content_of listed scope rendered rest)
    ∙ (λ i. start_printed name written (written_attributes inner attributes) i
    ++ content_printed listed inner (written ++ rendered) kids i ++ print_end name ++ content_printed listed scope rendered rest i)
content_printed listed scope rendered (Text text rest) =
    written_printed text (content_of listed scope rendered rest) ∙ ap (λ z. escape_text text ++ z) (content_printed listed scope rendered rest)
content_printed listed scope rendered (Comment text rest) = content_printed listed scope rendered rest
content_printed listed scope rendered (Instruction target value rest) =
    λ i. instruction_printed target value i ++ content_printed listed scope rendered rest i

-- a value in which no line ends with a carriage return
ends_kept : (bytes : List ℕ) → IsTrue (list_all (λ b. not (b == carriage_return)) bytes) → line_ends bytes ≡ bytes
ends_kept [] h = refl
ends_kept (b ∷ bytes) h =
    let parts = both_true (not (b == carriage_return)) (list_all (λ c. not (c == carriage_return)) bytes) h in
    line_ends_on b bytes (not-true (b == carriage_return) parts.0) ∙ ap (λ z. b ∷ z) (ends_kept bytes parts.1)

content_means : (listed : List (List ℕ)) (scope rendered : Scope) (nodes : Nodes) → IsWritable nodes →
    nodes_of (content_of listed scope rendered nodes) ≡ canonical_tree_of listed scope rendered nodes
content_means listed scope rendered NoNodes w = refl
content_means listed scope rendered (Element name attributes kids rest) w =
    let inner = inner_scope attributes scope in
    let written = written_declarations listed inner rendered name attributes in
    λ i. Element name (tag_means name (map declaration_of written ++ written_attributes inner attributes) i)
    (content_means listed inner (written ++ rendered) kids w.2 i) (content_means listed scope rendered rest w.3 i)
content_means listed scope rendered (Text text rest) w =
    written_means text (content_of listed scope rendered rest) ∙ ap (with_text text) (content_means listed scope rendered rest w.1)
content_means listed scope rendered (Comment text rest) w = content_means listed scope rendered rest w
content_means listed scope rendered (Instruction target value rest) w =
    λ i. Instruction target (ends_kept value w.0.line_ends i) (content_means listed scope rendered rest w.1 i)

-- an instruction as it is written
processing_valid : (target value : List ℕ) → IsWritableInstruction target value → IsProcessingInstruction target (space_before value) value
processing_valid target value w = record {
  named = w.named;
  not_xml = w.not_xml;
  white = white value;
  apart = apart value;
  begins = w.begins;
  closed = w.closed;
}
  where
    white : (bytes : List ℕ) → AllPass is_white (space_before bytes)
    white [] = refl
    white (b ∷ bytes) = refl

    apart : (bytes : List ℕ) → 0 < length bytes → 0 < length (space_before bytes)
    apart [] h = h
    apart (b ∷ bytes) h = omega arith

content_well : (listed : List (List ℕ)) (scope rendered : Scope) (nodes : Nodes) → IsWritable nodes → AreDeclarable scope →
    AreDeclarable rendered → IsWell (content_of listed scope rendered nodes)
content_well listed scope rendered NoNodes w s r = tt
content_well listed scope rendered (Element name attributes kids rest) w s r =
    let inner = inner_scope attributes scope in
    let written = written_declarations listed inner rendered name attributes in
    let inside : AreDeclarable inner = inner_declarable attributes scope w.1 s in
    let declared : AreDeclarable written = written_declarable listed inner rendered name attributes inside r in (
      tag_valid name (map declaration_of written ++ written_attributes inner attributes) w.0 (written_writable written inner attributes declared w.1),
      refl,
      content_well listed inner (written ++ rendered) kids w.2 inside (all_append (λ b. IsWritableAttribute (declaration_of b)) written rendered declared r),
      content_well listed scope rendered rest w.3 s r,
    )
content_well listed scope rendered (Text text rest) w s r =
    written_well text (content_of listed scope rendered rest) (content_well listed scope rendered rest w.1 s r)
content_well listed scope rendered (Comment text rest) w s r = content_well listed scope rendered rest w s r
content_well listed scope rendered (Instruction target value rest) w s r =
    (processing_valid target value w.0, content_well listed scope rendered rest w.1 s r)

-- of one element
element_spelled : (listed : List (List ℕ)) (scope : Scope) (name : List ℕ) (attributes : List Attribute) (kids : Nodes) →
    IsWritable (Element name attributes kids NoNodes) → AreDeclarable scope →
    Spells (canonical_nodes listed scope [] (Element name attributes kids NoNodes)) (canonical_tree_of listed scope [] (Element name attributes kids NoNodes))
element_spelled listed scope name attributes kids w s =
    let nodes = Element name attributes kids NoNodes in
    let written = content_of listed scope [] nodes in
    record {
      document = record { mark = false; declaration = None; content = written };
      writes = record {
        valid = record { declaration = tt; tokens = well_tokens written (content_well listed scope [] nodes w s tt); shape = refl };
        printed = sym (content_printed listed scope [] nodes);
        characters = canonical_text listed scope [] nodes w s tt;
      };
      means = sym (content_means listed scope [] nodes w);
    }

pub canonical_spelled : (tree : Nodes) (k : ℕ) (skip : Option ℕ) (listed : List (List ℕ)) → IsTrue (begins_with_element (from_node tree k)) →
    IfSome skip (λ s. k < s) → IsWritable tree → Spells (canonical tree k skip listed) (canonical_tree tree k skip listed)
canonical_spelled tree k skip listed h below w =
    let scope = scope_at outermost tree k in
    let kept = kept_is_element tree k skip h below w in
    subst (λ nodes. Spells (canonical_nodes listed scope [] nodes) (canonical_tree_of listed scope [] nodes)) (sym kept.is)
    (element_spelled listed scope kept.name kept.attributes kept.kids kept.writable (scope_declarable outermost tree k w outermost_declarable))
