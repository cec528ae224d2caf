-- Worked examples: what a source text spells, and the canonical form of what it spells.
use Rattle.std.proofs.Common.{◌≡◌, ℕ, ◌++◌, true, false, List, [], ◌∷◌, Some, None, codes, refl, arith}
use Rattle.std.specs.Char.{encode_utf8}
use Rattle.std.specs.Str.{chars}
use Rattle.xml_spec.specs.Ascii.{tab, line_feed, carriage_return, space_character, quotation_mark, apostrophe}
use Rattle.xml_spec.specs.Tree.{Attribute, Nodes, NoNodes, Element, Text, Comment, Instruction}
use Rattle.xml_spec.specs.Identifiers.{identifiers, node_with}
use Rattle.xml_spec.specs.Syntax.{GreaterThan, LessThan, QuotationMark, Decimal, Hexadecimal, Piece, Literal, Referred, Assignment, Tag, Characters, Refers, Section, CommentItem, ProcessingInstruction, EmptyTag, Content, NoContent, Then, Pair}
use Rattle.xml_spec.specs.Document.{Spells, Document, IsRange}
use Rattle.xml_spec.specs.Canonical.{canonical}
use Rattle.xml_spec.proofs.Valid.{writes_shown, written_shown}

-- an attribute behind one space, and one whose value is one piece
abbrev with_pieces : List ℕ → List Piece → ℕ → Assignment
with_pieces name pieces quote =
    record { before = space_character ∷ []; name = name; left = []; right = []; quote = quote; pieces = pieces }

abbrev assigned : List ℕ → List ℕ → Assignment
assigned name value = with_pieces name (Literal value ∷ []) quotation_mark

abbrev tag_with : List ℕ → List Assignment → Tag
tag_with name assignments = record { name = name; assignments = assignments; space = [] }

-- a document without a mark and a declaration: content, the one element <name ../>, the one element <name ..>inner</name>
abbrev bare : Content → Document
bare content = record { mark = false; declaration = None; content = content }

abbrev empty : List ℕ → List Assignment → Content
empty name assignments = Then (EmptyTag (tag_with name assignments)) NoContent

abbrev pair : List ℕ → List Assignment → Content → Content
pair name assignments inner = Pair (tag_with name assignments) inner [] NoContent

abbrev attribute : List ℕ → List ℕ → Attribute
attribute name value = record { name = name; value = value }

-- <a z="1" b='2'/>: attributes in the order of their names, in quotation marks, and an end tag
sorted_tree : Nodes
sorted_tree = Element (codes "a") (attribute (codes "z") (codes "1") ∷ attribute (codes "b") (codes "2") ∷ []) NoNodes NoNodes

sorted_spelled : Spells (codes "<a z=\"1\" b='2'/>") sorted_tree
unfolding sorted_tree chars encode_utf8
sorted_spelled =
    written_shown _
    (bare (empty (codes "a") (assigned (codes "z") (codes "1") ∷ with_pieces (codes "b") (Literal (codes "2") ∷ []) apostrophe ∷ [])))
    tt refl

sorted_form : canonical sorted_tree 0 None [] ≡ codes "<a b=\"2\" z=\"1\"></a>"
unfolding sorted_tree
sorted_form = refl

-- a declaration stands where its prefix is used first, and those that none uses are left out; attributes without a
-- prefix come first
used_tree : Nodes
used_tree =
    Element (codes "b") (attribute (codes "xmlns:p") (codes "urn:u") ∷ attribute (codes "xmlns:q") (codes "urn:v") ∷ [])
    (Element (codes "p:a") (attribute (codes "z") (codes "1") ∷ attribute (codes "p:y") (codes "2") ∷ attribute (codes "a") (codes "3") ∷ []) NoNodes NoNodes)
    NoNodes

used_spelled : Spells (codes "<b xmlns:p=\"urn:u\" xmlns:q=\"urn:v\"><p:a z=\"1\" p:y=\"2\" a='3'/></b>") used_tree
unfolding used_tree chars encode_utf8
used_spelled =
    written_shown _
    (bare (pair (codes "b") (assigned (codes "xmlns:p") (codes "urn:u") ∷ assigned (codes "xmlns:q") (codes "urn:v") ∷ [])
    (empty (codes "p:a") (assigned (codes "z") (codes "1") ∷ assigned (codes "p:y") (codes "2")
    ∷ with_pieces (codes "a") (Literal (codes "3") ∷ []) apostrophe ∷ []))))
    tt refl

used_form : canonical used_tree 0 None [] ≡ codes "<b><p:a xmlns:p=\"urn:u\" a=\"3\" z=\"1\" p:y=\"2\"></p:a></b>"
unfolding used_tree
used_form = refl

-- no default below a default is declared
no_default_tree : Nodes
no_default_tree =
    Element (codes "a") (attribute (codes "xmlns") (codes "urn:u") ∷ [])
    (Element (codes "b") (attribute (codes "xmlns") [] ∷ []) NoNodes NoNodes) NoNodes

no_default_spelled : Spells (codes "<a xmlns=\"urn:u\"><b xmlns=\"\"/></a>") no_default_tree
unfolding no_default_tree chars encode_utf8
no_default_spelled =
    written_shown _
    (bare (pair (codes "a") (assigned (codes "xmlns") (codes "urn:u") ∷ [])
    (empty (codes "b") (with_pieces (codes "xmlns") [] quotation_mark ∷ []))))
    tt refl

no_default_form : canonical no_default_tree 0 None [] ≡ codes "<a xmlns=\"urn:u\"><b xmlns=\"\"></b></a>"
unfolding no_default_tree
no_default_form = refl

-- which characters are escaped in values and in texts; references, runs and sections join to one text
escaped_tree : Nodes
escaped_tree =
    Element (codes "a") (attribute (codes "b") (tab ∷ line_feed ∷ codes "\"<") ∷ [])
    (Text (codes "x>" ++ carriage_return ∷ codes "&") NoNodes) NoNodes

escaped_spelled : Spells (codes "<a b=\"&#9;&#10;&quot;&lt;\">x&gt;&#13;<![CDATA[&]]></a>") escaped_tree
unfolding escaped_tree chars encode_utf8
escaped_spelled =
    written_shown _
    (bare (pair (codes "a")
    (with_pieces (codes "b")
    (Referred (Decimal (codes "9")) ∷ Referred (Decimal (codes "10")) ∷ Referred QuotationMark ∷ Referred LessThan ∷ []) quotation_mark ∷ [])
    (Then (Characters (codes "x")) (Then (Refers GreaterThan) (Then (Refers (Decimal (codes "13"))) (Then (Section (codes "&")) NoContent))))))
    tt refl

escaped_form : canonical escaped_tree 0 None [] ≡ codes "<a b=\"&#x9;&#xA;&quot;&lt;\">x&gt;&#xD;&amp;</a>"
unfolding escaped_tree
escaped_form = refl

-- a listed prefix is declared where it is in scope, used or not
listed_tree : Nodes
listed_tree = Element (codes "a") (attribute (codes "xmlns:p") (codes "urn:p") ∷ []) (Element (codes "b") [] NoNodes NoNodes) NoNodes

listed_spelled : Spells (codes "<a xmlns:p=\"urn:p\"><b/></a>") listed_tree
unfolding listed_tree chars encode_utf8
listed_spelled =
    written_shown _ (bare (pair (codes "a") (assigned (codes "xmlns:p") (codes "urn:p") ∷ []) (empty (codes "b") []))) tt refl

listed_form : canonical listed_tree 1 None (codes "p" ∷ []) ≡ codes "<b xmlns:p=\"urn:p\"></b>"
unfolding listed_tree
listed_form = refl

unlisted_form : canonical listed_tree 1 None (codes "q" ∷ codes "xml" ∷ []) ≡ codes "<b></b>"
unfolding listed_tree
unlisted_form = refl

-- #default in the list stands for the default namespace
default_tree : Nodes
default_tree =
    Element (codes "a") (attribute (codes "xmlns") (codes "urn:u") ∷ [])
    (Element (codes "p:b") (attribute (codes "xmlns:p") (codes "urn:p") ∷ []) NoNodes NoNodes) NoNodes

default_spelled : Spells (codes "<a xmlns=\"urn:u\"><p:b xmlns:p=\"urn:p\"/></a>") default_tree
unfolding default_tree chars encode_utf8
default_spelled =
    written_shown _
    (bare (pair (codes "a") (assigned (codes "xmlns") (codes "urn:u") ∷ [])
    (empty (codes "p:b") (assigned (codes "xmlns:p") (codes "urn:p") ∷ []))))
    tt refl

default_form : canonical default_tree 1 None (codes "#default" ∷ []) ≡ codes "<p:b xmlns=\"urn:u\" xmlns:p=\"urn:p\"></p:b>"
unfolding default_tree
default_form = refl

-- the form without one element
skipped_tree : Nodes
skipped_tree =
    Element (codes "a") [] (Element (codes "b") [] NoNodes (Text (codes "x") (Element (codes "c") [] NoNodes NoNodes))) NoNodes

skipped_document : Document
skipped_document =
    bare (pair (codes "a") [] (Then (EmptyTag (tag_with (codes "b") [])) (Then (Characters (codes "x")) (empty (codes "c") []))))

skipped_spelled : Spells (codes "<a><b/>x<c/></a>") skipped_tree
unfolding skipped_tree skipped_document chars encode_utf8
skipped_spelled = written_shown _ skipped_document tt refl

skipped_form : canonical skipped_tree 0 (Some 1) [] ≡ codes "<a>x<c></c></a>"
unfolding skipped_tree
skipped_form = refl

-- where elements stand in these bytes: a from place 0 to behind 16, c, which is element 2, from 8 to behind 12
whole_range : IsRange (codes "<a><b/>x<c/></a>") 0 (record { start = 0; end = 16 })
unfolding skipped_document chars encode_utf8
whole_range = record { document = skipped_document; writes = writes_shown _ skipped_document tt refl; place = refl }

inner_range : IsRange (codes "<a><b/>x<c/></a>") 2 (record { start = 8; end = 12 })
unfolding skipped_document chars encode_utf8
inner_range = record { document = skipped_document; writes = writes_shown _ skipped_document tt refl; place = refl }

-- what stands before the root is not in the tree, comments are not in the form, and white space in front of an
-- instruction's data is one space
prolog_tree : Nodes
prolog_tree = Element (codes "a") [] (Instruction (codes "t") (codes "d ") (Comment (codes " x ") NoNodes)) NoNodes

prolog_document : Document
prolog_document =
    record {
      mark = false;
      declaration = Some (record {
        version = record { before = codes " "; left = []; right = []; quote = quotation_mark; value = codes "1.0" };
        encoding = None;
        standalone = None;
        space = [];
      });
      content =
          Then (CommentItem (codes " c "))
          (pair (codes "a") [] (Then (ProcessingInstruction (codes "t") (codes "  ") (codes "d ")) (Then (CommentItem (codes " x ")) NoContent)));
    }

prolog_spelled : Spells (codes "<?xml version=\"1.0\"?><!-- c --><a><?t  d ?><!-- x --></a>") prolog_tree
unfolding prolog_tree prolog_document chars encode_utf8
prolog_spelled =
    written_shown _ prolog_document
    (record {
      version = (record { apart = omega arith; before = refl; left = refl; right = refl; quote = refl }, refl);
      encoding = tt;
      standalone = tt;
      space = refl;
    })
    refl

prolog_form : canonical prolog_tree 0 None [] ≡ codes "<a><?t d ?></a>"
unfolding prolog_tree
prolog_form = refl

-- the scope of an element within, and the element with an ID
identified_tree : Nodes
identified_tree =
    Element (codes "r") (attribute (codes "xmlns") (codes "urn:u") ∷ attribute (codes "xmlns:k") (codes "urn:k") ∷ [])
    (Element (codes "k:a") (attribute (codes "ID") (codes "i1") ∷ []) NoNodes NoNodes) NoNodes

identified_spelled : Spells (codes "<r xmlns=\"urn:u\" xmlns:k=\"urn:k\"><k:a ID=\"i1\"/></r>") identified_tree
unfolding identified_tree chars encode_utf8
identified_spelled =
    written_shown _
    (bare (pair (codes "r") (assigned (codes "xmlns") (codes "urn:u") ∷ assigned (codes "xmlns:k") (codes "urn:k") ∷ [])
    (empty (codes "k:a") (assigned (codes "ID") (codes "i1") ∷ []))))
    tt refl

identified_form : canonical identified_tree 1 None [] ≡ codes "<k:a xmlns:k=\"urn:k\" ID=\"i1\"></k:a>"
unfolding identified_tree
identified_form = refl

identified_node : node_with (identifiers identified_tree) (codes "i1") ≡ Some 1
unfolding identified_tree
identified_node = refl

-- CR LF in a text is one LF, and in a value one space; a CR alone likewise
ends_tree : Nodes
ends_tree =
    Element (codes "a") (attribute (codes "b") (codes "1 2 3") ∷ [])
    (Text (codes "x\ny\n" ++ line_feed ∷ codes "z") NoNodes) NoNodes

ends_spelled : Spells (codes "<a b=\"1\r\n2\r3\">x\r\ny\r\r\nz</a>") ends_tree
unfolding ends_tree chars encode_utf8
ends_spelled =
    written_shown _
    (bare (pair (codes "a") (assigned (codes "b") (codes "1\r\n2\r3") ∷ []) (Then (Characters (codes "x\r\ny\r\r\nz")) NoContent)))
    tt refl

-- <é a="&#xE9;&#x01F600;">é</é> behind a byte order mark: characters beyond ASCII, by themselves and by their numbers
accented_tree : Nodes
accented_tree =
    Element (0xC3 ∷ 0xA9 ∷ []) (attribute (codes "a") (0xC3 ∷ 0xA9 ∷ 0xF0 ∷ 0x9F ∷ 0x98 ∷ 0x80 ∷ []) ∷ [])
    (Text (0xC3 ∷ 0xA9 ∷ []) NoNodes) NoNodes

accented_spelled :
    Spells (0xEF ∷ 0xBB ∷ 0xBF ∷ codes "<" ++ 0xC3 ∷ 0xA9 ∷ codes " a=\"&#xE9;&#x01F600;\">" ++ 0xC3 ∷ 0xA9 ∷ codes "</" ++ 0xC3 ∷ 0xA9 ∷ codes ">")
    accented_tree
unfolding accented_tree chars encode_utf8
accented_spelled =
    written_shown _
    (record {
      mark = true;
      declaration = None;
      content =
          pair (0xC3 ∷ 0xA9 ∷ [])
          (with_pieces (codes "a") (Referred (Hexadecimal (codes "E9")) ∷ Referred (Hexadecimal (codes "01F600")) ∷ []) quotation_mark ∷ [])
          (Then (Characters (0xC3 ∷ 0xA9 ∷ [])) NoContent);
    })
    tt refl
