-- How the definitions see what is read.
use Rattle.std.specs.Prelude.{◌≡◌, List, ◌++◌, length, drop, map}
use Rattle.xml_spec.specs.Tree as tree
use Rattle.xml_spec.specs.Syntax.{character_of, Token, Alone, StartTag, EndTag, Characters, Refers, Section, CommentItem, ProcessingInstruction, EmptyTag}
use Rattle.xml_spec.specs.Meaning.{attributes_of}
use Rattle.xml_tokens.specs.declared.token.Attribute.{Attribute}
use Rattle.xml_tokens.specs.declared.token.Markup.{Markup}
use Rattle.xml_tokens.specs.declared.token.Markup.TheVariants as markup

abbrev pub attribute_view : Attribute → tree.Attribute
attribute_view a = record { name = a.name; value = a.value }

-- more stands behind what the list held
abbrev pub Grows : List Attribute → List Attribute → Type 0
Grows before after = (more : List Attribute) × (after ≡ before ++ more)

-- what stands behind what the list held
abbrev pub added : List Attribute → List Attribute → List tree.Attribute
added before after = map attribute_view (drop (length before) after)

-- what was read is this token (XML 1.0, 2.4 to 3.1): its bytes as they are written, the character of a reference, of an
-- instruction the target and the data without the white space between them, and of a tag the attributes in a list of
-- their own
abbrev pub Shows : Token → Markup → List tree.Attribute → Type 0
Shows (Alone (Characters bytes)) (markup.Characters text) attributes = text.now ≡ bytes
Shows (Alone (Refers r)) (markup.Reference c) attributes = c ≡ character_of r
Shows (Alone (Section bytes)) (markup.Section text) attributes = text.now ≡ bytes
Shows (Alone (CommentItem bytes)) (markup.Comment text) attributes = text.now ≡ bytes
Shows (Alone (ProcessingInstruction target space value)) (markup.Instruction t v) attributes = (t.now ≡ target) × (v.now ≡ value)
Shows (StartTag tag) (markup.Start name) attributes = (name ≡ tag.name) × (attributes ≡ attributes_of tag)
Shows (Alone (EmptyTag tag)) (markup.Empty name) attributes = (name ≡ tag.name) × (attributes ≡ attributes_of tag)
Shows (EndTag written space) (markup.End name) attributes = name.now ≡ written
Shows token _ attributes = ⊥
