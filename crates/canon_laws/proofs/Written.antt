-- The canonical form of what can be written is a text.
use Rattle.std.proofs.Common.{ℕ, List, [], ◌∷◌, ◌++◌, codes, refl}
use Rattle.std.specs.List.{AllByRecursion, flat_map}
use Rattle.std.specs.Char.{encode_utf8}
use Rattle.xml_spec.specs.Ascii.{space_character, quotation_mark, equals_sign, less_than, greater_than}
use Rattle.xml_spec.specs.Characters.{IsText, IsName}
use Rattle.xml_spec.specs.Tree.{Attribute, Nodes, NoNodes, Element, Text, Comment, Instruction}
use Rattle.xml_spec.specs.Names.{Binding, Scope, inner_scope}
use Rattle.xml_spec.specs.Canonical.{declaration_name, written_declarations, written_attributes, escape_text, escape_value, print_start, print_end, print_instruction, print_attribute, print_binding, canonical_nodes}
use Rattle.canon_laws.specs.Trees.{declaration_of}
use Rattle.canon_laws.specs.Writable.{IsWritableAttribute, IsWritableInstruction, IsWritable}
use Rattle.canon_laws.proofs.Texts.{empty_text, text_append, name_text}
use Rattle.canon_laws.proofs.Escapes.{escaped_text, escaped_value}
use Rattle.canon_laws.proofs.Lines.{space_text}
use Rattle.canon_laws.proofs.Contents.{all_append}
use Rattle.canon_laws.proofs.Scopes.{AreDeclarable, inner_declarable, written_declarable, written_attributes_writable}

-- the marks that stand between names and texts
opening_text : IsText (codes "=\"")
unfolding encode_utf8
opening_text = record { characters = codes "=\""; allowed = refl; spelled = refl }

quote_text : IsText (quotation_mark ∷ [])
unfolding encode_utf8
quote_text = record { characters = quotation_mark ∷ []; allowed = refl; spelled = refl }

less_text : IsText (less_than ∷ [])
unfolding encode_utf8
less_text = record { characters = less_than ∷ []; allowed = refl; spelled = refl }

greater_text : IsText (greater_than ∷ [])
unfolding encode_utf8
greater_text = record { characters = greater_than ∷ []; allowed = refl; spelled = refl }

end_text : IsText (codes "</")
unfolding encode_utf8
end_text = record { characters = codes "</"; allowed = refl; spelled = refl }

begin_text : IsText (codes "<?")
unfolding encode_utf8
begin_text = record { characters = codes "<?"; allowed = refl; spelled = refl }

close_text : IsText (codes "?>")
unfolding encode_utf8
close_text = record { characters = codes "?>"; allowed = refl; spelled = refl }

attribute_text : (name value : List ℕ) → IsName name → IsText value → IsText (print_attribute name value)
attribute_text name value n t =
    text_append ((space_character ∷ name) ++ (equals_sign ∷ quotation_mark ∷ escape_value value)) (quotation_mark ∷ [])
    (text_append (space_character ∷ name) (equals_sign ∷ quotation_mark ∷ escape_value value)
    (text_append (space_character ∷ []) name space_text (name_text name n))
    (text_append (codes "=\"") (escape_value value) opening_text (escaped_value value t))) quote_text

bindings_text : (bindings : List Binding) → AreDeclarable bindings → IsText (flat_map print_binding bindings)
bindings_text [] h = empty_text
bindings_text (b ∷ bindings) h =
    text_append (print_binding b) (flat_map print_binding bindings) (attribute_text (declaration_name b.prefix) b.namespace h.0.name h.0.value)
    (bindings_text bindings h.1)

attributes_text : (attributes : List Attribute) → AllByRecursion IsWritableAttribute attributes →
    IsText (flat_map (λ a. print_attribute a.name a.value) attributes)
attributes_text [] h = empty_text
attributes_text (a ∷ attributes) h =
    text_append (print_attribute a.name a.value) (flat_map (λ x. print_attribute x.name x.value) attributes)
    (attribute_text a.name a.value h.0.name h.0.value) (attributes_text attributes h.1)

start_text : (name : List ℕ) (bindings : List Binding) (attributes : List Attribute) → IsName name → AreDeclarable bindings →
    AllByRecursion IsWritableAttribute attributes → IsText (print_start name bindings attributes)
start_text name bindings attributes n b w =
    text_append (less_than ∷ name ++ flat_map print_binding bindings ++ flat_map (λ a. print_attribute a.name a.value) attributes) (greater_than ∷ [])
    (text_append (less_than ∷ name ++ flat_map print_binding bindings) (flat_map (λ a. print_attribute a.name a.value) attributes)
    (text_append (less_than ∷ name) (flat_map print_binding bindings) (text_append (less_than ∷ []) name less_text (name_text name n)) (bindings_text bindings b))
    (attributes_text attributes w)) greater_text

print_end_text : (name : List ℕ) → IsName name → IsText (print_end name)
print_end_text name n = text_append (codes "</" ++ name) (greater_than ∷ []) (text_append (codes "</") name end_text (name_text name n)) greater_text

instruction_text : (target value : List ℕ) → IsWritableInstruction target value → IsText (print_instruction target value)
instruction_text target [] w =
    text_append (codes "<?" ++ target) (codes "?>") (text_append (codes "<?") target begin_text (name_text target w.named.0)) close_text
instruction_text target (b ∷ value) w =
    text_append (codes "<?" ++ target ++ (space_character ∷ b ∷ value)) (codes "?>")
    (text_append (codes "<?" ++ target) (space_character ∷ b ∷ value) (text_append (codes "<?") target begin_text (name_text target w.named.0))
    (text_append (space_character ∷ []) (b ∷ value) space_text w.characters)) close_text

pub canonical_text : (listed : List (List ℕ)) (scope rendered : Scope) (nodes : Nodes) → IsWritable nodes → AreDeclarable scope →
    AreDeclarable rendered → IsText (canonical_nodes listed scope rendered nodes)
canonical_text listed scope rendered NoNodes w s r = empty_text
canonical_text listed scope rendered (Element name attributes kids rest) w s r =
    let inner = inner_scope attributes scope in
    let written = written_declarations listed inner rendered name attributes in
    let inside : AreDeclarable inner = inner_declarable attributes scope w.1 s in
    let declared : AreDeclarable written = written_declarable listed inner rendered name attributes inside r in
    let start = print_start name written (written_attributes inner attributes) in
    let within = canonical_nodes listed inner (written ++ rendered) kids in
    text_append (start ++ within ++ print_end name) (canonical_nodes listed scope rendered rest)
    (text_append (start ++ within) (print_end name)
    (text_append start within
    (start_text name written (written_attributes inner attributes) w.0 declared (written_attributes_writable inner attributes w.1))
    (canonical_text listed inner (written ++ rendered) kids w.2 inside (all_append (λ b. IsWritableAttribute (declaration_of b)) written rendered declared r)))
    (print_end_text name w.0))
    (canonical_text listed scope rendered rest w.3 s r)
canonical_text listed scope rendered (Text text rest) w s r =
    text_append (escape_text text) (canonical_nodes listed scope rendered rest) (escaped_text text w.0) (canonical_text listed scope rendered rest w.1 s r)
canonical_text listed scope rendered (Comment text rest) w s r = canonical_text listed scope rendered rest w s r
canonical_text listed scope rendered (Instruction target value rest) w s r =
    text_append (print_instruction target value) (canonical_nodes listed scope rendered rest) (instruction_text target value w.0)
    (canonical_text listed scope rendered rest w.1 s r)
