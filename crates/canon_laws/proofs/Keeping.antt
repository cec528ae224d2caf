-- The tree that a canonical form spells has the content of the element.
use Rattle.std.proofs.Common.{◌≡◌, ℕ, ◌<◌, true, false, nat_lt, length, List, [], ◌∷◌, ◌++◌, append_assoc, map, Option, None, IsTrue, refl, sym, ◌∙◌, ap, subst}
use Rattle.std.specs.Prelude.{IfSome}
use Rattle.std.specs.List.{list_any, AllByRecursion}
use Rattle.std.specs.Str.{bytes_eq}
use Rattle.std.proofs.lemmas.List.Folds.{list_any-append}
use Rattle.std.proofs.lemmas.Slice.Eq.{bytes_eq-Decides}
use Rattle.xml_spec.specs.Characters.{prefix_of, local_of}
use Rattle.xml_spec.specs.Tree.{Attribute, Nodes, NoNodes, Element, Text, Comment, Instruction, with_text, IsJoined}
use Rattle.xml_spec.specs.Numbering.{from_node}
use Rattle.xml_spec.specs.Names.{Scope, outermost, namespace_of, declarations, proper_attributes, inner_scope, element_name, AreNamed, HasNames}
use Rattle.xml_spec.specs.Canonical.{used_prefixes, listed_prefix, written_declarations, written_attributes, scope_at}
use Rattle.xml_spec.specs.Content.{Contents, NoContents, ElementContent, TextContent, InstructionContent, with_text_content, content_attributes, content_nodes, content}
use Rattle.xml_spec.proofs.Tests.{first_true, second_true}
use Rattle.canon_laws.specs.Trees.{declaration_of, canonical_tree_of, begins_with_element, canonical_tree}
use Rattle.canon_laws.proofs.Scopes.{all_sorted}
use Rattle.canon_laws.proofs.Bindings.{BindsXml, RendersNoXml, declared_xml, still_no_xml, written_namespace}
use Rattle.canon_laws.proofs.Attributes.{attribute_order, HaveSame, IsSame, each_same, written_are, written_declares, written_content}
use Rattle.canon_laws.proofs.Named.{HasNoEmptyText, joined_texts, xml_at, kept_texts, kept_is_named}

-- a text of two parts in front of contents
text_content_in_parts : (x y : List ℕ) (contents : Contents) → with_text_content (x ++ y) contents ≡ with_text_content x (with_text_content y contents)
text_content_in_parts x y NoContents = refl
text_content_in_parts x y (ElementContent name attributes kids rest) = refl
text_content_in_parts x y (TextContent text rest) = ap (λ z. TextContent z rest) (append_assoc x y text)
text_content_in_parts x y (InstructionContent target value rest) = refl

-- a text that is not empty, in front of nodes
text_content : (scope : Scope) (text : List ℕ) (nodes : Nodes) → IsTrue (nat_lt 0 (length text)) →
    content_nodes scope (with_text text nodes) ≡ with_text_content text (content_nodes scope nodes)
text_content scope [] nodes h = absurd (let clash : false ≡ true = h in cc)
text_content scope (b ∷ bytes) NoNodes h = refl
text_content scope (b ∷ bytes) (Element name attributes kids rest) h = refl
text_content scope (b ∷ bytes) (Text text rest) h = text_content_in_parts (b ∷ bytes) text (content_nodes scope rest)
text_content scope (b ∷ bytes) (Comment text rest) h = refl
text_content scope (b ∷ bytes) (Instruction target value rest) h = refl

-- what a written element's names mean in the scope of its canonical form
module _ (listed : List (List ℕ)) (inner rendered : Scope) (name : List ℕ) (attributes : List Attribute) (binds : BindsXml inner) (nothing : RendersNoXml rendered) where
  abbrev pub scope_below : Scope
  scope_below = (written_declarations listed inner rendered name attributes ++ rendered) ++ outermost

  used_same : HaveSame scope_below inner (used_prefixes name attributes)
  used_same q used =
      written_namespace listed inner rendered name attributes q binds nothing
      (list_any-append (bytes_eq q) (used_prefixes name attributes) (map listed_prefix listed)
      ∙ first_true (list_any (bytes_eq q) (used_prefixes name attributes)) (list_any (bytes_eq q) (map listed_prefix listed)) used)

  pub prefix_kept : namespace_of scope_below (prefix_of name) ≡ namespace_of inner (prefix_of name)
  prefix_kept = used_same (prefix_of name) (first_true _ _ ((bytes_eq-Decides (prefix_of name) (prefix_of name)).1 refl))

  pub element_name_kept : element_name scope_below name ≡ element_name inner name
  element_name_kept = ap (λ ns. record { namespace = ns; local = local_of name }) prefix_kept

  pub each_kept : AllByRecursion (λ a. IsSame scope_below inner a.name) (written_attributes inner attributes)
  each_kept =
      all_sorted (λ a. IsSame scope_below inner a.name) (attribute_order inner) (proper_attributes attributes)
      (each_same scope_below inner (proper_attributes attributes) (λ q used. used_same q (second_true (bytes_eq q (prefix_of name)) _ used)))

  pub attributes_kept : content_attributes scope_below
      (map declaration_of (written_declarations listed inner rendered name attributes) ++ written_attributes inner attributes)
      ≡ content_attributes inner attributes
  attributes_kept = written_content scope_below inner (written_declarations listed inner rendered name attributes) attributes each_kept

  -- the scope of the canonical form inside the element
  pub inside_is : inner_scope (map declaration_of (written_declarations listed inner rendered name attributes) ++ written_attributes inner attributes)
      (rendered ++ outermost) ≡ scope_below
  inside_is =
      ap (λ bindings. bindings ++ (rendered ++ outermost))
      (written_declares (written_declarations listed inner rendered name attributes) (written_attributes inner attributes) (written_are inner attributes))
      ∙ sym (append_assoc (written_declarations listed inner rendered name attributes) rendered outermost)

content_kept : (listed : List (List ℕ)) (scope rendered : Scope) (nodes : Nodes) → AreNamed scope nodes → HasNoEmptyText nodes → BindsXml scope →
    RendersNoXml rendered → content_nodes (rendered ++ outermost) (canonical_tree_of listed scope rendered nodes) ≡ content_nodes scope nodes
content_kept listed scope rendered NoNodes named texts binds nothing = refl
content_kept listed scope rendered (Element name attributes kids rest) named texts binds nothing =
    let inner = inner_scope attributes scope in
    let written = written_declarations listed inner rendered name attributes in
    let all = map declaration_of written ++ written_attributes inner attributes in
    let inside : BindsXml inner = declared_xml (declarations attributes) scope named.0.declares binds in
    let below : RendersNoXml (written ++ rendered) = still_no_xml listed inner rendered name attributes nothing in
    let kids_form = canonical_tree_of listed inner (written ++ rendered) kids in
    let rest_form = canonical_tree_of listed scope rendered rest in
    ap (λ s. ElementContent (element_name s name) (content_attributes s all) (content_nodes s kids_form) (content_nodes (rendered ++ outermost) rest_form))
    (inside_is listed inner rendered name attributes inside nothing)
    ∙ (λ i. ElementContent (element_name_kept listed inner rendered name attributes inside nothing i)
    (attributes_kept listed inner rendered name attributes inside nothing i)
    (content_kept listed inner (written ++ rendered) kids named.1 texts.0 inside below i)
    (content_kept listed scope rendered rest named.2 texts.1 binds nothing i))
content_kept listed scope rendered (Text text rest) named texts binds nothing =
    text_content (rendered ++ outermost) text (canonical_tree_of listed scope rendered rest) texts.0
    ∙ ap (with_text_content text) (content_kept listed scope rendered rest named texts.1 binds nothing)
content_kept listed scope rendered (Comment text rest) named texts binds nothing = content_kept listed scope rendered rest named texts binds nothing
content_kept listed scope rendered (Instruction target value rest) named texts binds nothing =
    ap (InstructionContent target value) (content_kept listed scope rendered rest named texts binds nothing)

-- of one element
element_kept : (listed : List (List ℕ)) (scope : Scope) (name : List ℕ) (attributes : List Attribute) (kids : Nodes) →
    AreNamed scope (Element name attributes kids NoNodes) → HasNoEmptyText (Element name attributes kids NoNodes) → BindsXml scope →
    content (canonical_tree_of listed scope [] (Element name attributes kids NoNodes)) 0 None ≡ content_nodes scope (Element name attributes kids NoNodes)
element_kept listed scope name attributes kids named texts binds =
    content_kept listed scope [] (Element name attributes kids NoNodes) named texts binds refl

pub canonical_keeps : (tree : Nodes) (k : ℕ) (skip : Option ℕ) (listed : List (List ℕ)) → HasNames tree → IsJoined tree →
    IsTrue (begins_with_element (from_node tree k)) → IfSome skip (λ s. k < s) →
    content (canonical_tree tree k skip listed) 0 None ≡ content tree k skip
canonical_keeps tree k skip listed named joined begins below =
    let scope = scope_at outermost tree k in
    let kept = kept_is_named tree k skip begins below named in
    let texts = subst HasNoEmptyText kept.is (kept_texts tree k skip (joined_texts tree joined)) in
    subst (λ nodes. content (canonical_tree_of listed scope [] nodes) 0 None ≡ content_nodes scope nodes) (sym kept.is)
    (element_kept listed scope kept.name kept.attributes kept.kids kept.named texts (xml_at tree k named))
