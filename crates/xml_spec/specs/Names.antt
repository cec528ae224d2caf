-- Namespaces in XML 1.0 (third edition): scopes, expanded names, and which names a document may use.
use Rattle.std.specs.Prelude.{◌≡◌, ◌≢◌, ℕ, ◌⊎◌, Bool, true, false, ◌&&◌, ◌||◌, not, ◌==◌, List, [], ◌∷◌, ◌++◌, codes, Option, Some, None, if◌then◌else◌, IsTrue, IsSome, is_some, unwrap_or, ⊤, map, filter}
use Rattle.std.specs.List.{list_any, filter_map, AllByRecursion}
use Rattle.std.specs.Option.{option_map}
use Rattle.std.specs.Char.{is_ascii_alphabetic, is_ascii_alphanumeric}
use Rattle.std.specs.Str.{bytes_eq}
use Rattle.xml_spec.specs.Ascii.{colon}
use Rattle.xml_spec.specs.Bytes.{is_empty}
use Rattle.xml_spec.specs.Characters.{IsQualifiedName, prefix_of, local_of}
use Rattle.xml_spec.specs.Tree.{Attribute, Nodes, NoNodes, Element, Text, Comment, Instruction}

-- a prefix and the namespace name that it is bound to; the empty prefix is that of the default namespace
pub record Binding : Type 0 where
  pub prefix : List ℕ
  pub namespace : List ℕ

-- the bindings in force at a place, the latest first
abbrev pub Scope : Type 0
Scope = List Binding

-- 3: "The prefix xml is by definition bound to the namespace name http://www.w3.org/XML/1998/namespace"
abbrev pub xml_namespace : List ℕ
xml_namespace = codes "http://www.w3.org/XML/1998/namespace"

-- 3: "The prefix xmlns is .. bound to the namespace name http://www.w3.org/2000/xmlns/"
abbrev pub xmlns_namespace : List ℕ
xmlns_namespace = codes "http://www.w3.org/2000/xmlns/"

-- the scope of a document, outside its root
abbrev pub outermost : Scope
outermost = record { prefix = codes "xml"; namespace = xml_namespace } ∷ []

-- what the latest binding of a prefix binds it to
abbrev pub bound : Scope → List ℕ → Option (List ℕ)
bound [] prefix = None
bound (binding ∷ scope) prefix =
    if bytes_eq binding.prefix prefix then Some binding.namespace else bound scope prefix

-- the namespace of a prefix, empty where there is none
abbrev pub namespace_of : Scope → List ℕ → List ℕ
namespace_of scope prefix = unwrap_or (bound scope prefix) []

-- 3: an attribute declares a namespace where its name is xmlns or begins with xmlns: (PrefixedAttName,
-- DefaultAttName). The prefix that it declares, empty for the default.
abbrev pub declared_prefix : List ℕ → Option (List ℕ)
declared_prefix name =
    if bytes_eq name (codes "xmlns") then Some []
    else if bytes_eq (prefix_of name) (codes "xmlns") then Some (local_of name) else None

abbrev pub is_declaration : Attribute → Bool
is_declaration a = is_some (declared_prefix a.name)

abbrev pub binding_of : Attribute → Option Binding
binding_of a = option_map (λ prefix. record { prefix = prefix; namespace = a.value }) (declared_prefix a.name)

-- the bindings that an element declares, in written order, and its other attributes
abbrev pub declarations : List Attribute → List Binding
declarations attributes = filter_map binding_of attributes

abbrev pub proper_attributes : List Attribute → List Attribute
proper_attributes attributes = filter (λ a. not (is_declaration a)) attributes

-- 6.1: the scope of a declaration extends from its start tag to the end tag, unless another one overrides it
abbrev pub inner_scope : List Attribute → Scope → Scope
inner_scope attributes scope = declarations attributes ++ scope

-- 2.1: "An expanded name is a pair consisting of a namespace name and a local name."
pub record ExpandedName : Type 0 where
  pub namespace : List ℕ
  pub local : List ℕ

-- 6.2: an element's name without a prefix is in the default namespace
abbrev pub element_name : Scope → List ℕ → ExpandedName
element_name scope name = record { namespace = namespace_of scope (prefix_of name); local = local_of name }

-- 6.2: "Default namespace declarations do not apply directly to attribute names"
abbrev pub attribute_name : Scope → List ℕ → ExpandedName
attribute_name scope name =
    record { namespace = (if is_empty (prefix_of name) then [] else namespace_of scope (prefix_of name)); local = local_of name }

-- the name has no prefix, or one that is in scope
abbrev pub IsInScope : Scope → List ℕ → Type 0
IsInScope scope name = (prefix_of name ≡ []) ⊎ IsSome (bound scope (prefix_of name))

-- no two are equal
abbrev pub AreDistinct : {X : Type 0} → List X → Type 0
AreDistinct [] = ⊤
AreDistinct (x ∷ xs) = AllByRecursion (λ y. x ≢ y) xs × AreDistinct xs

-- RFC 3986, 4.3: an absolute URI begins with a scheme, which is a letter and then letters, digits, '+', '-' and
-- '.', and ':' (profile: namespace names are absolute, and no more of their form is looked at)
abbrev pub is_scheme_byte : ℕ → Bool
is_scheme_byte b = is_ascii_alphanumeric b || list_any (λ c. c == b) (codes "+-.")

abbrev pub scheme_goes_on : List ℕ → Bool
scheme_goes_on [] = false
scheme_goes_on (b ∷ bytes) = if b == colon then true else is_scheme_byte b && scheme_goes_on bytes

abbrev pub is_absolute : List ℕ → Bool
is_absolute [] = false
is_absolute (b ∷ bytes) = is_ascii_alphabetic b && scheme_goes_on bytes

-- what a declaration may bind: never the prefix xml or xmlns, never to one of their namespaces, a prefix never to
-- the empty name (3, "Reserved Prefixes and Namespace Names"; 5, "No Prefix Undeclaring"), and else to an absolute name
pub record IsBinding (b : Binding) : Type 0 where
  pub not_xml : b.prefix ≢ codes "xml"
  pub not_xmlns : b.prefix ≢ codes "xmlns"
  pub not_xml_namespace : b.namespace ≢ xml_namespace
  pub not_xmlns_namespace : b.namespace ≢ xmlns_namespace
  pub not_undeclared : b.namespace ≡ [] → b.prefix ≡ []
  pub absolute : (b.namespace ≡ []) ⊎ IsTrue (is_absolute b.namespace)

-- An element's names, in the scope with its own declarations: each is a qualified name; each prefix is in scope
-- (5, "Prefix Declared") and is not xmlns at an element; each declaration is allowed; no prefix is declared twice, and no
-- two attributes have one name (XML 1.0, 3.1, "Unique Att Spec") or one expanded name (6.3, "Attributes Unique").
pub record IsNamed (scope : Scope) (name : List ℕ) (attributes : List Attribute) : Type 0 where
  pub qualified : IsQualifiedName name
  pub all_qualified : AllByRecursion (λ a. IsQualifiedName a.name) attributes
  pub in_scope : IsInScope scope name
  pub all_in_scope : AllByRecursion (λ a. IsInScope scope a.name) (proper_attributes attributes)
  pub not_xmlns : prefix_of name ≢ codes "xmlns"
  pub declares : AllByRecursion IsBinding (declarations attributes)
  pub prefixes_once : AreDistinct (map (λ b. b.prefix) (declarations attributes))
  pub names_once : AreDistinct (map (λ a. a.name) attributes)
  pub expanded_once : AreDistinct (map (λ a. attribute_name scope a.name) (proper_attributes attributes))

-- each element of the list, and below it, is named well
abbrev pub AreNamed : Scope → Nodes → Type 0
AreNamed scope NoNodes = ⊤
AreNamed scope (Element name attributes kids rest) =
    IsNamed (inner_scope attributes scope) name attributes
    × AreNamed (inner_scope attributes scope) kids × AreNamed scope rest
AreNamed scope (Text text rest) = AreNamed scope rest
AreNamed scope (Comment text rest) = AreNamed scope rest
AreNamed scope (Instruction target value rest) = AreNamed scope rest

-- the names of a document
abbrev pub HasNames : Nodes → Type 0
HasNames tree = AreNamed outermost tree
