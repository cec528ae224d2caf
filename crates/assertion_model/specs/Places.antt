-- Where a login is read in a document, by the numbers of the elements: SAML Core, 2.4.1 and 2.7.3.
use Rattle.std.specs.Prelude.{◌≡◌, ℕ, List, codes, Option, Some}
use Rattle.std.specs.List.{flat_map}
use Rattle.xml_spec.specs.Tree.{Nodes}
use Rattle.saml_names.specs.Names.{saml}
use Rattle.saml_tree.specs.Elements.{IsElement}
use Rattle.sig_reference.specs.Vouching.{IsIn}
use Rattle.tree_read.specs.Children.{children}
use Rattle.owned_values.specs.declared.attributes.Attribute.{Attribute}
use Rattle.owned_values.specs.Options.{◌>>=◌}
use Rattle.assertion_model.specs.Contents.{first}
use Rattle.assertion_model.specs.Parts.{own_signature}

-- Core, 2.4.1: the NameID of the Subject of element e
abbrev pub name_place : Nodes → ℕ → Option ℕ
name_place tree e = do
  subject ← first (children tree e (saml (codes "Subject")))
  first (children tree subject (saml (codes "NameID")))

-- Core, 2.7.3.1: the values of an Attribute
abbrev pub places_of_attribute : Nodes → ℕ → List ℕ
places_of_attribute tree attribute = children tree attribute (saml (codes "AttributeValue"))

-- Core, 2.7.3: those of all Attributes of a statement
abbrev pub places_of_statement : Nodes → ℕ → List ℕ
places_of_statement tree statement = flat_map (places_of_attribute tree) (children tree statement (saml (codes "Attribute")))

-- Core, 2.7.3: those of all statements of element e, in document order
abbrev pub value_places : Nodes → ℕ → List ℕ
value_places tree e = flat_map (places_of_statement tree) (children tree e (saml (codes "AttributeStatement")))

-- all values of attributes, in order
abbrev pub values_of : List Attribute → List (List ℕ)
values_of attributes = flat_map (λ (a : Attribute). a.values) attributes

-- node n is an element that lies in element e, and not in the Signature of e
pub record IsPlace (tree : Nodes) (e n : ℕ) : Type 0 where
  pub element : IsElement tree n
  pub inside : IsIn tree e n
  pub outside : (signature : ℕ) → own_signature tree e ≡ Some signature → ¬ (IsIn tree signature n)

-- neither node lies in the other
pub record AreApart (tree : Nodes) (m n : ℕ) : Type 0 where
  pub first : ¬ (IsIn tree m n)
  pub second : ¬ (IsIn tree n m)

-- each node that lies in node m lies in element e, and is apart from the Signature of e
pub record IsPartOf (tree : Nodes) (e m : ℕ) : Type 0 where
  pub inside : (n : ℕ) → IsIn tree m n → IsIn tree e n
  pub apart : (n signature : ℕ) → IsIn tree m n → own_signature tree e ≡ Some signature → AreApart tree signature n
