-- The names and the attributes of made elements, as they are read.
use Rattle.std.proofs.Common.{◌≡◌, ◌≢◌, ℕ, suc, ◌+◌, Bool, true, false, not, cond, ◌&&◌, List, [], ◌∷◌, ◌++◌, map, codes, Option, Some, None, unwrap_or, refl, sym, ap, ◌∙◌}
use Rattle.std.specs.List.{AllByRecursion}
use Rattle.std.proofs.lemmas.Bool.{cond-false}
use Rattle.std.specs.Option.{option_map}
use Rattle.std.specs.Ordering.{is_le}
use Rattle.std.specs.Str.{bytes_eq}
use Rattle.std.proofs.lemmas.Slice.Eq.{bytes_eq-Decides}
use Rattle.xml_spec.specs.Bytes.{is_empty}
use Rattle.xml_spec.specs.Characters.{at_colon, local_of}
use Rattle.xml_spec.specs.Tree.{Attribute, Nodes, NoNodes, Element, Text, Comment, Instruction, with_text}
use Rattle.xml_spec.specs.Numbering.{size}
use Rattle.xml_spec.specs.Names.{Scope, AreDistinct, namespace_of, inner_scope, ExpandedName, element_name}
use Rattle.xml_spec.specs.Canonical.{byte_order, inserted}
use Rattle.xml_spec.proofs.Tests.{both_true}
use Rattle.element_make.specs.declared.names.Ns.{Ns}
use Rattle.element_make.specs.declared.names.Ns.TheVariants.{Saml, Samlp, Ds, Md}
use Rattle.element_make.specs.Prefixes.{namespace, same}
use Rattle.element_make.specs.Made.{MadeNodes, NothingMade, MadeElement, MadeText, qualified, declaration_in, nodes_of, IsMadeAttribute, AreMade}
use Rattle.element_make.specs.Made as made
use Rattle.element_make.specs.Writing.{by_name}
use Rattle.element_make.proofs.Forms.{prefix_is}
use Rattle.element_make.proofs.Plain.{no_prefix, each_by_name}
use Rattle.tree_read.specs.Texts as read
use Rattle.saml_names.specs.Names.{ds, ds_namespace}
use Rattle.tree_read.specs.Children.{is_name, named, elements_of}
use Rattle.sig_reference.proofs.MadeScopes.{Has, own_bound}
use Rattle.sig_reference.specs.Signing.{has_no_signature}

local_is : (ns : Ns) (local : List ℕ) → local_of (qualified ns local) ≡ local
local_is Saml local = refl
local_is Samlp local = refl
local_is Ds local = refl
local_is Md local = refl

is_false : (b : Bool) → not b ≡ true → b ≡ false
is_false true h = sym h
is_false false h = refl

-- inside elements that declare these namespaces, which this scope has
module _ (declared : List Ns) (scope : Scope) (has : Has declared scope) where
  -- the name of an element is in its namespace
  pub name_is : (ns : Ns) (local : List ℕ) (attributes : List Attribute) → AllByRecursion IsMadeAttribute attributes →
      element_name (inner_scope (declaration_in declared ns ++ by_name attributes) scope) (qualified ns local) ≡ record { namespace = namespace ns; local = local }
  name_is ns local attributes made =
      let inner = inner_scope (declaration_in declared ns ++ by_name attributes) scope in
      (λ i. record { namespace = namespace_of inner (prefix_is ns local i); local = local_is ns local i })
      ∙ ap (λ n. record { namespace = n; local = local }) (own_bound declared scope has ns attributes made)

  same_namespace : (ns : Ns) → bytes_eq (namespace ns) ds_namespace ≡ same ns Ds
  same_namespace Saml = refl
  same_namespace Samlp = refl
  same_namespace Ds = refl
  same_namespace Md = refl

  -- a text between elements is passed over
  text_passed : (wanted : ExpandedName) (text : List ℕ) (nodes : Nodes) → ((k : ℕ) → named wanted (elements_of scope k nodes) ≡ []) →
      (k : ℕ) → named wanted (elements_of scope k (with_text text nodes)) ≡ []
  text_passed wanted [] nodes h k = h k
  text_passed wanted (b ∷ text) NoNodes h k = refl
  text_passed wanted (b ∷ text) (Element name attributes kids rest) h k = h (suc k)
  text_passed wanted (b ∷ text) (Text other rest) h k = h k
  text_passed wanted (b ∷ text) (Comment other rest) h k = h (suc k)
  text_passed wanted (b ∷ text) (Instruction target value rest) h k = h (suc k)

  pub none_signed : (nodes : MadeNodes) → AreMade nodes → has_no_signature nodes ≡ true →
      (k : ℕ) → named (ds (codes "Signature")) (elements_of scope k (nodes_of declared nodes)) ≡ []
  none_signed NothingMade made h k = refl
  none_signed (MadeElement ns local attributes kids rest) made h k =
      let parts = both_true (not (same ns Ds && bytes_eq local (codes "Signature"))) (has_no_signature rest) h in
      cond-false _ _ _
      (ap (λ n. is_name (ds (codes "Signature")) n) (name_is ns local attributes made.1)
      ∙ ap (λ b. b && bytes_eq local (codes "Signature")) (same_namespace ns) ∙ is_false _ parts.0)
      ∙ none_signed rest made.4 parts.1 (suc (k + size (nodes_of (ns ∷ declared) kids)))
  none_signed (MadeText text rest) made h k =
      text_passed (ds (codes "Signature")) text (nodes_of declared rest) (none_signed rest made.1 h) k

-- the value of an attribute among those in order
module _ (name : List ℕ) where
  not_twice : (a b : Attribute) → a.name ≢ b.name → bytes_eq a.name name ≡ true → bytes_eq b.name name ≡ true → ⊥
  not_twice a b apart one other = apart ((bytes_eq-Decides a.name name).0 one ∙ sym ((bytes_eq-Decides b.name name).0 other))

  swapped : (a b : Attribute) (rest : Option (List ℕ)) → a.name ≢ b.name →
      cond (bytes_eq b.name name) (Some b.value) (cond (bytes_eq a.name name) (Some a.value) rest)
      ≡ cond (bytes_eq a.name name) (Some a.value) (cond (bytes_eq b.name name) (Some b.value) rest)
  swapped a b rest apart = which (bytes_eq a.name name) (bytes_eq b.name name) (not_twice a b apart)
    where
      which : (s t : Bool) → (s ≡ true → t ≡ true → ⊥) →
          cond t (Some b.value) (cond s (Some a.value) rest) ≡ cond s (Some a.value) (cond t (Some b.value) rest)
      which true true clash = absurd (clash refl refl)
      which true false clash = refl
      which false t clash = refl

  value_inserted : (a : Attribute) (others : List Attribute) → AllByRecursion (λ (b : Attribute). a.name ≢ b.name) others →
      made.value_of name (inserted (λ (x : Attribute) y. byte_order x.name y.name) a others) ≡ made.value_of name (a ∷ others)
  value_inserted a [] apart = refl
  value_inserted a (b ∷ others) apart = which (is_le (byte_order a.name b.name)) (value_inserted a others apart.1)
    where
      which : (t : Bool) → made.value_of name (inserted (λ (x : Attribute) y. byte_order x.name y.name) a others) ≡ made.value_of name (a ∷ others) →
          made.value_of name (cond t (a ∷ b ∷ others) (b ∷ inserted (λ (x : Attribute) y. byte_order x.name y.name) a others)) ≡ made.value_of name (a ∷ b ∷ others)
      which true later = refl
      which false later =
          ap (λ rest. cond (bytes_eq b.name name) (Some b.value) rest) later ∙ swapped a b (made.value_of name others) apart.0

  apart_by_name : (a : Attribute) (others : List Attribute) → AllByRecursion (λ n. a.name ≢ n) (map (λ (b : Attribute). b.name) others) →
      AllByRecursion (λ (b : Attribute). a.name ≢ b.name) others
  apart_by_name a [] h = tt
  apart_by_name a (b ∷ others) h = (h.0, apart_by_name a others h.1)

  value_in_order : (attributes : List Attribute) → AreDistinct (map (λ (a : Attribute). a.name) attributes) →
      made.value_of name (by_name attributes) ≡ made.value_of name attributes
  value_in_order [] distinct = refl
  value_in_order (a ∷ attributes) distinct =
      value_inserted a (by_name attributes) (each_by_name (λ (b : Attribute). a.name ≢ b.name) attributes (apart_by_name a attributes distinct.0))
      ∙ ap (λ rest. cond (bytes_eq a.name name) (Some a.value) rest) (value_in_order attributes distinct.1)

  plain_local : (n : List ℕ) → at_colon n ≡ None → local_of n ≡ n
  plain_local n none = ap (λ (o : Option (List ℕ × List ℕ)). unwrap_or (option_map (λ parts. parts.1) o) n) none

  value_is_read : (attributes : List Attribute) → AllByRecursion IsMadeAttribute attributes →
      read.value_of name attributes ≡ made.value_of name attributes
  value_is_read [] made = refl
  value_is_read (a ∷ attributes) made =
      let plain = made.0.name.1 in
      ap (λ p. cond (is_empty p && bytes_eq (local_of a.name) name) (Some a.value) (read.value_of name attributes)) (no_prefix a.name plain)
      ∙ ap (λ l. cond (bytes_eq l name) (Some a.value) (read.value_of name attributes)) (plain_local a.name plain)
      ∙ ap (λ rest. cond (bytes_eq a.name name) (Some a.value) rest) (value_is_read attributes made.1)

  -- the value that is read of attributes in order is the one that was given
  pub value_read : (attributes : List Attribute) → AllByRecursion IsMadeAttribute attributes → AreDistinct (map (λ (a : Attribute). a.name) attributes) →
      read.value_of name (by_name attributes) ≡ made.value_of name attributes
  value_read attributes made distinct =
      value_is_read (by_name attributes) (each_by_name IsMadeAttribute attributes made) ∙ value_in_order attributes distinct

-- a value that is not empty is there
pub value_there : (o : Option (List ℕ)) → unwrap_or o [] ≢ [] → o ≡ Some (unwrap_or o [])
value_there None h = absurd (h refl)
value_there (Some value) h = refl
