-- One text gives one registry, or it is refused, and equal contents of roots give one registry.
use Rattle.std.proofs.Common.{◌≡◌, ◌≢◌, ℕ, suc, ◌<◌, List, [], ◌∷◌, Option, Some, None, IsTrue, refl, sym, ap, ◌∙◌, subst, arith}
use Rattle.xml_spec.specs.Tree.{Nodes, NoNodes, Element, Text, Comment, Instruction, IsWithinLimits}
use Rattle.xml_spec.specs.Identifiers.{IsSingle}
use Rattle.xml_spec.specs.Document.{Spells}
use Rattle.xml_spec.specs.Numbering.{from_node, kids_of}
use Rattle.xml_spec.specs.Names.{Scope, outermost, HasNames}
use Rattle.xml_spec.specs.Canonical.{scope_at}
use Rattle.xml_spec.specs.Content.{content}
use Rattle.saml_tree.specs.Documents.{kind_of, IsSpelled}
use Rattle.saml_tree.specs.Documents as trees
use Rattle.saml_tree.specs.declared.node.TreeFault.{TreeFault}
use Rattle.saml_tree.specs.declared.node.TreeFault.TheVariants as tree_faults
use Rattle.sig_reference.specs.Form.{Parts}
use Rattle.sig_reference.specs.Signature.{IsReferredTo, IsTagged, IsDigested, VouchesFirst, IsFirstUnvouched}
use Rattle.sig_reference.specs.declared.fault.SigFault.{SigFault}
use Rattle.sig_reference.specs.declared.fault.SigFault.TheVariants as sig_faults
use Rattle.saml_tree.specs.declared.node.NodeKind.TheVariants as kinds
use Rattle.saml_tree.specs.Elements.{IsElement}
use Rattle.tree_read.specs.Children.{Child, scope_of_kids, elements_of, element_children}
use Rattle.canon_laws.specs.Trees.{begins_with_element}
use Rattle.assertion_model.proofs.ValueLemmas.{element_begins}
use Rattle.meta_registry.specs.declared.fault.RegistryFault.{RegistryFault}
use Rattle.meta_registry.specs.declared.fault.RegistryFault.TheVariants as faults
use Rattle.meta_registry.specs.Aggregate.{valid_until, RegistryView}
use Rattle.meta_registry.specs.Faults.{IsRegistryOf, IsRead, IsRefused}
use Rattle.sig_reference.proofs.OneSignature.{one_first_signature}
use Rattle.meta_registry.proofs.Skipping.{first_part, signature_behind}
use Rattle.meta_registry.proofs.Shown.{entries_in, moment_in, entries_shown, until_shown}

-- what has element children is an element
with_children : (scope : Scope) (k : ℕ) (nodes : Nodes) (c : Child) (others : List Child) → elements_of scope k (kids_of nodes) ≡ c ∷ others →
    kind_of nodes ≡ Some kinds.Element
with_children scope k NoNodes c others e = absurd (let clash : [] ≡ c ∷ others = e in cc)
with_children scope k (Element name attributes kids rest) c others e = refl
with_children scope k (Text text rest) c others e = absurd (let clash : [] ≡ c ∷ others = e in cc)
with_children scope k (Comment text rest) c others e = absurd (let clash : [] ≡ c ∷ others = e in cc)
with_children scope k (Instruction target value rest) c others e = absurd (let clash : [] ≡ c ∷ others = e in cc)

is_element : (tree : Nodes) (e : ℕ) (c : Child) (others : List Child) → element_children tree e ≡ c ∷ others → IsElement tree e
is_element tree e c others front =
    with_children (scope_of_kids (scope_at outermost tree e) (from_node tree e)) (suc e) (from_node tree e) c others front

same_moment : (a b : Option ℕ) (m n : ℕ) → a ≡ Some m → b ≡ Some n → a ≡ b → m ≡ n
same_moment a b m n e f g = let same : Some m ≡ Some n = sym e ∙ g ∙ f in cc

module _ (key : List ℕ) (tree : Nodes) (registry : RegistryView) (is : IsRegistryOf key tree 0 registry) where
  pub root_is_element : IsElement tree 0
  root_is_element = is_element tree 0 _ is.vouches.form.others is.vouches.form.children

  pub root_begins : IsTrue (begins_with_element (from_node tree 0))
  root_begins = element_begins (from_node tree 0) root_is_element

  pub behind_root : 0 < is.parts.signature
  behind_root = omega (arith, signature_behind tree 0 is.parts.signature is.vouches.form.others is.vouches.form.children)

  pub entries_by_content : HasNames tree → registry.entries ≡ entries_in (first_part (content tree 0 (Some is.parts.signature)))
  entries_by_content names =
      is.entries ∙ entries_shown tree names 0 is.parts.signature is.vouches.form.others root_is_element is.vouches.form.children

  pub moment_by_content : HasNames tree → moment_in (first_part (content tree 0 (Some is.parts.signature))) ≡ Some registry.valid_until
  moment_by_content names =
      until_shown tree names 0 is.parts.signature is.vouches.form.others registry.valid_until root_is_element is.vouches.form.children is.until

pub same_content : (key key_too : List ℕ) (tree other : Nodes) (registry second : RegistryView)
    (is : IsRegistryOf key tree 0 registry) (is_too : IsRegistryOf key_too other 0 second) → HasNames tree → HasNames other →
    content tree 0 (Some is.parts.signature) ≡ content other 0 (Some is_too.parts.signature) → registry ≡ second
same_content key key_too tree other registry second is is_too names names_too same =
    let entries : registry.entries ≡ second.entries =
    entries_by_content key tree registry is names ∙ ap (λ c. entries_in (first_part c)) same
    ∙ sym (entries_by_content key_too other second is_too names_too) in
    let until : registry.valid_until ≡ second.valid_until =
    same_moment (moment_in (first_part (content tree 0 (Some is.parts.signature)))) (moment_in (first_part (content other 0 (Some is_too.parts.signature))))
    registry.valid_until second.valid_until (moment_by_content key tree registry is names) (moment_by_content key_too other second is_too names_too)
    (ap (λ c. moment_in (first_part c)) same) in
    λ i. record { valid_until = until i; entries = entries i }

-- one tree, under whatever keys
pub same_tree : (key key_too : List ℕ) (tree : Nodes) (registry second : RegistryView) → IsRegistryOf key tree 0 registry → IsRegistryOf key_too tree 0 second →
    registry ≡ second
same_tree key key_too tree registry second is is_too =
    let entries : registry.entries ≡ second.entries = is.entries ∙ sym is_too.entries in
    let until : registry.valid_until ≡ second.valid_until = same_moment _ _ _ _ is.until is_too.until refl in
    λ i. record { valid_until = until i; entries = entries i }

-- READ OR REFUSED

no_moment : (o : Option ℕ) (ms : ℕ) → o ≡ Some ms → o ≡ None → ⊥
no_moment o ms e f = let clash : None ≡ Some ms = sym f ∙ e in cc

-- a tree that is read is refused for no fault of the reader
module _ (text : List ℕ) (one : (tree other : Nodes) → Spells text tree → Spells text other → tree ≡ other) (tree : Nodes) (read : IsSpelled text tree) where
  pub no_tree_fault : (fault : TreeFault) → fault ≢ tree_faults.NoMemory → trees.IsRefused text fault → ⊥
  no_tree_fault tree_faults.BadXml other is = is tree read.spells
  no_tree_fault tree_faults.XmlLimit other is = is.2 (subst IsWithinLimits (one tree is.0 read.spells is.1) read.limits)
  no_tree_fault tree_faults.BadNames other is = is.3 (subst HasNames (one tree is.0 read.spells is.1) read.names)
  no_tree_fault tree_faults.DuplicateId other is = is.4 (subst IsSingle (one tree is.0 read.spells is.1) read.single)
  no_tree_fault tree_faults.NoMemory other is = other refl

-- nor is an element that is vouched for
no_signature_fault : (key : List ℕ) (tree : Nodes) (e : ℕ) (parts : Parts) → VouchesFirst key tree e parts → (fault : SigFault) →
    fault ≢ sig_faults.NoMemory → IsFirstUnvouched key tree e fault → ⊥
no_signature_fault key tree e parts v sig_faults.BadSignatureForm other is = is parts v.form
no_signature_fault key tree e parts v sig_faults.BadReference other is =
    is.2 (subst (IsReferredTo tree e) (one_first_signature tree e parts is.0 v.form is.1) v.reference)
no_signature_fault key tree e parts v sig_faults.TagDiffers other is =
    is.3 (subst (IsTagged key tree) (one_first_signature tree e parts is.0 v.form is.1) v.tag)
no_signature_fault key tree e parts v sig_faults.DigestDiffers other is =
    is.4 (subst (IsDigested tree e) (one_first_signature tree e parts is.0 v.form is.1) v.digest)
no_signature_fault key tree e parts v sig_faults.NoMemory other is = other refl

pub never_both : (text key : List ℕ) (registry : RegistryView) (fault : RegistryFault) → ((tree other : Nodes) → Spells text tree → Spells text other → tree ≡ other) →
    IsRead text key registry → IsRefused text key fault → fault ≡ faults.NoMemory
never_both text key registry (faults.Tree fault) one read is = absurd (no_tree_fault text one read.tree read.spelled fault is.0 is.1)
never_both text key registry faults.WrongShape one read is =
    let same : read.tree ≡ is.0 = one read.tree is.0 read.spelled.spells is.1.spells in
    absurd (no_moment (valid_until is.0 0) registry.valid_until (subst (λ tree. valid_until tree 0 ≡ Some registry.valid_until) same read.root.until) is.2)
never_both text key registry (faults.Signature fault) one read is =
    let same : is.0 ≡ read.tree = one is.0 read.tree is.1.spells read.spelled.spells in
    absurd (no_signature_fault key read.tree 0 read.root.parts read.root.vouches fault is.2.1 (subst (λ tree. IsFirstUnvouched key tree 0 fault) same is.2.2))
never_both text key registry faults.NoMemory one read is = refl
