-- What is kept of an aggregate is a function of its content.
use Rattle.std.proofs.Common.{◌≡◌, ℕ, suc, ◌+◌, ◌<◌, Bool, true, false, cond, List, [], ◌∷◌, codes, map, Option, None, Some, Result, Err, refl, sym, ap, ◌∙◌}
use Rattle.std.specs.List.{AllByRecursion}
use Rattle.std.specs.Option.{option_and_then}
use Rattle.xml_spec.specs.Tree.{Nodes, NoNodes, Element, Text, Comment, Instruction}
use Rattle.xml_spec.specs.Numbering.{size, from_node, kids_of}
use Rattle.xml_spec.specs.Names.{Scope, outermost, ExpandedName, HasNames}
use Rattle.xml_spec.specs.Canonical.{scope_at}
use Rattle.xml_spec.specs.Content.{content}
use Rattle.xml_spec.proofs.Sorting.{each_weaker}
use Rattle.saml_names.specs.Names.{md}
use Rattle.saml_tree.specs.Elements.{IsElement}
use Rattle.tree_read.specs.Children.{Child, child, is_name, scope_of_kids, elements_of, element_children, children}
use Rattle.tree_read.specs.Texts.{attribute_text}
use Rattle.tree_read.specs.Walk.{first_name, name_of_node}
use Rattle.saml_tree.proofs.Numbers.{kids_from}
use Rattle.tree_read.proofs.Placed.{kids_scope}
use Rattle.assertion_model.specs.Contents.{Part, named, value}
use Rattle.assertion_model.specs.Instants.{moment_of}
use Rattle.assertion_model.specs.Parts.{part_at}
use Rattle.assertion_model.proofs.PartLemmas.{Stands, behind, next, some, named_at}
use Rattle.assertion_model.proofs.PlaceLemmas.{IsElementIn, children_in, of_name}
use Rattle.assertion_model.proofs.ValueLemmas.{value_at}
use Rattle.metadata.specs.Metadata.{first_location, address, not_empty, entity, with_service, described, descriptor, sign_on, logout, peer_of}
use Rattle.metadata.specs.declared.peer.Role.{Role}
use Rattle.metadata.specs.declared.peer.Role.TheVariants.{Idp, Sp}
use Rattle.metadata.specs.declared.peer.Peer.{Peer}
use Rattle.metadata.specs.declared.fault.MetaFault.{MetaFault}
use Rattle.metadata.specs.declared.fault.MetaFault.TheVariants.{WrongShape}
use Rattle.meta_registry.specs.declared.entry.Entry.{Entry}
use Rattle.meta_registry.specs.Aggregate.{is_aggregate, valid_until, descriptors, entry_of}
use Rattle.meta_registry.proofs.Skipping.{signature, first_part, same_children, same_attributes}
use Rattle.owned_values.specs.Options.{is_there}
use Rattle.saml_names.specs.Uris.{post}

-- WHAT A PART SAYS

-- the Location of the first of these endpoints whose binding is HTTP POST
abbrev location_in : List Part → Option (List ℕ)
location_in [] = None
location_in (part ∷ parts) =
    cond (is_there post (value (codes "Binding") part.attributes)) (value (codes "Location") part.attributes) (location_in parts)

abbrev address_in : Part → List ℕ → Option (List ℕ)
address_in part local = location_in (named (md local) part.kids)

abbrev described_in : Role → Option (List ℕ) → List Part → Result Peer MetaFault
described_in role (Some name) (part ∷ []) = with_service name (not_empty (address_in part (sign_on role))) (address_in part logout)
described_in role _ _ = Err WrongShape

-- the provider that an EntityDescriptor describes in this role
abbrev provider_in : Part → Role → Result Peer MetaFault
provider_in part role =
    described_in role (not_empty (value (codes "entityID") part.attributes)) (named (md (descriptor role)) part.kids)

abbrev entry_in : Part → Entry
entry_in part =
    record { name = value (codes "entityID") part.attributes; idp = provider_in part Idp; sp = provider_in part Sp }

-- the entries of an aggregate
abbrev pub entries_in : Part → List Entry
entries_in part = map entry_in (named (md (codes "EntityDescriptor")) part.kids)

-- the moment that validUntil tells
abbrev pub moment_in : Part → Option ℕ
moment_in part = option_and_then moment_of (value (codes "validUntil") part.attributes)

-- THE PARTS OF A DOCUMENT

module _ (tree : Nodes) (names : HasNames tree) where
  locations_same : (ks : List ℕ) → AllByRecursion (IsElement tree) ks → first_location tree ks ≡ location_in (map (part_at tree) ks)
  locations_same [] all = refl
  locations_same (k ∷ ks) all =
      λ i. cond (is_there post (sym (value_at (codes "Binding") tree k names all.0) i)) (sym (value_at (codes "Location") tree k names all.0) i)
      (locations_same ks all.1 i)

  elements_among : (k : ℕ) (wanted : ExpandedName) → AllByRecursion (IsElement tree) (children tree k wanted)
  elements_among k wanted =
      each_weaker (IsElementIn tree k) (IsElement tree) (λ n is. is.element) (children tree k wanted) (children_in tree k wanted)

  address_same : (d : ℕ) (local : List ℕ) → address tree d local ≡ address_in (part_at tree d) local
  address_same d local =
      locations_same (children tree d (md local)) (elements_among d (md local)) ∙ ap location_in (sym (named_at (md local) tree d))

  described_same : (role : Role) (name : Option (List ℕ)) (ks : List ℕ) → described tree role name ks ≡ described_in role name (map (part_at tree) ks)
  described_same role None ks = refl
  described_same role (Some name) [] = refl
  described_same role (Some name) (d ∷ []) =
      λ i. with_service name (not_empty (address_same d (sign_on role) i)) (address_same d logout i)
  described_same role (Some name) (d ∷ other ∷ ks) = refl

  -- an element of this name
  record IsDescriptor (d : ℕ) : Type 0 where
    element : IsElement tree d
    name : is_name (md (codes "EntityDescriptor")) (name_of_node tree d) ≡ true

  name_same : (d : ℕ) → IsDescriptor d → entity tree d ≡ not_empty (value (codes "entityID") (part_at tree d).attributes)
  name_same d is =
      ap (λ b. cond b (not_empty (attribute_text tree d (codes "entityID"))) None) is.name
      ∙ ap not_empty (sym (value_at (codes "entityID") tree d names is.element))

  provider_same : (d : ℕ) (role : Role) → IsDescriptor d → peer_of tree d role ≡ provider_in (part_at tree d) role
  provider_same d role is =
      described_same role (entity tree d) (children tree d (md (descriptor role)))
      ∙ (λ i. described_in role (name_same d is i) (sym (named_at (md (descriptor role)) tree d) i))

  entry_same : (d : ℕ) → IsDescriptor d → entry_of tree d ≡ entry_in (part_at tree d)
  entry_same d is =
      λ i. record {
        name = sym (value_at (codes "entityID") tree d names is.element) i;
        idp = provider_same d Idp is i;
        sp = provider_same d Sp is i;
      }

  all_same : (ks : List ℕ) → AllByRecursion IsDescriptor ks → map (entry_of tree) ks ≡ map entry_in (map (part_at tree) ks)
  all_same [] all = refl
  all_same (k ∷ ks) all = λ i. entry_same k all.0 i ∷ all_same ks all.1 i

  -- each child has the name that it is listed with
  names_there : (scope : Scope) (k : ℕ) (nodes : Nodes) → (0 < size nodes → Stands tree k scope nodes) →
      AllByRecursion (λ c. name_of_node tree c.number ≡ c.name) (elements_of scope k nodes)
  names_there scope k NoNodes stands = tt
  names_there scope k (Element name attributes kids rest) stands =
      let here = stands (some (size kids + size rest)) in (
        λ i. first_name (here.inside i) (here.found i),
        names_there scope (suc (k + size kids)) rest (behind tree k scope (Element name attributes kids rest) here),
      )
  names_there scope k (Text bytes rest) stands =
      names_there scope (suc k) rest (next tree k scope (Text bytes rest) refl (stands (some (size rest))))
  names_there scope k (Comment bytes rest) stands =
      names_there scope (suc k) rest (next tree k scope (Comment bytes rest) refl (stands (some (size rest))))
  names_there scope k (Instruction target value rest) stands =
      names_there scope (suc k) rest (next tree k scope (Instruction target value rest) refl (stands (some (size rest))))

  both : (P Q R : ℕ → Type 0) → ((n : ℕ) → P n → Q n → R n) → (ns : List ℕ) → AllByRecursion P ns → AllByRecursion Q ns → AllByRecursion R ns
  both P Q R f [] p q = tt
  both P Q R f (n ∷ ns) p q = (f n p.0 q.0, both P Q R f ns p.1 q.1)

  all_descriptors : (e : ℕ) → AllByRecursion IsDescriptor (descriptors tree e)
  all_descriptors e =
      let wanted = md (codes "EntityDescriptor") in
      both (IsElement tree) (λ n. is_name wanted (name_of_node tree n) ≡ true) IsDescriptor (λ n element name. record { element = element; name = name })
      (descriptors tree e) (elements_among e wanted)
      (of_name wanted (λ c. name_of_node tree c.number ≡ c.name) (λ n. is_name wanted (name_of_node tree n) ≡ true)
      (λ c same is. ap (is_name wanted) same ∙ is) (element_children tree e)
      (names_there (scope_of_kids (scope_at outermost tree e) (from_node tree e)) (suc e) (kids_of (from_node tree e))
      (λ h. record { found = kids_from tree e h; inside = kids_scope tree e h })))

  entries_same : (e : ℕ) → map (entry_of tree) (descriptors tree e) ≡ entries_in (part_at tree e)
  entries_same e =
      all_same (descriptors tree e) (all_descriptors e) ∙ ap (map entry_in) (sym (named_at (md (codes "EntityDescriptor")) tree e))

  until_said : (b : Bool) (o : Option ℕ) (ms : ℕ) → cond b o None ≡ Some ms → o ≡ Some ms
  until_said true o ms e = e
  until_said false o ms e = absurd (let clash : None ≡ Some ms = e in cc)

  -- the entries and the moment, by the content without the Signature in front
  pub entries_shown : (e s : ℕ) (others : List Child) → IsElement tree e → element_children tree e ≡ child s signature ∷ others →
      map (entry_of tree) (descriptors tree e) ≡ entries_in (first_part (content tree e (Some s)))
  entries_shown e s others element front =
      entries_same e ∙ ap (map entry_in) (sym (same_children (md (codes "EntityDescriptor")) refl tree e s others element front))

  pub until_shown : (e s : ℕ) (others : List Child) (ms : ℕ) → IsElement tree e → element_children tree e ≡ child s signature ∷ others →
      valid_until tree e ≡ Some ms → moment_in (first_part (content tree e (Some s))) ≡ Some ms
  until_shown e s others ms element front until =
      ap (λ attributes. option_and_then moment_of (value (codes "validUntil") attributes)) (same_attributes tree e s others element front)
      ∙ ap (option_and_then moment_of) (value_at (codes "validUntil") tree e names element)
      ∙ until_said (is_aggregate tree e) (option_and_then moment_of (attribute_text tree e (codes "validUntil"))) ms until
