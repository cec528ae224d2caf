-- The descriptors that an aggregate lists lie in it, and not in the Signature that stands in front of them.
use Rattle.std.proofs.Common.{◌≡◌, ℕ, suc, ◌+◌, ◌<◌, List, [], ◌∷◌, codes, Ok, Err, Result, refl, sym, ap, ◌∙◌, subst, arith}
use Rattle.std.specs.Prelude.{filter, length, map}
use Rattle.std.specs.List.{AllByRecursion}
use Rattle.std.proofs.lemmas.List.{length-map}
use Rattle.xml_spec.specs.Tree.{Nodes, NoNodes, Element, Text, Comment, Instruction}
use Rattle.xml_spec.specs.Numbering.{size, from_node, kids_of}
use Rattle.xml_spec.specs.Names.{Scope, outermost, inner_scope, element_name}
use Rattle.xml_spec.specs.Canonical.{scope_at}
use Rattle.xml_spec.proofs.Sorting.{each_weaker}
use Rattle.saml_names.specs.Names.{md, ds}
use Rattle.tree_read.specs.Children.{Child, child, named, scope_of_kids, elements_of, element_children}
use Rattle.tree_read.specs.Texts.{attribute_text}
use Rattle.saml_tree.proofs.Numbers.{kids_from}
use Rattle.tree_read.proofs.Placed.{kids_scope}
use Rattle.assertion_model.proofs.PartLemmas.{Stands, behind, next, some}
use Rattle.assertion_model.proofs.PlaceLemmas.{IsThere, elements_there, IsElementIn, children_in, of_name, in_both}
use Rattle.metadata.specs.Metadata.{peer_of}
use Rattle.metadata.specs.declared.peer.Role.{Role}
use Rattle.metadata.specs.declared.peer.Role.TheVariants.{Idp, Sp}
use Rattle.metadata.specs.declared.peer.Peer.{Peer}
use Rattle.metadata.specs.declared.fault.MetaFault.{MetaFault}
use Rattle.meta_registry.specs.declared.fault.PeerFault.TheVariants.{NotListed, Meta}
use Rattle.meta_registry.specs.Aggregate.{RegistryView, descriptors, has_name, entry_of, answer_of, answer_in, peer_in}
use Rattle.meta_registry.specs.Faults.{IsRegistryOf}
use Rattle.meta_registry.specs.Listed.{listed, answer_at, IsListed}
use Rattle.meta_registry.proofs.Picking.{filter_map, all_filtered}
use Rattle.owned_values.specs.Options.{is_there}

-- WHAT STANDS BEHIND THE FIRST CHILD

abbrev pub end_of : Nodes → ℕ → ℕ
end_of tree k = k + size (kids_of (from_node tree k))

-- the child begins behind the end of node k
abbrev pub BeginsBehind : Nodes → ℕ → Child → Type 0
BeginsBehind tree k c = end_of tree k < c.number

behind_first : (tree : Nodes) (scope : Scope) (k : ℕ) (nodes : Nodes) → (0 < size nodes → Stands tree k scope nodes) → (c : Child) (others : List Child) →
    elements_of scope k nodes ≡ c ∷ others → AllByRecursion (BeginsBehind tree c.number) others
behind_first tree scope k NoNodes stands c others e = absurd (let clash : [] ≡ c ∷ others = e in cc)
behind_first tree scope k (Element name attributes kids rest) stands c others e =
    let here = stands (some (size kids + size rest)) in
    let all : size (kids_of (from_node tree k)) ≡ size kids = ap (λ nodes. size (kids_of nodes)) here.found in
    let this = child k (element_name (inner_scope attributes scope) name) in
    let later = elements_of scope (suc (k + size kids)) rest in
    let same : this ∷ later ≡ c ∷ others = e in
    let first : this ≡ c = cc in
    let rest_is : later ≡ others = cc in
    let there = elements_there tree scope (suc (k + size kids)) rest (behind tree k scope (Element name attributes kids rest) here) in
    let beyond : AllByRecursion (BeginsBehind tree k) later =
    each_weaker (IsThere tree (suc (k + size kids)) (suc (k + size kids) + size rest)) (BeginsBehind tree k)
    (λ d is. omega (arith, is.from, all)) later there in
    subst (λ (d : Child). AllByRecursion (BeginsBehind tree d.number) others) first
    (subst (λ list. AllByRecursion (BeginsBehind tree k) list) rest_is beyond)
behind_first tree scope k (Text bytes rest) stands c others e =
    behind_first tree scope (suc k) rest (next tree k scope (Text bytes rest) refl (stands (some (size rest)))) c others e
behind_first tree scope k (Comment bytes rest) stands c others e =
    behind_first tree scope (suc k) rest (next tree k scope (Comment bytes rest) refl (stands (some (size rest)))) c others e
behind_first tree scope k (Instruction target value rest) stands c others e =
    behind_first tree scope (suc k) rest (next tree k scope (Instruction target value rest) refl (stands (some (size rest)))) c others e

-- an element that begins behind the Signature in front
descriptors_behind : (tree : Nodes) (e s : ℕ) (others : List Child) → element_children tree e ≡ child s (ds (codes "Signature")) ∷ others →
    AllByRecursion (λ d. end_of tree s < d) (descriptors tree e)
descriptors_behind tree e s others front =
    let later =
    behind_first tree (scope_of_kids (scope_at outermost tree e) (from_node tree e)) (suc e) (kids_of (from_node tree e))
    (λ h. record { found = kids_from tree e h; inside = kids_scope tree e h }) (child s (ds (codes "Signature"))) others front in
    let kept : descriptors tree e ≡ named (md (codes "EntityDescriptor")) others = ap (named (md (codes "EntityDescriptor"))) front in
    subst (λ list. AllByRecursion (λ d. end_of tree s < d) list) (sym kept)
    (of_name (md (codes "EntityDescriptor")) (BeginsBehind tree s) (λ d. end_of tree s < d) (λ c behind _. behind) others later)

-- WHAT A REGISTRY SAYS

answers_same : (tree : Nodes) (role : Role) (found : List ℕ) → answer_in role (map (entry_of tree) found) ≡ answer_at tree role found
answers_same tree role [] = refl
answers_same tree Idp (d ∷ []) = refl
answers_same tree Sp (d ∷ []) = refl
answers_same tree role (d ∷ other ∷ found) = ap (λ n. Err (NotListed (suc (suc n)))) (length-map found (entry_of tree))

-- it is what the descriptors say that the aggregate lists
pub says_listed : (key : List ℕ) (tree : Nodes) (e : ℕ) (registry : RegistryView) (entity : List ℕ) (role : Role) → IsRegistryOf key tree e registry →
    peer_in registry entity role ≡ answer_at tree role (listed tree e entity)
says_listed key tree e registry entity role is =
    ap (λ entries. answer_in role (filter (has_name entity) entries)) is.entries
    ∙ ap (answer_in role) (filter_map (has_name entity) (entry_of tree) (descriptors tree e)) ∙ answers_same tree role (listed tree e entity)

described : (said : Result Peer MetaFault) (peer : Peer) → answer_of said ≡ Ok peer → said ≡ Ok peer
described (Ok other) peer e = let same : other ≡ peer = cc in ap (λ p. Ok p) same
described (Err fault) peer e = absurd (let clash : Err (Meta fault) ≡ Ok peer = e in cc)

-- one descriptor, which describes the provider
record IsTheOne (tree : Nodes) (role : Role) (peer : Peer) (found : List ℕ) : Type 0 where
  descriptor : ℕ
  one : found ≡ descriptor ∷ []
  says : peer_of tree descriptor role ≡ Ok peer

answer_from_one : (tree : Nodes) (role : Role) (peer : Peer) (found : List ℕ) → answer_at tree role found ≡ Ok peer → IsTheOne tree role peer found
answer_from_one tree role peer [] e = absurd (let clash : Err (NotListed 0) ≡ Ok peer = e in cc)
answer_from_one tree role peer (d ∷ []) e = record { descriptor = d; one = refl; says = described (peer_of tree d role) peer e }
answer_from_one tree role peer (d ∷ other ∷ found) e = absurd (let clash : Err (NotListed (suc (suc (length found)))) ≡ Ok peer = e in cc)

of_one : (P : ℕ → Type 0) (found : List ℕ) (d : ℕ) → found ≡ d ∷ [] → AllByRecursion P found → P d
of_one P [] d e all = absurd (let clash : [] ≡ d ∷ [] = e in cc)
of_one P (k ∷ found) d e all = let same : k ≡ d = cc in subst P same all.0

pub read_from_listed : (key : List ℕ) (tree : Nodes) (registry : RegistryView) (entity : List ℕ) (role : Role) (peer : Peer) →
    IsRegistryOf key tree 0 registry → peer_in registry entity role ≡ Ok peer →
    (d : ℕ) × IsListed key tree entity d × (peer_of tree d role ≡ Ok peer)
read_from_listed key tree registry entity role peer is e =
    let found = listed tree 0 entity in
    let test = λ (d : ℕ). is_there entity (attribute_text tree d (codes "entityID")) in
    let the = answer_from_one tree role peer found (sym (says_listed key tree 0 registry entity role is) ∙ e) in
    let d = the.descriptor in
    let within : IsElementIn tree 0 d =
    of_one (IsElementIn tree 0) found d the.one
    (all_filtered (IsElementIn tree 0) test (descriptors tree 0) (children_in tree 0 (md (codes "EntityDescriptor")))) in
    let s = is.parts.signature in
    let beyond : end_of tree s < d =
    of_one (λ n. end_of tree s < n) found d the.one
    (all_filtered (λ n. end_of tree s < n) test (descriptors tree 0) (descriptors_behind tree 0 s is.vouches.form.others is.vouches.form.children)) in (
      d,
      record {
        parts = is.parts;
        vouches = is.vouches;
        one = the.one;
        element = within.element;
        inside = λ n here. in_both tree 0 d n within.inside here;
        outside = λ n here there. absurd (omega (arith, here.from, there.to, beyond));
      },
      the.says,
    )
