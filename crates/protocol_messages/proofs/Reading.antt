-- What is made is read as it was made.
use Rattle.std.proofs.Common.{◌≡◌, ℕ, suc, ◌+◌, ◌≤◌, ◌<◌, List, [], ◌∷◌, map, length, codes, Bool, true, false, cond, Option, Some, None, refl, ap, ◌∙◌}
use Rattle.std.specs.Option.{option_map, option_and_then}
use Rattle.std.proofs.lemmas.Bool.{cond-true, cond-false}
use Rattle.std.proofs.lemmas.List.{append-nil}
use Rattle.std.specs.Str.{bytes_eq}
use Rattle.xml_spec.specs.Tree.{Attribute, Nodes, NoNodes, Element, with_text}
use Rattle.xml_spec.specs.Numbering.{size, from_node}
use Rattle.xml_spec.specs.Names.{Scope, outermost, inner_scope, namespace_of, ExpandedName, element_name}
use Rattle.xml_spec.specs.Canonical.{scope_at}
use Rattle.saml_names.specs.Names.{saml, samlp, samlp_namespace}
use Rattle.saml_names.specs.Uris.{success, responder, no_passive, partial_logout}
use Rattle.saml_time.specs.Instant.{TellsInFull}
use Rattle.element_make.specs.declared.names.Ns.TheVariants.{Samlp}
use Rattle.element_make.specs.Made.{MadeNodes, tree_of, nodes_of, qualified}
use Rattle.tree_read.specs.Children.{child, is_name, named, children, elements_of, scope_of_kids}
use Rattle.tree_read.specs.Texts.{text_in, text_of, trimmed}
use Rattle.protocol_messages.specs.declared.logout.Outcome.TheVariants as outcomes
use Rattle.protocol_messages.specs.declared.parts.Status.{Status}
use Rattle.protocol_messages.specs.Messages.{only, at_most_one, with_value, status_in_code, issuer_named, outcome_of, IsAuthnRequest, IsResponse, IsLogoutRequest, IsLogoutResponse}
use Rattle.protocol_messages.specs.Making.{authn_request, response, assertion_made, session_indexes, logout_request, logged_out, succeeded, failed, attribute}
use Rattle.tree_read.proofs.Places.{Stands, some, first_kid, behind, kids_here, attribute_here, text_here}

-- the text of an element that holds one text
text_alone : (text : List ℕ) → text_in (with_text text NoNodes) ≡ text
text_alone [] = refl
text_alone (b ∷ text) = append-nil (b ∷ text)

text_read : (tree : Nodes) (k : ℕ) (scope : Scope) (name : List ℕ) (attributes : List Attribute) (text : List ℕ) (rest : Nodes) →
    Stands tree k scope (Element name attributes (with_text text NoNodes) rest) → text_of tree k ≡ text
text_read tree k scope name attributes text rest here = text_here here ∙ text_alone text

-- the tree itself
root : (tree : Nodes) → from_node tree 0 ≡ tree → scope_at outermost tree 0 ≡ outermost → Stands tree 0 outermost tree
root tree found inside = record { found = found; inside = inside }

-- the nodes of a Status
abbrev code_nodes : List ℕ → Nodes → Nodes
code_nodes value inside = Element (qualified Samlp (codes "StatusCode")) (attribute (codes "Value") value ∷ []) inside NoNodes

abbrev status_nodes : List ℕ → Nodes → Nodes → Nodes
status_nodes value inside rest = Element (qualified Samlp (codes "Status")) [] (code_nodes value inside) rest

-- inside elements that declare the namespace of protocol messages
module _ (tree : Nodes) (scope : Scope) (bound : namespace_of scope (codes "samlp") ≡ samlp_namespace) where
  abbrev status_code_name : ExpandedName
  status_code_name = samlp (codes "StatusCode")

  -- the status of the Status that stands at node k
  abbrev status_at : ℕ → Option Status
  status_at k = option_and_then (status_in_code tree) (only (children tree k status_code_name))

  only_code : (k : ℕ) (value : List ℕ) (inside rest : Nodes) → Stands tree k scope (status_nodes value inside rest) → status_at k ≡ status_in_code tree (suc k)
  only_code k value inside rest here =
      ap (λ cs. option_and_then (status_in_code tree) (only (named status_code_name cs))) (kids_here here)
      ∙ ap (λ n. option_and_then (status_in_code tree) (only (named status_code_name (child (suc k) (record { namespace = n; local = codes "StatusCode" }) ∷ [])))) bound

  code_read : (k : ℕ) (value : List ℕ) (inside : Nodes) → Stands tree k scope (code_nodes value inside) →
      status_in_code tree k ≡ with_value tree (Some value) (at_most_one (named status_code_name (elements_of scope (suc k) inside)))
  code_read k value inside here =
      λ i. with_value tree (attribute_here here (codes "Value") i) (at_most_one (named status_code_name (kids_here here i)))

  succeeded_read : (k : ℕ) (rest : Nodes) → Stands tree k scope (status_nodes success NoNodes rest) → status_at k ≡ Some (record { top = success; inner = None })
  succeeded_read k rest here = only_code k success NoNodes rest here ∙ code_read (suc k) success NoNodes (first_kid here (some _))

  failed_read : (k : ℕ) (reason : List ℕ) (rest : Nodes) → Stands tree k scope (status_nodes responder (code_nodes reason NoNodes) rest) →
      status_at k ≡ Some (record { top = responder; inner = Some reason })
  failed_read k reason rest here =
      let code = first_kid here (some _) in
      only_code k responder (code_nodes reason NoNodes) rest here ∙ code_read (suc k) responder (code_nodes reason NoNodes) code
      ∙ ap (λ n. with_value tree (Some responder) (at_most_one (named status_code_name (child (suc (suc k)) (record { namespace = n; local = codes "StatusCode" }) ∷ [])))) bound
      ∙ ap (λ v. Some (record { top = responder; inner = v })) (attribute_here (first_kid code (some _)) (codes "Value"))

module _ (id issuer destination other instant : List ℕ) (issued : ℕ) (some_id : 1 ≤ length id) (short : length id ≤ 256) (told : TellsInFull instant issued) where
  -- the number of what stands behind the Issuer
  abbrev second : ℕ
  second = suc (1 + size (with_text issuer NoNodes))

  pub authn_read : IsAuthnRequest (tree_of (authn_request id issuer destination other instant)) 0
      (record { id = id; issuer = trimmed issuer; destination = Some destination; consumer = Some other; other_binding = false; force = false; passive = false; issued = issued })
  authn_read =
      let tree = tree_of (authn_request id issuer destination other instant) in
      record {
        is = record { name = refl; version = refl; identified = refl; some = some_id; short = short; told = told.tells };
        issuer = ap (λ text. Some (trimmed text)) (text_read tree 1 _ _ _ issuer _ (first_kid (root tree refl refl) (some _)));
        destination = refl;
        consumer = refl;
        binding = refl;
        force = refl;
        passive = refl;
      }

  pub response_read : (attributes : List Attribute) (kids : MadeNodes) →
      (n : ℕ) × IsResponse (tree_of (response id issuer destination other (Some (assertion_made attributes kids)) instant)) 0
      (record { id = id; issuer = Some (trimmed issuer); destination = Some destination; request = Some other; success = true; has_signature = false; assertions = n ∷ [] })
  response_read attributes kids =
      let tree = tree_of (response id issuer destination other (Some (assertion_made attributes kids)) instant) in
      let first = first_kid (root tree refl refl) (some _) in (
        suc (second + 1),
        record {
          issued = issued;
          is = record { name = refl; version = refl; identified = refl; some = some_id; short = short; told = told.tells };
          issuer = ap (λ text. Some (Some (trimmed text))) (text_read tree 1 _ _ _ issuer _ first);
          destination = refl;
          request = refl;
          success = ap (option_map (λ status. bytes_eq status.top success)) (succeeded_read tree _ refl second _ (behind first (some _)));
          signature = refl;
          assertions = refl;
        },
      )

  pub refusal_read : IsResponse (tree_of (response id issuer destination other None instant)) 0
      (record { id = id; issuer = Some (trimmed issuer); destination = Some destination; request = Some other; success = false; has_signature = false; assertions = [] })
  refusal_read =
      let tree = tree_of (response id issuer destination other None instant) in
      let first = first_kid (root tree refl refl) (some _) in
      record {
        issued = issued;
        is = record { name = refl; version = refl; identified = refl; some = some_id; short = short; told = told.tells };
        issuer = ap (λ text. Some (Some (trimmed text))) (text_read tree 1 _ _ _ issuer _ first);
        destination = refl;
        request = refl;
        success = ap (option_map (λ status. bytes_eq status.top success)) (failed_read tree _ refl second no_passive _ (behind first (some _)));
        signature = refl;
        assertions = refl;
      }

  pub logged_out_read : (partial : Bool) → IsLogoutResponse (tree_of (logged_out id issuer destination other (cond partial (failed partial_logout) succeeded) instant)) 0
      (record { id = id; issuer = trimmed issuer; destination = Some destination; request = other; outcome = cond partial outcomes.Partial outcomes.Success })
  logged_out_read true =
      let tree = tree_of (logged_out id issuer destination other (failed partial_logout) instant) in
      let first = first_kid (root tree refl refl) (some _) in
      record {
        issued = issued;
        is = record { name = refl; version = refl; identified = refl; some = some_id; short = short; told = told.tells };
        issuer = ap (λ text. Some (trimmed text)) (text_read tree 1 _ _ _ issuer _ first);
        destination = refl;
        request = refl;
        outcome = ap (option_map outcome_of) (failed_read tree _ refl second partial_logout _ (behind first (some _)));
      }
  logged_out_read false =
      let tree = tree_of (logged_out id issuer destination other succeeded instant) in
      let first = first_kid (root tree refl refl) (some _) in
      record {
        issued = issued;
        is = record { name = refl; version = refl; identified = refl; some = some_id; short = short; told = told.tells };
        issuer = ap (λ text. Some (trimmed text)) (text_read tree 1 _ _ _ issuer _ first);
        destination = refl;
        request = refl;
        outcome = ap (option_map outcome_of) (succeeded_read tree _ refl second _ (behind first (some _)));
      }

abbrev index_nodes : List (List ℕ) → Nodes
index_nodes indexes = nodes_of (Samlp ∷ []) (session_indexes indexes)

-- the elements of a list of SessionIndex
module _ (scope : Scope) (bound : namespace_of scope (codes "samlp") ≡ samlp_namespace) where
  index_name : (wanted : ExpandedName) → is_name wanted (element_name (inner_scope [] scope) (qualified Samlp (codes "SessionIndex"))) ≡ is_name wanted (samlp (codes "SessionIndex"))
  index_name wanted = ap (λ n. is_name wanted (record { namespace = n; local = codes "SessionIndex" })) bound

  -- none of them has a name of assertions
  none_named : (local : List ℕ) (k : ℕ) (indexes : List (List ℕ)) → named (saml local) (elements_of scope k (index_nodes indexes)) ≡ []
  none_named local k [] = refl
  none_named local k (index ∷ indexes) =
      cond-false _ _ _ (index_name (saml local)) ∙ none_named local (suc (k + size (with_text index NoNodes))) indexes

  -- their texts
  texts_read : (tree : Nodes) (k : ℕ) (indexes : List (List ℕ)) → (0 < size (index_nodes indexes) → Stands tree k scope (index_nodes indexes)) →
      map (text_of tree) (named (samlp (codes "SessionIndex")) (elements_of scope k (index_nodes indexes))) ≡ indexes
  texts_read tree k [] here = refl
  texts_read tree k (index ∷ indexes) here =
      let there = here (some _) in
      let text = text_read tree k scope _ _ index _ there in
      let others = texts_read tree (suc (k + size (with_text index NoNodes))) indexes (λ h. behind there h) in
      ap (map (text_of tree)) (cond-true _ _ _ (index_name (samlp (codes "SessionIndex")))) ∙ (λ i. text i ∷ others i)

module _ (id issuer destination name : List ℕ) (indexes : List (List ℕ)) (instant until : List ℕ) (issued end : ℕ) (some_id : 1 ≤ length id) (short : length id ≤ 256) (told : TellsInFull instant issued) (ended : TellsInFull until end) where
  abbrev request_tree : Nodes
  request_tree = tree_of (logout_request id issuer destination name indexes instant until)

  abbrev inside : Scope
  inside = scope_of_kids outermost request_tree

  -- the numbers of the NameID and of the first SessionIndex
  abbrev name_number : ℕ
  name_number = suc (1 + size (with_text issuer NoNodes))

  abbrev index_number : ℕ
  index_number = suc (name_number + size (with_text name NoNodes))

  pub request_read : IsLogoutRequest request_tree 0
      (record { id = id; issuer = trimmed issuer; destination = Some destination; until = Some end; name = name; indexes = indexes })
  request_read =
      let first = first_kid (root request_tree refl refl) (some _) in
      let second_kid = behind first (some _) in
      record {
        issued = issued;
        is = record { name = refl; version = refl; identified = refl; some = some_id; short = short; told = told.tells };
        issuer =
            ap (λ xs. option_map (issuer_named request_tree) (only (1 ∷ xs))) (none_named inside refl (codes "Issuer") index_number indexes)
            ∙ ap (λ text. Some (trimmed text)) (text_read request_tree 1 _ _ _ issuer _ first);
        destination = refl;
        until = ended.tells;
        name =
            ap (λ xs. option_map (text_of request_tree) (only (name_number ∷ xs))) (none_named inside refl (codes "NameID") index_number indexes)
            ∙ ap Some (text_read request_tree name_number _ _ _ name _ second_kid);
        indexes = texts_read inside refl request_tree index_number indexes (λ h. behind second_kid h);
      }
