-- The Response that is sent is read as it was made.
use Rattle.std.proofs.Common.{◌≡◌, ℕ, suc, ◌+◌, ◌≤◌, Bool, true, false, List, [], ◌∷◌, length, codes, Some, None, refl, sym, ap, ◌∙◌, subst}
use Rattle.std.specs.Option.{option_map, option_and_then}
use Rattle.std.specs.Str.{bytes_eq}
use Rattle.std.proofs.lemmas.List.{append-nil}
use Rattle.xml_spec.specs.Tree.{Attribute, Nodes, NoNodes, Element, with_text}
use Rattle.xml_spec.specs.Numbering.{size}
use Rattle.xml_spec.specs.Names.{Scope, outermost, namespace_of}
use Rattle.saml_names.specs.Names.{samlp, samlp_namespace}
use Rattle.saml_names.specs.Uris.{success}
use Rattle.saml_time.specs.Instant.{TellsInFull}
use Rattle.tree_read.specs.Children.{child, named, children}
use Rattle.tree_read.specs.Texts.{text_in, text_of, trimmed}
use Rattle.element_make.specs.declared.names.Ns.TheVariants.{Samlp, Ds}
use Rattle.element_make.specs.Made.{Made, MadeNodes, alone, with_second, nodes_of, tree_of, qualified}
use Rattle.sig_reference.specs.Signing.{signed, signature}
use Rattle.assertion_model.specs.declared.login.Login.{Login}
use Rattle.assertion_model.specs.Assertion.{assertion, IsAssertionOf}
use Rattle.protocol_messages.specs.Making.{response, assertion_made, attribute}
use Rattle.protocol_messages.specs.Messages.{only, at_most_one, with_value, status_in_code, IsResponse}
use Rattle.protocol_messages.proofs.Reading.{response_read}
use Rattle.tree_read.proofs.Places.{Stands, some, first_kid, behind, kids_here, attribute_here, text_here}
use Rattle.provider_config.specs.declared.idp_config.SignMode.{SignMode}
use Rattle.provider_config.specs.declared.idp_config.SignMode.TheVariants as modes
use Rattle.idp_answers.specs.Answers.{IsIssued, signs_response, signed_assertion, signed_response}

text_alone : (text : List ℕ) → text_in (with_text text NoNodes) ≡ text
text_alone [] = refl
text_alone (b ∷ text) = append-nil (b ∷ text)

text_read : (tree : Nodes) (k : ℕ) (scope : Scope) (name : List ℕ) (attributes : List Attribute) (text : List ℕ) (rest : Nodes) →
    Stands tree k scope (Element name attributes (with_text text NoNodes) rest) → text_of tree k ≡ text
text_read tree k scope name attributes text rest here = text_here here ∙ text_alone text

abbrev code_nodes : Nodes
code_nodes = Element (qualified Samlp (codes "StatusCode")) (attribute (codes "Value") success ∷ []) NoNodes NoNodes

-- a Status of success, inside elements that declare the namespace of protocol messages
succeeded_read : (tree : Nodes) (scope : Scope) → namespace_of scope (codes "samlp") ≡ samlp_namespace → (k : ℕ) (rest : Nodes) →
    Stands tree k scope (Element (qualified Samlp (codes "Status")) [] code_nodes rest) →
    option_and_then (status_in_code tree) (only (children tree k (samlp (codes "StatusCode")))) ≡ Some (record { top = success; inner = None })
succeeded_read tree scope bound k rest here =
    let code = first_kid here (some _) in
    ap (λ cs. option_and_then (status_in_code tree) (only (named (samlp (codes "StatusCode")) cs))) (kids_here here)
    ∙ ap (λ n. option_and_then (status_in_code tree) (only (named (samlp (codes "StatusCode")) (child (suc k) (record { namespace = n; local = codes "StatusCode" }) ∷ [])))) bound
    ∙ (λ i. with_value tree (attribute_here code (codes "Value") i) (at_most_one (named (samlp (codes "StatusCode")) (kids_here code i))))

-- the element is read as a success with one Assertion, and with a Signature or without one
pub record IsRead (message issuer consumer request : List ℕ) (has_signature : Bool) (sent : Made) : Type 0 where
  pub assertion : ℕ
  pub is : IsResponse (tree_of sent) 0
      (record { id = message; issuer = Some (trimmed issuer); destination = Some consumer; request = Some request; success = true; has_signature = has_signature; assertions = assertion ∷ [] })

module _ (message issuer consumer request instant : List ℕ) (now : ℕ) (some_id : 1 ≤ length message) (short : length message ≤ 256) (told : TellsInFull instant now) where
  abbrev IsReadSo : Bool → Made → Type 0
  IsReadSo has_signature sent = IsRead message issuer consumer request has_signature sent

  abbrev response_with : Made → Made
  response_with held = response message issuer consumer request (Some held) instant

  unsigned_read : (attributes : List Attribute) (kids : MadeNodes) → IsReadSo false (response_with (assertion_made attributes kids))
  unsigned_read attributes kids =
      let read = response_read message issuer consumer request instant now some_id short told attributes kids in
      record { assertion = read.0; is = read.1 }

  signed_read : (attributes : List Attribute) (kids : MadeNodes) (key : List ℕ) (info : Made) →
      let unsigned = response_with (assertion_made attributes kids) in IsReadSo true (record unsigned { kids = with_second unsigned.kids (alone (signature key info)) })
  signed_read attributes kids key info =
      let unsigned = response_with (assertion_made attributes kids) in
      let tree = tree_of (record unsigned { kids = with_second unsigned.kids (alone (signature key info)) }) in
      let s = size (nodes_of (Ds ∷ Samlp ∷ []) (signature key info).kids) in
      let status = suc (suc (1 + size (with_text issuer NoNodes)) + s) in
      let root : Stands tree 0 outermost tree = record { found = refl; inside = refl } in
      let first = first_kid root (some _) in
      record {
        assertion = suc (status + 1);
        is = record {
          issued = now;
          is = record { name = refl; version = refl; identified = refl; some = some_id; short = short; told = told.tells };
          issuer = ap (λ text. Some (Some (trimmed text))) (text_read tree 1 _ _ _ issuer _ first);
          destination = refl;
          request = refl;
          success = ap (option_map (λ status. bytes_eq status.top success)) (succeeded_read tree _ refl status _ (behind (behind first (some _)) (some _)));
          signature = refl;
          assertions = refl;
        };
      }

  module _ (key : List ℕ) (login : Login) (made unsigned sent : Made) (is : IsAssertionOf login made) where
    abbrev own : Made
    own = assertion login is.moments

    sent_read : (mode : SignMode) → unsigned ≡ response_with (signed_assertion mode key made) → sent ≡ signed_response mode key unsigned →
        IsReadSo (signs_response mode) sent
    sent_read modes.Assertion answers sends =
        subst (IsReadSo false) (sym (sends ∙ answers ∙ ap (λ (a : Made). response_with (signed key a)) is.is))
        (unsigned_read own.attributes (signed key own).kids)
    sent_read modes.Response answers sends =
        subst (IsReadSo true) (sym (sends ∙ ap (signed key) (answers ∙ ap response_with is.is))) (signed_read own.attributes own.kids key _)
    sent_read modes.Both answers sends =
        subst (IsReadSo true) (sym (sends ∙ ap (signed key) (answers ∙ ap (λ (a : Made). response_with (signed key a)) is.is)))
        (signed_read own.attributes (signed key own).kids key _)

-- the Response that is sent for a login
pub issued_read : (mode : SignMode) (key : List ℕ) (login : Login) (message consumer : List ℕ) (now : ℕ) (sent : Made) →
    1 ≤ length message → length message ≤ 256 → IsIssued mode key login message consumer now sent →
    IsRead message login.issuer consumer login.request (signs_response mode) sent
issued_read mode key login message consumer now sent some_id short issued =
    sent_read message login.issuer consumer login.request issued.answers.instant now some_id short issued.answers.told
    key login issued.assertion issued.unsigned sent issued.of_login mode issued.answers.is issued.is
