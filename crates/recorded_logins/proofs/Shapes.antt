-- What is signed for a record can be signed: it has an Issuer in front, and no Signature yet.
use Rattle.std.proofs.Common.{◌≡◌, ℕ, Bool, true, false, if◌then◌else◌, List, [], ◌∷◌, codes, Some, refl, sym, subst}
use Rattle.xml_spec.specs.Tree as tree
use Rattle.owned_values.specs.declared.attributes.Attribute.{Attribute}
use Rattle.saml_names.specs.Uris.{partial_logout}
use Rattle.element_make.specs.declared.names.Ns.TheVariants.{Saml, Samlp}
use Rattle.element_make.specs.Made.{Made, MadeNodes, NothingMade, MadeText, alone, joined, nodes_of}
use Rattle.sig_reference.specs.Signing.{signed}
use Rattle.assertion_model.specs.declared.login.Login.{Login}
use Rattle.assertion_model.specs.Assertion.{IsAssertionOf, assertion, given, statements}
use Rattle.protocol_messages.specs.Making.{failed, logged_out, logout_request, response, session_indexes, succeeded}
use Rattle.idp_answers.specs.Answers.{signed_if}
use Rattle.ledger_records.specs.declared.idp_record.Issued.{Issued}
use Rattle.idp_server.specs.Logins.{login_of}
use Rattle.recorded_logins.proofs.Alone.{inside, HasNoSignature, IsSignable, passed}
use Rattle.recorded_logins.proofs.Reading.{all_told, assertion_of}

-- ---- Assertions

statements_unsigned : (attributes : List Attribute) (around : List tree.Attribute) →
    HasNoSignature (inside Saml around) (nodes_of (Saml ∷ []) (statements attributes))
statements_unsigned [] around = record { none = λ k. refl }
statements_unsigned (a ∷ attributes) around = record { none = λ k. refl }

written_signable : (issuer : List ℕ) (r : Issued) (issued until from end last : List ℕ) →
    IsSignable (assertion_of issuer r issued until from end last)
written_signable issuer r issued until from end last =
    record {
      kids = MadeText issuer NothingMade;
      rest = _;
      begins = refl;
      unsigned =
          passed refl (passed refl (passed refl
          (statements_unsigned r.attributes (assertion_of issuer r issued until from end last).attributes)));
    }

pub assertion_signable : (issuer : List ℕ) (r : Issued) (made : Made) → IsAssertionOf (login_of issuer r) made →
    IsSignable made
assertion_signable issuer r made is =
    let t = all_told issuer r made is in
    subst IsSignable (sym t.is) (written_signable issuer r t.issued t.until t.from t.end t.last)

-- an Assertion with these kids, with a Signature among them or without
abbrev pub assertion_with : (id issued : List ℕ) → MadeNodes → Made
assertion_with id issued kids = record {
  ns = Saml;
  local = codes "Assertion";
  attributes = given (codes "ID") id ∷ given (codes "IssueInstant") issued ∷ given (codes "Version") (codes "2.0") ∷ [];
  kids = kids;
}

pub record IsAssertion (held : Made) : Type 0 where
  pub id : List ℕ
  pub issued : List ℕ
  pub kids : MadeNodes
  pub is : held ≡ assertion_with id issued kids

pub made_assertion : (l : Login) (made : Made) → IsAssertionOf l made → IsAssertion made
made_assertion l made of =
    record { id = l.id; issued = of.moments.issued; kids = (assertion l of.moments).kids; is = of.is }

pub signed_assertion_is : (b : Bool) (key : List ℕ) (made : Made) → IsAssertion made →
    IsAssertion (signed_if b key made)
signed_assertion_is true key made a = record {
  id = a.id;
  issued = a.issued;
  kids = (signed key made).kids;
  is = λ i. record (a.is i) { kids = (signed key made).kids };
}
signed_assertion_is false key made a = a

-- ---- messages

pub response_signable : (id issuer destination request at : List ℕ) (held : Made) → IsAssertion held →
    IsSignable (response id issuer destination request (Some held) at)
response_signable id issuer destination request at held a =
    subst (λ (h : Made). IsSignable (response id issuer destination request (Some h) at)) (sym a.is) (record {
      kids = MadeText issuer NothingMade;
      rest = joined succeeded (alone (assertion_with a.id a.issued a.kids));
      begins = refl;
      unsigned = record { none = λ k. refl };
    })

-- no index of a session is a Signature
indexes_unsigned : (indexes : List (List ℕ)) (around : List tree.Attribute) →
    HasNoSignature (inside Samlp around) (nodes_of (Samlp ∷ []) (session_indexes indexes))
indexes_unsigned [] around = record { none = λ k. refl }
indexes_unsigned (index ∷ indexes) around = passed refl (indexes_unsigned indexes around)

pub request_signable : (id issuer address name : List ℕ) (indexes : List (List ℕ)) (at end : List ℕ) →
    IsSignable (logout_request id issuer address name indexes at end)
request_signable id issuer address name indexes at end =
    record {
      kids = MadeText issuer NothingMade;
      rest = _;
      begins = refl;
      unsigned = passed refl (indexes_unsigned indexes (logout_request id issuer address name indexes at end).attributes);
    }

pub reply_signable : (id issuer address request at : List ℕ) (partial : Bool) →
    IsSignable (logged_out id issuer address request (if partial then failed partial_logout else succeeded) at)
reply_signable id issuer address request at true =
    record { kids = _; rest = _; begins = refl; unsigned = record { none = λ k. refl } }
reply_signable id issuer address request at false =
    record { kids = _; rest = _; begins = refl; unsigned = record { none = λ k. refl } }
