-- The login of an issued record is said by each element that was signed for the record.
use Rattle.std.proofs.Common.{◌≡◌, ℕ, true, List, [], ◌∷◌, Some, refl, sym, ◌∙◌, ap, subst, inl, inr}
use Rattle.element_make.specs.Made.{Made, IsMade}
use Rattle.sig_reference.specs.Form.{Parts}
use Rattle.sig_reference.specs.Signing.{signed}
use Rattle.assertion_model.specs.declared.login.Login.{Login}
use Rattle.assertion_model.specs.Assertion.{IsAssertionOf, CanBeRead}
use Rattle.assertion_model.specs.Parts.{login_at}
use Rattle.assertion_model.proofs.ReadBack.{content_said}
use Rattle.idp_answers.specs.Answers.{signed_assertion, signs_assertion}
use Rattle.ledger_records.specs.declared.idp_record.Issued.{Issued}
use Rattle.ledger_records.specs.declared.idp_record.IdpRecord.TheVariants as kinds
use Rattle.idp_ledger.specs.Ledger.{Held}
use Rattle.idp_rules.specs.declared.config.IdpConfig.{IdpConfig}
use Rattle.idp_server.specs.Logins.{login_of}
use Rattle.idp_server.specs.Signed.{IsSignedFor, AnAssertion, AResponse, IsSignedOf}
use Rattle.login_origin.specs.Signed.{Signed}
use Rattle.login_origin.specs.Origin.{IsSignedAssertion, IsLoginOf}
use Rattle.recorded_logins.specs.Documents.{IsDocumentOf}
use Rattle.recorded_logins.proofs.Inside.{PutInside, inside_made, login_alone, login_inside, one_assertion}
use Rattle.recorded_logins.proofs.Joining.{response_with}
use Rattle.recorded_logins.proofs.Lists.{contains_first}
use Rattle.recorded_logins.proofs.Shapes.{made_assertion, signed_assertion_is}
use Rattle.recorded_logins.proofs.Signing.{document, document_is}

-- an Assertion of the document says this login
record SaysIn (s : Signed) (l : Login) : Type 0 where
  p : ℕ
  assertion : IsSignedAssertion s p
  read : login_at s.tree p ≡ Some l

-- so does each element that is signed with this key
abbrev SaysSo : IdpConfig → Issued → (key : List ℕ) → Made → Type 0
SaysSo setup r key made =
    (parts : Parts) → IsMade (signed key made) → SaysIn (document (signed key made) parts) (login_of setup.entity r)

assertion_says : (setup : IdpConfig) (r : Issued) (key : List ℕ) (made : Made) →
    IsAssertionOf (login_of setup.entity r) made → CanBeRead (login_of setup.entity r) → SaysSo setup r key made
assertion_says setup r key made of can parts is = record {
  p = 0;
  assertion = inl refl;
  read =
      login_alone setup.entity r true key made of is ∙ content_said (login_of setup.entity r) made of can;
}

response_says : PutInside → (setup : IdpConfig) (r : Issued) (key at : List ℕ) (made : Made) →
    IsAssertionOf (login_of setup.entity r) made → CanBeRead (login_of setup.entity r) →
    SaysSo setup r key (response_with setup r key at made)
response_says law setup r key at made of can parts is =
    let held = signed_assertion setup.mode key made in
    let is_held =
    signed_assertion_is (signs_assertion setup.mode) key made (made_assertion (login_of setup.entity r) made of) in
    let one = one_assertion key r.message setup.entity r.consumer r.request at held is_held in
    record {
      p = one.0;
      assertion = inr (record { response = refl; one = one.1 });
      read =
          login_inside law key r.message setup.entity r.consumer r.request at held is_held is one.0 one.1
          ∙ login_alone setup.entity r (signs_assertion setup.mode) key made of
          (inside_made key r.message setup.entity r.consumer r.request at held is)
          ∙ content_said (login_of setup.entity r) made of can;
    }

each_says : PutInside → (setup : IdpConfig) (held : Held) (r : Issued) (key : List ℕ) (made : Made) →
    IsSignedFor setup held (kinds.Issued r) key made → CanBeRead (login_of setup.entity r) → SaysSo setup r key made
each_says law setup held r key made (AnAssertion issued peer assertion known signs of) can =
    assertion_says setup r peer.key_out assertion of can
each_says law setup held r key made (AResponse issued peer assertion sent known signs of at) can =
    subst (SaysSo setup r peer.key_out) (sym at.is) (response_says law setup r peer.key_out at.instant assertion of can)

pub login_is_signed : PutInside → (setup : IdpConfig) (held : Held) (r : Issued) (element : Made) (s : Signed) →
    IsSignedOf setup held (kinds.Issued r) element → IsMade element → IsDocumentOf element s →
    CanBeRead (login_of setup.entity r) → IsLoginOf (s ∷ []) (login_of setup.entity r)
login_is_signed law setup held r element s o made d can =
    let itself : s ≡ document (signed o.key o.made) s.parts =
    document_is element s made d ∙ ap (λ (e : Made). document e s.parts) o.is in
    let says : SaysIn s (login_of setup.entity r) =
    subst (λ (x : Signed). SaysIn x (login_of setup.entity r)) (sym itself)
    (each_says law setup held r o.key o.made o.stands can s.parts (subst IsMade o.is made)) in
    record { s = s; known = contains_first s []; p = says.p; assertion = says.assertion; read = says.read }
