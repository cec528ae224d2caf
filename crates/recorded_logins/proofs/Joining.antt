-- A login of what was signed for records is read of an Assertion of an issued record among them.
use Rattle.std.proofs.Common.{◌≡◌, ℕ, ◌+◌, ◌<◌, ◌≤◌, arith, Bool, true, false, ◌&&◌, ◌||◌, if◌then◌else◌, List, [], ◌∷◌, codes, None, Some, IsTrue, refl, sym, ap, ◌∙◌, subst, inl, inr}
use Rattle.std.specs.Prelude.{Contains}
use Rattle.std.specs.List.{list_all}
use Rattle.std.specs.Str.{bytes_eq}
use Rattle.std.proofs.lemmas.Bool.{leb-true, ltb-true}
use Rattle.std.proofs.lemmas.Slice.Eq.{bytes_eq-Decides}
use Rattle.xml_spec.specs.Tree.{Attribute}
use Rattle.xml_spec.specs.Names.{ExpandedName}
use Rattle.xml_spec.specs.Content.{content}
use Rattle.xml_spec.proofs.Tests.{both_true}
use Rattle.saml_names.specs.Names.{saml}
use Rattle.saml_names.specs.Uris.{partial_logout}
use Rattle.tree_read.specs.Walk.{name_of_node}
use Rattle.tree_read.specs.Texts.{trimmed}
use Rattle.element_make.specs.Made.{Made, MadeNodes, IsMade, tree_of}
use Rattle.sig_reference.specs.Form.{Parts}
use Rattle.sig_reference.specs.Signing.{signed}
use Rattle.assertion_model.specs.declared.login.Login.{Login}
use Rattle.assertion_model.specs.Assertion.{IsAssertionOf}
use Rattle.assertion_model.specs.Login.{login}
use Rattle.assertion_model.specs.Parts.{login_at}
use Rattle.assertion_model.proofs.SkipLemmas.{login_is}
use Rattle.protocol_messages.specs.declared.response.ResponseHead.{ResponseHead}
use Rattle.protocol_messages.specs.Making.{failed, logged_out, logout_request, message, response, succeeded}
use Rattle.idp_answers.specs.Answers.{signed_assertion, signs_assertion}
use Rattle.ledger_records.specs.declared.idp_record.Issued.{Issued}
use Rattle.ledger_records.specs.declared.idp_record.IdpRecord.{IdpRecord}
use Rattle.ledger_records.specs.declared.idp_record.IdpRecord.TheVariants as kinds
use Rattle.idp_ledger.specs.Ledger.{Held}
use Rattle.idp_rules.specs.declared.config.IdpConfig.{IdpConfig}
use Rattle.idp_server.specs.Logins.{login_of}
use Rattle.idp_server.specs.Signed.{IsSignedFor, AnAssertion, AResponse, ARequest, AReply, AFirstRequest, ANextRequest, ALastReply}
use Rattle.request_rows.specs.declared.row.NewSession.{NewSession}
use Rattle.request_rows.specs.Rows.{RowsView}
use Rattle.sp_rules.specs.declared.config.SpConfig.{SpConfig}
use Rattle.sp_rules.specs.declared.accepted.Accepted.{Accepted}
use Rattle.sp_rules.specs.Keys.{Key, usable}
use Rattle.sp_rules.specs.Meant.{consumer, is_before_with, is_destination, is_for, is_from, is_from_with, is_if_any, is_in_time, is_meant, is_sent_to, names_provider}
use Rattle.sp_rules.specs.Shown.{IsOpening, session_of}
use Rattle.login_origin.specs.Signed.{Signed}
use Rattle.login_origin.specs.Origin.{IsSignedAssertion, IsLoginOf, IsSessionOf}
use Rattle.login_origin.proofs.Lists.{contained}
use Rattle.recorded_logins.specs.Recorded.{Added, IsOf, AreOf}
use Rattle.recorded_logins.specs.Logins.{read_of, IsRecordedLogin, IsRecordedSession}
use Rattle.recorded_logins.proofs.Inside.{PutInside, inside_made, login_alone, login_inside}
use Rattle.recorded_logins.proofs.Reading.{read_back}
use Rattle.recorded_logins.proofs.Shapes.{IsAssertion, made_assertion, signed_assertion_is}
use Rattle.recorded_logins.proofs.Signing.{document, document_is}

-- the login is read of an Assertion of this record, which is an issued one
record IsSaidBy (setup : IdpConfig) (r : IdpRecord) (l : Login) : Type 0 where
  issued : Issued
  is : r ≡ kinds.Issued issued
  assertion : Made
  made : IsAssertionOf (login_of setup.entity issued) assertion
  read : login (content (tree_of assertion) 0 None) ≡ Some l

-- ---- names

assertion_named : (held : Made) → IsAssertion held → name_of_node (tree_of held) 0 ≡ saml (codes "Assertion")
assertion_named held a = ap (λ (h : Made). name_of_node (tree_of h) 0) a.is

differs : (n m : ExpandedName) (local : List ℕ) → n ≡ m → bytes_eq n.local local ≡ true →
    bytes_eq m.local local ≡ false → ⊥
differs n m local same one other =
    let clash : true ≡ false = sym one ∙ ap (λ (x : ExpandedName). bytes_eq x.local local) same ∙ other in cc

-- ---- what each of them says

-- what the elements that are signed with this key say is of the record
abbrev Says : IdpConfig → IdpRecord → List ℕ → Made → Type 0
Says setup r key made =
    (parts : Parts) (p : ℕ) (l : Login) → IsMade (signed key made) →
    IsSignedAssertion (document (signed key made) parts) p →
    login_at (tree_of (signed key made)) p ≡ Some l → IsSaidBy setup r l

-- a message is no Assertion
message_says_none : (local : List ℕ) (attributes : List Attribute) (kids : MadeNodes) (l : Login) →
    login_at (tree_of (message local attributes kids)) 0 ≡ Some l → ⊥
message_says_none local attributes kids l e =
    let none : login_at (tree_of (message local attributes kids)) 0 ≡ None =
    login_is (tree_of (message local attributes kids)) 0 refl in
    let clash : None ≡ Some l = sym none ∙ e in cc

assertion_says : (setup : IdpConfig) (issued : Issued) (key : List ℕ) (made : Made) →
    IsAssertionOf (login_of setup.entity issued) made →
    Says setup (kinds.Issued issued) key made
assertion_says setup issued key made of parts p l is (inl same) e = record {
  issued = issued;
  is = refl;
  assertion = made;
  made = of;
  read =
      sym (login_alone setup.entity issued true key made of is)
      ∙ subst (λ k. login_at (tree_of (signed key made)) k ≡ Some l) same e;
}
assertion_says setup issued key made of parts p l is (inr inside) e =
    let named =
    assertion_named (signed key made)
    (signed_assertion_is true key made (made_assertion (login_of setup.entity issued) made of)) in
    absurd (differs _ _ (codes "Assertion") (sym named ∙ inside.response) refl refl)

-- the Response with this Assertion of the record, issued at a moment with this text
abbrev pub response_with : IdpConfig → Issued → (key at : List ℕ) → Made → Made
response_with setup issued key at made =
    response issued.message setup.entity issued.consumer issued.request (Some (signed_assertion setup.mode key made)) at

response_says : PutInside → (setup : IdpConfig) (issued : Issued) (key at : List ℕ) (made : Made) →
    IsAssertionOf (login_of setup.entity issued) made →
    Says setup (kinds.Issued issued) key (response_with setup issued key at made)
response_says law setup issued key at made of parts p l is (inl same) e =
    let sent = signed key (response_with setup issued key at made) in
    absurd (message_says_none (codes "Response") sent.attributes sent.kids l
    (subst (λ k. login_at (tree_of sent) k ≡ Some l) same e))
response_says law setup issued key at made of parts p l is (inr inside) e =
    let held = signed_assertion setup.mode key made in
    let is_held =
    signed_assertion_is (signs_assertion setup.mode) key made (made_assertion (login_of setup.entity issued) made of) in
    let there =
    login_inside law key issued.message setup.entity issued.consumer issued.request at held is_held is p inside.one in
    let alone =
    login_alone setup.entity issued (signs_assertion setup.mode) key made of
    (inside_made key issued.message setup.entity issued.consumer issued.request at held is) in
    record { issued = issued; is = refl; assertion = made; made = of; read = sym alone ∙ sym there ∙ e }

-- a message of another name says no login
message_says : (setup : IdpConfig) (r : IdpRecord) (key local : List ℕ) (attributes : List Attribute)
    (kids : MadeNodes) → bytes_eq local (codes "Response") ≡ false → Says setup r key (message local attributes kids)
message_says setup r key local attributes kids other parts p l is (inl same) e =
    let sent = signed key (message local attributes kids) in
    absurd (message_says_none local attributes sent.kids l (subst (λ k. login_at (tree_of sent) k ≡ Some l) same e))
message_says setup r key local attributes kids other parts p l is (inr inside) e =
    absurd (differs _ _ (codes "Response") (sym inside.response) refl other)

request_says : (setup : IdpConfig) (r : IdpRecord) (key id issuer address name : List ℕ) (indexes : List (List ℕ))
    (at end : List ℕ) → Says setup r key (logout_request id issuer address name indexes at end)
request_says setup r key id issuer address name indexes at end =
    let made = logout_request id issuer address name indexes at end in
    message_says setup r key (codes "LogoutRequest") made.attributes made.kids refl

reply_says : (setup : IdpConfig) (r : IdpRecord) (key id issuer address request at : List ℕ) (partial : Bool) →
    Says setup r key (logged_out id issuer address request (if partial then failed partial_logout else succeeded) at)
reply_says setup r key id issuer address request at partial =
    let made = logged_out id issuer address request (if partial then failed partial_logout else succeeded) at in
    message_says setup r key (codes "LogoutResponse") made.attributes made.kids refl

each_says : PutInside → (setup : IdpConfig) (held : Held) (r : IdpRecord) (key : List ℕ) (made : Made) →
    IsSignedFor setup held r key made → Says setup r key made
each_says law setup held r key made (AnAssertion issued peer assertion known signs of) =
    assertion_says setup issued peer.key_out assertion of
each_says law setup held r key made (AResponse issued peer assertion sent known signs of at) =
    subst (Says setup (kinds.Issued issued) peer.key_out) (sym at.is)
    (response_says law setup issued peer.key_out at.instant assertion of)
each_says law setup held r key made (ARequest left peer row address request known given live from) =
    subst (Says setup (kinds.Left left) peer.key_out) (sym from.is)
    (request_says setup (kinds.Left left) peer.key_out left.request setup.entity address row.user (row.index ∷ [])
    from.instant from.until)
each_says law setup held r key made (AReply ended peer address sent known given at) =
    subst (Says setup (kinds.Ended ended) peer.key_out) (sym at.is)
    (reply_says setup (kinds.Ended ended) peer.key_out ended.message setup.entity address ended.request at.instant
    ended.partial)
each_says law setup held r key made (AFirstRequest begun turn peer address request first known given from) =
    subst (Says setup (kinds.Round begun) peer.key_out) (sym from.is)
    (request_says setup (kinds.Round begun) peer.key_out begun.request setup.entity address turn.name turn.indexes
    from.instant from.until)
each_says law setup held r key made (ANextRequest told row place turn id peer address request waits next there named known given from) =
    subst (Says setup (kinds.Told told) peer.key_out) (sym from.is)
    (request_says setup (kinds.Told told) peer.key_out id setup.entity address turn.name turn.indexes
    from.instant from.until)
each_says law setup held r key made (ALastReply told row partial asker peer address sent waits next asked known given at) =
    subst (Says setup (kinds.Told told) peer.key_out) (sym at.is)
    (reply_says setup (kinds.Told told) peer.key_out row.message setup.entity address asker.request at.instant
    partial)

-- ---- the login

-- what a known record says was recorded
recorded_by : (setup : IdpConfig) (added : List Added) (one : Added) (l : Login) → Contains added one →
    IsSaidBy setup one.r l → IsRecordedLogin setup added l
recorded_by setup added one l known said = record {
  held = one.held;
  r = said.issued;
  known = subst (λ (r : IdpRecord). Contains added (record { held = one.held; r = r })) said.is known;
  assertion = said.assertion;
  made = said.made;
  read = said.read;
}

pub login_was_recorded : PutInside → (setup : IdpConfig) (added : List Added) (issued : List Signed) (l : Login) →
    AreOf setup added issued → IsLoginOf issued l → IsRecordedLogin setup added l
login_was_recorded law setup added issued l are origin =
    let one : IsOf setup added origin.s = contained (IsOf setup added) issued origin.s are origin.known in
    let o = one.signed in
    let parts = origin.s.parts in
    let itself : origin.s ≡ document (signed o.key o.made) parts =
    document_is one.element origin.s one.made one.document ∙ ap (λ (e : Made). document e parts) o.is in
    recorded_by setup added one.one l one.known
    (each_says law setup one.one.held one.one.r o.key o.made o.stands parts origin.p l (subst IsMade o.is one.made)
    (subst (λ (s : Signed). IsSignedAssertion s origin.p) itself origin.assertion)
    (subst (λ (s : Signed). login_at s.tree origin.p ≡ Some l) itself origin.read))

-- ---- the session

-- a login of an issued record that is meant for a provider
record IsMeantSo (config : SpConfig) (now : ℕ) (issuer : List ℕ) (r : Issued) : Type 0 where
  issuer_is : trimmed issuer ≡ config.idp.entity
  audience : trimmed r.peer ≡ config.entity
  address : r.consumer ≡ consumer config
  begun : r.moment ≤ now + config.skew
  accepted : now < r.until + config.skew
  lives : now < r.session_end

either : (b : Bool) → (b || false) ≡ true → b ≡ true
either true h = refl
either false h = h

meant_so : (config : SpConfig) (now : ℕ) (head : ResponseHead) (issuer : List ℕ) (r : Issued) →
    IsTrue (is_meant config now head (read_of issuer r)) → IsMeantSo config now issuer r
meant_so config now head issuer r h =
    let l = read_of issuer r in
    let from = is_from config head l in
    let sent = is_sent_to (consumer config) head l in
    let timely = both_true (from && is_for config l && sent) (is_in_time config now l) h in
    let addressed = both_true (from && is_for config l) sent timely.0 in
    let first = both_true from (is_for config l) addressed.0 in
    let restricted = both_true true (list_all (names_provider config) l.audiences) first.1 in
    let named = both_true (names_provider config (trimmed r.peer ∷ [])) true restricted.1 in
    let begun = is_from_with config.skew now (Some r.moment) in
    let valid = is_before_with config.skew now (Some r.until) in
    let lives = both_true (begun && valid && valid) (is_before_with 0 now (Some r.session_end)) timely.1 in
    let confirmed = both_true (begun && valid) valid lives.0 in
    let last : now < r.session_end + 0 = ltb-true now (r.session_end + 0) lives.1 in
    record {
      issuer_is =
          (bytes_eq-Decides (trimmed issuer) config.idp.entity).0
          (both_true (bytes_eq (trimmed issuer) config.idp.entity) (is_if_any config.idp.entity head.issuer) first.0).0;
      audience =
          (bytes_eq-Decides (trimmed r.peer) config.entity).0
          (either (bytes_eq (trimmed r.peer) config.entity) named.0);
      address =
          (bytes_eq-Decides r.consumer (consumer config)).0
          (both_true (bytes_eq r.consumer (consumer config))
          (is_destination (consumer config) head.has_signature head.destination) addressed.1).0;
      begun = leb-true r.moment (now + config.skew) (both_true begun valid confirmed.0).0;
      accepted = ltb-true now (r.until + config.skew) confirmed.1;
      lives = omega (arith, last);
    }

pub session_of_record : (setup : IdpConfig) (added : List Added) (config : SpConfig) (now : ℕ) (head : ResponseHead)
    (key : Key) (l : Login) → IsRecordedLogin setup added l → IsTrue (is_meant config now head l) →
    Contains (usable config now) key → IsRecordedSession setup added config now (session_of config now key.number l)
session_of_record setup added config now head key l recorded meant counts =
    let r = recorded.r in
    let read = read_back setup.entity r recorded.assertion l recorded.made recorded.read in
    let so =
    meant_so config now head setup.entity r (subst (λ (x : Login). IsTrue (is_meant config now head x)) read.0 meant) in
    record {
      held = recorded.held;
      r = r;
      known = recorded.known;
      issuer = so.issuer_is;
      audience = so.audience;
      address = so.address;
      begun = so.begun;
      accepted = so.accepted;
      lives = so.lives;
      key = key;
      counts = counts;
      is = ap (session_of config now key.number) read.0;
    }

-- what is opened is the session of the login that was brought, of a key that counts
pub session_was_recorded : PutInside → (setup : IdpConfig) (added : List Added) (issued : List Signed)
    (config : SpConfig) (rows : RowsView) (horizon now : ℕ) (body : List ℕ) (accepted : Accepted) →
    AreOf setup added issued → (opening : IsOpening config rows horizon now body accepted) →
    IsLoginOf issued opening.brought.login → IsSessionOf issued config now accepted.session →
    IsRecordedSession setup added config now accepted.session
session_was_recorded law setup added issued config rows horizon now body accepted are opening origin of =
    let b = opening.brought in
    let recorded = login_was_recorded law setup added issued b.login are origin in
    let number : of.key.number ≡ b.key.number =
    ap (λ (s : NewSession). s.key) (sym of.is ∙ opening.is.session) in
    subst (IsRecordedSession setup added config now)
    (ap (λ n. session_of config now n b.login) number ∙ sym opening.is.session)
    (session_of_record setup added config now b.carried.head of.key b.login recorded opening.opens.meant of.counts)
