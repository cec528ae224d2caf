-- What was signed for a record, as a document.
use Rattle.std.proofs.Common.{◌≡◌, ℕ, List, [], ◌∷◌, Some, refl, sym, ap, ◌∙◌, subst}
use Rattle.std.specs.Prelude.{Contains}
use Rattle.std.specs.List.{AllByRecursion}
use Rattle.sha2.specs.Sha256.{sha256}
use Rattle.xml_spec.specs.Document.{Spells}
use Rattle.xml_spec.specs.Canonical.{canonical}
use Rattle.xml_spec.proofs.Documents.{one_tree}
use Rattle.element_make.specs.Made.{Made, IsMade, tree_of, written}
use Rattle.element_make.proofs.Named.{has_names}
use Rattle.sig_reference.specs.Form.{Parts, HasForm}
use Rattle.sig_reference.proofs.OneSignature.{one_signature}
use Rattle.ledger_records.specs.declared.idp_record.IdpRecord.{IdpRecord}
use Rattle.idp_ledger.specs.Ledger.{Held}
use Rattle.idp_rules.specs.declared.config.IdpConfig.{IdpConfig}
use Rattle.idp_answers.specs.Answers.{signed_assertion, signs_assertion}
use Rattle.idp_server.specs.Logins.{login_of}
use Rattle.idp_server.specs.Signed.{IsSignedFor, AnAssertion, AResponse, ARequest, AReply, AFirstRequest, ANextRequest, ALastReply, IsSignedOf}
use Rattle.login_origin.specs.Signed.{Signed, IsSigned}
use Rattle.recorded_logins.specs.Documents.{IsDocumentOf, AreDocumentsOf}
use Rattle.recorded_logins.specs.Recorded.{Added, IsOf, AreOf}
use Rattle.recorded_logins.proofs.Alone.{IsSignable, IsSignedAlone, spelled, signed_alone}
use Rattle.recorded_logins.proofs.Lists.{contains_first}
use Rattle.recorded_logins.proofs.Shapes.{assertion_signable, made_assertion, signed_assertion_is, response_signable, request_signable, reply_signable}

-- ---- what is signed for a record

signable : (setup : IdpConfig) (held : Held) (r : IdpRecord) (key : List ℕ) (made : Made) →
    IsSignedFor setup held r key made → IsSignable made
signable setup held r key made (AnAssertion issued peer assertion known signs of) =
    assertion_signable setup.entity issued assertion of
signable setup held r key made (AResponse issued peer assertion response known signs of at) =
    subst IsSignable (sym at.is)
    (response_signable issued.message setup.entity issued.consumer issued.request at.instant
    (signed_assertion setup.mode peer.key_out assertion)
    (signed_assertion_is (signs_assertion setup.mode) peer.key_out assertion
    (made_assertion (login_of setup.entity issued) assertion of)))
signable setup held r key made (ARequest left peer row address request known given live from) =
    subst IsSignable (sym from.is)
    (request_signable left.request setup.entity address row.user (row.index ∷ []) from.instant from.until)
signable setup held r key made (AReply ended peer address response known given at) =
    subst IsSignable (sym at.is)
    (reply_signable ended.message setup.entity address ended.request at.instant ended.partial)
signable setup held r key made (AFirstRequest begun turn peer address request first known given from) =
    subst IsSignable (sym from.is)
    (request_signable begun.request setup.entity address turn.name turn.indexes from.instant from.until)
signable setup held r key made (ANextRequest told row place turn id peer address request waits next there named known given from) =
    subst IsSignable (sym from.is)
    (request_signable id setup.entity address turn.name turn.indexes from.instant from.until)
signable setup held r key made (ALastReply told row partial asker peer address response waits next asked known given at) =
    subst IsSignable (sym at.is)
    (reply_signable row.message setup.entity address asker.request at.instant partial)

-- the Signature of such an element, in its own tree
record IsSignedSo (element : Made) : Type 0 where
  parts : Parts
  form : HasForm (tree_of element) 0 parts
  digest : parts.digest ≡ sha256 (canonical (tree_of element) 0 (Some parts.signature) parts.element_prefixes)

signed_so : (setup : IdpConfig) (held : Held) (r : IdpRecord) (element : Made) → IsSignedOf setup held r element →
    IsSignedSo element
signed_so setup held r element o =
    let alone : IsSignedAlone o.key o.made = signed_alone o.key o.made (signable setup held r o.key o.made o.stands) in
    subst IsSignedSo (sym o.is) (record { parts = alone.parts; form = alone.form; digest = alone.digest })

-- ---- its document

abbrev pub document : Made → Parts → Signed
document element parts = record { bytes = written element; tree = tree_of element; element = 0; parts = parts }

-- a document of an element is this one
pub document_is : (element : Made) (s : Signed) → IsMade element → IsDocumentOf element s → s ≡ document element s.parts
document_is element s made d =
    let tree =
    one_tree (written element) s.tree (tree_of element)
    (subst (λ bytes. Spells bytes s.tree) d.bytes d.spelled) (spelled element made) in
    λ i. record { bytes = d.bytes i; tree = tree i; element = d.root i; parts = s.parts }

pub has_document : (setup : IdpConfig) (held : Held) (r : IdpRecord) (element : Made) →
    IsSignedOf setup held r element → IsMade element →
    (s : Signed) × IsDocumentOf element s
has_document setup held r element o made =
    let so = signed_so setup held r element o in
    (document element so.parts, record { bytes = refl; spelled = spelled element made; root = refl; form = so.form })

pub one_document : (element : Made) (s t : Signed) →
    IsMade element → IsDocumentOf element s → IsDocumentOf element t → s ≡ t
one_document element s t made d e =
    let one = document_is element s made d in
    let other = document_is element t made e in
    let parts =
    one_signature (tree_of element) 0 s.parts t.parts
    (subst (λ (x : Signed). HasForm x.tree x.element s.parts) one d.form)
    (subst (λ (x : Signed). HasForm x.tree x.element t.parts) other e.form) in
    one ∙ ap (document element) parts ∙ sym other

pub was_signed : (setup : IdpConfig) (held : Held) (r : IdpRecord) (element : Made) (s : Signed) →
    IsSignedOf setup held r element → IsMade element →
    IsDocumentOf element s → IsSigned s
was_signed setup held r element s o made d =
    let so = signed_so setup held r element o in
    let itself : IsDocumentOf element (document element so.parts) =
    record { bytes = refl; spelled = spelled element made; root = refl; form = so.form } in
    subst IsSigned (one_document element (document element so.parts) s made itself d)
    (record { spelled = spelled element made; named = has_names element made; form = so.form; digest = so.digest })

-- ---- lists

pub all_signed : (setup : IdpConfig) (added : List Added) (issued : List Signed) → AreOf setup added issued →
    AllByRecursion IsSigned issued
all_signed setup added [] are = tt
all_signed setup added (s ∷ issued) are =
    let one = are.0 in (
      was_signed setup one.one.held one.one.r one.element s one.signed one.made one.document,
      all_signed setup added issued are.1,
    )

pub one_more : (setup : IdpConfig) (added : List Added) (issued : List Signed) (one : Added) (element : Made) →
    AreOf setup added issued → Contains added one → IsSignedOf setup one.held one.r element → IsMade element →
    (s : Signed) × IsDocumentOf element s × AreOf setup added (s ∷ issued)
one_more setup added issued one element are known o made =
    let d = has_document setup one.held one.r element o made in (
      d.0,
      d.1,
      (record { one = one; known = known; element = element; signed = o; made = made; document = d.1 }, are),
    )

pub listed : (setup : IdpConfig) (held : Held) (r : IdpRecord) (elements : List Made) →
    AllByRecursion (IsSignedOf setup held r) elements →
    AllByRecursion IsMade elements →
    (issued : List Signed) × AreDocumentsOf elements issued × AreOf setup (record { held = held; r = r } ∷ []) issued
listed setup held r [] are made = ([], tt, tt)
listed setup held r (element ∷ elements) are made =
    let d = has_document setup held r element are.0 made.0 in
    let others = listed setup held r elements are.1 made.1 in
    let own : Added = record { held = held; r = r } in
    let one : IsOf setup (own ∷ []) d.0 =
    record {
      one = own;
      known = contains_first own [];
      element = element;
      signed = are.0;
      made = made.0;
      document = d.1;
    } in
    (d.0 ∷ others.0, (d.1, others.1), (one, others.2))
