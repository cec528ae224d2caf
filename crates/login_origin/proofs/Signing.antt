-- What a form brings is what was signed.
use Rattle.std.proofs.Common.{◌≡◌, ℕ, ◌⊎◌, ◌&&◌, Bool, true, false, cond, List, [], ◌∷◌, None, Some, refl, sym, ap, ◌∙◌, subst, inl, inr}
use Rattle.std.specs.Prelude.{Contains}
use Rattle.std.specs.List.{AllByRecursion}
use Rattle.xml_spec.specs.Tree.{Nodes}
use Rattle.xml_spec.specs.Numbering.{from_node}
use Rattle.xml_spec.specs.Names.{HasNames}
use Rattle.xml_spec.specs.Document.{Spells}
use Rattle.xml_spec.specs.Canonical.{canonical}
use Rattle.xml_spec.specs.Content.{content}
use Rattle.xml_spec.proofs.Tests.{both_true}
use Rattle.canon_laws.proofs.Equal.{equal_forms}
use Rattle.saml_tree.specs.Elements.{IsElement}
use Rattle.sig_reference.specs.Form.{Parts, HasForm}
use Rattle.sig_reference.specs.Signature.{IsTagged, is_tagged}
use Rattle.sig_reference.proofs.Tagging.{test_tagged}
use Rattle.assertion_model.proofs.ValueLemmas.{element_begins}
use Rattle.request_rows.specs.declared.row.AskedRow.{AskedRow}
use Rattle.request_rows.specs.Rows.{RowsView}
use Rattle.sp_rules.specs.declared.accepted.Accepted.{Accepted}
use Rattle.sp_rules.specs.declared.config.SpConfig.{SpConfig}
use Rattle.sp_rules.specs.Keys.{Key, usable}
use Rattle.sp_rules.specs.Covering.{tagging}
use Rattle.sp_rules.specs.Meant.{consumer, is_from, is_for, is_sent_to, is_in_time}
use Rattle.sp_rules.specs.Opening.{Brought, Brings}
use Rattle.sp_rules.specs.Outstanding.{asked_for}
use Rattle.sp_rules.specs.Shown.{session_of, IsOpening}
use Rattle.sp_rules.proofs.Covers.{first_is}
use Rattle.login_origin.specs.Signed.{Signed, IsSigned, info_text}
use Rattle.login_origin.specs.Premises.{IsPosted, Unforged, NoCollision}
use Rattle.login_origin.specs.Origin.{IsLoginOf, IsSessionOf, covered_text}
use Rattle.login_origin.proofs.Digests as digests
use Rattle.login_origin.proofs.Lists.{contained, contains_first, contains_behind}
use Rattle.login_origin.proofs.Sayings.{said, said_at, assertion_says, response_says, found}
use Rattle.login_origin.proofs.Shown.{parent_is_element, own_of_form, form_is_element, signature_behind, same_part}

-- ELEMENTS WITH EQUAL TEXTS

-- an element with a Signature in a document
record Formed (s : Signed) : Type 0 where
  spelled : Spells s.bytes s.tree
  named : HasNames s.tree
  form : HasForm s.tree s.element s.parts

signed_is_formed : (s : Signed) → IsSigned s → Formed s
signed_is_formed s is = record { spelled = is.spelled; named = is.named; form = is.form }

-- equal texts without the Signatures say one login
same_login : (s t : Signed) (listed wanted : List (List ℕ)) → Formed s → Formed t →
    canonical s.tree s.element (Some s.parts.signature) listed ≡ canonical t.tree t.element (Some t.parts.signature) wanted →
    said_at s.tree s.element ≡ said_at t.tree t.element
same_login s t listed wanted f g same =
    let contents =
    equal_forms s.bytes t.bytes s.tree t.tree s.element t.element (Some s.parts.signature) (Some t.parts.signature) listed wanted
    f.spelled f.named g.spelled g.named
    (element_begins (from_node s.tree s.element) (form_is_element s.tree s.element s.parts f.form))
    (element_begins (from_node t.tree t.element) (form_is_element t.tree t.element t.parts g.form))
    (signature_behind s.tree s.element s.parts f.form) (signature_behind t.tree t.element t.parts g.form) same
    in
    ap (λ own. said (content s.tree s.element own)) (own_of_form s.tree s.element s.parts f.form) ∙ ap said contents
    ∙ ap (λ own. said (content t.tree t.element own)) (sym (own_of_form t.tree t.element t.parts g.form))

-- equal texts of the SignedInfos say one digest
same_digest : (s t : Signed) → Formed s → Formed t → info_text s ≡ info_text t → s.parts.digest ≡ t.parts.digest
same_digest s t f g same =
    let one = parent_is_element s.tree s.parts.signed_info _ _ f.form.signature.info.children in
    let other = parent_is_element t.tree t.parts.signed_info _ _ g.form.signature.info.children in
    let contents =
    equal_forms s.bytes t.bytes s.tree t.tree s.parts.signed_info t.parts.signed_info None None s.parts.info_prefixes t.parts.info_prefixes
    f.spelled f.named g.spelled g.named (element_begins (from_node s.tree s.parts.signed_info) one)
    (element_begins (from_node t.tree t.parts.signed_info) other) tt tt same
    in
    digests.same_digest s.tree t.tree s.parts t.parts f.form.signature.info g.form.signature.info
    (same_part s.tree t.tree s.parts.signed_info t.parts.signed_info one other contents)

-- WHAT A FORM BRINGS

-- the key that makes a tag is one of the keys
tagged : (keys : List Key) (tree : Nodes) (parts : Parts) (key : Key) → tagging keys tree parts ≡ Some key →
    Contains keys key × IsTagged key.bytes tree parts
tagged [] tree parts key e = absurd (let clash : None ≡ Some key = e in cc)
tagged (k ∷ keys) tree parts key e =
    which (is_tagged k.bytes tree parts) refl e (tagged keys tree parts key)
  where
    which : (b : Bool) → is_tagged k.bytes tree parts ≡ b →
        cond b (Some k) (tagging keys tree parts) ≡ Some key → (tagging keys tree parts ≡ Some key → Contains keys key × IsTagged key.bytes tree parts) →
        Contains (k ∷ keys) key × IsTagged key.bytes tree parts
    which true h e later =
        let same : k ≡ key = cc in
        let made = test_tagged k.bytes tree parts h in
        (subst (Contains (k ∷ keys)) same (contains_first k keys), subst (λ (l : Key). IsTagged l.bytes tree parts) same made)
    which false h e later = let found = later e in (contains_behind k key keys found.0, found.1)

module _ (config : SpConfig) (now : ℕ) (body : List ℕ) (b : Brought) (brings : Brings config now body b) where
  -- the first signed element
  abbrev pub posted : Signed
  posted = record { bytes = b.carried.message; tree = b.carried.tree; element = b.e; parts = brings.covered.first.parts }

  is_posted : IsPosted body posted
  is_posted = record {
    relay = b.carried.relay;
    head = b.carried.head;
    p = b.p;
    carries = brings.carries;
    asserts = brings.asserts;
    signed = subst (λ es. Contains es b.e) (sym brings.covered.signed) (contains_first b.e brings.covered.others);
    form = brings.covered.first.vouches.form;
  }

  is_formed : Formed posted
  is_formed = record {
    spelled = brings.carries.spelled.spells;
    named = brings.carries.spelled.names;
    form = brings.covered.first.vouches.form;
  }

  -- its content says the login
  says : said_at b.carried.tree b.e ≡ Some b.login
  says = which (first_is (usable config now) b.carried.tree b.p b.e b.key brings.covered)
    where
      which : (b.e ≡ 0) ⊎ (b.e ≡ b.p) → said_at b.carried.tree b.e ≡ Some b.login
      which (inr same) =
          subst (λ e. said_at b.carried.tree e ≡ Some b.login) (sym same) (assertion_says b.carried.tree b.p b.login brings.read)
      which (inl same) =
          let element = subst (IsElement b.carried.tree) same (form_is_element b.carried.tree b.e brings.covered.first.parts brings.covered.first.vouches.form) in
          subst (λ e. said_at b.carried.tree e ≡ Some b.login) (sym same)
          (response_says b.carried.tree 0 b.p b.login element brings.carries.response.is.name
          (brings.carries.response.assertions ∙ brings.asserts.one) brings.read)

-- WHO SIGNED IT

pub login_was_signed : (issued : List Signed) (config : SpConfig) (now : ℕ) (body : List ℕ) (b : Brought) → AllByRecursion IsSigned issued →
    Unforged issued config now body → NoCollision issued body → Brings config now body b → IsLoginOf issued b.login
login_was_signed issued config now body b all unforged apart brings =
    let first = brings.covered.first in
    let post = posted config now body b brings in
    let here = is_posted config now body b brings in
    let key = tagged (usable config now) b.carried.tree first.parts b.key first.tagged in
    let made = unforged post b.key here key.0 key.1.tag in
    let s = made.0 in
    let is = contained IsSigned issued s all made.1 in
    let digest = same_digest s post (signed_is_formed s is) (is_formed config now body b brings) made.2 in
    let texts = apart post s here made.1 (sym first.vouches.digest.digest ∙ sym digest ∙ is.digest) in
    let same =
    same_login s post s.parts.element_prefixes first.parts.element_prefixes (signed_is_formed s is) (is_formed config now body b brings) (sym texts)
    in
    let place = found s b.login (form_is_element s.tree s.element s.parts is.form) (same ∙ says config now body b brings) in
    record { s = s; known = made.1; p = place.p; assertion = place.assertion; read = place.read }

pub session_was_signed : (issued : List Signed) (config : SpConfig) (rows : RowsView) (horizon now : ℕ) (body : List ℕ) (accepted : Accepted) →
    AllByRecursion IsSigned issued → Unforged issued config now body → NoCollision issued body → IsOpening config rows horizon now body accepted →
    IsSessionOf issued config now accepted.session
session_was_signed issued config rows horizon now body accepted all unforged apart opening =
    let b = opening.brought in
    let first = opening.opens.brings.covered.first in
    let head = b.carried.head in
    let sent = is_sent_to (consumer config) head b.login in
    let meant = both_true (is_from config head b.login && is_for config b.login && sent) (is_in_time config now b.login) opening.opens.meant in
    let addressed = both_true (is_from config head b.login && is_for config b.login) sent meant.0 in
    record {
      login = b.login;
      key = b.key;
      origin = login_was_signed issued config now body b all unforged apart opening.opens.brings;
      audience = (both_true (is_from config head b.login) (is_for config b.login) addressed.0).1;
      counts = (tagged (usable config now) b.carried.tree first.parts b.key first.tagged).0;
      is = opening.is.session;
    }

-- TWO FORMS

module _ (config : SpConfig) (rows : RowsView) (horizon now : ℕ) (body other : List ℕ) (listed wanted : List (List ℕ)) (one two : Accepted)
    (o : IsOpening config rows horizon now body one) (t : IsOpening config rows horizon now other two)
    (same : covered_text o.brought listed ≡ covered_text t.brought wanted) where
  logins : o.brought.login ≡ t.brought.login
  logins =
      let p = posted config now body o.brought o.opens.brings in
      let q = posted config now other t.brought t.opens.brings in
      let f = is_formed config now body o.brought o.opens.brings in
      let g = is_formed config now other t.brought t.opens.brings in
      let texts =
      ap (λ own. canonical p.tree p.element own listed) (sym (own_of_form p.tree p.element p.parts f.form)) ∙ same
      ∙ ap (λ own. canonical q.tree q.element own wanted) (own_of_form q.tree q.element q.parts g.form)
      in
      let both : Some o.brought.login ≡ Some t.brought.login =
      sym (says config now body o.brought o.opens.brings) ∙ same_login p q listed wanted f g texts ∙ says config now other t.brought t.opens.brings
      in
      cc

  pub targets_are_equal : one.target ≡ two.target
  targets_are_equal =
      let rows_asked : Some o.asked ≡ Some t.asked =
      sym o.opens.request ∙ ap (asked_for rows horizon now) logins ∙ t.opens.request
      in
      let asked : o.asked ≡ t.asked = cc in
      o.is.target ∙ ap (λ (a : AskedRow). a.target) asked ∙ sym t.is.target

  pub sessions_are_equal : one.session ≡ record two.session { key = one.session.key }
  sessions_are_equal =
      o.is.session ∙ ap (session_of config now o.brought.key.number) logins
      ∙ sym (λ i. record (t.is.session i) { key = (o.is.session i).key })
