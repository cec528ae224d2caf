-- A form opens a session or is refused: it can't be that neither holds.
use Rattle.std.proofs.Common.{◌≡◌, ℕ, Bool, true, false, cond, List, [], ◌∷◌, Option, None, Some, Result, Ok, Err, inl, inr, refl, sym, ◌∙◌, ap, subst}
use Rattle.xml_spec.specs.Tree.{Nodes}
use Rattle.xml_spec.specs.Identifiers.{IsSingle}
use Rattle.saml_tree.specs.Documents.{IsSpelled}
use Rattle.post_binding.specs.Form.{form}
use Rattle.post_binding.specs.declared.fault.FormFault.{FormFault}
use Rattle.post_binding.specs.declared.posted.Field.{Field}
use Rattle.post_binding.specs.declared.posted.Field.TheVariants.{Request, Response}
use Rattle.post_binding.specs.declared.posted.Posted.{Posted}
use Rattle.protocol_messages.specs.declared.response.ResponseHead.{ResponseHead}
use Rattle.sig_reference.specs.declared.fault.SigFault.{SigFault}
use Rattle.sig_reference.specs.declared.fault.SigFault.TheVariants as sigs
use Rattle.assertion_model.specs.declared.login.Login.{Login}
use Rattle.assertion_model.specs.Parts.{login_at}
use Rattle.request_rows.specs.declared.row.AskedRow.{AskedRow}
use Rattle.request_rows.specs.Rows.{RowsView}
use Rattle.verdict_codes.specs.declared.codes.Verdict.{Verdict}
use Rattle.verdict_codes.specs.declared.codes.Verdict.TheVariants as verdicts
use Rattle.fault_verdicts.specs.Verdicts.{of_signature}
use Rattle.fault_verdicts.proofs.Settled.{IsJudgement, form_judged, document_settled, signature_settled}
use Rattle.sp_rules.specs.declared.config.SpConfig.{SpConfig}
use Rattle.sp_rules.specs.Keys.{Key, usable}
use Rattle.sp_rules.specs.Covering.{signed_of, IsVerified, IsUnverified, AreVerified, IsCovered, IsFirstUnverified, IsUncovered}
use Rattle.sp_rules.specs.Outstanding.{asked_for, is_outstanding}
use Rattle.sp_rules.specs.Opening.{Carried, Carries, Asserts, Brought, Brings, Opens}
use Rattle.sp_rules.specs.Verdict.{form_refusal, number_refusal, head_refusal, login_refusal, IsRefused, by_form, by_document, by_root, by_head, by_signature, by_assertion, by_login}
use Rattle.sp_rules.proofs.Openings.{opens, outstanding_held}
use Rattle.sp_rules.proofs.Verifying.{tagged_is, unvouched_is, verified_front, unverified_front, verified_behind, unverified_behind}

-- SIGNATURES

-- an element is not verified, and fails for no reason
record IsOpen (keys : List Key) (tree : Nodes) (e : ℕ) : Type 0 where
  unverified : (key : Key) → ¬ (IsVerified keys tree e key)
  unrefused : (fault : SigFault) (verdict : Verdict) → IsUnverified keys tree e fault → ¬ (of_signature fault ≡ Some verdict)

-- then it is so under the keys behind the first, where that does not make the tag
open_behind : (k : Key) (others : List Key) (tree : Nodes) (e : ℕ) → IsOpen (k ∷ others) tree e → IsUnverified (k ∷ []) tree e sigs.TagDiffers →
    IsOpen others tree e
open_behind k others tree e o u = record {
  unverified = λ key v. o.unverified key (verified_behind k others tree e key u v);
  unrefused = λ fault verdict w told. o.unrefused fault verdict (unverified_behind k others tree e fault u w) told;
}

at_fault : (k : Key) (others : List Key) (tree : Nodes) (e : ℕ) → IsOpen (k ∷ others) tree e → (IsOpen others tree e → ⊥) → (fault : SigFault) (verdict : Verdict) →
    IsUnverified (k ∷ []) tree e fault → ¬ (of_signature fault ≡ Some verdict)
at_fault k others tree e o rest sigs.BadSignatureForm verdict u told =
    o.unrefused sigs.BadSignatureForm verdict (unverified_front k others tree e sigs.BadSignatureForm (λ same. cc) u) told
at_fault k others tree e o rest sigs.BadReference verdict u told =
    o.unrefused sigs.BadReference verdict (unverified_front k others tree e sigs.BadReference (λ same. cc) u) told
at_fault k others tree e o rest sigs.TagDiffers verdict u told = rest (open_behind k others tree e o u)
at_fault k others tree e o rest sigs.DigestDiffers verdict u told =
    o.unrefused sigs.DigestDiffers verdict (unverified_front k others tree e sigs.DigestDiffers (λ same. cc) u) told
at_fault k others tree e o rest sigs.NoMemory verdict u told = cc

not_open : (keys : List Key) (tree : Nodes) (e : ℕ) → IsSingle tree → IsOpen keys tree e → ⊥
not_open [] tree e single o =
    o.unrefused sigs.BadSignatureForm verdicts.BadSignatureForm (λ parts form.
    o.unrefused sigs.BadReference verdicts.BadReference (
      parts,
      form,
      λ reference.
          o.unrefused sigs.TagDiffers verdicts.TagDiffers (parts, form, reference, refl) refl,
    ) refl) refl
not_open (k ∷ others) tree e single o =
    signature_settled k.bytes tree e single
    (λ parts vouches. o.unverified k (verified_front k others tree e k (record { parts = parts; tagged = tagged_is k tree parts vouches.tag; vouches = vouches })))
    (λ fault verdict u told. at_fault k others tree e o (not_open others tree e single) fault verdict (unvouched_is k tree e fault u) told)

-- each of the elements is verified, or one fails for a reason
all_settled : (keys : List Key) (tree : Nodes) → IsSingle tree → (es : List ℕ) → ¬ (AreVerified keys tree es) →
    ¬ ((fault : SigFault) (verdict : Verdict) → IsFirstUnverified keys tree es fault → ¬ (of_signature fault ≡ Some verdict))
all_settled keys tree single [] unverified unrefused = unverified tt
all_settled keys tree single (e ∷ es) unverified unrefused =
    not_open keys tree e single (record {
      unverified = λ key v. all_settled keys tree single es (λ all. unverified ((key, v), all))
          (λ fault verdict u told. unrefused fault verdict (inr ((key, v), u)) told);
      unrefused = λ fault verdict u told. unrefused fault verdict (inl u) told;
    })

-- an assertion is covered, or is not for a reason
cover_settled : (keys : List Key) (tree : Nodes) (p : ℕ) → IsSingle tree → ((e : ℕ) (key : Key) → ¬ (IsCovered keys tree p e key)) →
    ¬ ((fault : SigFault) (verdict : Verdict) → IsUncovered keys tree p fault → ¬ (of_signature fault ≡ Some verdict))
cover_settled keys tree p single uncovered unrefused = by_signed (signed_of tree p) refl
  where
    by_signed : (es : List ℕ) → signed_of tree p ≡ es → ⊥
    by_signed [] is = unrefused sigs.BadSignatureForm verdicts.BadSignatureForm (inl (is, refl)) refl
    by_signed (e ∷ others) is =
        not_open keys tree e single (record {
          unverified = λ key v. all_settled keys tree single others
              (λ rest. uncovered e key (record { others = others; signed = is; first = v; rest = rest }))
              (λ fault verdict u told. unrefused fault verdict (inr (subst (λ es. IsFirstUnverified keys tree es fault) (sym is) (inr ((key, v), u)))) told);
          unrefused = λ fault verdict u told. unrefused fault verdict (inr (subst (λ es. IsFirstUnverified keys tree es fault) (sym is) (inl u))) told;
        })

-- THE FORM

-- a head that is refused for nothing has one Assertion
asserted : (head : ResponseHead) → head_refusal head ≡ None → (p : ℕ) × Asserts head p
asserted head none = by_parts head.success head.assertions refl refl none
  where
    by_parts : (success : Bool) (ps : List ℕ) → head.success ≡ success → head.assertions ≡ ps →
        cond success (number_refusal ps) (Some verdicts.NotSuccess) ≡ None → (p : ℕ) × Asserts head p
    by_parts false ps s are e = absurd (cc)
    by_parts true [] s are e = absurd (cc)
    by_parts true (p ∷ []) s are e = (p, record { success = s; one = are })
    by_parts true (p ∷ q ∷ ps) s are e = absurd (cc)

module _ (config : SpConfig) (rows : RowsView) (horizon now : ℕ) (body : List ℕ) where
  -- it opens no session, and is refused for nothing
  pub record IsUnsettled : Type 0 where
    pub unopened : (b : Brought) (asked : AskedRow) → ¬ (Opens config rows horizon now body b asked)
    pub unrefused : (verdict : Verdict) → ¬ (IsRefused config rows horizon now body verdict)

  at_login : IsUnsettled → (b : Brought) → Brings config now body b → ⊥
  at_login u b brings = by_told (login_refusal config rows horizon now b.carried.head b.carried.relay b.login) refl
    where
      by_row : login_refusal config rows horizon now b.carried.head b.carried.relay b.login ≡ None → (row : Option AskedRow) →
          asked_for rows horizon now b.login ≡ row → ⊥
      by_row none None is =
          let held = outstanding_held config rows horizon now b.carried.head b.carried.relay b.login none in
          let clash : false ≡ true = subst (λ (row : Option AskedRow). is_outstanding row b.carried.head b.login ≡ true) is held in cc
      by_row none (Some asked) is = u.unopened b asked (opens config rows horizon now body b asked brings is none)

      by_told : (told : Option Verdict) → login_refusal config rows horizon now b.carried.head b.carried.relay b.login ≡ told → ⊥
      by_told None e = by_row e (asked_for rows horizon now b.login) refl
      by_told (Some verdict) e = u.unrefused verdict (by_login b brings e)

  at_cover : IsUnsettled → (c : Carried) (p e : ℕ) (key : Key) → Carries body c → Asserts c.head p → IsCovered (usable config now) c.tree p e key → ⊥
  at_cover u c p e key carries asserts covered = by_read (login_at c.tree p) refl
    where
      by_read : (read : Option Login) → login_at c.tree p ≡ read → ⊥
      by_read None is = u.unrefused verdicts.BadAssertion (by_assertion c p e key carries asserts covered is refl)
      by_read (Some login) is =
          at_login u (record { carried = c; p = p; e = e; key = key; login = login })
          (record { carries = carries; asserts = asserts; covered = covered; read = is })

  at_head : IsUnsettled → (c : Carried) → Carries body c → ⊥
  at_head u c carries = by_told (head_refusal c.head) refl
    where
      by_told : (told : Option Verdict) → head_refusal c.head ≡ told → ⊥
      by_told (Some verdict) e = u.unrefused verdict (by_head c carries e)
      by_told None e =
          let one = asserted c.head e in
          cover_settled (usable config now) c.tree one.0 carries.spelled.single (λ e key covered. at_cover u c one.0 e key carries one.1 covered)
          (λ fault verdict uncovered told. u.unrefused verdict (by_signature c one.0 fault carries one.1 uncovered told))

  pub form_settled : IsUnsettled → ⊥
  form_settled u = by_read (form body) refl (form_judged body)
    where
      at_root : (message : List ℕ) (relay : Option (List ℕ)) (tree : Nodes) → form body ≡ Ok (record { field = Response; message = message; relay = relay }) →
          IsSpelled message tree → ⊥
      at_root message relay tree posted spelled =
          u.unrefused verdicts.NotResponse (by_root message relay tree posted spelled
          (λ head response. at_head u (record { message = message; relay = relay; tree = tree; head = head })
          (record { posted = posted; spelled = spelled; response = response })) refl)

      by_field : (posted : Posted) (field : Field) → form body ≡ Ok (record { field = field; message = posted.message; relay = posted.relay }) → ⊥
      by_field posted Request is = u.unrefused verdicts.BadForm (by_form (ap form_refusal is))
      by_field posted Response is =
          document_settled posted.message (λ tree spelled. at_root posted.message posted.relay tree is spelled)
          (λ fault verdict refused told. u.unrefused verdict (by_document posted.message posted.relay fault is refused told))

      by_read : (read : Result Posted FormFault) → form body ≡ read → IsJudgement read → ⊥
      by_read (Err fault) is judged = u.unrefused judged.0 (by_form (ap form_refusal is ∙ judged.1))
      by_read (Ok posted) is judged = by_field posted posted.field is
