-- What a document that was posted opens, or is refused for.
use Rattle.std.proofs.Common.{◌≡◌, ℕ, List, [], ◌∷◌, Option, None, Some, codes, sym, ◌∙◌, ap, subst}
use Rattle.std.specs.Option.{option_map}
use Rattle.saml_names.specs.Names.{saml}
use Rattle.saml_tree.specs.Documents.{DocumentView, IsSpelled}
use Rattle.saml_tree.specs.Documents as documents
use Rattle.saml_tree.specs.declared.node.TreeFault.{TreeFault}
use Rattle.post_binding.specs.Form.{form}
use Rattle.tree_read.specs.Children.{children}
use Rattle.tree_read.specs.Texts.{text_of}
use Rattle.protocol_messages.specs.Messages.{IsResponse}
use Rattle.protocol_messages.specs.declared.response.ResponseHead.{ResponseHead}
use Rattle.sig_reference.specs.declared.fault.SigFault.{SigFault}
use Rattle.assertion_model.specs.Parts.{login_at}
use Rattle.assertion_model.specs.declared.login.Login.{Login}
use Rattle.assertion_model.proofs.SaidLemmas.{name_said}
use Rattle.request_rows.specs.declared.row.AskedRow.{AskedRow}
use Rattle.request_rows.specs.Rows.{RowsView}
use Rattle.verdict_codes.specs.declared.codes.Verdict.{Verdict}
use Rattle.fault_verdicts.specs.Judging.{judged_of, IsJudged}
use Rattle.fault_verdicts.specs.Verdicts.{of_document, of_signature}
use Rattle.fault_verdicts.specs.declared.judged.Judged.{Judged}
use Rattle.sp_rules.specs.declared.accepted.Accepted.{Accepted}
use Rattle.sp_rules.specs.declared.config.SpConfig.{SpConfig}
use Rattle.sp_rules.specs.declared.cover.Cover.{Cover}
use Rattle.sp_rules.specs.Covering.{IsUncovered}
use Rattle.sp_rules.specs.Keys.{Key, usable}
use Rattle.sp_rules.specs.Opening.{Carried, Posts, Carries, Asserts, Brought, Brings, Opens}
use Rattle.sp_rules.specs.Outstanding.{asked_for}
use Rattle.sp_rules.specs.Shown.{IsAcceptedOf, IsOpening}
use Rattle.sp_rules.specs.Verdict.{form_refusal, head_refusal, login_refusal, IsRefused, by_form, by_document, by_root, by_head, by_signature, by_assertion, by_login}
use Rattle.sp_rules.specs.Views.{IsCoverOf, IsNoResponse, HasNoLogin, HasNoName}
use Rattle.sp_rules.proofs.Openings.{opens}
use Rattle.sp_rules.proofs.Refusals.{judged_right, judged_more}

-- the Assertion that is covered is the one of the Response
pub child_of_cover : (keys : List Key) (document : DocumentView) (k p : ℕ) (head : ResponseHead) (cover : Cover) → k ≡ 0 →
    IsResponse document.tree k head → Asserts head p → IsCoverOf keys document p cover →
    children cover.assertion.document.tree 0 (saml (codes "Assertion")) ≡ cover.assertion.node ∷ []
child_of_cover keys document k p head cover root response asserts covers =
    let one : children document.tree 0 (saml (codes "Assertion")) ≡ p ∷ [] =
    ap (λ (n : ℕ). children document.tree n (saml (codes "Assertion"))) (sym root) ∙ (response.assertions ∙ asserts.one) in
    subst (λ (at : DocumentView × ℕ). children at.0.tree 0 (saml (codes "Assertion")) ≡ at.1 ∷ []) (λ i. (sym covers.place i, sym covers.node i)) one

module _ (config : SpConfig) (rows : RowsView) (horizon now : ℕ) (body : List ℕ) where
  abbrev pub IsRight : Verdict → Type 0
  IsRight = IsRefused config rows horizon now body

  -- a form that is not read, or in which no Response stands
  pub not_posted : (judged : Judged) → IsJudged (λ verdict. form_refusal (form body) ≡ Some verdict) judged → IsJudged IsRight judged
  not_posted judged h = judged_more (λ verdict. form_refusal (form body) ≡ Some verdict) IsRight judged (λ verdict e. by_form e) h

  -- a message that is no document
  pub not_spelled : (message : List ℕ) (relay : Option (List ℕ)) (fault : TreeFault) → Posts body message relay → documents.IsRefused message fault →
      IsJudged IsRight (judged_of (of_document fault))
  not_spelled message relay fault posted refused =
      judged_right IsRight (of_document fault) (λ verdict e. by_document message relay fault posted refused e)

  module _ (document : DocumentView) (relay : Option (List ℕ)) (posted : Posts body document.text relay) (spelled : IsSpelled document.text document.tree) where
    -- a document whose root is no Response
    pub not_response : (k : ℕ) (judged : Judged) → k ≡ 0 → IsJudged (IsNoResponse document.tree k) judged → IsJudged IsRight judged
    not_response k judged root h =
        judged_more (IsNoResponse document.tree k) IsRight judged
        (λ verdict no. by_root document.text relay document.tree posted spelled
        (subst (λ (n : ℕ). (head : ResponseHead) → ¬ (IsResponse document.tree n head)) root no.none) no.is) h

    module _ (k : ℕ) (head : ResponseHead) (root : k ≡ 0) (response : IsResponse document.tree k head) where
      abbrev carried : Carried
      carried = record { message = document.text; relay = relay; tree = document.tree; head = head }

      carries : Carries body carried
      carries = record { posted = posted; spelled = spelled; response = subst (λ (n : ℕ). IsResponse document.tree n head) root response }

      -- its status is not Success, or there is not one Assertion
      pub not_asserted : (verdict : Verdict) → head_refusal head ≡ Some verdict → IsRight verdict
      not_asserted verdict e = by_head carried carries e

      module _ (p : ℕ) (asserts : Asserts head p) where
        -- the Assertion is not covered
        pub not_covered : (fault : SigFault) → IsUncovered (usable config now) document.tree p fault → IsJudged IsRight (judged_of (of_signature fault))
        not_covered fault uncovered =
            judged_right IsRight (of_signature fault) (λ verdict e. by_signature carried p fault carries asserts uncovered e)

        module _ (cover : Cover) (covers : IsCoverOf (usable config now) document p cover) where
          -- it has no login
          pub no_login : (judged : Judged) → IsJudged (HasNoLogin cover.assertion.document.tree cover.assertion.node) judged → IsJudged IsRight judged
          no_login judged h =
              judged_more (HasNoLogin cover.assertion.document.tree cover.assertion.node) IsRight judged
              (λ verdict no. by_assertion carried p cover.first.0 covers.key carries asserts covers.covered
              (subst (λ (at : DocumentView × ℕ). login_at at.0.tree at.1 ≡ None) (λ i. (covers.place i, covers.node i)) no.none) no.is) h

          module _ (login : Login) (read : login_at cover.assertion.document.tree cover.assertion.node ≡ Some login) where
            -- a login has a name, so its place is found
            pub no_places : (judged : Judged) → IsJudged (HasNoName cover.assertion.document.tree cover.assertion.node) judged → IsJudged IsRight judged
            no_places judged h =
                let tree = cover.assertion.document.tree in
                judged_more (HasNoName tree cover.assertion.node) IsRight judged
                (λ verdict no.
                let told : None ≡ Some login.name = sym (ap (option_map (text_of tree)) no.none) ∙ name_said tree cover.assertion.node login read in absurd (cc))
                h

            abbrev brought : Brought
            brought = record { carried = carried; p = p; e = cover.first.0; key = covers.key; login = login }

            brings : Brings config now body brought
            brings = record {
              carries = carries;
              asserts = asserts;
              covered = covers.covered;
              read = subst (λ (at : DocumentView × ℕ). login_at at.0.tree at.1 ≡ Some login) (λ i. (covers.place i, covers.node i)) read;
            }

            -- the login is not meant, or answers no request that waits for it
            pub not_meant : (judged : Judged) → IsJudged (λ verdict. login_refusal config rows horizon now head relay login ≡ Some verdict) judged →
                IsJudged IsRight judged
            not_meant judged h =
                judged_more (λ verdict. login_refusal config rows horizon now head relay login ≡ Some verdict) IsRight judged
                (λ verdict e. by_login brought brings e) h

            -- the form opens a session
            pub opened : (asked : AskedRow) → asked_for rows horizon now login ≡ Some asked → login_refusal config rows horizon now head relay login ≡ None →
                Opens config rows horizon now body brought asked
            opened asked found none = opens config rows horizon now body brought asked brings found none

            pub opening : (asked : AskedRow) (accepted : Accepted) → asked_for rows horizon now login ≡ Some asked →
                login_refusal config rows horizon now head relay login ≡ None →
                IsAcceptedOf config now cover.assertion.document.text cover.assertion.document.tree cover.assertion.node cover.first.0 cover.key login asked accepted →
                IsOpening config rows horizon now body accepted
            opening asked accepted found none is = record {
              brought = brought;
              asked = asked;
              opens = opened asked found none;
              is =
                  subst (λ (at : DocumentView × ℕ × ℕ). IsAcceptedOf config now at.0.text at.0.tree at.1 cover.first.0 at.2 login asked accepted)
                  (λ i. (covers.place i, covers.node i, sym covers.number i)) is;
            }
