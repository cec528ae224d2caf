-- Where a login comes from that a hub passes on.
use Rattle.std.specs.Prelude.{◌≡◌, List, map}
use Rattle.std.proofs.Common.{inl, inr, ℕ, ◌+◌, ◌≤◌, ◌<◌, refl, sym, subst, ap, ◌∙◌}
use Rattle.tree_read.specs.Texts.{trimmed}
use Rattle.ledger_records.specs.declared.hub_record.Backed.{Backed}
use Rattle.ledger_records.specs.declared.idp_record.Issued.{Issued}
use Rattle.ledger_records.specs.declared.idp_record.IdpRecord.TheVariants as kinds
use Rattle.request_rows.specs.declared.row.AskedRow.{AskedRow}
use Rattle.request_rows.specs.declared.row.NewSession.{NewSession}
use Rattle.request_rows.specs.Rows.{RowsView}
use Rattle.hub_ledger.specs.RowsOf.{rows_of}
use Rattle.idp_rules.specs.declared.config.IdpConfig.{IdpConfig}
use Rattle.sp_rules.specs.Laws.{WhatOpensIsAccepted}
use Rattle.sp_rules.specs.declared.accepted.Accepted.{Accepted}
use Rattle.sp_rules.specs.declared.config.SpConfig.{SpConfig}
use Rattle.sp_rules.specs.Opening.{Brought, Opens}
use Rattle.sp_rules.specs.Shown.{IsOpening, session_of}
use Rattle.login_origin.specs.Signed.{Signed}
use Rattle.login_origin.specs.Premises.{Unforged, NoCollision}
use Rattle.recorded_logins.specs.Recorded.{Added, AreOf}
use Rattle.recorded_logins.specs.Logins.{IsRecordedSession}
use Rattle.identity_hub.specs.Passing.{OnlyWhereALoginIsBrought}
use Rattle.identity_hub.specs.Step.{rows_seen}
use Rattle.passed_logins.specs.Passed.{ALoginThatIsPassedOnWasRecorded, ASessionBelowIsOfALoginAbove, ASessionBelowWasPassedOn}
use Rattle.passed_logins.proofs.AsIdp.{are_signed_as, as_added, as_idp, as_issued, unmapped}

-- a session that is opened was recorded
abbrev pub OpenedWasRecorded : Type 0
OpenedWasRecorded =
    (setup : IdpConfig) (added : List Added) (issued : List Signed) (config : SpConfig) (rows : RowsView)
    (horizon now : ℕ) (body : List ℕ) (accepted : Accepted) → AreOf setup added issued → Unforged issued config now body
    → NoCollision issued body → IsOpening config rows horizon now body accepted
    → IsRecordedSession setup added config now accepted.session

-- the issued record of what was added
the_issued : (one other : Added) (first second : Issued) → one.r ≡ kinds.Issued first → other.r ≡ kinds.Issued second
    → one ≡ other → first ≡ second
the_issued one other first second is_first is_second same =
    let both : kinds.Issued first ≡ kinds.Issued second = sym is_first ∙ ap (λ (a : Added). a.r) same ∙ is_second in
    cc

pub below : OpenedWasRecorded → ASessionBelowWasPassedOn
below law hub passed issued config rows horizon now body accepted signed unforged apart opening =
    let is = law (as_idp hub) (map as_added passed) issued config rows horizon now body accepted
    (are_signed_as hub passed issued signed) unforged apart opening in
    let found = unmapped as_added passed (record { held = is.held; r = kinds.Issued is.r }) is.known in
    let b = found.0 in
    let same : as_issued b ≡ is.r =
    the_issued (as_added b) (record { held = is.held; r = kinds.Issued is.r }) (as_issued b) is.r refl refl found.2 in
    record {
      one = b;
      known = found.1;
      issuer = is.issuer;
      audience = ap (λ (r : Issued). trimmed r.peer) same ∙ is.audience;
      address = ap (λ (r : Issued). r.consumer) same ∙ is.address;
      begun = subst (λ (r : Issued). r.moment ≤ now + config.skew) (sym same) is.begun;
      accepted = subst (λ (r : Issued). now < r.until + config.skew) (sym same) is.accepted;
      lives = subst (λ (r : Issued). now < r.session_end) (sym same) is.lives;
      request = ap (λ (s : NewSession). s.request) is.is ∙ ap (λ (r : Issued). r.request) (sym same);
      assertion = ap (λ (s : NewSession). s.assertion) is.is ∙ ap (λ (r : Issued). r.assertion) (sym same);
      name = ap (λ (s : NewSession). s.name) is.is ∙ ap (λ (r : Issued). r.user) (sym same);
      attributes = ap (λ (s : NewSession). s.attributes) is.is ∙ ap (λ (r : Issued). r.attributes) (sym same);
    }

-- a form brings one login alone
abbrev pub IsOneLogin : Type 0
IsOneLogin =
    (config : SpConfig) (rows : RowsView) (horizon now : ℕ) (body : List ℕ) (b other : Brought)
    (row for_other : AskedRow)
    → Opens config rows horizon now body b row → Opens config rows horizon now body other for_other → b ≡ other

pub above : OpenedWasRecorded → OnlyWhereALoginIsBrought → WhatOpensIsAccepted → IsOneLogin → ALoginThatIsPassedOnWasRecorded
above law only accepts one_login setup added issued hub r are was =
    let passes = only hub was.held was.request was.now was.answer r was.adds in
    let b = passes.brought in
    let brings = passes.can.brings in
    let rows = rows_seen (rows_of was.held.records) in
    let horizon = was.held.header.horizon in
    let found = accepts hub.upstream rows horizon was.now was.request.body b passes.can.asked brings.opens in
    let opening = found.1 in
    let is = law setup added issued hub.upstream rows horizon was.now was.request.body found.0 are was.unforged was.apart opening in
    let same : opening.brought ≡ b =
    one_login hub.upstream rows horizon was.now was.request.body opening.brought b opening.asked passes.can.asked opening.opens
    brings.opens in
    let session : session_of hub.upstream was.now b.key.number b.login ≡ found.0.session =
    ap (λ (x : Brought). session_of hub.upstream was.now x.key.number x.login) (sym same) ∙ sym opening.is.session in
    let own : passes.backed ≡ r = (let e = passes.kind in cc) in
    record {
      held = is.held;
      issued = is.r;
      known = is.known;
      issuer = is.issuer;
      audience = is.audience;
      request =
          ap (λ (x : Backed). x.request) (sym own) ∙ passes.says.request ∙ ap (λ (s : NewSession). s.request) session
          ∙ ap (λ (s : NewSession). s.request) is.is;
      assertion =
          ap (λ (x : Backed). x.above) (sym own) ∙ passes.says.above ∙ ap (λ (s : NewSession). s.assertion) session
          ∙ ap (λ (s : NewSession). s.assertion) is.is;
      name =
          ap (λ (x : Backed). x.name) (sym own) ∙ passes.says.name ∙ ap (λ (s : NewSession). s.name) session
          ∙ ap (λ (s : NewSession). s.name) is.is;
      attributes =
          ap (λ (x : Backed). x.attributes) (sym own) ∙ passes.says.attributes ∙ ap (λ (s : NewSession). s.attributes) session
          ∙ ap (λ (s : NewSession). s.attributes) is.is;
    }

pub both : ASessionBelowWasPassedOn → ALoginThatIsPassedOnWasRecorded → ASessionBelowIsOfALoginAbove
both first second setup added issued_above hub at_start passed issued config rows horizon now body accepted are from signed
    unforged apart opening =
    let is = first hub passed issued config rows horizon now body accepted signed unforged apart opening in
    record {
      r = is.one;
      name = is.name;
      attributes = is.attributes;
      of =
          elim (from is.one is.known) [
            | inl old ↦ inl old
            | inr was ↦ inr (second setup added issued_above hub is.one are was)
          ];
    }
