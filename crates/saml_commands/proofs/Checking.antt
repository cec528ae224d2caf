-- What `check` answers, and how it comes to it.
use Rattle.std.proofs.Common.{◌≡◌, ℕ, not, IsTrue, List, Option, Some, inl, inr, refl, subst}
use Rattle.saml_outside.specs.Files.{File}
use Rattle.verdict_codes.specs.declared.codes.Verdict.{Verdict}
use Rattle.request_rows.specs.Rows.{RowsView, asked_row, is_spent, is_seen}
use Rattle.request_rows.specs.declared.row.AskedRow.{AskedRow}
use Rattle.request_rows.specs.declared.row.OpenedRow.{OpenedRow}
use Rattle.provider_config.specs.declared.config.AskedLine.{AskedLine}
use Rattle.provider_config.specs.declared.config.OpenedLine.{OpenedLine}
use Rattle.provider_config.specs.declared.line.Purpose.TheVariants.{Check}
use Rattle.sp_rules.specs.declared.accepted.Accepted.{Accepted}
use Rattle.sp_rules.specs.declared.config.SpConfig.{SpConfig}
use Rattle.sp_rules.specs.Opening.{Brought, Opens}
use Rattle.sp_rules.specs.Shown.{IsOpening}
use Rattle.sp_rules.specs.Verdict.{login_refusal, IsRefused, by_form, by_document, by_root, by_head, by_signature, by_assertion, by_login}
use Rattle.sp_setup.specs.declared.setup.SetUp.{SetUp}
use Rattle.sp_setup.specs.Setup.{IsBadSetUp}
use Rattle.sp_setup.specs.Views.{IsSetUpFrom, setup_view}
use Rattle.saml_commands.specs.declared.limits.TheConstants.{GREATEST_BODY}
use Rattle.saml_commands.specs.Answers.{Answer, BadFile}
use Rattle.saml_commands.specs.Check.{rows_of, OfJudged, OfCheck}
use Rattle.saml_commands.specs.Reading.{OfFile}

-- FOR HOW MANY MORE ROWS THERE IS ROOM PLAYS NO PART

opens_too : (config : SpConfig) (rows other : RowsView) (horizon now : ℕ) (body : List ℕ) (b : Brought) (asked : AskedRow) →
    rows.asked ≡ other.asked → rows.opened ≡ other.opened → Opens config rows horizon now body b asked → Opens config other horizon now body b asked
opens_too config rows other horizon now body b asked a o h = record {
  brings = h.brings;
  meant = h.meant;
  request = subst (λ (l : List AskedRow). asked_row l b.login.request now horizon ≡ Some asked) a h.request;
  outstanding = h.outstanding;
  unspent = subst (λ (l : List OpenedRow). IsTrue (not (is_spent l b.login.request))) o h.unspent;
  unseen = subst (λ (l : List OpenedRow). IsTrue (not (is_seen l b.login.issuer b.login.id now horizon))) o h.unseen;
  relayed = h.relayed;
}

opening_too : (config : SpConfig) (rows other : RowsView) (horizon now : ℕ) (body : List ℕ) (accepted : Accepted) →
    rows.asked ≡ other.asked → rows.opened ≡ other.opened → IsOpening config rows horizon now body accepted → IsOpening config other horizon now body accepted
opening_too config rows other horizon now body accepted a o h = record {
  brought = h.brought;
  asked = h.asked;
  opens = opens_too config rows other horizon now body h.brought h.asked a o h.opens;
  is = h.is;
}

refused_too : (config : SpConfig) (rows other : RowsView) (horizon now : ℕ) (body : List ℕ) (verdict : Verdict) →
    rows.asked ≡ other.asked → rows.opened ≡ other.opened → IsRefused config rows horizon now body verdict → IsRefused config other horizon now body verdict
refused_too config rows other horizon now body verdict a o (by_form e) = by_form e
refused_too config rows other horizon now body verdict a o (by_document message relay fault p r e) = by_document message relay fault p r e
refused_too config rows other horizon now body verdict a o (by_root message relay tree p s n e) = by_root message relay tree p s n e
refused_too config rows other horizon now body verdict a o (by_head c k e) = by_head c k e
refused_too config rows other horizon now body verdict a o (by_signature c p fault k s u e) = by_signature c p fault k s u e
refused_too config rows other horizon now body verdict a o (by_assertion c p e key k s covered none is) = by_assertion c p e key k s covered none is
refused_too config rows other horizon now body verdict a o (by_login b k e) =
    let c = b.carried in
    let asked : login_refusal config (record rows { asked = other.asked }) horizon now c.head c.relay b.login ≡ Some verdict =
    subst (λ (l : List AskedRow). login_refusal config (record rows { asked = l }) horizon now c.head c.relay b.login ≡ Some verdict) a e
    in
    by_login b k (subst (λ (l : List OpenedRow). login_refusal config (record rows { asked = other.asked; opened = l }) horizon now c.head c.relay b.login ≡ Some verdict) o asked)

-- a form is answered alike over rows that differ in that alone
pub judged_too : (config : SpConfig) (rows other : RowsView) (now : ℕ) (body : List ℕ) (answer : Answer) → rows.asked ≡ other.asked →
    rows.opened ≡ other.opened → OfJudged rows config now body answer → OfJudged other config now body answer
judged_too config rows other now body answer a o (inl h) = inl (h.0, opening_too config rows other 0 now body h.0 a o h.1, h.2)
judged_too config rows other now body answer a o (inr h) = inr (h.0, refused_too config rows other 0 now body h.0 a o h.1, h.2)

-- A CONFIG AND A FORM

-- what a provider that is set up answers is what its config asks for
pub by_set_up : (told : Option (List File)) (file body : List ℕ) (setup : SetUp) (now : ℕ) (answer : Answer) → IsSetUpFrom told Check file setup →
    OfFile (OfJudged (rows_of setup.asked.items setup.opened.items) setup.config now) told body GREATEST_BODY answer → OfCheck told file body now answer
by_set_up told file body setup now answer s h =
    let asked : OfFile (OfJudged (rows_of s.lines.asked setup.opened.items) setup.config now) told body GREATEST_BODY answer =
    subst (λ (l : List AskedLine). OfFile (OfJudged (rows_of l setup.opened.items) setup.config now) told body GREATEST_BODY answer) s.asked h
    in
    inr (
      setup_view s.lines setup,
      s.is,
      subst (λ (l : List OpenedLine). OfFile (OfJudged (rows_of s.lines.asked l) setup.config now) told body GREATEST_BODY answer) s.opened asked,
    )

pub by_bad : (told : Option (List File)) (file body : List ℕ) (now : ℕ) (bad : List ℕ) (line : ℕ) → IsBadSetUp told Check file bad line →
    OfCheck told file body now (BadFile bad line)
by_bad told file body now bad line h = inl (bad, line, h, refl)
