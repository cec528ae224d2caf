-- What the verdict on a posted form depends on, and what of an accepted form can be recorded.
use Rattle.std.specs.Prelude.{◌≡◌, ◌⊎◌, ℕ, List, IsSome}
use Rattle.std.specs.List.{AllByRecursion}
use Rattle.xml_spec.specs.Characters.{IsText}
use Rattle.assertion_model.specs.Assertion.{IsStatable}
use Rattle.verdict_codes.specs.declared.codes.Verdict.{Verdict}
use Rattle.request_rows.specs.declared.row.AskedRow.{AskedRow}
use Rattle.request_rows.specs.declared.row.NewSession.{NewSession}
use Rattle.request_rows.specs.Rows.{RowsView, asked_row, is_spent, is_seen}
use Rattle.request_ledger.specs.Drafts.{AreSessionTexts}
use Rattle.sp_rules.specs.declared.accepted.Accepted.{Accepted}
use Rattle.sp_rules.specs.declared.config.SpConfig.{SpConfig}
use Rattle.sp_rules.specs.Opening.{Brought, Opens}
use Rattle.sp_rules.specs.Shown.{IsOpening}
use Rattle.sp_rules.specs.Verdict.{IsRefused}

-- Two lists of rows, each with its horizon, answer alike at a moment all by which a login is judged: which request was asked, whether
-- it is spent, and whether an assertion was seen.
pub record RowsAnswerAlike (now : ℕ) (one : RowsView) (horizon : ℕ) (other : RowsView) (other_horizon : ℕ) : Type 0 where
  pub asked : (request : List ℕ) → asked_row one.asked request now horizon ≡ asked_row other.asked request now other_horizon
  pub spent : (request : List ℕ) → IsSome (asked_row one.asked request now horizon)
      → is_spent one.opened request ≡ is_spent other.opened request
  pub seen : (issuer assertion : List ℕ)
      → is_seen one.opened issuer assertion now horizon ≡ is_seen other.opened issuer assertion now other_horizon

-- What opens a session over the ones opens it over the others, for the same login and asked row.
abbrev pub LikeRowsOpenAlike : Type 0
LikeRowsOpenAlike =
    (config : SpConfig) (now : ℕ) (one : RowsView) (horizon : ℕ) (other : RowsView) (other_horizon : ℕ) (body : List ℕ)
    (b : Brought) (row : AskedRow) → RowsAnswerAlike now one horizon other other_horizon
    → Opens config other other_horizon now body b row → Opens config one horizon now body b row

-- And of each form the same is accepted, or it is refused with the same verdict.
abbrev pub LikeRowsAcceptAlike : Type 0
LikeRowsAcceptAlike =
    (config : SpConfig) (now : ℕ) (one : RowsView) (horizon : ℕ) (other : RowsView) (other_horizon : ℕ) (body : List ℕ)
    (accepted : Accepted) → RowsAnswerAlike now one horizon other other_horizon
    → IsOpening config other other_horizon now body accepted → IsOpening config one horizon now body accepted

abbrev pub LikeRowsRefuseAlike : Type 0
LikeRowsRefuseAlike =
    (config : SpConfig) (now : ℕ) (one : RowsView) (horizon : ℕ) (other : RowsView) (other_horizon : ℕ) (body : List ℕ)
    (verdict : Verdict) → RowsAnswerAlike now one horizon other other_horizon
    → IsRefused config other other_horizon now body verdict → IsRefused config one horizon now body verdict

-- The session of an accepted form can be recorded: a document may hold its texts, and its key is the first or the second.
pub record CanBeRecorded (session : NewSession) : Type 0 where
  pub texts : AreSessionTexts session
  pub key : (session.key ≡ 1) ⊎ (session.key ≡ 2)
  pub name : IsText session.name
  pub attributes : AllByRecursion IsStatable session.attributes

abbrev pub WhatIsAcceptedCanBeRecorded : Type 0
WhatIsAcceptedCanBeRecorded =
    (config : SpConfig) (rows : RowsView) (horizon now : ℕ) (body : List ℕ) (accepted : Accepted)
    → IsOpening config rows horizon now body accepted → CanBeRecorded accepted.session
