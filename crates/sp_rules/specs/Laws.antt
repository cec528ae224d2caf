-- What the laws of the verdict say.
use Rattle.std.specs.Prelude.{ℕ, List}
use Rattle.request_rows.specs.Rows.{RowsView}
use Rattle.request_rows.specs.declared.row.AskedRow.{AskedRow}
use Rattle.verdict_codes.specs.declared.codes.Verdict.{Verdict}
use Rattle.sp_rules.specs.declared.accepted.Accepted.{Accepted}
use Rattle.sp_rules.specs.declared.config.SpConfig.{SpConfig}
use Rattle.sp_rules.specs.Opening.{Brought, Opens}
use Rattle.sp_rules.specs.Shown.{IsOpening}
use Rattle.sp_rules.specs.Verdict.{IsRefused}

-- Each form opens a session, or it is refused with a verdict: it can't be that neither holds. (The logic has no law of the excluded
-- middle, and which bytes spell a tree is a relation, so it is not said which of the two holds.)
abbrev pub EachFormIsJudged : Type 0
EachFormIsJudged =
    (config : SpConfig) (rows : RowsView) (horizon now : ℕ) (body : List ℕ)
    → ((b : Brought) (asked : AskedRow) → ¬ (Opens config rows horizon now body b asked))
    → ¬ ((verdict : Verdict) → ¬ (IsRefused config rows horizon now body verdict))

-- Something is accepted of each form that opens a session.
abbrev pub WhatOpensIsAccepted : Type 0
WhatOpensIsAccepted =
    (config : SpConfig) (rows : RowsView) (horizon now : ℕ) (body : List ℕ) (b : Brought) (asked : AskedRow)
    → Opens config rows horizon now body b asked → (accepted : Accepted) × IsOpening config rows horizon now body accepted
