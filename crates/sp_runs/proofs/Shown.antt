-- What a live session is shown.
use Rattle.std.specs.Prelude.{Option, None, Some}
use Rattle.std.proofs.Common.{◌≡◌, ◌⊎◌, inl, inr, ℕ, false, List, sym, subst, ap, ◌∙◌}
use Rattle.crash_disk.specs.Counts.{Rose}
use Rattle.crash_disk.specs.Disk.{DiskState}
use Rattle.access_policy.specs.declared.rule.Rule.{Rule}
use Rattle.http_wire.specs.declared.answer.Answer.{Answer}
use Rattle.http_wire.specs.declared.answer.Answer.TheVariants.{Fixed, Full}
use Rattle.http_wire.specs.Requests.{Request}
use Rattle.ledger_records.specs.declared.sp_record.SpRecord.{SpRecord}
use Rattle.request_ledger.specs.Ledger.{Held}
use Rattle.request_rows.specs.declared.row.OpenedRow.{OpenedRow}
use Rattle.service_routes.specs.declared.route.Route.TheVariants.{To}
use Rattle.sp_server.specs.declared.route.Service.TheVariants.{App}
use Rattle.sp_server.specs.Routes.{route}
use Rattle.provider_node.specs.Step as any
use Rattle.provider_node.specs.declared.codes.TheConstants.{NO_MEMORY}
use Rattle.sp_server.specs.Step as steps
use Rattle.sp_server.specs.Step.{Setup, Provider, Answers, session_for, shown_to}
use Rattle.provider_node.specs.Step.{Steps, Serves}
use Rattle.request_ledger.specs.Record.{request_rules}
use Rattle.sp_runs.specs.Laws.{ASessionIsShownByItsRow, EqualRowsAreShownAlike}
use Rattle.provider_node.proofs.Answered.{plainly}

-- a live session has the page, and nothing is recorded
pub record IsShown (setup : Setup) (request : Request) (row : OpenedRow) (answer : Answer)
    (adds : Option SpRecord) : Type 0 where
  pub page : answer ≡ Full (shown_to setup.policy request.path row)
  pub nothing : adds ≡ None

shown : (setup : Setup) (held : Held) (request : Request) (now : ℕ) (answer : Answer) (adds : Option SpRecord)
    (row : OpenedRow) → route request ≡ To App →
    session_for held now request ≡ Some row → Answers setup held request now answer adds
    → IsShown setup request row answer adds
shown setup held request now answer adds row app live (steps.ByStatus status to is none) =
    absurd (let e = sym app ∙ to in cc)
shown setup held request now answer adds row app live (steps.ByMetadata to is none) =
    absurd (let e = sym app ∙ to in cc)
shown setup held request now answer adds row app live (steps.BySession found to session is none) =
    let same : found ≡ row = let e : Some found ≡ Some row = sym session ∙ live in cc in
    record { page = is ∙ ap (λ (r : OpenedRow). Full (shown_to setup.policy request.path r)) same; nothing = none }
shown setup held request now answer adds row app live (steps.ByAsking bytes to none unexpired id relay page is ids
    what) = absurd (let e = sym live ∙ none in cc)
shown setup held request now answer adds row app live (steps.ByGuard to is none) = absurd (let e = sym app ∙ to in cc)
shown setup held request now answer adds row app live (steps.ByOpening b asked to unexpired opens token is has what) =
    absurd (let e = sym app ∙ to in cc)
shown setup held request now answer adds row app live (steps.ByVerdict verdict to unexpired refused is none) =
    absurd (let e = sym app ∙ to in cc)
shown setup held request now answer adds row app live (steps.ByExpiry (inl to) expired is none) =
    absurd (let e = sym app ∙ to in cc)
shown setup held request now answer adds row app live (steps.ByExpiry (inr (inl at)) expired is none) =
    absurd (let e = sym live ∙ at.1 in cc)
shown setup held request now answer adds row app live (steps.ByExpiry (inr (inr (inl to))) expired is none) =
    absurd (let e = sym app ∙ to in cc)
shown setup held request now answer adds row app live (steps.ByExpiry (inr (inr (inr to))) expired is none) =
    absurd (let e = sym app ∙ to in cc)
shown setup held request now answer adds row app live (steps.ByLeaving found id bytes to unexpired session is has leaves
    what) = absurd (let e = sym app ∙ to in cc)
shown setup held request now answer adds row app live (steps.ByNoSession to unexpired found is none) =
    absurd (let e = sym app ∙ to in cc)
shown setup held request now answer adds row app live (steps.ByLogoutVerdict verdict to unexpired refused is none) =
    absurd (let e = sym app ∙ to in cc)
shown setup held request now answer adds row app live (steps.ByEnding asked relay id bytes to unexpired obeyed any is
    has ends what) = absurd (let e = sym app ∙ to in cc)
shown setup held request now answer adds row app live (steps.ByNothingToEnd asked relay to unexpired obeyed empty is
    none) = absurd (let e = sym app ∙ to in cc)
shown setup held request now answer adds row app live (steps.ByConfirming response to unexpired obeyed awaited is
    what) = absurd (let e = sym app ∙ to in cc)
shown setup held request now answer adds row app live (steps.ByUnknownLogout response to unexpired obeyed unknown is
    none) = absurd (let e = sym app ∙ to in cc)

serves_shown : (found : Held) (request : Request) (now : ℕ) (Risen : Type 0) (answer : Answer) (old new : Provider)
    (row : OpenedRow) → route request ≡ To App → session_for found now request ≡ Some row
    → Serves request_rules Answers found request now Risen answer old new
    → (answer ≡ Full (shown_to old.setup.policy request.path row)) ⊎ (answer ≡ Fixed NO_MEMORY)
serves_shown found request now Risen answer old new row app live serves =
    elim ((plainly request_rules Answers request now Risen answer old new found
    (λ other r answers. let e = (shown old.setup found request now other (Some r) row app live answers).nothing in cc)
    serves).0) [
      | inl answers ↦ inl (shown old.setup found request now answer None row app live answers).page
      | inr is ↦ inr is
    ]

pub shown_by_row : ASessionIsShownByItsRow
shown_by_row found request now faults later answer old new row serves app live =
    serves_shown found request now (Rose faults later) answer old new row app live serves

-- a ledger that is whole is the one that the step found
shown_whole : (old new : Provider) (disk : Option DiskState) (request : Request) (now faults later : ℕ)
    (answer : Answer) (row : OpenedRow)
    → old.ledger.broken ≡ false → route request ≡ To App → session_for old.ledger.held now request ≡ Some row
    → Steps request_rules Answers old disk request now (Rose faults later) answer new
    → (answer ≡ Full (shown_to old.setup.policy request.path row)) ⊎ (answer ≡ Fixed NO_MEMORY)
shown_whole old new disk request now faults later answer row whole app live step = which step
  where
    which : Steps request_rules Answers old disk request now (Rose faults later) answer new
        → (answer ≡ Full (shown_to old.setup.policy request.path row)) ⊎ (answer ≡ Fixed NO_MEMORY)
    which (any.WithLedger unbroken serves) =
        serves_shown old.ledger.held request now (Rose faults later) answer old new row app live serves
    which (any.WithOpened found broken is serves) = absurd (let e = sym whole ∙ broken in cc)
    which (any.NotOpened was risen is broken) = absurd (let e = sym whole ∙ was in cc)
    which (any.Strange was none is broken) = absurd (let e = sym whole ∙ was in cc)
    which (any.StarvedAtOpening was is broken) = absurd (let e = sym whole ∙ was in cc)

either : (one second page : Answer) → (one ≡ page) ⊎ (one ≡ Fixed NO_MEMORY) → (second ≡ page)
    ⊎ (second ≡ Fixed NO_MEMORY) →
    (one ≡ second) ⊎ ((one ≡ Fixed NO_MEMORY) ⊎ (second ≡ Fixed NO_MEMORY))
either one second page (inl a) (inl b) = inl (a ∙ sym b)
either one second page (inl a) (inr b) = inr (inr b)
either one second page (inr a) b = inr (inl a)

pub shown_alike : EqualRowsAreShownAlike
shown_alike old new other newer disk another request now faults later before after one second row policy whole too app
    live live_too step step_too =
    let page = Full (shown_to old.setup.policy request.path row) in
    let first = shown_whole old new disk request now faults later one row whole app live step in
    let next = shown_whole other newer another request now before after second row too app live_too step_too in
    either one second page first
    (subst (λ (p : Option (List Rule)). (second ≡ Full (shown_to p request.path row)) ⊎ (second ≡ Fixed NO_MEMORY))
    policy next)
