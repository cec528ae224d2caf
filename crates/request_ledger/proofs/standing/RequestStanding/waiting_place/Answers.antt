use Rattle.std.proofs.Common.{◌≡◌, ◌∙◌, ◌&&◌, false, not, sym, ap, subst, get_or}
use Rattle.std.specs.Str.{bytes_eq}
use Rattle.std.proofs.lemmas.Bool.{and_left, and_right}
use Rattle.std.proofs.lemmas.Slice.Eq.{bytes_eq-Decides}
use Rattle.request_ledger.specs.Record.{is_waiting}
use Rattle.request_ledger.specs.Standing.{IsWaitingAt}
use Rattle.request_ledger.proofs.StandingFinding.{waiting_there, waiting_refused, waiting_nowhere}
use Rattle.request_ledger.proofs.standing.RequestStanding.waiting_place.Goals as goal
use Rattle.request_ledger.proofs.standing.RequestStanding.waiting_place.Goals.{else-eq-via-then-eq+else-not-row, else-eq-via-else-eq}

pub returns-in_err-place-clause-none : goal.returns-in_err-place-clause-none
returns-in_err-place-clause-none c =
    let request = c.args.request.now in
    let none = waiting_nowhere c.self.inside.rows.rows.left c.self.inside.next c.self.inside.left.listed c.self.invariant.2 request c.in_err-place.ensures in
    rw c.from_residual.ensures (sym (ap (λ v. is_waiting v.rows.left request) c.self.view_is) ∙ none)

pub returns-then-not-row-clause-some : goal.returns-then-not-row-clause-some
returns-then-not-row-clause-some c =
    let request = c.args.request.now in
    let row = c.index-left-place.result in
    let read = c.index-left-place.is ∙ ap (λ rows. get_or rows c.in_ok-place.place row) c.left.ensures in
    let same : row.request ≡ request = sym c.as_str.ensures ∙ (bytes_eq-Decides c.as_str.result.now request).0 (sym c.if-eq.ensures) in
    subst (λ v. IsWaitingAt v.rows.left request c.in_ok-place.place) c.self.view_is
    (waiting_there c.self.inside.rows.rows.left c.self.inside.next c.self.inside.left.listed c.self.invariant.2 request c.in_ok-place.place c.in_ok-place.ensures row read same c.if-not-row.true)

pub returns-else-eq-clause-none : goal.returns-else-eq-clause-none
returns-else-eq-clause-none c =
    let request = c.args.request.now in
    let row = c.index-left-place.result in
    let read = c.index-left-place.is ∙ ap (λ rows. get_or rows c.in_ok-place.place row) c.left.ensures in
    let fails : (bytes_eq row.request request && not row.confirmed) ≡ false =
    elim c.else-eq.branch [
      | else-eq-via-then-eq+else-not-row w ↦ and_right (bytes_eq row.request request) (not row.confirmed) (ap not w.if-not-row.false)
      | else-eq-via-else-eq w ↦
          and_left (bytes_eq row.request request) (not row.confirmed) (ap (λ text. bytes_eq text request) (sym c.as_str.ensures) ∙ sym c.eq.ensures ∙ w.if-eq.false)
    ] in
    sym (ap (λ v. is_waiting v.rows.left request) c.self.view_is)
    ∙ waiting_refused c.self.inside.rows.rows.left c.self.inside.next c.self.inside.left.listed c.self.invariant.2 request c.in_ok-place.place c.in_ok-place.ensures row read fails
