use Rattle.std.proofs.Common.{◌≡◌, ◌∙◌, ◌&&◌, false, not, sym, ap, subst, get_or}
use Rattle.std.specs.Str.{bytes_eq}
use Rattle.std.proofs.lemmas.Bool.{and_left, and_right}
use Rattle.std.proofs.lemmas.Slice.Eq.{bytes_eq-Decides}
use Rattle.request_ledger.specs.Record.{is_open}
use Rattle.request_ledger.specs.Standing.{IsOpenAt}
use Rattle.request_ledger.proofs.StandingFinding.{open_there, open_refused, open_nowhere}
use Rattle.request_ledger.proofs.standing.RequestStanding.open_place.Goals as goal
use Rattle.request_ledger.proofs.standing.RequestStanding.open_place.Goals.{else-eq-via-then-eq+else-not-row, else-eq-via-else-eq}

pub returns-in_err-place-clause-none : goal.returns-in_err-place-clause-none
returns-in_err-place-clause-none c =
    let token = c.args.token.now in
    let none = open_nowhere c.self.inside.rows.rows.opened c.self.inside.next c.self.inside.opened.listed c.self.invariant.1 token c.in_err-place.ensures in
    rw c.from_residual.ensures (sym (ap (λ v. is_open v.rows.opened token) c.self.view_is) ∙ none)

pub returns-then-not-row-clause-some : goal.returns-then-not-row-clause-some
returns-then-not-row-clause-some c =
    let token = c.args.token.now in
    let row = c.index-opened-place.result in
    let read = c.index-opened-place.is ∙ ap (λ rows. get_or rows c.in_ok-place.place row) c.opened.ensures in
    let same : row.token ≡ token = sym c.as_str.ensures ∙ (bytes_eq-Decides c.as_str.result.now token).0 (sym c.if-eq.ensures) in
    subst (λ v. IsOpenAt v.rows.opened token c.in_ok-place.place) c.self.view_is
    (open_there c.self.inside.rows.rows.opened c.self.inside.next c.self.inside.opened.listed c.self.invariant.1 token c.in_ok-place.place c.in_ok-place.ensures row read same c.if-not-row.true)

pub returns-else-eq-clause-none : goal.returns-else-eq-clause-none
returns-else-eq-clause-none c =
    let token = c.args.token.now in
    let row = c.index-opened-place.result in
    let read = c.index-opened-place.is ∙ ap (λ rows. get_or rows c.in_ok-place.place row) c.opened.ensures in
    let fails : (bytes_eq row.token token && not row.closed) ≡ false =
    elim c.else-eq.branch [
      | else-eq-via-then-eq+else-not-row w ↦ and_right (bytes_eq row.token token) (not row.closed) (ap not w.if-not-row.false)
      | else-eq-via-else-eq w ↦
          and_left (bytes_eq row.token token) (not row.closed) (ap (λ text. bytes_eq text token) (sym c.as_str.ensures) ∙ sym c.eq.ensures ∙ w.if-eq.false)
    ] in
    sym (ap (λ v. is_open v.rows.opened token) c.self.view_is)
    ∙ open_refused c.self.inside.rows.rows.opened c.self.inside.next c.self.inside.opened.listed c.self.invariant.1 token c.in_ok-place.place c.in_ok-place.ensures row read fails
