use Rattle.std.proofs.Common.{◌≡◌, ◌∙◌, false, sym, ap, subst, get_or}
use Rattle.std.specs.List.{list_any}
use Rattle.std.specs.Str.{bytes_eq}
use Rattle.std.proofs.lemmas.Slice.Eq.{bytes_eq-Decides}
use Rattle.request_rows.specs.declared.row.AskedRow.{AskedRow}
use Rattle.request_ledger.proofs.StandingFinding.{asked_there, asked_nowhere}
use Rattle.request_ledger.proofs.SpentMarks.{asked_at}
use Rattle.hub_ledger.specs.Standing.{IsAskedAt}
use Rattle.hub_ledger.proofs.standing.HubStanding.asked_place.Goals as goal

pub returns-in_err-place-clause-none : goal.returns-in_err-place-clause-none
returns-in_err-place-clause-none c =
    let request = c.args.request.now in
    let none = asked_nowhere c.self.inside.rows.rows.asked c.self.inside.next c.self.inside.numbers.listed c.self.invariant.0 request c.in_err-place.ensures in
    rw c.from_residual.ensures (sym (ap (λ v. list_any (λ (row : AskedRow). bytes_eq row.request request) v.rows.asked) c.self.view_is) ∙ none)

pub returns-then-eq-clause-some : goal.returns-then-eq-clause-some
returns-then-eq-clause-some c =
    let request = c.args.request.now in
    let row = c.index-asked-place.result in
    let read = c.index-asked-place.is ∙ ap (λ rows. get_or rows c.in_ok-place.place row) c.asked.ensures in
    let same : row.request ≡ request = ap (λ (r : AskedRow). r.request) c.index-asked-place.is ∙ sym c.as_str.ensures ∙ (bytes_eq-Decides c.as_str.result.now request).0 (sym c.eq.ensures ∙ c.if-eq.true) in
    subst (λ v. IsAskedAt v.rows.asked request c.in_ok-place.place) c.self.view_is
    (asked_at c.self.inside.rows.rows.asked c.self.inside.next c.self.inside.numbers.listed c.self.invariant.0 request c.in_ok-place.place c.in_ok-place.ensures row read same)

pub returns-else-eq-clause-none : goal.returns-else-eq-clause-none
returns-else-eq-clause-none c =
    let request = c.args.request.now in
    let row = c.index-asked-place.result in
    let read = c.index-asked-place.is ∙ ap (λ rows. get_or rows c.in_ok-place.place row) c.asked.ensures in
    let other : bytes_eq row.request request ≡ false =
    ap (λ text. bytes_eq text request) (ap (λ (r : AskedRow). r.request) c.index-asked-place.is ∙ sym c.as_str.ensures) ∙ sym c.eq.ensures ∙ c.if-eq.false in
    sym (ap (λ v. list_any (λ (row : AskedRow). bytes_eq row.request request) v.rows.asked) c.self.view_is)
    ∙ asked_there c.self.inside.rows.rows.asked c.self.inside.next c.self.inside.numbers.listed c.self.invariant.0 request c.in_ok-place.place c.in_ok-place.ensures row read ∙ other
