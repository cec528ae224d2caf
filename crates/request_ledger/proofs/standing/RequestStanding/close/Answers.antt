use Rattle.std.proofs.Common.{◌∙◌, ap, sym}
use Rattle.request_rows.specs.Rows.{closed_at}
use Rattle.request_rows.specs.Kept.{KeptView}
use Rattle.request_ledger.specs.contracts.standing.RequestStanding.{the_view}
use Rattle.request_ledger.proofs.StandingRows.{closes_open, closes_nothing}
use Rattle.request_ledger.proofs.StandingKept.{kept_closed, with_opened}
use Rattle.request_ledger.proofs.standing.RequestStanding.close.Goals as goal

pub invariant_of-self : goal.invariant_of-self
invariant_of-self c =
    kept_closed c.self.inside.next c.self.inside.asked.listed c.self.inside.opened.listed c.self.inside.left.listed c.self.inside.rows.rows c.self.invariant c.in-Some.place c.close.new.self.rows (ap (λ (k : KeptView). k.rows) c.close.ensures)

pub returns-in-Some : goal.returns-in-Some
returns-in-Some c =
    let opened = ap (λ v. closed_at v.rows.opened c.in-Some.place) c.self.view_is
    ∙ closes_open c.args.self.now.rows.opened c.args.token.now c.in-Some.place c.in-Some.ensures.some in
    ap (λ rows. the_view (record c.self.inside { rows = rows })) c.close.ensures
    ∙ with_opened (the_view c.self.inside) c.args.self.now c.self.view_is _ _ opened

pub returns-in_default : goal.returns-in_default
returns-in_default c =
    let now = c.args.self.now in
    ap (λ opened. record now { rows = record (now.rows) { opened = opened } }) (sym (closes_nothing now.rows.opened c.args.token.now c.in_default.ensures.none))
