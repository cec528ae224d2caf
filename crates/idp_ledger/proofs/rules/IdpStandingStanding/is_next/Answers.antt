use Rattle.std.proofs.Common.{◌∙◌, ap, sym, subst}
use Rattle.idp_rows.specs.Kept.{StandingView}
use Rattle.idp_rows.specs.Record.{is_next}
use Rattle.idp_ledger.specs.Standing.{AreRowsOf}
use Rattle.idp_ledger.proofs.RuleLaws.{is_behind}
use Rattle.idp_ledger.proofs.rules.IdpStandingStanding.is_next.Goals as goal

pub returns : goal.returns
returns c records stand =
    let kept = c.self.inside.kept in
    let stands = subst (λ (v : StandingView). AreRowsOf v records) (sym c.self.view_is) stand in
    c.comes_next.ensures ∙ ap (is_next kept.rows kept.next) c.entry.ensures ∙ is_behind kept records c.args.entry.now stands
