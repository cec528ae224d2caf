use Rattle.std.proofs.Common.{◌∙◌, sym, subst}
use Rattle.idp_rows.specs.Kept.{StandingView, IsAfter}
use Rattle.idp_ledger.specs.Standing.{AreRowsOf}
use Rattle.idp_ledger.proofs.RuleLaws.{few_rows, is_behind, one_more}
use Rattle.idp_ledger.proofs.rules.IdpStandingStanding.put.Goals as goal

pub put_entry-requires-clause-few : goal.put_entry-requires-clause-few
put_entry-requires-clause-few c =
    let stands = subst (λ (v : StandingView). AreRowsOf v c.requires.records) (sym c.self.view_is) c.requires.stand in
    few_rows c.self.inside.kept c.requires.records stands c.requires.few

pub put_entry-requires-clause-is : goal.put_entry-requires-clause-is
put_entry-requires-clause-is c =
    let stands = subst (λ (v : StandingView). AreRowsOf v c.requires.records) (sym c.self.view_is) c.requires.stand in
    is_behind c.self.inside.kept c.requires.records c.args.entry stands ∙ c.requires.is

pub returns-clause-stands : goal.returns-clause-stands
returns-clause-stands c records stand =
    let after = subst (λ (v : StandingView). IsAfter v c.put_entry.new.self c.args.entry) c.self.view_is c.put_entry.ensures in
    one_more c.args.self.now c.put_entry.new.self records c.args.entry stand after
