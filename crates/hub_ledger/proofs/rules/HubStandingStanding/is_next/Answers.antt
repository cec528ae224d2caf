use Rattle.std.proofs.Common.{◌∙◌}
use Rattle.hub_ledger.proofs.RowLaws.{is_behind}
use Rattle.hub_ledger.proofs.rules.HubStandingStanding.is_next.Goals as goal

pub returns : goal.returns
returns c records stand = c.comes_next.ensures ∙ is_behind c.args.self.now records c.args.entry.now stand
