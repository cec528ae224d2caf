use Rattle.std.proofs.Common.{◌∙◌}
use Rattle.request_ledger.proofs.RuleLaws.{is_behind}
use Rattle.request_ledger.proofs.rules.MarkedStanding.is_next.Goals as goal

pub returns : goal.returns
returns c records stand = c.comes_next.ensures ∙ is_behind c.args.self.now records c.args.entry.now stand
