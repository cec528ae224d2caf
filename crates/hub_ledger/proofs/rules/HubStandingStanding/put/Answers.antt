use Rattle.std.proofs.Common.{◌∙◌}
use Rattle.hub_ledger.proofs.RowLaws.{few_rows, is_behind, one_more}
use Rattle.hub_ledger.proofs.rules.HubStandingStanding.put.Goals as goal

pub put_entry-requires-clause-few : goal.put_entry-requires-clause-few
put_entry-requires-clause-few c = few_rows c.args.self.now c.requires.records c.requires.stand c.requires.few

pub put_entry-requires-clause-is : goal.put_entry-requires-clause-is
put_entry-requires-clause-is c = is_behind c.args.self.now c.requires.records c.args.entry c.requires.stand ∙ c.requires.is

pub returns-clause-stands : goal.returns-clause-stands
returns-clause-stands c records stand = one_more c.args.self.now c.put_entry.new.self records c.args.entry stand c.put_entry.ensures

pub returns-clause-ready : goal.returns-clause-ready
returns-clause-ready c ready = c.put_entry.ensures.indexed ∙ ready
