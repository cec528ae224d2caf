use Rattle.request_rows.proofs.Changing.{confirmed_is}
use Rattle.request_rows.proofs.kept.confirm_at.Goals as goal

pub returns-clause-items : goal.returns-clause-items
returns-clause-items c = confirmed_is c.args.rows.now.items c.args.place c.index_mut.result.now c.requires c.index_mut.ensures.value
