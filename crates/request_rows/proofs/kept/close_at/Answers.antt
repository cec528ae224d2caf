use Rattle.request_rows.proofs.Changing.{closed_is}
use Rattle.request_rows.proofs.kept.close_at.Goals as goal

pub returns-clause-items : goal.returns-clause-items
returns-clause-items c = closed_is c.args.rows.now.items c.args.place c.index_mut.result.now c.requires c.index_mut.ensures.value
