use Rattle.request_rows.proofs.OneOrder.{one_order}
use Rattle.request_rows.proofs.laws.keys_have_one_order.Goals as goal

pub returns : goal.returns
returns c = one_order
