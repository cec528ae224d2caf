use Rattle.provider_node.proofs.Staying.{row_as_left}
use Rattle.provider_node.proofs.laws.each_row_stays.Goals as goal

pub returns : goal.returns
returns g c = λ moments start records r image (held, is, came) there.
    (held, is, row_as_left g.R.Rows.Standing.rules moments start held records r came there)
