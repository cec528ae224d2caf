use Rattle.xml_spec.proofs.Documents.{one_range}
use Rattle.xml_spec.proofs.a_range_is_one.Goals as goal

pub returns : goal.returns
returns c = one_range
