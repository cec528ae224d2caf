use Rattle.http_wire.proofs.Lasting.{a_beginning_is_more_or_the_same}
use Rattle.http_wire.proofs.laws.a_beginning_is_more_or_the_same.Goals as goal

pub returns : goal.returns
returns c = a_beginning_is_more_or_the_same
