use Rattle.std.proofs.Common.{◌≡◌, take}
use Rattle.element_make.specs.Made.{joined}
use Rattle.protocol_messages.specs.Making.{session_indexes}
use Rattle.protocol_messages.proofs.make.put_indexes.Given as goal

abbrev pub invariant-loop-index : goal.invariant-loop-index
invariant-loop-index l = l.made ≡ record l.initial.made { kids = joined l.initial.made.kids (session_indexes (take l.index-index l.index-items)) }
