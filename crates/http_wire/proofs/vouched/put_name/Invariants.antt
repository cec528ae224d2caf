use Rattle.std.proofs.Common.{◌≡◌, ◌++◌, take}
use Rattle.http_wire.specs.Vouched.{escaped_name}
use Rattle.http_wire.proofs.vouched.put_name.Given as goal

abbrev pub invariant-loop-byte : goal.invariant-loop-byte
invariant-loop-byte l = l.out ≡ l.initial.out ++ escaped_name (take l.byte-index l.byte-items)
