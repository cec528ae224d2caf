use Rattle.std.proofs.Common.{◌≡◌, take, reverse}
use Rattle.httparse.specs.Grammar.{skip_ows}
use Rattle.http_wire.proofs.media.cut_ows.Given as goal

abbrev pub invariant-loop-end : goal.invariant-loop-end
invariant-loop-end l = skip_ows (reverse l.bytes) ≡ skip_ows (reverse (take l.end l.bytes))
