use Rattle.std.proofs.Common.{◌≡◌, take, map, length, nat_lt, IfSome}
use Rattle.std.specs.Option.{option_map}
use Rattle.httparse.specs.Spans.{IsWithin, span_bytes, header_bytes}
use Rattle.http_wire.specs.Lines.{values, first_of}
use Rattle.http_wire.proofs.lines.values_of.Given as goal

abbrev pub invariant-loop-line : goal.invariant-loop-line
invariant-loop-line l =
    IfSome l.first (IsWithin (length l.bytes))
    × (option_map (span_bytes l.bytes) l.first ≡ first_of (values l.name (map (header_bytes l.bytes) (take l.line-index l.lines))))
    × (l.repeated ≡ nat_lt 1 (length (values l.name (map (header_bytes l.bytes) (take l.line-index l.lines)))))
