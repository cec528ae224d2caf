use Rattle.std.proofs.Common.{sym, subst}
use Rattle.std.specs.Str.{IsUtf8}
use Rattle.http_wire.proofs.Keeping.{path_at_is_text}
use Rattle.http_wire.proofs.head.HeadPlaces.path_in.Goals as goal

pub unreachable-requires : goal.unreachable-requires
unreachable-requires c =
    absurd (c.in-Err.ensures.cases.0 (subst IsUtf8 (sym c.of.ensures) (path_at_is_text c.args.head.now c.args.self.now c.requires)))
