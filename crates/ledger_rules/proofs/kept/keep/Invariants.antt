use Rattle.std.proofs.Common.{◌≡◌, ℕ, ◌<◌, length, get_or, false}
use Rattle.ledger_rules.proofs.Groups.{AreMarks}
use Rattle.ledger_rules.proofs.kept.keep.Given as goal

abbrev pub invariant-loop-place : goal.invariant-loop-place
invariant-loop-place l = AreMarks l.links l.seen l.ends.items l.place l.groups.items

abbrev pub invariant-loop-place-2 : goal.invariant-loop-place-2
invariant-loop-place-2 l = record {
  marks : AreMarks l.links l.seen l.ends.items (length l.links) l.groups.items;
  long : length l.flags.items ≡ length l.links;
  each : (k : ℕ) → k < l.place → get_or l.flags.items k false ≡ get_or l.groups.items (get_or l.ends.items k 0) false;
}
