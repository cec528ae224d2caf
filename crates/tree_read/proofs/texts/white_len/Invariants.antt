use Rattle.std.proofs.Common.{◌≡◌, ◌-◌, ◌<◌, drop, get_or}
use Rattle.tree_read.specs.Texts.{behind_white}
use Rattle.tree_read.proofs.texts.white_len.Given as goal

abbrev pub invariant-loop-i : goal.invariant-loop-i
invariant-loop-i l = record {
  rest : behind_white l.bytes ≡ behind_white (drop l.i l.bytes);
  ascii : 0 < l.i → get_or l.bytes (l.i - 1) 0 < 128;
}
