use Rattle.std.proofs.Common.{◌≡◌, ◌<◌, length, take, get_or}
use Rattle.tree_read.proofs.Trimming.{before_white}
use Rattle.tree_read.proofs.texts.white_start.Given as goal

abbrev pub invariant-loop-i : goal.invariant-loop-i
invariant-loop-i l = record {
  rest : before_white l.bytes ≡ before_white (take l.i l.bytes);
  ascii : l.i < length l.bytes → get_or l.bytes l.i 0 < 128;
}
