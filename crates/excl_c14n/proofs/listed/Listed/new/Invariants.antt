use Rattle.std.proofs.Common.{take}
use Rattle.excl_c14n.proofs.Listing.{HasListed}
use Rattle.excl_c14n.proofs.listed.Listed.new.Given as goal

abbrev pub invariant-loop-i : goal.invariant-loop-i
invariant-loop-i l = HasListed (take l.i l.tokens) l.prefixes
