use Rattle.std.proofs.Common.{◌↔◌, drop}
use Rattle.std.specs.List.{AllByRecursion}
use Rattle.sig_reference.specs.Form.{IsPrefix}
use Rattle.sig_reference.proofs.words.are_prefixes.Given as goal

abbrev pub invariant-loop-i : goal.invariant-loop-i
invariant-loop-i l = AllByRecursion IsPrefix l.words ↔ AllByRecursion IsPrefix (drop l.i l.words)
