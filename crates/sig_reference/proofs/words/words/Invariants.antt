use Rattle.std.proofs.Common.{◌≡◌, ◌-◌, ◌≤◌, ◌++◌, take, drop}
use Rattle.std.specs.Str.{IsCharBoundary}
use Rattle.sig_reference.specs.Form.{words_from, words}
use Rattle.sig_reference.proofs.words.words.Given as goal

abbrev pub invariant-loop-i : goal.invariant-loop-i
invariant-loop-i l = record {
  behind : l.start ≤ l.i;
  boundary : IsCharBoundary l.text l.start;
  found : l.found ++ words_from (take (l.i - l.start) (drop l.start l.text)) (drop l.i l.text) ≡ words l.text;
}
