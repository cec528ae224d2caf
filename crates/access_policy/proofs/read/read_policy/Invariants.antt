use Rattle.std.proofs.Common.{◌≡◌, length}
use Rattle.text_lines.proofs.OneByOne.{one_by_one}
use Rattle.access_policy.specs.Rules.{policy, with_rule}
use Rattle.text_lines.proofs.Numbering.{AreSmall}
use Rattle.access_policy.proofs.read.read_policy.Given as goal

-- what is read and what is still to be said make the policy
abbrev pub invariant-loop-said : goal.invariant-loop-said
invariant-loop-said l = record {
  rules : one_by_one with_rule l.draft l.lines ≡ policy l.text;
  small : AreSmall l.lines;
}

abbrev pub decreases-loop-said : goal.decreases-loop-said
decreases-loop-said l = length l.lines
