use Rattle.std.proofs.Common.{◌≡◌, length}
use Rattle.text_lines.proofs.OneByOne.{one_by_one}
use Rattle.user_store.specs.Store.{users, with_text}
use Rattle.text_lines.proofs.Numbering.{AreSmall}
use Rattle.user_store.proofs.read.read_users.Given as goal

-- what is read and what is still to be said make the users
abbrev pub invariant-loop-said : goal.invariant-loop-said
invariant-loop-said l = record {
  said : one_by_one with_text l.users l.lines ≡ users l.text;
  small : AreSmall l.lines;
}

abbrev pub decreases-loop-said : goal.decreases-loop-said
decreases-loop-said l = length l.lines
