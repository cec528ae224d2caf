use Rattle.std.proofs.Common.{◌≡◌, ℕ, List, take}
use Rattle.std.specs.BTreeSet.{contains_text}
use Rattle.ledger_rules.specs.Texts.{is_among}
use Rattle.ledger_rules.proofs.text_set.TextSet.of.Given as goal

abbrev pub invariant-loop-text : goal.invariant-loop-text
invariant-loop-text l = (text : List ℕ) → contains_text l.set text ≡ is_among text (take l.text-index l.text-items)
