-- The rows so far, and then those of the lines that are left, are the rows of the lines.
use Rattle.std.proofs.Common.{◌≡◌, ◌+◌, ◌++◌, [], length, map}
use Rattle.std.specs.Vec.Iter.{into_iter_items}
use Rattle.saml_commands.specs.Check.{asked_row_of, opened_row_of}
use Rattle.saml_commands.proofs.check.rows_of.Given as goal

abbrev pub invariant-loop-request : goal.invariant-loop-request
invariant-loop-request l = record {
  asked :
      l.kept.rows.asked ++ map asked_row_of (into_iter_items l.request-iterator) ≡ map asked_row_of l.fn.asked.items;
  opened : l.kept.rows.opened ≡ [];
  count : length l.kept.rows.asked + length (into_iter_items l.request-iterator) ≡ length l.fn.asked.items;
}

abbrev pub invariant-loop-answer : goal.invariant-loop-answer
invariant-loop-answer l = record {
  asked : l.kept.rows.asked ≡ map asked_row_of l.fn.asked.items;
  opened :
      l.kept.rows.opened ++ map opened_row_of (into_iter_items l.answer-iterator) ≡ map opened_row_of l.fn.opened.items;
  count : length l.kept.rows.opened + length (into_iter_items l.answer-iterator) ≡ length l.fn.opened.items;
}
