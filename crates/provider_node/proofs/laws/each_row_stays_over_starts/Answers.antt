use Rattle.std.specs.Prelude.{Contains}
use Rattle.record_ledger.proofs.Images.{images_hold_records}
use Rattle.provider_node.specs.Staying.{RowIsAsLeft}
use Rattle.provider_node.proofs.Staying.{row_as_left, stay_in_a_service, stay_over_starts}
use Rattle.provider_node.proofs.laws.each_row_stays_over_starts.Goals as goal

pub returns-clause-service : goal.returns-clause-service
returns-clause-service g c = let rules = g.R.Rows.Standing.rules in
    stay_in_a_service rules (λ records r. Contains records r) (RowIsAsLeft rules) g.R.Role.answers (row_as_left rules)
    (images_hold_records rules) c.numbers_are_new.ensures

pub returns-clause-starts : goal.returns-clause-starts
returns-clause-starts g c = let rules = g.R.Rows.Standing.rules in
    stay_over_starts rules (λ records r. Contains records r) (RowIsAsLeft rules) g.R.Role.answers (row_as_left rules)
    (images_hold_records rules) c.numbers_are_new.ensures
