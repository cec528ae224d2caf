use Rattle.std.specs.Prelude.{IfSome}
use Rattle.std.proofs.Common.{◌∙◌, ◌≤◌, length, refl, sym, subst, arith}
use Rattle.record_ledger.specs.Keeping.{records_in}
use Rattle.record_ledger.proofs.Committing.{few_records, stand_for}
use Rattle.record_ledger.specs.Rules.{StandReady}
use Rattle.record_ledger.proofs.ledger.RecordLedger.full_rows.Goals as goal

pub overflow_cast-result : goal.overflow_cast-result
overflow_cast-result g c =
    let kept = c.self.inside.journal.kept in
    let standing = c.self.inside.standing in
    let s = c.self.invariant.0 in
    let records = records_in g.S.Standing.rules kept.holds in
    let stand = stand_for g.S.Standing.rules (StandReady g.S.Standing.row_rules) kept standing records s refl in
    let is = sym (c.rows_of_kind.ensures records stand.0) ∙ c.in_ok-kept.was in
    let few = few_records g.S.Standing.rules (StandReady g.S.Standing.row_rules) kept.holds standing s c.records_fit.ensures.two.file in
    let most = subst (λ o. IfSome o (λ n. n ≤ length records)) is (c.laws_hold.ensures.rows records c.args.entry.now) in
    omega (arith, few, most)
