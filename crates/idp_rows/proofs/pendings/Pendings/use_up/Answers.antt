use Rattle.std.proofs.Common.{◌∙◌, false, ap, sym, refl}
use Rattle.idp_rows.specs.declared.row.PendingRow.{PendingRow}
use Rattle.idp_rows.specs.RowsOf.{used_if, used_where}
use Rattle.idp_rows.proofs.RowPlaces.{map_same, unmarked_or}
use Rattle.idp_rows.proofs.pendings.Pendings.use_up.Goals as goal
use Rattle.owned_values.specs.Options.{is_there}

pub returns-in_default-clause-rows : goal.returns-in_default-clause-rows
returns-in_default-clause-rows c =
    let rows = c.args.self.now.rows in
    sym (ap (λ p. used_where (λ (row : PendingRow). is_there row.pending p) rows) c.in_default.is
    ∙ map_same (λ (row : PendingRow). used_if false row) rows (λ k other there. λ i. record other { used = unmarked_or other.used false refl i }))
