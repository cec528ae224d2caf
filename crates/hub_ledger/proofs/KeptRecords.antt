-- What is kept of records of a ledger are records of a ledger.
use Rattle.std.proofs.Common.{◌≡◌, true, not, List, refl, sym, ◌∙◌}
use Rattle.std.proofs.lemmas.Bool.{and_parts, and_from, not-true, not_from_false}
use Rattle.ledger_records.specs.declared.hub_record.Backed.{Backed}
use Rattle.ledger_records.specs.declared.hub_record.HubRecord.{HubRecord}
use Rattle.ledger_records.specs.declared.hub_record.HubRecord.TheVariants as kinds
use Rattle.request_rows.specs.Rows.{is_spent}
use Rattle.record_ledger.specs.Marks.{Marked, all, kept, KeepsAll, StaysRecord}
use Rattle.record_ledger.proofs.KeptRecords as any
use Rattle.record_ledger.proofs.Words.{each_weaker}
use Rattle.record_ledger.proofs.Numbers.{fresh_below}
use Rattle.record_ledger.proofs.KeptMarks.{any_same, none_kept}
use Rattle.hub_ledger.specs.Naming.{names, names_routed}
use Rattle.hub_ledger.specs.RowsOf.{rows_of, asked_rows, below_rows, opened_rows}
use Rattle.hub_ledger.specs.Record.{is_free, is_routed, drawn, next_of, hub_rules}
use Rattle.hub_ledger.specs.Laws.{KeptAreRecords}
use Rattle.hub_ledger.proofs.Words.{backs, routes, routed_any, spent_any, parts, from_parts}
use Rattle.hub_ledger.proofs.Linking.{routes_names}

keeps_routed : (r : Backed) (marks : List (Marked HubRecord)) → KeepsAll (names_routed r.request) marks → KeepsAll (routes r) marks
keeps_routed r =
    each_weaker (λ (m : Marked HubRecord). names_routed r.request m.1 ≡ true → m.0 ≡ true) (λ (m : Marked HubRecord). routes r m.1 ≡ true → m.0 ≡ true)
    (λ m keeps here. keeps (routes_names r m.1 here))

-- the rows that a record names are there and free where all that it names is kept
free_kept : (marks : List (Marked HubRecord)) (r : HubRecord) → KeepsAll (names r) marks → is_free (rows_of (all marks)) r ≡ true
    → is_free (rows_of (kept marks)) r ≡ true
free_kept marks (kinds.Backed r) keeps free =
    let both = and_parts (is_routed (asked_rows (all marks)) (below_rows (all marks)) r) (not (is_spent (opened_rows (all marks)) r.request)) free in
    let unspent = sym (spent_any (all marks) r.request) ∙ not-true (is_spent (opened_rows (all marks)) r.request) both.1 in
    let routed = any_same (routes r) marks (keeps_routed r marks keeps) in
    and_from (is_routed (asked_rows (kept marks)) (below_rows (kept marks)) r) (not (is_spent (opened_rows (kept marks)) r.request))
    (routed_any (kept marks) r ∙ routed ∙ sym (routed_any (all marks) r) ∙ both.0)
    (not_from_false (is_spent (opened_rows (kept marks)) r.request)
    (spent_any (kept marks) r.request ∙ none_kept (backs r.request) marks unspent))
free_kept marks other keeps free = refl

pub record_kept : StaysRecord hub_rules
record_kept marks r are closed keeps is =
    let p = parts (all marks) r is in
    from_parts (kept marks) r (record {
      free = free_kept marks r keeps p.free;
      fresh = fresh_below (next_of (all marks)) (next_of (kept marks)) (drawn r) (any.next_kept hub_rules marks) p.fresh;
      texts = p.texts;
      dated = p.dated;
    })

pub kept_are_records : KeptAreRecords
kept_are_records = any.kept_are_records hub_rules record_kept
