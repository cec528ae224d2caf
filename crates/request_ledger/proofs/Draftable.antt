-- Records that may be drafted.
use Rattle.std.specs.Prelude.{IsTrue, ◌↔◌}
use Rattle.std.proofs.Common.{◌≡◌, ℕ, ◌+◌, ◌≤◌, true, ◌&&◌, nat_le, nat_lt, List, [], ◌∷◌, ◌∙◌, arith}
use Rattle.std.specs.List.{list_all, All}
use Rattle.std.proofs.lemmas.Bool.{le-leb, lt-ltb, ltb-true}
use Rattle.std.proofs.lemmas.List.Elements.{All-nil, All-cons, All-head, All-tail}
use Rattle.xml_spec.specs.Characters.{IsText}
use Rattle.ledger_records.specs.declared.sp_record.Asked.{Asked}
use Rattle.ledger_records.specs.declared.sp_record.SpRecord.{SpRecord}
use Rattle.ledger_records.specs.declared.sp_record.SpRecord.TheVariants as kinds
use Rattle.ledger_rules.specs.Numbers.{Drawn, are_fresh, is_xml_text}
use Rattle.record_ledger.proofs.Draftable as any
use Rattle.record_ledger.proofs.Draftable.{both, BelowEnd, HasItsNumber, fresh_drawn}
use Rattle.request_ledger.specs.RowsOf.{rows_of}
use Rattle.request_ledger.specs.Record.{drawn, texts, moment_of, LAST, is_free, next_of, request_rules}
use Rattle.request_ledger.specs.Ledger.{Held, next_number}
use Rattle.request_ledger.specs.Drafts.{IsDraftable}
use Rattle.request_ledger.proofs.RowLaws.{is_record-is}

pub two_below : (r : Asked) → IsTrue (nat_lt r.first 9223372036854775807) ↔ All BelowEnd (drawn (kinds.Asked r))
two_below r =
    let first : Drawn = record { number = r.first; id = r.request } in
    let second : Drawn = record { number = r.first + 1; id = r.relay } in (
      λ less.
          let is = ltb-true r.first 9223372036854775807 less in
          All-cons BelowEnd first (second ∷ []) (omega (arith, is)) (All-cons BelowEnd second [] (omega (arith, is)) (All-nil BelowEnd)),
      λ all.
          let is = All-head BelowEnd second [] (All-tail BelowEnd first (second ∷ []) all) in
          lt-ltb r.first 9223372036854775807 (omega (arith, is)),
    )

-- a document may hold a text that was read from one
pub text_is_allowed : (s : List ℕ) → IsText s → is_xml_text s ≡ true
text_is_allowed = any.text_is_allowed

pub draftable : (held : Held) (r : SpRecord) → is_free (rows_of held.records) r ≡ true → All (λ (d : Drawn). next_number held ≤ d.number) (drawn r) → All HasItsNumber (drawn r)
    → list_all is_xml_text (texts r) ≡ true → moment_of r ≤ LAST → IsDraftable held r
draftable held r free numbers have allowed moment = record {
  numbers = numbers;
  is = λ below.
      let fresh = fresh_drawn request_rules held r numbers below have in
      is_record-is held.records r
      ∙ both (is_free (rows_of held.records) r && are_fresh (next_of held.records) (drawn r) && list_all is_xml_text (texts r)) (nat_le (moment_of r) LAST)
      (both (is_free (rows_of held.records) r && are_fresh (next_of held.records) (drawn r)) (list_all is_xml_text (texts r)) (both (is_free (rows_of held.records) r) (are_fresh (next_of held.records) (drawn r)) free fresh) allowed)
      (le-leb (moment_of r) LAST moment);
}
