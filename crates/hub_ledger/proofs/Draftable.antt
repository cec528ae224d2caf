-- Numbers of records below the end.
use Rattle.std.specs.Prelude.{IsTrue, ◌↔◌}
use Rattle.std.proofs.Common.{◌+◌, nat_lt, [], ◌∷◌, arith}
use Rattle.std.specs.List.{All}
use Rattle.std.proofs.lemmas.Bool.{lt-ltb, ltb-true}
use Rattle.std.proofs.lemmas.List.Elements.{All-nil, All-cons, All-head, All-tail}
use Rattle.ledger_records.specs.declared.hub_record.Routed.{Routed}
use Rattle.ledger_records.specs.declared.hub_record.Backed.{Backed}
use Rattle.ledger_records.specs.declared.hub_record.HubRecord.TheVariants as kinds
use Rattle.ledger_rules.specs.Numbers.{Drawn}
use Rattle.record_ledger.proofs.Draftable.{BelowEnd}
use Rattle.hub_ledger.specs.Record.{drawn}

pub two_below : (r : Routed) → IsTrue (nat_lt r.first 9223372036854775807) ↔ All BelowEnd (drawn (kinds.Routed r))
two_below r =
    let first : Drawn = record { number = r.first; id = r.request } in
    let second : Drawn = record { number = r.first + 1; id = r.relay } in (
      λ less.
          let is = ltb-true r.first 9223372036854775807 less in
          All-cons BelowEnd first (second ∷ []) (omega (arith, is)) (All-cons BelowEnd second [] (omega (arith, is)) (All-nil BelowEnd)),
      λ all.
          let is = All-head BelowEnd second [] (All-tail BelowEnd first (second ∷ []) all) in
          lt-ltb r.first 9223372036854775807 (omega (arith, is)),
    )

pub three_below : (r : Backed) → IsTrue (nat_lt r.first 9223372036854775806) ↔ All BelowEnd (drawn (kinds.Backed r))
three_below r =
    let first : Drawn = record { number = r.first; id = r.assertion } in
    let second : Drawn = record { number = r.first + 1; id = r.message } in
    let third : Drawn = record { number = r.first + 2; id = r.index } in (
      λ less.
          let is = ltb-true r.first 9223372036854775806 less in
          All-cons BelowEnd first (second ∷ third ∷ []) (omega (arith, is))
          (All-cons BelowEnd second (third ∷ []) (omega (arith, is)) (All-cons BelowEnd third [] (omega (arith, is)) (All-nil BelowEnd))),
      λ all.
          let is = All-head BelowEnd third [] (All-tail BelowEnd second (third ∷ []) (All-tail BelowEnd first (second ∷ third ∷ []) all)) in
          lt-ltb r.first 9223372036854775806 (omega (arith, is)),
    )
