use Rattle.std.proofs.Common.{rules, sym}
use Rattle.idp_rows.specs.RowsOf.{rows_of}
use Rattle.idp_server.proofs.MayStand.{round_stands}
use Rattle.idp_server.proofs.TurnRows.{found_texts, turn_is}
use Rattle.idp_server.proofs.role.IdpRole.told.Goals as goal

pub follows-requires-clause-counted : goal.follows-requires-clause-counted
follows-requires-clause-counted c =
    (found_texts c.args.ledger.now.held c.as_str.result.now c.as_str-2.result.now c.args.now c.in-Some.row.now
    c.holds_records.ensures (sym c.in-Some.ensures.found)).counted

pub follows-requires-clause-turn : goal.follows-requires-clause-turn
follows-requires-clause-turn c =
    let held = c.args.ledger.now.held in
    (turn_is (rows_of held.records).rounds c.as_str.result.now c.as_str-2.result.now c.args.now held.header.horizon
    c.in-Some.row.now (sym c.in-Some.ensures.found)).within

pub returns : goal.returns
returns c =
    let held = c.args.ledger.now.held in
    let row = c.in-Some.row.now in
    record {
      fanout = search rules;
      row = row;
      waits = search rules;
      next = c.in_ok-follows.field-0;
      is = search rules;
      next_is = search rules;
      texts = round_stands c.what_is_recorded_may_stand.ensures.texts row
          (found_texts held c.as_str.result.now c.as_str-2.result.now c.args.now row c.holds_records.ensures
          (sym c.in-Some.ensures.found));
    }
