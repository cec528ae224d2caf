use Rattle.std.proofs.Common.{◌≡◌, ◌∙◌, ◌<◌, true, None, Some, length, set, get_or, sym, ap, subst, arith}
use Rattle.std.specs.Prelude.{IfSome}
use Rattle.std.specs.List.{slice_get}
use Rattle.ledger_rules.specs.Numbers.{has_number}
use Rattle.round_rows.specs.declared.row.RoundRow.{RoundRow}
use Rattle.round_rows.specs.declared.row.NextRequest.{NextRequest}
use Rattle.round_rows.specs.Rounds.{answered, id_of}
use Rattle.round_rows.proofs.Places.{answered_at, asked_next, asked_no_more, at_within, nowhere_waits, there_is}
use Rattle.round_rows.proofs.rows.RoundRows.tell.Goals as goal
use Rattle.round_rows.proofs.rows.RoundRows.tell.Goals.{After-index_mut-row}

pub unreachable-requires : goal.unreachable-requires
unreachable-requires c = nowhere_waits c.args.self.now.rows c.args.request.now c.in_default.ensures.none c.requires.waits

pub index_mut-row-requires : goal.index_mut-row-requires
index_mut-row-requires c =
    let within = at_within c.args.self.now.rows c.args.request.now c.in-Some.place c.in-Some.ensures.some in
    omega (arith, within, ap (λ v. length v.rows) c.self.view_is, c.self.inside.rows.ok.0)

-- the row that takes the answer, as it was
read : (c : After-index_mut-row) → c.index_mut-row.result.now ≡ get_or c.args.self.now.rows c.in-Some.place c.index_mut-row.result.now
read c = c.index_mut-row.ensures.value ∙ ap (λ v. get_or v.rows c.in-Some.place c.index_mut-row.result.now) c.self.view_is

there : (c : After-index_mut-row) → slice_get c.args.self.now.rows c.in-Some.place ≡ Some c.index_mut-row.result.now
there c = there_is c.args.self.now.rows c.args.request.now c.in-Some.place c.in-Some.ensures.some c.index_mut-row.result.now (read c)

pub take_answer-requires-clause-told : goal.take_answer-requires-clause-told
take_answer-requires-clause-told c =
    let at = (goal.at.take_answer-requires-clause-told c).After-index_mut-row in c.requires.few.told c.in-Some.place c.index_mut-row.result.now (there at)

pub take_answer-requires-clause-confirmed : goal.take_answer-requires-clause-confirmed
take_answer-requires-clause-confirmed c =
    let at = (goal.at.take_answer-requires-clause-confirmed c).After-index_mut-row in c.requires.few.confirmed c.in-Some.place c.index_mut-row.result.now (there at)

pub overflow_cast-place : goal.overflow_cast-place
overflow_cast-place c =
    let within = at_within c.args.self.now.rows c.args.request.now c.in-Some.place c.in-Some.ensures.some in
    omega (arith, within, c.requires.few.rows_are)

pub invariant_of-self : goal.invariant_of-self
invariant_of-self c =
    let within = at_within c.args.self.now.rows c.args.request.now c.in-Some.place c.in-Some.ensures.some in
    let inside : c.in-Some.place < length c.self.inside.rows.items = omega (arith, within, ap (λ v. length v.rows) c.self.view_is) in
    let numbered : has_number c.in-Some-next.next.number c.in-Some-next.next.id ≡ true =
    subst (λ next. IfSome next (λ (n : NextRequest). has_number n.number n.id ≡ true)) c.in-Some-next.is c.requires.has in
    let has : has_number c.in-Some-next.next.number c.take_answer.new.self.request ≡ true =
    ap (λ (r : RoundRow). has_number c.in-Some-next.next.number r.request) c.take_answer.ensures ∙ numbered in
    rw (c.put.ensures.listed, c.in-Ok.ensures.items)
    (asked_next c.self.inside.rows.items c.self.inside.numbers.listed c.self.inside.places.items c.self.invariant c.in-Some-next.next.number c.in-Some.place c.take_answer.new.self inside has)

pub take_answer-requires-in-None-clause-told : goal.take_answer-requires-in-None-clause-told
take_answer-requires-in-None-clause-told c =
    let at = (goal.at.take_answer-requires-in-None-clause-told c).After-index_mut-row in c.requires.few.told c.in-Some.place c.index_mut-row.result.now (there at)

pub take_answer-requires-in-None-clause-confirmed : goal.take_answer-requires-in-None-clause-confirmed
take_answer-requires-in-None-clause-confirmed c =
    let at = (goal.at.take_answer-requires-in-None-clause-confirmed c).After-index_mut-row in
    c.requires.few.confirmed c.in-Some.place c.index_mut-row.result.now (there at)

pub invariant_of-self-in-None : goal.invariant_of-self-in-None
invariant_of-self-in-None c =
    let at = (goal.at.invariant_of-self-in-None c).After-index_mut-row in
    asked_no_more c.self.inside.rows.items c.self.inside.numbers.listed c.self.inside.places.items c.self.invariant c.in-Some.place c.index_mut-row.result.now c.take_answer-in-None.new.self
    (ap (λ v. slice_get v.rows c.in-Some.place) c.self.view_is ∙ there at) (ap (λ (r : RoundRow). r.request) c.take_answer-in-None.ensures)

pub returns-in-Ok-clause-rows : goal.returns-in-Ok-clause-rows
returns-in-Ok-clause-rows c =
    let at = (goal.at.returns-in-Ok-clause-rows c).After-index_mut-row in
    let rows = ap (λ v. v.rows) c.self.view_is in
    ap (λ rows. set rows c.in-Some.place c.take_answer.new.self) rows
    ∙ answered_at c.args.self.now.rows c.args.request.now c.in-Some.place c.in-Some.ensures.some c.index_mut-row.result.now c.take_answer.new.self (read at) c.requires.waits c.args.confirmed
    (Some c.in-Some-next.next.id) c.take_answer.ensures
    ∙ ap (λ next. answered c.args.request.now c.args.confirmed (id_of next) c.args.self.now.rows) (sym c.in-Some-next.is)

pub returns-in-None-clause-rows : goal.returns-in-None-clause-rows
returns-in-None-clause-rows c =
    let at = (goal.at.returns-in-None-clause-rows c).After-index_mut-row in
    let rows = ap (λ v. v.rows) c.self.view_is in
    ap (λ rows. set rows c.in-Some.place c.take_answer-in-None.new.self) rows
    ∙ answered_at c.args.self.now.rows c.args.request.now c.in-Some.place c.in-Some.ensures.some c.index_mut-row.result.now c.take_answer-in-None.new.self (read at) c.requires.waits c.args.confirmed
    None c.take_answer-in-None.ensures
    ∙ ap (λ next. answered c.args.request.now c.args.confirmed (id_of next) c.args.self.now.rows) (sym c.in-None.is)

pub returns-in-Ok-clause-only : goal.returns-in-Ok-clause-only
returns-in-Ok-clause-only c = (c.in-Some.place, c.in-Some.ensures.some)

pub returns-in-None-clause-only : goal.returns-in-None-clause-only
returns-in-None-clause-only c = (c.in-Some.place, c.in-Some.ensures.some)
