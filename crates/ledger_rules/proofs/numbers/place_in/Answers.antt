use Rattle.std.proofs.Common.{Option, ℕ, sym, subst}
use Rattle.ledger_rules.specs.Numbers.{IsPlaceOf}
use Rattle.ledger_rules.proofs.Places.{no_place, found_place}
use Rattle.ledger_rules.proofs.numbers.place_in.Goals as goal

pub returns-in_err-number : goal.returns-in_err-number
returns-in_err-number c =
    subst (λ (place : Option ℕ). IsPlaceOf c.args.numbers.now c.args.id.now place) (sym c.from_residual.ensures)
    (no_place c.args.numbers.now c.args.id.now (λ k. (c.type_inv.numbers k).fits) c.in_err-number.ensures)

pub returns : goal.returns
returns c =
    subst (λ (place : Option ℕ). IsPlaceOf c.args.numbers.now c.args.id.now place) (sym c.ok.ensures.value)
    (found_place c.args.numbers.now c.args.id.now (λ k. (c.type_inv.numbers k).fits) c.requires c.in_ok-number.number c.in_ok-number.ensures c.binary_search.result c.binary_search.ensures.position)
