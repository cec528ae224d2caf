use Rattle.std.proofs.Common.{◌+◌, ap, sym, subst, arith}
use Rattle.ledger_rules.specs.Numbers.{AreBelow}
use Rattle.idp_rows.specs.Kept.{StandingView}
use Rattle.idp_rows.proofs.RowPlaces.{below_more, below_later}
use Rattle.idp_rows.proofs.RoundStanding.{fresh_next}
use Rattle.idp_rows.proofs.kept.KeptRows.put_told.Goals as goal

pub invariant_of-self : goal.invariant_of-self
invariant_of-self c =
    let r = c.args.r in
    let fresh = fresh_next c.args.self.now.rows c.args.self.now.next r c.in-Some.id c.in-Some.is c.requires.is in
    let least = fresh.least_is in
    let next = ap (λ (v : StandingView). v.next) c.self.view_is in (
      below_later c.self.inside.next (r.first + 1) c.self.inside.pendings.numbers c.self.invariant.0 (omega (arith, next, least)),
      below_later c.self.inside.next (r.first + 1) c.self.inside.sessions.numbers c.self.invariant.1 (omega (arith, next, least)),
      below_later c.self.inside.next (r.first + 1) c.self.inside.lefts.numbers c.self.invariant.2 (omega (arith, next, least)),
      subst (AreBelow (r.first + 1)) (sym c.tell.ensures.numbers)
          (below_more c.self.inside.next (r.first + 1) r.first c.self.inside.rounds.numbers c.self.invariant.3 (omega (arith, next, least)) (omega arith)),
      omega (arith, fresh.below),
    )
