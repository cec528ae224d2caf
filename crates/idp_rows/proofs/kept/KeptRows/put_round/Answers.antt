use Rattle.std.proofs.Common.{◌+◌, ap, sym, subst, arith}
use Rattle.ledger_rules.specs.Numbers.{AreBelow}
use Rattle.idp_rows.specs.Kept.{SessionsView, StandingView}
use Rattle.idp_rows.proofs.RowPlaces.{below_more, below_later}
use Rattle.idp_rows.proofs.RoundStanding.{fresh_answer, fresh_request}
use Rattle.idp_rows.proofs.kept.KeptRows.put_round.Goals as goal

pub put-requires-clause-has : goal.put-requires-clause-has
put-requires-clause-has c = (fresh_request c.args.self.now.rows c.args.self.now.next c.args.r c.requires.is).has

pub invariant_of-self : goal.invariant_of-self
invariant_of-self c =
    let r = c.args.r in
    let least = (fresh_answer c.args.self.now.rows c.args.self.now.next r c.requires.is).least_is in
    let next = ap (λ (v : StandingView). v.next) c.self.view_is in (
      below_later c.self.inside.next (r.first + 2) c.self.inside.pendings.numbers c.self.invariant.0 (omega (arith, next, least)),
      subst (λ (v : SessionsView). AreBelow (r.first + 2) v.numbers) (sym c.end_all.ensures)
          (below_later c.self.inside.next (r.first + 2) c.self.inside.sessions.numbers c.self.invariant.1 (omega (arith, next, least))),
      below_later c.self.inside.next (r.first + 2) c.self.inside.lefts.numbers c.self.invariant.2 (omega (arith, next, least)),
      subst (AreBelow (r.first + 2)) (sym c.put.ensures.numbers)
          (below_more c.self.inside.next (r.first + 2) (r.first + 1) c.self.inside.rounds.numbers c.self.invariant.3 (omega (arith, next, least)) (omega arith)),
      omega (arith, (fresh_request c.args.self.now.rows c.args.self.now.next r c.requires.is).below),
    )
