use Rattle.std.proofs.Common.{List, refl, sym, subst}
use Rattle.logout_turns.specs.declared.turns.Turn.{Turn}
use Rattle.idp_ledger.specs.Drafts.{AreXmlTurns}
use Rattle.idp_server.proofs.MayStand.{turns_stand}
use Rattle.idp_server.proofs.TurnTexts.{turns_allowed}
use Rattle.idp_server.proofs.role.IdpRole.ask_all.Goals as goal

pub returns : goal.returns
returns c =
    let turns_are = rw c.in-Some.is at c.in_ok-plan.ensures.turns in
    let plan = c.in-Some.plan in
    record {
      asks = sym (rw c.in-Some.is at c.in_ok-plan.ensures.some);
      plan = plan;
      is = refl;
      turns_are = turns_are;
      skips = rw c.in-Some.is at c.in_ok-plan.ensures.skipped;
      texts = turns_stand c.what_is_recorded_may_stand.ensures.texts plan.turns
          (subst (λ (ts : List Turn). AreXmlTurns ts) (sym turns_are)
          (turns_allowed c.args.self.now c.args.ledger.now.held c.args.asker c.args.cookies c.holds_records.ensures));
    }
