use Rattle.std.proofs.Common.{◌∙◌, length, ap, subst}
use Rattle.ledger_rules.specs.Kept.{selected}
use Rattle.record_ledger.specs.Compacting.{AreFlags}
use Rattle.record_ledger.specs.Choosing.{AreStanding}
use Rattle.record_ledger.proofs.KeptRecords.{kept_are_records}
use Rattle.record_ledger.proofs.CompactSteps.{flags_long, flags_read, flags_fit, few_payloads}
use Rattle.record_ledger.specs.Rules.{StandReady}
use Rattle.record_ledger.proofs.compacting.choose.Goals as goal

pub payloads_of-requires : goal.payloads_of-requires
payloads_of-requires g c =
    ap length c.deref.ensures.value
    ∙ flags_long g.S.Standing.rules (StandReady g.S.Standing.row_rules) (kept_are_records g.S.Standing.rules c.laws_hold.ensures.kept) c.args.now c.args.journal.now.kept c.requires c.in_ok-flags.flags.items
    (λ records is. subst (λ h. AreFlags g.S.Standing.rules c.args.now h.horizon records c.in_ok-flags.flags.items) c.header.ensures (c.in_ok-flags.ensures records is))

pub standing_of-requires-clause-read : goal.standing_of-requires-clause-read
standing_of-requires-clause-read g c =
    flags_read g.S.Standing.rules (StandReady g.S.Standing.row_rules) (kept_are_records g.S.Standing.rules c.laws_hold.ensures.kept) c.args.now c.args.journal.now.kept c.requires c.in_ok-flags.flags.items
    (λ records is. subst (λ h. AreFlags g.S.Standing.rules c.args.now h.horizon records c.in_ok-flags.flags.items) c.header.ensures (c.in_ok-flags.ensures records is))
    c.deref-2.result.now (c.deref-2.ensures.value ∙ c.in_ok-payloads.ensures ∙ ap (λ fs. selected fs c.args.journal.now.kept.holds.payloads) c.deref.ensures.value)

pub standing_of-requires-clause-few : goal.standing_of-requires-clause-few
standing_of-requires-clause-few g c =
    few_payloads c.deref-2.result.now
    (flags_fit c.args.journal.now.kept c.in_ok-flags.flags.items c.deref-2.result.now c.records_fit.ensures.two
    (c.deref-2.ensures.value ∙ c.in_ok-payloads.ensures ∙ ap (λ fs. selected fs c.args.journal.now.kept.holds.payloads) c.deref.ensures.value))

pub returns : goal.returns
returns g c =
    let are = c.in_ok-payloads.ensures ∙ ap (λ fs. selected fs c.args.journal.now.kept.holds.payloads) c.deref.ensures.value in
    record {
      flags = c.in_ok-flags.flags.items;
      are = λ records is. subst (λ h. AreFlags g.S.Standing.rules c.args.now h.horizon records c.in_ok-flags.flags.items) c.header.ensures (c.in_ok-flags.ensures records is);
      payloads_are = are;
      stand = subst (λ ps. AreStanding g.S.Standing.rules (StandReady g.S.Standing.row_rules) ps c.in_ok-standing.standing) c.deref-2.ensures.value c.in_ok-standing.ensures;
      fits = flags_fit c.args.journal.now.kept c.in_ok-flags.flags.items c.in_ok-payloads.payloads.items c.records_fit.ensures.two are;
    }
