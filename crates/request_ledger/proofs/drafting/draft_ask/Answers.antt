use Rattle.std.proofs.Common.{◌≡◌, ◌∙◌, ◌+◌, ◌<◌, length, refl, sym, ap, subst}
use Rattle.saml_ids.specs.IdText.{id_text}
use Rattle.saml_ids.specs.declared.Kind.TheVariants.{Request, Relay}
use Rattle.ledger_records.specs.declared.sp_record.Asked.{Asked}
use Rattle.ledger_rules.specs.Numbers.{NUMBER_END, is_xml_text}
use Rattle.request_ledger.specs.Ledger.{next_number}
use Rattle.record_ledger.proofs.Draftable.{id_long}
use Rattle.request_ledger.proofs.DraftedRecords.{asked_draftable, drafts_asked, number_behind}
use Rattle.request_ledger.proofs.drafting.draft_ask.Goals as goal

pub draft-requires : goal.draft-requires
draft-requires c =
    let first = c.next_number-first.result in
    let r : Asked = record { first = first; moment = c.args.now; until = c.args.now + 600000; target = c.in_ok-of.field-0; request = c.in_ok-of-2.field-0; relay = c.in_ok-of-3.field-0 } in
    let key = c.key-key.result.now in
    asked_draftable c.args.ledger.now.held key r c.next_number-first.ensures c.requires.moment (ap is_xml_text c.in_ok-of.ensures ∙ c.requires.text)
    (c.in_ok-of-2.ensures ∙ c.as_str.ensures.value ∙ c.id_of-request.ensures)
    (λ below. c.in_ok-of-3.ensures ∙ c.as_str-2.ensures.value ∙ c.id_of-relay.ensures ∙ ap (id_text key Relay) (number_behind first below))

pub returns-clause-drafts : goal.returns-clause-drafts
returns-clause-drafts c =
    let first = c.next_number-first.result in
    let next = next_number c.args.ledger.now.held in
    let r : Asked = record { first = first; moment = c.args.now; until = c.args.now + 600000; target = c.in_ok-of.field-0; request = c.in_ok-of-2.field-0; relay = c.in_ok-of-3.field-0 } in
    let key = c.args.ledger.now.key in
    let same_key = c.key-key.ensures in
    let is_next = c.next_number-first.ensures in
    let request : r.request ≡ id_text key Request next =
    c.in_ok-of-2.ensures ∙ c.as_str.ensures.value ∙ c.id_of-request.ensures
    ∙ ap (λ k. id_text k Request first) same_key ∙ ap (id_text key Request) is_next in
    let relay = c.in_ok-of-3.ensures ∙ c.as_str-2.ensures.value ∙ c.id_of-relay.ensures in
    let long : length r.relay ≡ 57 = ap length relay ∙ id_long c.key-key.result.now Relay _ in
    let relay_is : next + 1 < NUMBER_END → r.relay ≡ id_text key Relay (next + 1) = λ below.
    let below_first : first + 1 < NUMBER_END = subst (λ n. n + 1 < NUMBER_END) (sym is_next) below in
    relay ∙ ap (id_text c.key-key.result.now Relay) (number_behind first below_first)
    ∙ ap (λ k. id_text k Relay (first + 1)) same_key ∙ ap (λ n. id_text key Relay (n + 1)) is_next in
    drafts_asked c.args.ledger.now c.draft.new.self r key next c.args.now c.args.target.now c.draft.result is_next refl refl c.in_ok-of.ensures request long relay_is c.draft.ensures.drafts
