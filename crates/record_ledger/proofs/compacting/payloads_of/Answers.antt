use Rattle.std.proofs.Common.{◌∙◌, ◌<◌, ◌≤◌, ◌++◌, ◌∷◌, [], true, false, length, take, get_or, sym, ap, subst, arith}
use Rattle.std.proofs.lemmas.List.{append-nil, get_or_default}
use Rattle.ledger_rules.specs.Kept.{selected}
use Rattle.record_ledger.proofs.CompactLaws.{selected_more, selected_all}
use Rattle.record_ledger.proofs.compacting.payloads_of.Goals as goal
use Rattle.record_ledger.proofs.compacting.payloads_of.Goals.{then-flags-place+in_ok-of+in_ok-push, else-flags-place}

pub loop-place-preserved : goal.loop-place-preserved
loop-place-preserved c =
    let items = c.args.journal.now.kept.holds.payloads in
    let flags = c.args.flags.now in
    let place = c.loop-place.place in
    let item = c.payload-item.result in
    let within = subst (λ ps. place < length ps) c.records-payload-items.ensures c.loop-place-test.true in
    let read = c.payload-item.is ∙ ap (λ ps. get_or ps place item) c.records-payload-items.ensures in
    elim c.if-flags-place.branch [
      | then-flags-place+in_ok-of+in_ok-push w ↦
          ap (λ v. v.items) w.payloads-is ∙ w.in_ok-push.ensures.items ∙ ap (λ ps. ps ++ w.in_ok-of.field-0 ∷ []) c.loop-place.invariant
          ∙ ap (λ p. selected (take place flags) (take place items) ++ p ∷ []) (w.in_ok-of.ensures ∙ w.as_slice.ensures)
          ∙ sym (selected_more flags items place true item (omega (arith, c.requires, within)) within (sym w.if-flags-place.true ∙ get_or_default flags place false true (omega (arith, c.requires, within))) read)
      | else-flags-place w ↦
          ap (λ v. v.items) w.payloads-is ∙ c.loop-place.invariant ∙ sym (append-nil (selected (take place flags) (take place items)))
          ∙ sym (selected_more flags items place false item (omega (arith, c.requires, within)) within (sym w.if-flags-place.false) read)
    ]

pub returns : goal.returns
returns c =
    c.loop-place.invariant
    ∙ selected_all c.args.flags.now c.args.journal.now.kept.holds.payloads c.loop-place.place c.requires
    (subst (λ ps. length ps ≤ c.loop-place.place) c.records-payload-items.ensures c.loop-place-test.false)
