use Rattle.std.proofs.Common.{◌≡◌, ◌||◌, bytes_eq, string_bytes, take, sym, ap, ◌∙◌}
use Rattle.std.specs.BTreeSet.{contains_text}
use Rattle.std.proofs.lemmas.List.{take_all}
use Rattle.std.proofs.lemmas.List.Folds.{list_any_more}
use Rattle.std.proofs.lemmas.Map.Text.{btree_set_updates_text}
use Rattle.ledger_rules.specs.Texts.{is_among}
use Rattle.ledger_rules.proofs.TextSets.{ties_among, one_more}
use Rattle.ledger_rules.proofs.text_set.TextSet.of.Goals as goal

pub loop-text-preserved : goal.loop-text-preserved
loop-text-preserved c = λ text.
    let items = c.as_slice-text-items.result.now in
    let i = c.loop-text.text-index in
    let item = c.text-item.result in
    let key = string_bytes c.in_ok-from_str.field-0 in
    let before = contains_text c.loop-text.set text in
    let key_is : key ≡ item = c.in_ok-from_str.ensures.ok ∙ c.as_str.ensures in
    btree_set_updates_text key c.loop-text.set c.insert.new.self _ c.in_ok-insert.ensures.updates text
    ∙ one_more (bytes_eq key text) before
    ∙ ap (λ b. b || bytes_eq key text) (c.loop-text.invariant text)
    ∙ ap (λ k. is_among text (take i items) || bytes_eq k text) (key_is ∙ c.text-item.is)
    ∙ sym (list_any_more (λ other. bytes_eq other text) items i item c.loop-text-test.true)

pub returns : goal.returns
returns c = λ text.
    sym (ties_among text c.loop-text.set.keys) ∙ c.loop-text.invariant text
    ∙ ap (is_among text) (take_all c.loop-text.text-index c.as_slice-text-items.result.now c.loop-text-test.false ∙ c.as_slice-text-items.ensures)
