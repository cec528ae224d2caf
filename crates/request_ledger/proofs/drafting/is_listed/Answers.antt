use Rattle.std.proofs.Common.{◌≡◌, ◌∙◌, [], sym, ap}
use Rattle.std.proofs.lemmas.Bool.{false≢true}
use Rattle.ledger_rules.specs.Texts.{is_among}
use Rattle.request_ledger.specs.Drafts.{is_listed}
use Rattle.request_ledger.proofs.RowTexts.{listed_some}
use Rattle.request_ledger.proofs.drafting.is_listed.Goals as goal

pub returns-in-Some : goal.returns-in-Some
returns-in-Some c =
    let some : c.args.indexes.now ≡ [] → ⊥ = λ none. false≢true (sym c.if-is_empty.false ∙ c.is_empty.ensures.1 none) in
    c.holds.ensures ∙ c.requires (c.as_str.result.now) ∙ ap (λ t. is_among t c.args.indexes.now) c.as_str.ensures ∙ sym (listed_some c.args.indexes.now c.in-Some.index some) ∙ ap (is_listed c.args.indexes.now) (sym c.in-Some.is)
