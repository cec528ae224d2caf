use Rattle.std.proofs.Common.{◌∙◌, ap}
use Rattle.ledger_rules.specs.Texts.{is_among}
use Rattle.ledger_rules.proofs.TextSets.{ties_among}
use Rattle.ledger_rules.proofs.text_set.TextSet.holds.Goals as goal

pub returns : goal.returns
returns c = c.contains.ensures ∙ ties_among c.args.text.now c.self.inside.texts.keys ∙ ap (is_among c.args.text.now) c.self.view_is
