use Rattle.std.proofs.Common.{◌≡◌, ℕ, Ok, Some, ok_or, subst, sym, ap, ◌∙◌, arith}
use Rattle.provider_config.specs.IdpConfig.{idp_config, config_view}
use Rattle.provider_config.specs.IdpDrafts.{complete, config_from}
use Rattle.provider_config.proofs.IdpRunning.{at_first, few_named}
use Rattle.text_lines.proofs.Numbering.{AreSmall, small_numbers}
use Rattle.provider_config.proofs.idp_read.read_idp_config.Goals as goal

pub loop-said-init : goal.loop-said-init
loop-said-init c = record {
  config = (λ i. config_from (c.new-draft.ensures i) (c.new-lines.ensures i)) ∙ at_first c.args.text.now;
  small = subst AreSmall (sym c.new-lines.ensures) (small_numbers c.args.text.now (omega (arith, c.requires)));
}

pub returns-in-Some-complete-clause-few : goal.returns-in-Some-complete-clause-few
returns-in-Some-complete-clause-few c =
    let config = config_view c.in-Some-complete.lines in
    let found : complete c.loop-said.draft ≡ Some config = sym c.in-Some-complete.ensures.value in
    let spelled : idp_config c.args.text.now ≡ Ok config =
    sym c.loop-said.invariant.config ∙ ap (config_from c.loop-said.draft) c.in_default.ensures.0
    ∙ ap (λ o. ok_or {E = ℕ} o 0) found in
    few_named c.args.text.now config spelled
