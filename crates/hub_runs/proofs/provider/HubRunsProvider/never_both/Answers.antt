use Rattle.hub_runs.proofs.provider.HubRunsProvider.never_both.Goals as goal

pub returns : goal.returns
returns c = c.a_config_has_one_outcome.ensures.never_both
