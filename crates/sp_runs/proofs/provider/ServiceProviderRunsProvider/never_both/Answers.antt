use Rattle.provider_config.specs.declared.line.Purpose.TheVariants.{Serve}
use Rattle.sp_runs.proofs.provider.ServiceProviderRunsProvider.never_both.Goals as goal

pub returns : goal.returns
returns c = λ files config role file line served bad.
    c.a_config_has_one_outcome.ensures.never_both files Serve config served.setup file line served.is bad
