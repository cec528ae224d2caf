use Rattle.sp_setup.proofs.loaded.Loaded.take_provider.Goals as goal

pub returns-in-None : goal.returns-in-None
returns-in-None c = rw c.in-None.is at c.in_ok-source.ensures
