use Rattle.provider_config.specs.Config.{config_view}
use Rattle.sp_setup.proofs.Completing.{is_set_up}
use Rattle.sp_setup.proofs.setup.set_up_by.Goals as goal

pub unreachable-requires : goal.unreachable-requires
unreachable-requires g c =
    is_set_up (g.F.Files.holds c.args.files.now) (config_view c.args.lines) c.in_ok-loaded.loaded c.requires
    (rw c.deref.ensures.value at c.in_ok-loaded.ensures.ok) c.in-None.ensures
