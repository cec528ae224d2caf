use Rattle.std.proofs.Common.{◌≡◌, Some, inl, inr, refl, sym, ◌∙◌, ap}
use Rattle.provider_config.specs.HubViews.{config_view}
use Rattle.hub_setup.specs.Setup.{set_up_by}
use Rattle.hub_setup.proofs.Completing.{is_set_up}
use Rattle.sp_setup.proofs.Telling.{told}
use Rattle.hub_setup.proofs.setup.set_up_by.Goals as goal

pub returns-in-Some-clause-err : goal.returns-in-Some-clause-err
returns-in-Some-clause-err g c =
    let held = g.F.Files.holds c.args.files.now in
    let loaded = c.in_ok-loaded.loaded in
    let all = rw c.deref.ensures.value at c.in_ok-loaded.ensures.ok in
    let line : loaded.read.doubled ≡ Some c.from.result = c.in-Some.is ∙ ap Some (sym c.from.ensures) in
    told ((set_up_by c.args.file.now (config_view c.args.lines)).fails held) (g.F.Files.faults_of c.args.files.now) (g.F.Files.faults_of c.of_files.new.files)
    c.args.file.now c.from.result c.bad_file.result (inr (loaded, all, inl (refl, line))) c.bad_file.ensures

pub unreachable-requires : goal.unreachable-requires
unreachable-requires g c =
    is_set_up (g.F.Files.holds c.args.files.now) (config_view c.args.lines) c.in_ok-loaded.loaded refl c.requires
    (rw c.deref.ensures.value at c.in_ok-loaded.ensures.ok) (sym c.config_of.ensures ∙ c.in-None.is)
