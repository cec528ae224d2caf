use Rattle.std.proofs.Common.{◌≡◌, ◌≤◌, drop}
use Rattle.sp_setup.specs.Setup.{nothing, load}
use Rattle.sp_setup.proofs.Loading.{LeadsToAll}
use Rattle.sp_setup.proofs.loaded.Loaded.of_files.Given as goal

-- what is loaded so far is what the files before the place give
abbrev pub invariant-loop-file : goal.invariant-loop-file
invariant-loop-file g l = record {
  leads : LeadsToAll load (g.F.Files.holds l.fn.files) l.named (drop l.file-index l.named) nothing l.loaded;
  same : g.F.Files.holds l.files ≡ g.F.Files.holds l.fn.files;
  never_falls : g.F.Files.faults_of l.fn.files ≤ g.F.Files.faults_of l.files;
}
