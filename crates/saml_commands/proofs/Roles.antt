-- A run of a provider, said of its role.
use Rattle.std.specs.Prelude.{ℕ, List, Option, Result}
use Rattle.saml_outside.specs.Files.{File}
use Rattle.crash_disk.specs.Disk.{DiskState}
use Rattle.crash_disk.specs.Moments.{DiskShown, LeavesOnly}
use Rattle.provider_run.specs.declared.ended.Ended.{Ended}
use Rattle.provider_run.specs.declared.ended.RunFault.{RunFault}
use Rattle.provider_run.specs.Runs.{Outside}
use Rattle.saml_commands.specs.declared.command.Role.{Role}
use Rattle.saml_commands.specs.Serving.{HeadlineAs, IsRunnableAs, RunLeavesAs, RunsAs, TurnsOf}

-- so it goes, carries its headline, and leaves
abbrev pub GoesAs : {D : Type 0} (shows : D → DiskShown) (old new : D) → Option (List File) → (config : List ℕ) → (events : ℕ)
    → (before : Outside) → Result Ended RunFault → (after : Outside) → Role → Type 0
GoesAs shows old new told config events before result after role =
    (turns : TurnsOf role)
    × RunsAs role (shows new).left_since told config events before turns result after
    × HeadlineAs role (shows new).left_since told config before turns after
    × LeavesOnly shows old new (RunLeavesAs role (shows old).told turns)

-- where it can be run, this holds
abbrev pub CompletesAs : Option (List File) → (config : List ℕ) → Option DiskState → Type 0 → Role → Type 0
CompletesAs told config disk rest role = IsRunnableAs role told config disk → rest
