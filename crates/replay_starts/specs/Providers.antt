-- Providers as the nodes of a replay.
use Rattle.std.specs.Prelude.{◌≡◌, false, Ok}
use Rattle.crash_disk.specs.Disk.{Image}
use Rattle.record_ledger.specs.Ledger.{ledger_in, taken}
use Rattle.record_ledger.specs.Rules.{RecordRules}
use Rattle.provider_node.specs.Step.{OwnsDisk, Provider}
use Rattle.schedule_replay.specs.Hosts.{Host, told}

-- A provider was started from an image: it holds the ledger that this is opened as, on a disk of its own.
pub record IsStartedFrom {Setup R : Type 0} (records : RecordRules R) (image : Image) (host : Host (Provider Setup R))
    : Type 0 where
  pub opened : taken (ledger_in records image) ≡ Ok host.node.ledger.held
  pub whole : host.node.ledger.broken ≡ false
  pub own : OwnsDisk records host.node (told host)
