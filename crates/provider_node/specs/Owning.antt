-- That a provider can be opened from whatever a crash leaves of a disk that is its own.
use Rattle.std.specs.Prelude.{◌≡◌, Bool, true, false, MatchBool, IsOk, Option, None, Some, Ok}
use Rattle.std.proofs.Common.{refl, sym, subst}
use Rattle.crash_disk.specs.Disk.{DiskState, Image, IsSettled, MayLeave, image_of}
use Rattle.gate_journal.specs.Format.{journal}
use Rattle.record_ledger.specs.Rules.{RecordRules}
use Rattle.record_ledger.specs.Ledger.{Held, kept_of, ledger_in}
use Rattle.provider_node.specs.Node.{MayOpen}
use Rattle.provider_node.specs.Step.{Ledger, Owns}

module _ {R : Type 0} (rules : RecordRules R) where
  opens_each : (disk : DiskState) (held : Held R) (b : Bool)
      → MatchBool b ((image : Image) → MayLeave disk image → IsOk (ledger_in rules image)) (IsSettled disk
      × (ledger_in rules (image_of disk) ≡ Ok (Some held)) × (journal (image_of disk) ≡ Ok (Some (kept_of rules held))))
      → (image : Image) → MayLeave disk image → IsOk (ledger_in rules image)
  opens_each disk held true own image may = own image may
  opens_each disk held false own image may =
      subst (λ (i : Image). IsOk (ledger_in rules i)) (sym (own.0 image may)) (subst IsOk (sym own.1) refl)

  pub own_may_open : (told : Option DiskState) (ledger : Ledger R) → Owns rules told ledger → MayOpen rules told
  own_may_open None ledger own = tt
  own_may_open (Some disk) ledger own = opens_each disk ledger.held ledger.broken own
