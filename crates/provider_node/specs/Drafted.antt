-- What became of a draft, from what a ledger answers to a call that drafts.
use Rattle.std.specs.Prelude.{Option, None, Some, Result, Ok, Err}
use Rattle.ledger_rules.specs.declared.fault.DraftFault.{DraftFault}
use Rattle.ledger_rules.specs.declared.fault.DraftFault.TheVariants as faults
use Rattle.provider_node.specs.declared.drafted.DraftOutcome.{DraftOutcome}
use Rattle.provider_node.specs.declared.drafted.DraftOutcome.TheVariants.{Ready, Nothing, NoPlace, NoMemory}

abbrev pub drafted_of : {D : Type 0} → Result (Option D) DraftFault → DraftOutcome D
drafted_of (Ok (Some draft)) = Ready draft
drafted_of (Ok None) = Nothing
drafted_of (Err (faults.LedgerFull kept)) = NoPlace
drafted_of (Err (faults.JournalFull long room next)) = NoPlace
drafted_of (Err faults.NoMemory) = NoMemory
