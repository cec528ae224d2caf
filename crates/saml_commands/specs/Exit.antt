-- The number that the program ends with.
use Rattle.std.specs.Prelude.{ℕ}
use Rattle.saml_commands.specs.declared.status.Status.{Status}
use Rattle.saml_commands.specs.declared.status.Status.TheVariants as statuses

-- the number of a status
abbrev pub exit_number : Status → ℕ
exit_number statuses.Done = 0
exit_number statuses.Refused = 1
exit_number statuses.Usage = 2
exit_number statuses.BadInput = 3
exit_number statuses.ReadFault = 4
exit_number statuses.WriteFault = 5
exit_number statuses.DiskFault = 6
exit_number statuses.LinkFault = 7
exit_number statuses.NoMemory = 8
exit_number statuses.ForeignJournal = 9
