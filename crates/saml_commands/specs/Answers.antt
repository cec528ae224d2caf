-- What the program answers, and what it prints of it.
use Rattle.std.specs.Prelude.{ℕ, List, ◌++◌, codes}
use Rattle.std.specs.Fmt.{decimal}
use Rattle.crash_disk.specs.declared.file_no.FileNo.{FileNo}
use Rattle.crash_disk.specs.declared.file_no.FileNo.TheVariants.{Zero, One}
use Rattle.verdict_codes.specs.Codes.{number_of, name_of}
pub use Rattle.saml_commands.specs.declared.answer.Answer.{Answer}
pub use Rattle.saml_commands.specs.declared.answer.Answer.TheVariants.{Printed, Refused, BadFile, Foreign, Usage}
use Rattle.saml_commands.specs.declared.status.Status.{Status}
use Rattle.saml_commands.specs.declared.status.Status.TheVariants as statuses

-- how the run ends
abbrev pub status_of : Answer → Status
status_of (Printed text) = statuses.Done
status_of (Refused verdict) = statuses.Refused
status_of (BadFile file line) = statuses.BadInput
status_of (Foreign file place) = statuses.ForeignJournal
status_of Usage = statuses.Usage

-- the number of a file of the disk
abbrev pub file_number : FileNo → ℕ
file_number Zero = 0
file_number One = 1

-- all that is printed
abbrev pub text_of : Answer → List ℕ
text_of (Printed text) = text
text_of (Refused verdict) = codes "refused " ++ decimal (number_of verdict) ++ codes " " ++ name_of verdict ++ codes "\n"
text_of (BadFile file line) = codes "bad " ++ file ++ codes " " ++ decimal line ++ codes "\n"
text_of (Foreign file place) = codes "foreign " ++ decimal (file_number file) ++ codes " " ++ decimal place ++ codes "\n"
text_of Usage = codes "usage\n"
