-- What is answered to a piece.
use Rattle.std.specs.Prelude.{◌≡◌, ℕ, List}
use Rattle.http_wire.specs.Requests.{Request, Reading, Whole, More, Refused, Reads}
use Rattle.conn_table.specs.declared.progress.Progress.{Progress}
use Rattle.conn_table.specs.declared.progress.Progress.TheVariants as progress

-- the answer, by what all the bytes of the connection are
abbrev pub progress_of : Reading → Progress
progress_of (Whole request) = progress.Ready
progress_of More = progress.Waiting
progress_of (Refused status) = progress.Refused status

-- the answer to a piece after which these are all the bytes
abbrev pub IsAnswer : List ℕ → Progress → Type 0
IsAnswer bytes answer = (reading : Reading) × Reads bytes reading × (answer ≡ progress_of reading)

-- the bytes are a whole request, with bytes behind it or without
abbrev pub IsWholeRequest : List ℕ → Type 0
IsWholeRequest bytes = (request : Request) × Reads bytes (Whole request)
