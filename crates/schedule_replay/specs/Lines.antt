-- What is printed of a schedule.
use Rattle.std.specs.Prelude.{◌≡◌, ℕ, List, ◌++◌, codes, Result, Ok, Err}
use Rattle.std.specs.Fmt.{decimal}
use Rattle.gate_journal.specs.declared.fault.OpenFault.{OpenFault}
use Rattle.gate_journal.specs.declared.fault.OpenFault.TheVariants as faults
use Rattle.post_agent.specs.declared.seen.Seen.{Seen}
use Rattle.post_agent.specs.declared.seen.What.{What}
use Rattle.post_agent.specs.declared.seen.What.TheVariants as whats
use Rattle.post_agent.specs.declared.site.Site.{Site}
use Rattle.post_agent.specs.declared.site.Site.TheVariants.{Sp, Idp}
use Rattle.schedule_replay.specs.declared.tally.Tally.{Tally}

abbrev pub site_name : Site → List ℕ
site_name Sp = codes "sp"
site_name Idp = codes "idp"

-- what an answer shows; of a verdict its number
abbrev pub what_shown : What → List ℕ
what_shown (whats.Form field) = codes "form"
what_shown whats.Login = codes "login"
what_shown whats.Page = codes "page"
what_shown whats.End = codes "end"
what_shown whats.Moved = codes "moved"
what_shown (whats.Code number) = codes "code " ++ decimal number
what_shown whats.Status = codes "status"

-- a word for what an answer shows, but for a verdict
abbrev pub IsNamed : What → List ℕ → Type 0
IsNamed (whats.Code number) word = Unit {0}
IsNamed what word = word ≡ what_shown what

-- a line of the step of this number
abbrev pub line : ℕ → List ℕ → List ℕ
line number words = decimal number ++ codes " " ++ words ++ codes "\n"

-- an answer of a node
abbrev pub answer_words : Site → Seen → List ℕ
answer_words site seen = site_name site ++ codes " " ++ decimal seen.status ++ codes " " ++ what_shown seen.what

-- a node whose disk stopped
abbrev pub stopped_words : Site → List ℕ
stopped_words site = site_name site ++ codes " stopped"

-- how a call that opens or compacts ended: its own word, or its fault
abbrev pub result_words : List ℕ → Result (Unit {0}) OpenFault → List ℕ
result_words word (Ok _) = word
result_words word (Err faults.DiskFault) = codes "down"
result_words word (Err (faults.Foreign file place)) = codes "foreign"
result_words word (Err faults.NoMemory) = codes "starved"

-- the last line
abbrev pub summary : Tally → List ℕ
summary tally =
    codes "opened " ++ decimal tally.opened ++ codes " responses " ++ decimal tally.responses ++ codes " refused " ++ decimal tally.refused
    ++ codes " restarts " ++ decimal tally.restarts ++ codes "\n"
