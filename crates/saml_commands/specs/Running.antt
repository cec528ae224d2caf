-- What a run of the program prints, and with which status it ends.
use Rattle.std.specs.Prelude.{◌≡◌, ◌≢◌, ℕ, ◌⊎◌, true, false, List, [], ◌∷◌, ◌++◌, take, Option, Some, None, MatchOption, Ok, Err, if◌then◌else◌, codes}
use Rattle.std.specs.Str.{bytes_eq}
use Rattle.std.specs.Option.{option_map, option_and_then}
use Rattle.xml_spec.specs.declared.TheConstants.{MAX_DOCUMENT_LENGTH}
use Rattle.saml_outside.specs.Files.{File}
use Rattle.verdict_codes.specs.declared.codes.Verdict.{Verdict}
use Rattle.crash_disk.specs.Disk.{Image, DiskState}
use Rattle.saml_time.specs.declared.TheConstants.{LAST}
use Rattle.text_lines.specs.Numbers.{number_of}
pub use Rattle.text_lines.specs.Numbers.{positive}
use Rattle.sp_setup.specs.declared.limits.TheConstants.{GREATEST_KEY}
use Rattle.provider_run.specs.Runs.{Outside}
use Rattle.saml_commands.specs.declared.limits.TheConstants.{MOST_EVENTS, MOST_START}
use Rattle.schedules.specs.Made.{made}
use Rattle.schedules.specs.declared.step.Step.{Step}
use Rattle.schedules.specs.declared.make.TheConstants.{MOST_LOGINS}
use Rattle.schedules.specs.declared.read.TheConstants.{MAX_SCHEDULE_LENGTH}
use Rattle.replay_runs.specs.Runs as replay
use Rattle.replay_runs.specs.Runs.{Goes}
use Rattle.saml_commands.specs.declared.status.Status.{Status}
use Rattle.saml_commands.specs.declared.status.Status.TheVariants as statuses
use Rattle.saml_commands.specs.Answers.{Answer, Refused, Usage, status_of, text_of}
use Rattle.saml_commands.specs.Canon.{OfCanon}
use Rattle.saml_commands.specs.Check.{OfCheck}
use Rattle.saml_commands.specs.Documents.{OfDocument}
use Rattle.saml_commands.specs.Reading.{OfFile}
use Rattle.saml_commands.specs.Serving.{HeadlineAs, IsRunnableAs, OfRun, Ran, RanProvider, RanReplay, RunsAs, Unserved, status_of_fault}
use Rattle.saml_commands.specs.Replay.{IsSchedule, OfSchedule, status_of_replay}
use Rattle.saml_commands.specs.Records.{OfRecords}
use Rattle.saml_commands.specs.declared.command.Role.{Role}
use Rattle.saml_commands.specs.declared.command.Role.TheVariants as roles
use Rattle.saml_commands.specs.Vouch.{OfVouch}

-- what the program is asked for: the canonical form of the element of a file that has this ID, or of the root; whether the
-- element of a file that has this ID is vouched for with the key in another file; what a provider with this config says at this
-- moment to the form in another file; the records of the journal in the folder, as those of this role; that a provider of this role
-- with this config serves, until so many events were taken; that a schedule is replayed, the one in a file or one that is made
pub data Command : Type 0 where
  Canon : (file : List ℕ) (id : Option (List ℕ)) → Command
  Vouch : (file id key_file : List ℕ) → Command
  Check : (config body : List ℕ) (now : ℕ) → Command
  Records : (role : Role) → Command
  Serve : (role : Role) (config : List ℕ) (events : ℕ) → Command
  Replay : (file : List ℕ) → Command
  Make : (logins start : ℕ) → Command

-- the role that a word says
abbrev pub role_of : List ℕ → Option Role
role_of word =
    if bytes_eq word (codes "sp") then Some roles.Sp
    else if bytes_eq word (codes "idp") then Some roles.Idp
    else if bytes_eq word (codes "hub") then Some roles.Hub else None

-- one word behind the name of a command
abbrev pub of_one : List ℕ → List ℕ → Option Command
of_one word first =
    if bytes_eq word (codes "canon") then Some (Canon first None)
    else if bytes_eq word (codes "records") then option_map Records (role_of first)
    else if bytes_eq word (codes "replay") then Some (Replay first) else None

-- two words behind the name of a command
abbrev pub of_two : List ℕ → List ℕ → List ℕ → Option Command
of_two word first second =
    if bytes_eq word (codes "canon") then Some (Canon first (Some second))
    else if bytes_eq word (codes "make") then
    option_and_then (λ logins. option_map (Make logins) (number_of MOST_START second)) (positive MOST_LOGINS first)
    else option_and_then (λ role. option_map (Serve role first) (positive MOST_EVENTS second)) (role_of word)

-- three words behind the name of a command
abbrev pub of_three : List ℕ → List ℕ → List ℕ → List ℕ → Option Command
of_three word first second third =
    if bytes_eq word (codes "vouch") then Some (Vouch first second third)
    else if bytes_eq word (codes "check") then option_map (Check first second) (number_of LAST third) else None

-- the command of the words `canon FILE`, `canon FILE ID`, `vouch FILE ID KEYFILE`, `check CONFIG BODYFILE NOW`, `records ROLE`,
-- `sp CONFIG EVENTS`, `idp CONFIG EVENTS`, `hub CONFIG EVENTS`, `replay SCHEDULE` and `make N START`
abbrev pub command_of : List (List ℕ) → Option Command
command_of (word ∷ first ∷ []) = of_one word first
command_of (word ∷ first ∷ second ∷ []) = of_two word first second
command_of (word ∷ first ∷ second ∷ third ∷ []) = of_three word first second third
command_of words = None

-- What a command does: `sp` runs a service provider, `idp` an identity provider, `hub` a hub, and the others leave all that is outside as
-- it is. `left` says of each moment of the disk, seen from the end, what a crash since then might have left. `replay` and `make` replay a
-- schedule, and also leave all that is outside as it is.
abbrev pub DoesCommand : (left : ℕ → Image → Type 0) → Option (List File) → Command → Outside → Ran → Outside → Type 0
DoesCommand left told (Serve role config events) before (RanProvider ran turns result) after =
    (ran ≡ role) × RunsAs ran left told config events before turns result after
DoesCommand left told (Serve role config events) before ran after = ⊥
DoesCommand left told (Replay file) before (RanReplay steps quiet sp_starts idp_starts result) after =
    IsSchedule told file steps × (quiet ≡ false) × (after ≡ before)
DoesCommand left told (Make logins start) before (RanReplay steps quiet sp_starts idp_starts result) after =
    (steps ≡ made logins start) × (quiet ≡ true) × (after ≡ before)
DoesCommand left told other before ran after = (ran ≡ Unserved) × (after ≡ before)

-- what the program does for words, by what the files tell
abbrev pub Does : (left : ℕ → Image → Type 0) → List (List ℕ) → Option (List File) → Outside → Ran → Outside → Type 0
Does left words told before ran after =
    MatchOption (command_of words) ((ran ≡ Unserved) × (after ≡ before)) (λ command. DoesCommand left told command before ran after)

-- What the program carries over what it did. Where it ran a service provider, sessions were opened exactly where a posted form opens
-- one, each of a login that was signed, and no two of one request; and they were closed exactly where their users left them or the
-- identity provider ended them, for good. Where it ran an identity provider, each Assertion was issued to a user with a password or a
-- session, each signed element is one of a record that was durable before it was sent, and sessions were ended exactly where their
-- users left them or a peer ended them, for good. Where it ran a hub, a login from above was passed on exactly where a posted form brings
-- it for a request of a provider below, with its name and its attributes and to that provider alone, and no request upwards backed two;
-- and each session below is of a login that the provider above recorded, where nobody else makes HMACs that match. What an answer of any
-- of them acknowledged is from then on, also inside later requests, in every image that a crash might leave. Where it replayed a schedule,
-- over both providers: the whole sentence that joins them.
abbrev pub CommandCarries : (left : ℕ → Image → Type 0) → Option (List File) → Command → Outside → Ran → Outside → Type 0
CommandCarries left told (Serve role config events) before (RanProvider ran turns result) after = HeadlineAs ran left told config before turns after
CommandCarries left told (Replay file) before (RanReplay steps quiet sp_starts idp_starts result) after = replay.Carries sp_starts idp_starts
CommandCarries left told (Make logins start) before (RanReplay steps quiet sp_starts idp_starts result) after =
    replay.Carries sp_starts idp_starts
CommandCarries left told command before ran after = Unit {0}

abbrev pub Carries : (left : ℕ → Image → Type 0) → List (List ℕ) → Option (List File) → Outside → Ran → Outside → Type 0
Carries left words told before ran after = MatchOption (command_of words) (Unit {0}) (λ command. CommandCarries left told command before ran after)

-- what a command is answered with: the files are read in the order in which they are named
abbrev pub OfCommand : Option (List File) → Ran → Command → Answer → Type 0
OfCommand told ran (Canon file id) answer = OfFile (OfDocument OfCanon id) told file MAX_DOCUMENT_LENGTH answer
OfCommand told ran (Vouch file id key_file) answer =
    OfFile (λ bytes. OfFile (OfVouch id key_file bytes) told key_file GREATEST_KEY) told file MAX_DOCUMENT_LENGTH answer
OfCommand told ran (Check config body now) answer = OfCheck told config body now answer
OfCommand told ran (Records role) answer = OfRecords role told answer
OfCommand told ran (Serve role config events) answer = OfRun ran answer
OfCommand told ran (Replay file) answer = OfFile (OfSchedule file) told file MAX_SCHEDULE_LENGTH answer
OfCommand told ran (Make logins start) answer = ⊥

-- what words are answered with, by what the files tell and what was done
abbrev pub Answers : List (List ℕ) → Option (List File) → Ran → Answer → Type 0
Answers words told ran answer = MatchOption (command_of words) (answer ≡ Usage) (λ command. OfCommand told ran command answer)

-- a refusal with the verdict that there is
abbrev pub IsVerdictOf : Option Verdict → Answer → Type 0
IsVerdictOf told answer = (verdict : Verdict) × (told ≡ Some verdict) × (answer ≡ Refused verdict)

-- this was appended to what a sink took, where it tells
abbrev pub Prints : Option (List ℕ) → Option (List ℕ) → List ℕ → Type 0
Prints old new text = new ≡ option_map (λ taken. taken ++ text) old

-- a part of what is printed of an answer, from its first byte on
abbrev pub PrintsPart : (Answer → Type 0) → Option (List ℕ) → Option (List ℕ) → Type 0
PrintsPart meaning old new = (answer : Answer) × (n : ℕ) × meaning answer × Prints old new (take n (text_of answer))

-- What a run ends with, and what it has printed then, where this is what it has to answer. With ReadFault nothing is printed,
-- with WriteFault and NoMemory a part of the text.
abbrev pub EndsWith : (Answer → Type 0) → Option (List ℕ) → Option (List ℕ) → Status → Type 0
EndsWith meaning old new statuses.ReadFault = Prints old new []
EndsWith meaning old new statuses.WriteFault = PrintsPart meaning old new
EndsWith meaning old new statuses.NoMemory = Prints old new [] ⊎ PrintsPart meaning old new
EndsWith meaning old new status =
    (answer : Answer) × meaning answer × (status ≡ status_of answer) × Prints old new (text_of answer)

-- What a run ends with behind what it did. A provider's run that ended early ends with the status of its fault, and nothing is
-- printed. A replay ends with the status of what it came to, and what is printed is what the steps and their answers print.
abbrev pub EndsAfter : Ran → (Answer → Type 0) → Option (List ℕ) → Option (List ℕ) → Status → Type 0
EndsAfter Unserved meaning old new status = EndsWith meaning old new status
EndsAfter (RanProvider role turns (Ok ended)) meaning old new status = (status ≢ statuses.ReadFault) × EndsWith meaning old new status
EndsAfter (RanProvider role turns (Err fault)) meaning old new status = (status ≡ status_of_fault fault) × Prints old new []
EndsAfter (RanReplay steps quiet sp_starts idp_starts result) meaning old new status =
    (status ≡ status_of_replay result) × Goes steps quiet sp_starts idp_starts result old new

-- the command serves
abbrev pub DoesServe : Option Command → Type 0
DoesServe (Some (Serve role config events)) = Unit {0}
DoesServe other = ⊥

-- the files tell, and what they tell is answered as in a run that is done
pub record Accepts (words : List (List ℕ)) (told : Option (List File)) : Type 0 where
  pub files : List File
  pub tells : told ≡ Some files
  pub answer : Answer
  pub answered : Answers words (Some files) Unserved answer
  pub done : status_of answer ≡ statuses.Done

abbrev pub IsRunnableBy : Option (List File) → Option DiskState → Command → Type 0
IsRunnableBy told disk (Serve role config events) = IsRunnableAs role told config disk
IsRunnableBy told disk (Replay file) = (files : List File) × (steps : List Step) × (told ≡ Some files) × IsSchedule told file steps
IsRunnableBy told disk (Make logins start) = Unit {0}
IsRunnableBy told disk other = ⊥

-- the words ask for a provider that can be run, or for a schedule that can be replayed
abbrev pub AcceptsServing : List (List ℕ) → Option (List File) → Option DiskState → Type 0
AcceptsServing words told disk = MatchOption (command_of words) ⊥ (λ command. IsRunnableBy told disk command)
