-- How a run of the program ends that serves, and how one ends that does not.
use Rattle.std.proofs.Common.{◌≡◌, ◌≢◌, ℕ, ◌⊎◌, List, [], Option, Some, None, MatchOption, Ok, Err, append-nil, refl, sym, ap, subst}
use Rattle.saml_outside.specs.Files.{File}
use Rattle.crash_disk.specs.Disk.{Image, DiskState}
use Rattle.provider_run.specs.declared.ended.Ended.TheVariants as ends
use Rattle.provider_run.specs.Runs.{Outside}
use Rattle.saml_commands.specs.declared.status.Status.{Status}
use Rattle.saml_commands.specs.declared.status.Status.TheVariants as statuses
use Rattle.saml_commands.specs.Answers.{Answer, Printed, Refused, BadFile, Foreign, Usage, status_of}
use Rattle.saml_commands.specs.Running.{Command, Canon, Vouch, Check, Serve, Replay, Make, command_of, Does, DoesCommand, Carries, CommandCarries, OfCommand, Answers, Prints, EndsWith, EndsAfter, Accepts, AcceptsServing, IsRunnableBy, Records}
use Rattle.saml_commands.specs.Serving.{Ran, Unserved, RanProvider, RanReplay}
use Rattle.saml_commands.proofs.Answering.{weaker, answered, done_yes, settled}
use Rattle.saml_commands.proofs.Completeness.{Laws, accepted_yes, never_yes}

-- ---- what is answered names no fault of the disk or the link

not_disk_fault : (answer : Answer) → statuses.DiskFault ≡ status_of answer → ⊥
not_disk_fault (Printed text) e = cc
not_disk_fault (Refused verdict) e = cc
not_disk_fault (BadFile file line) e = cc
not_disk_fault (Foreign file place) e = cc
not_disk_fault Usage e = cc

not_link_fault : (answer : Answer) → statuses.LinkFault ≡ status_of answer → ⊥
not_link_fault (Printed text) e = cc
not_link_fault (Refused verdict) e = cc
not_link_fault (BadFile file line) e = cc
not_link_fault (Foreign file place) e = cc
not_link_fault Usage e = cc

pub no_disk_fault : (P : Answer → Type 0) (old new : Option (List ℕ)) (status : Status) → EndsWith P old new status → status ≡ statuses.DiskFault → ⊥
no_disk_fault P old new status h e = let at = subst (EndsWith P old new) e h in not_disk_fault at.0 at.2

pub no_link_fault : (P : Answer → Type 0) (old new : Option (List ℕ)) (status : Status) → EndsWith P old new status → status ≡ statuses.LinkFault → ⊥
no_link_fault P old new status h e = let at = subst (EndsWith P old new) e h in not_link_fault at.0 at.2

-- ---- behind what was done

pub nothing_printed : (taken : Option (List ℕ)) → Prints taken taken []
nothing_printed None = refl
nothing_printed (Some bytes) = ap (λ (b : List ℕ). Some b) (sym (append-nil bytes))

pub weaker_after : (ran : Ran) (P Q : Answer → Type 0) (old new : Option (List ℕ)) (status : Status) → ((answer : Answer) → P answer → Q answer) →
    EndsAfter ran P old new status → EndsAfter ran Q old new status
weaker_after Unserved P Q old new status f h = weaker P Q old new status f h
weaker_after (RanProvider role turns (Ok ended)) P Q old new status f h = (h.0, weaker P Q old new status f h.1)
weaker_after (RanProvider role turns (Err fault)) P Q old new status f h = h
weaker_after (RanReplay steps quiet sp_starts idp_starts result) P Q old new status f h = h

-- a command of the words is what the program does
pub done : (left : ℕ → Image → Type 0) (words : List (List ℕ)) (told : Option (List File)) (command : Command) → command_of words ≡ Some command →
    (before : Outside) (ran : Ran) (after : Outside) → DoesCommand left told command before ran after → Does left words told before ran after
done left words told command e before ran after h =
    subst (λ (o : Option Command). MatchOption o ((ran ≡ Unserved) × (after ≡ before)) (λ c. DoesCommand left told c before ran after)) (sym e) h

-- and what it carries is carried by the words
pub carried : (left : ℕ → Image → Type 0) (words : List (List ℕ)) (told : Option (List File)) (command : Command) → command_of words ≡ Some command →
    (before : Outside) (ran : Ran) (after : Outside) → CommandCarries left told command before ran after → Carries left words told before ran after
carried left words told command e before ran after h =
    subst (λ (o : Option Command). MatchOption o (Unit {0}) (λ c. CommandCarries left told c before ran after)) (sym e) h

-- without a command nothing is done but to say so
pub nothing_done : (left : ℕ → Image → Type 0) (words : List (List ℕ)) (told : Option (List File)) → command_of words ≡ None → (before : Outside) → Does left words told before Unserved before
nothing_done left words told e before =
    subst (λ (o : Option Command). MatchOption o ((Unserved ≡ Unserved) × (before ≡ before)) (λ c. DoesCommand left told c before Unserved before)) (sym e) (refl, refl)

-- ---- completeness

-- a command that neither serves nor replays
abbrev IsIdle : Command → Type 0
IsIdle (Serve role config events) = ⊥
IsIdle (Replay file) = ⊥
IsIdle (Make logins start) = ⊥
IsIdle command = Unit {0}

unserved : (left : ℕ → Image → Type 0) (told : Option (List File)) (command : Command) (before : Outside) (ran : Ran) (after : Outside) → IsIdle command →
    DoesCommand left told command before ran after → ran ≡ Unserved
unserved left told (Canon file id) before ran after idle h = h.0
unserved left told (Vouch file id key_file) before ran after idle h = h.0
unserved left told (Check config body now) before ran after idle h = h.0
unserved left told (Records role) before ran after idle h = h.0
unserved left told (Serve role config events) before ran after idle h = absurd idle
unserved left told (Replay file) before ran after idle h = absurd idle
unserved left told (Make logins start) before ran after idle h = absurd idle

accepted_idle : (words : List (List ℕ)) (told : Option (List File)) (command : Command) → command_of words ≡ Some command → Accepts words told → IsIdle command
accepted_idle words told (Canon file id) e h = tt
accepted_idle words told (Vouch file id key_file) e h = tt
accepted_idle words told (Check config body now) e h = tt
accepted_idle words told (Records role) e h = tt
accepted_idle words told (Serve role config events) e h =
    subst (λ (o : Option Command). MatchOption o (h.answer ≡ Usage) (λ c. OfCommand (Some h.files) Unserved c h.answer)) e h.answered
accepted_idle words told (Replay file) e h =
    never_yes file (Some h.files) h.answer (done_yes h.answer h.done)
    (subst (λ (o : Option Command). MatchOption o (h.answer ≡ Usage) (λ c. OfCommand (Some h.files) Unserved c h.answer)) e h.answered)
accepted_idle words told (Make logins start) e h =
    subst (λ (o : Option Command). MatchOption o (h.answer ≡ Usage) (λ c. OfCommand (Some h.files) Unserved c h.answer)) e h.answered

-- words that are accepted are done, or there was no memory
pub accepted_done : Laws → (left : ℕ → Image → Type 0) (words : List (List ℕ)) (told : Option (List File)) (command : Command) → command_of words ≡ Some command → Accepts words told →
    (before : Outside) (ran : Ran) (after : Outside) (old new : Option (List ℕ)) (status : Status) → DoesCommand left told command before ran after →
    EndsAfter ran (OfCommand told ran command) old new status → (status ≢ statuses.ReadFault) → (status ≢ statuses.WriteFault) →
    (status ≡ statuses.Done) ⊎ (status ≡ statuses.NoMemory)
accepted_done laws left words told command e accepted before ran after old new status does ends no_read no_write =
    let idle = unserved left told command before ran after (accepted_idle words told command e accepted) does in
    let plain : EndsWith (OfCommand told Unserved command) old new status =
    subst (λ (r : Ran). EndsAfter r (OfCommand told r command) old new status) idle ends in
    settled (Answers words told Unserved) old new status (accepted_yes laws words told accepted) no_read no_write
    (weaker (OfCommand told Unserved command) (Answers words told Unserved) old new status (answered words told Unserved command e) plain)

-- a command of the words that can be run
pub runnable : (words : List (List ℕ)) (told : Option (List File)) (disk : Option DiskState) (command : Command) → command_of words ≡ Some command →
    AcceptsServing words told disk → IsRunnableBy told disk command
runnable words told disk command e h =
    subst (λ (o : Option Command). MatchOption o ⊥ (λ c. IsRunnableBy told disk c)) e h
