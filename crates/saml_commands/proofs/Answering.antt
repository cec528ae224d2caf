-- What is answered, and how a run ends with it.
use Rattle.std.specs.Prelude.{if◌then◌else◌}
use Rattle.std.proofs.Common.{◌≡◌, ◌≢◌, ℕ, ◌⊎◌, Bool, true, false, List, [], ◌∷◌, ◌++◌, Option, Some, Result, Ok, Err, IfOk, MatchOption, codes, append_assoc, inl, inr, refl, sym, subst}
use Rattle.saml_outside.specs.Files.{File, IsUnread}
use Rattle.saml_commands.specs.declared.status.Status.{Status}
use Rattle.saml_commands.specs.declared.status.Status.TheVariants as statuses
use Rattle.saml_commands.specs.Answers.{Answer, Printed, Refused, BadFile, Foreign, Usage, status_of}
use Rattle.saml_outside.specs.Files.{Reads}
use Rattle.saml_outside.specs.declared.reading.FileRead.TheVariants as reads
use Rattle.xml_spec.specs.Tree.{Nodes}
use Rattle.saml_tree.specs.Documents.{IsRefused}
use Rattle.saml_tree.specs.declared.node.TreeFault.{TreeFault}
use Rattle.fault_verdicts.specs.Verdicts.{of_document}
use Rattle.saml_commands.specs.Documents.{OfDocument}
use Rattle.saml_commands.specs.Reading.{OfFile}
use Rattle.saml_commands.specs.Serving.{Ran}
use Rattle.saml_commands.specs.Running.{Command, command_of, OfCommand, Answers, IsVerdictOf, EndsWith, PrintsPart}

pub if_ok_map : {T E : Type 0} (r : Result T E) (P Q : T → Type 0) → ((x : T) → P x → Q x) → IfOk r P → IfOk r Q
if_ok_map (Ok x) P Q f h = f x h
if_ok_map (Err e) P Q f h = h

pub line_is : (digits name : List ℕ) →
    codes "refused " ++ (digits ++ (32 ∷ (name ++ 10 ∷ []))) ≡ codes "refused " ++ digits ++ codes " " ++ name ++ codes "\n"
line_is digits name = simp append_assoc

pub bad_line_is : (file digits : List ℕ) →
    codes "bad " ++ (file ++ (32 ∷ (digits ++ 10 ∷ []))) ≡ codes "bad " ++ file ++ codes " " ++ digits ++ codes "\n"
bad_line_is file digits = simp append_assoc

pub foreign_line_is : (number digits : List ℕ) →
    codes "foreign " ++ (number ++ (32 ∷ (digits ++ 10 ∷ []))) ≡ codes "foreign " ++ number ++ codes " " ++ digits ++ codes "\n"
foreign_line_is number digits = simp append_assoc

-- why serving ended
abbrev pub why_ended : Bool → List ℕ
why_ended stopped = if stopped then codes "stopped" else codes "budget"

pub served_line_is : (digits : List ℕ) (stopped : Bool) →
    codes "served " ++ (digits ++ (32 ∷ (why_ended stopped ++ 10 ∷ [])))
    ≡ codes "served " ++ digits ++ (if stopped then codes " stopped\n" else codes " budget\n")
served_line_is digits true = simp append_assoc
served_line_is digits false = simp append_assoc

part : (P Q : Answer → Type 0) (old new : Option (List ℕ)) → ((answer : Answer) → P answer → Q answer) → PrintsPart P old new → PrintsPart Q old new
part P Q old new f h = (h.0, h.1, f h.0 h.2, h.3)

-- what ends with what one definition has to answer ends with what a wider one has
pub weaker : (P Q : Answer → Type 0) (old new : Option (List ℕ)) (status : Status) → ((answer : Answer) → P answer → Q answer) →
    EndsWith P old new status → EndsWith Q old new status
weaker P Q old new statuses.ReadFault f h = h
weaker P Q old new statuses.WriteFault f h = part P Q old new f h
weaker P Q old new statuses.NoMemory f (inl h) = inl h
weaker P Q old new statuses.NoMemory f (inr h) = inr (part P Q old new f h)
weaker P Q old new statuses.Done f h = (h.0, f h.0 h.1, h.2, h.3)
weaker P Q old new statuses.Refused f h = (h.0, f h.0 h.1, h.2, h.3)
weaker P Q old new statuses.Usage f h = (h.0, f h.0 h.1, h.2, h.3)
weaker P Q old new statuses.BadInput f h = (h.0, f h.0 h.1, h.2, h.3)
weaker P Q old new statuses.DiskFault f h = (h.0, f h.0 h.1, h.2, h.3)
weaker P Q old new statuses.LinkFault f h = (h.0, f h.0 h.1, h.2, h.3)
weaker P Q old new statuses.ForeignJournal f h = (h.0, f h.0 h.1, h.2, h.3)

-- and what ends with an answer of the definition
pub with_answer : (P : Answer → Type 0) (old new : Option (List ℕ)) (status : Status) (answer : Answer) → P answer →
    EndsWith (λ a. a ≡ answer) old new status → EndsWith P old new status
with_answer P old new status answer is h = weaker (λ a. a ≡ answer) P old new status (λ a e. subst P (sym e) is) h

-- the definition says yes
abbrev pub IsYes : Answer → Type 0
IsYes (Printed text) = Unit {0}
IsYes answer = ⊥

pub done_yes : (answer : Answer) → status_of answer ≡ statuses.Done → IsYes answer
done_yes (Printed text) e = tt
done_yes (Refused verdict) e = cc
done_yes (BadFile file line) e = cc
done_yes (Foreign file place) e = cc
done_yes Usage e = cc

only_done : (status : Status) (answer : Answer) → IsYes answer → status ≡ status_of answer → (status ≡ statuses.Done) ⊎ (status ≡ statuses.NoMemory)
only_done status (Printed text) agrees e = inl e
only_done status (Refused verdict) agrees e = absurd agrees
only_done status (BadFile file line) agrees e = absurd agrees
only_done status (Foreign file place) agrees e = absurd agrees
only_done status Usage agrees e = absurd agrees

-- where the definition says yes alone, a run that met no fault is done, or memory ran out
pub settled : (P : Answer → Type 0) (old new : Option (List ℕ)) (status : Status) → ((answer : Answer) → P answer → IsYes answer) →
    (status ≢ statuses.ReadFault) → (status ≢ statuses.WriteFault) → EndsWith P old new status → (status ≡ statuses.Done) ⊎ (status ≡ statuses.NoMemory)
settled P old new statuses.ReadFault agrees read write h = absurd (read refl)
settled P old new statuses.WriteFault agrees read write h = absurd (write refl)
settled P old new statuses.NoMemory agrees read write h = inr refl
settled P old new statuses.Done agrees read write h = only_done statuses.Done h.0 (agrees h.0 h.1) h.2
settled P old new statuses.Refused agrees read write h = only_done statuses.Refused h.0 (agrees h.0 h.1) h.2
settled P old new statuses.Usage agrees read write h = only_done statuses.Usage h.0 (agrees h.0 h.1) h.2
settled P old new statuses.BadInput agrees read write h = only_done statuses.BadInput h.0 (agrees h.0 h.1) h.2
settled P old new statuses.DiskFault agrees read write h = only_done statuses.DiskFault h.0 (agrees h.0 h.1) h.2
settled P old new statuses.LinkFault agrees read write h = only_done statuses.LinkFault h.0 (agrees h.0 h.1) h.2
settled P old new statuses.ForeignJournal agrees read write h = only_done statuses.ForeignJournal h.0 (agrees h.0 h.1) h.2

-- a command of the words is what they ask for
pub answered : (words : List (List ℕ)) (told : Option (List File)) (ran : Ran) (command : Command) → command_of words ≡ Some command →
    (answer : Answer) → OfCommand told ran command answer → Answers words told ran answer
answered words told ran command e answer h =
    subst (λ (o : Option Command). MatchOption o (answer ≡ Usage) (λ c. OfCommand told ran c answer)) (sym e) h

-- a file that is absent or too long can't be used
pub unread_bad : (meaning : List ℕ → Answer → Type 0) (told : Option (List File)) (file : List ℕ) (limit : ℕ) → IsUnread told file limit →
    OfFile meaning told file limit (BadFile file 0)
unread_bad meaning told file limit unread = inr (unread, refl)

pub read_whole : (meaning : List ℕ → Answer → Type 0) (told : Option (List File)) (file : List ℕ) (limit : ℕ) (bytes : List ℕ) →
    Reads told file limit reads.Whole bytes → (answer : Answer) → meaning bytes answer → OfFile meaning told file limit answer
read_whole meaning told file limit bytes r answer h = inl (bytes, r, h)

-- bytes that are refused
pub refused_document : (meaning : Nodes → ℕ → Answer → Type 0) (id : Option (List ℕ)) (bytes : List ℕ) (fault : TreeFault) → IsRefused bytes fault →
    (answer : Answer) → IsVerdictOf (of_document fault) answer → OfDocument meaning id bytes answer
refused_document meaning id bytes fault r answer h = inr (fault, h.0, r, h.1, h.2)
