-- Where the definition says yes to the words and the files, it says nothing else to them.
use Rattle.std.proofs.Common.{◌≡◌, ℕ, List, Option, Some, None, MatchOption, MatchResult, Result, Ok, Err, arith, inl, inr, sym, subst}
use Rattle.xml_spec.specs.Tree.{Nodes}
use Rattle.saml_outside.specs.Files.{File}
use Rattle.schedules.specs.declared.read.TheConstants.{MAX_SCHEDULE_LENGTH}
use Rattle.verdict_codes.specs.declared.codes.Verdict.{Verdict}
use Rattle.request_rows.specs.Rows.{RowsView}
use Rattle.request_rows.specs.declared.row.AskedRow.{AskedRow}
use Rattle.provider_config.specs.declared.line.Purpose.{Purpose}
use Rattle.provider_config.specs.declared.line.Purpose.TheVariants as purposes
use Rattle.sig_reference.specs.declared.fault.SigFault.{SigFault}
use Rattle.sig_reference.specs.declared.fault.SigFault.TheVariants as sigs
use Rattle.sig_reference.specs.Form.{Parts}
use Rattle.sig_reference.specs.Signature.{IsReferredTo, IsTagged, IsDigested, Vouches, IsUnvouched}
use Rattle.sig_reference.proofs.OneSignature.{one_signature}
use Rattle.fault_verdicts.specs.Verdicts.{of_signature}
use Rattle.sp_rules.specs.declared.config.SpConfig.{SpConfig}
use Rattle.sp_rules.specs.Opening.{Brought, Opens}
use Rattle.sp_rules.specs.Verdict.{IsRefused}
use Rattle.sp_setup.specs.Setup.{Setup, IsSetUp, IsBadSetUp}
use Rattle.saml_commands.specs.declared.limits.TheConstants.{GREATEST_BODY}
use Rattle.saml_commands.specs.Answers.{Answer, BadFile, Usage}
use Rattle.saml_commands.specs.Canon.{OfCanon}
use Rattle.saml_commands.specs.Check.{rows_of, OfJudged, OfCheck}
use Rattle.saml_commands.specs.Documents.{OfDocument}
use Rattle.saml_commands.specs.Vouch.{OfVouching, OfVouch}
use Rattle.schedules.specs.Schedules.{schedule}
use Rattle.schedules.specs.declared.step.Step.{Step}
use Rattle.saml_commands.specs.Reading.{OfFile}
use Rattle.saml_commands.specs.Replay.{OfSchedule}
use Rattle.saml_commands.specs.Running.{Command, Canon, Vouch, Check, Serve, Replay, Make, command_of, OfCommand, Answers, Accepts, Records}
use Rattle.saml_commands.specs.Serving.{Unserved}
use Rattle.saml_commands.proofs.RecordAnswers.{records_alone}
use Rattle.saml_commands.proofs.Alone.{SaysYesAlone, not_refused_too, not_bad_too, document_alone, file_alone}
use Rattle.saml_commands.proofs.Answering.{IsYes, done_yes}

canon_alone : (tree : Nodes) (node : ℕ) → SaysYesAlone (OfCanon tree node)
canon_alone tree node a b agrees p q = subst IsYes (sym q) tt

-- an element that is vouched for is not refused
vouched_not_unvouched : (key : List ℕ) (tree : Nodes) (node : ℕ) (parts : Parts) (fault : SigFault) (verdict : Verdict) → Vouches key tree node parts →
    IsUnvouched key tree node fault → of_signature fault ≡ Some verdict → ⊥
vouched_not_unvouched key tree node parts sigs.BadSignatureForm verdict v u e = u parts v.form
vouched_not_unvouched key tree node parts sigs.BadReference verdict v u e =
    u.2 (subst (IsReferredTo tree node) (one_signature tree node parts u.0 v.form u.1) v.reference)
vouched_not_unvouched key tree node parts sigs.TagDiffers verdict v u e =
    u.3 (subst (IsTagged key tree) (one_signature tree node parts u.0 v.form u.1) v.tag)
vouched_not_unvouched key tree node parts sigs.DigestDiffers verdict v u e =
    u.4 (subst (IsDigested tree node) (one_signature tree node parts u.0 v.form u.1) v.digest)
vouched_not_unvouched key tree node parts sigs.NoMemory verdict v u e = cc

vouching_alone : (key : List ℕ) (tree : Nodes) (node : ℕ) → SaysYesAlone (OfVouching key tree node)
vouching_alone key tree node a b agrees (inl p) (inl q) = subst IsYes (sym q.2) tt
vouching_alone key tree node a b agrees (inl p) (inr q) = absurd (vouched_not_unvouched key tree node p.0 q.0 q.1 p.1 q.2 q.3)
vouching_alone key tree node a b agrees (inr p) q = absurd (not_refused_too a p.1 agrees p.4)

vouch_alone : (id key_file bytes key : List ℕ) → SaysYesAlone (OfVouch id key_file bytes key)
vouch_alone id key_file bytes key a b agrees (inl p) q = absurd (not_bad_too a key_file 0 agrees p.1)
vouch_alone id key_file bytes key a b agrees (inr p) (inl q) = let long = p.0 in let short = q.0 in absurd (omega arith)
vouch_alone id key_file bytes key a b agrees (inr p) (inr q) =
    document_alone (OfVouching key) (Some id) bytes (vouching_alone key) a b agrees p.1 q.1

-- the laws that it takes: a form that opens a session is refused for nothing, and told files set a provider up in one way or in none
pub record Laws : Type 0 where
  pub opened : (config : SpConfig) (rows : RowsView) (horizon now : ℕ) (body : List ℕ) (b : Brought) (asked : AskedRow) (verdict : Verdict) →
      Opens config rows horizon now body b asked → ¬ (IsRefused config rows horizon now body verdict)
  pub set_up : (files : List File) (purpose : Purpose) (config : List ℕ) (one other : Setup) →
      IsSetUp (Some files) purpose config one → IsSetUp (Some files) purpose config other → one ≡ other
  pub never_both : (files : List File) (purpose : Purpose) (config : List ℕ) (one : Setup) (file : List ℕ) (line : ℕ) →
      IsSetUp (Some files) purpose config one → ¬ (IsBadSetUp (Some files) purpose config file line)

judged_alone : Laws → (rows : RowsView) (config : SpConfig) (now : ℕ) (body : List ℕ) → SaysYesAlone (OfJudged rows config now body)
judged_alone laws rows config now body a b agrees (inl p) (inl q) = subst IsYes (sym q.2) tt
judged_alone laws rows config now body a b agrees (inl p) (inr q) =
    absurd (laws.opened config rows 0 now body p.1.brought p.1.asked q.0 p.1.opens q.1)
judged_alone laws rows config now body a b agrees (inr p) q = absurd (not_refused_too a p.0 agrees p.2)

check_alone : Laws → (files : List File) (file body : List ℕ) (now : ℕ) → SaysYesAlone (OfCheck (Some files) file body now)
check_alone laws files file body now a b agrees (inl p) q = absurd (not_bad_too a p.0 p.1 agrees p.3)
check_alone laws files file body now a b agrees (inr p) (inl q) = absurd (laws.never_both files purposes.Check file p.0 q.0 q.1 p.1 q.2)
check_alone laws files file body now a b agrees (inr p) (inr q) =
    let rows : RowsView = rows_of q.0.lines.asked q.0.lines.opened in
    let same : OfFile (OfJudged rows q.0.config now) (Some files) body GREATEST_BODY a =
    subst (λ (s : Setup). OfFile (OfJudged (rows_of s.lines.asked s.lines.opened) s.config now) (Some files) body GREATEST_BODY a)
    (laws.set_up files purposes.Check file p.0 q.0 p.1 q.1) p.2
    in
    file_alone (OfJudged rows q.0.config now) files body GREATEST_BODY (judged_alone laws rows q.0.config now) a b agrees same q.2

-- bytes that are no schedule are not answered with yes
schedule_alone : (file bytes : List ℕ) → SaysYesAlone (OfSchedule file bytes)
schedule_alone file bytes a b agrees = which (schedule bytes)
  where
    which : (r : Result (List Step) ℕ) → MatchResult r (λ steps. ⊥) (λ line. a ≡ BadFile file line) →
        MatchResult r (λ steps. ⊥) (λ line. b ≡ BadFile file line) → IsYes b
    which (Ok steps) p q = absurd p
    which (Err line) p q = absurd (not_bad_too a file line agrees p)

-- nor is a file
pub never_yes : (file : List ℕ) (told : Option (List File)) (answer : Answer) → IsYes answer → OfFile (OfSchedule file) told file MAX_SCHEDULE_LENGTH answer → ⊥
never_yes file told answer agrees (inl p) = which (schedule p.0) p.2
  where
    which : (r : Result (List Step) ℕ) → MatchResult r (λ steps. ⊥) (λ line. answer ≡ BadFile file line) → ⊥
    which (Ok steps) m = m
    which (Err line) m = not_bad_too answer file line agrees m
never_yes file told answer agrees (inr p) = not_bad_too answer file 0 agrees p.1

command_alone : Laws → (files : List File) (command : Command) → SaysYesAlone (OfCommand (Some files) Unserved command)
command_alone laws files (Canon file id) =
    file_alone (OfDocument OfCanon id) files file _ (λ bytes. document_alone OfCanon id bytes canon_alone)
command_alone laws files (Vouch file id key_file) =
    file_alone (λ bytes. OfFile (OfVouch id key_file bytes) (Some files) key_file _) files file _
    (λ bytes. file_alone (OfVouch id key_file bytes) files key_file _ (vouch_alone id key_file bytes))
command_alone laws files (Check config body now) = check_alone laws files config body now
command_alone laws files (Records role) = records_alone files role
command_alone laws files (Serve role config events) = λ a b agrees p q. absurd p
command_alone laws files (Replay file) = file_alone (OfSchedule file) files file _ (schedule_alone file)
command_alone laws files (Make logins start) = λ a b agrees p q. absurd p

words_alone : Laws → (files : List File) (words : List (List ℕ)) → SaysYesAlone (Answers words (Some files) Unserved)
words_alone laws files words a b agrees = which (command_of words)
  where
    which : (o : Option Command) → MatchOption o (a ≡ Usage) (λ c. OfCommand (Some files) Unserved c a) →
        MatchOption o (b ≡ Usage) (λ c. OfCommand (Some files) Unserved c b) → IsYes b
    which None p q = absurd (subst IsYes p agrees)
    which (Some command) p q = command_alone laws files command a b agrees p q

-- words and files that are accepted are answered with yes alone
pub accepted_yes : Laws → (words : List (List ℕ)) (told : Option (List File)) → Accepts words told → (answer : Answer) → Answers words told Unserved answer → IsYes answer
accepted_yes laws words told h answer a =
    words_alone laws h.files words h.answer answer (done_yes h.answer h.done) h.answered (subst (λ o. Answers words o Unserved answer) h.tells a)
