-- What `records` answers is determined by what the files tell.
use Rattle.std.proofs.Common.{◌≡◌, ℕ, Bool, true, false, List, [], Option, Some, None, IsSomeAnd, Result, Ok, Err, inl, inr, refl, sym, ap, ◌∙◌, subst}
use Rattle.saml_outside.specs.Files.{File, bytes_of}
use Rattle.gate_journal.specs.Format.{Committed, file_of}
use Rattle.record_ledger.specs.Rules.{RecordRules}
use Rattle.request_ledger.specs.Record.{request_rules}
use Rattle.idp_ledger.specs.Record.{idp_rules}
use Rattle.hub_ledger.specs.Record.{hub_rules}
use Rattle.record_lines.specs.Lines.{sp_line, idp_line}
use Rattle.record_lines.specs.HubLines.{hub_line}
use Rattle.saml_commands.specs.declared.command.Role.{Role}
use Rattle.saml_commands.specs.declared.command.Role.TheVariants as roles
use Rattle.saml_commands.specs.declared.limits.TheConstants.{GREATEST_JOURNAL}
use Rattle.saml_commands.specs.Answers.{Answer}
use Rattle.saml_commands.specs.Records.{OfJournalFile, OfBoth, OfFirst, OfLedger, OfRecords, IsTaken, held_as}
use Rattle.saml_commands.proofs.Answering.{IsYes}
use Rattle.saml_commands.proofs.Alone.{SaysYesAlone, some_is_one, none_is_not_some, too_long}

module _ (meaning : Result (Option Committed) ℕ → Answer → Type 0) (told : Option (List File)) (name : List ℕ) where
  -- what was read of a file is answered with what it holds
  pub taken : (fits : Bool) (bytes : List ℕ) → IsTaken told name fits bytes → (answer : Answer) → meaning (held_as fits bytes) answer → OfJournalFile meaning told name answer
  taken true bytes (inl r) answer h = inl (bytes, r, h)
  taken true bytes (inr r) answer h = inr (inl ((refl, r.1), subst (λ (b : List ℕ). meaning (file_of b) answer) r.0 h))
  taken false bytes r answer h = inr (inr ((refl, r.1), h))

  -- and it is answered with nothing else
  untaken : (answer : Answer) → OfJournalFile meaning told name answer
      → (fits : Bool) × (bytes : List ℕ) × IsTaken told name fits bytes × meaning (held_as fits bytes) answer
  untaken answer (inl (bytes, r, h)) = (true, bytes, inl r, h)
  untaken answer (inr (inl (r, h))) = (true, [], inr r, h)
  untaken answer (inr (inr (r, h))) = (false, [], r, h)

none_too_long : (o : Option (List ℕ)) (P : List ℕ → Type 0) → o ≡ None → IsSomeAnd o P → ⊥
none_too_long None P e h = h
none_too_long (Some bytes) P e h = cc

-- files that tell hold one thing under a name
one_held : (files : List File) (name : List ℕ) (fits others : Bool) (bytes more : List ℕ) → IsTaken (Some files) name fits bytes → IsTaken (Some files) name others more
    → held_as fits bytes ≡ held_as others more
one_held files name true true bytes more (inl r) (inl s) = ap file_of (some_is_one bytes more (bytes_of files name) r.1 s.1)
one_held files name true true bytes more (inl r) (inr s) = absurd (none_is_not_some bytes (bytes_of files name) r.1 s.1)
one_held files name true true bytes more (inr r) (inl s) = absurd (none_is_not_some more (bytes_of files name) s.1 r.1)
one_held files name true true bytes more (inr r) (inr s) = ap file_of (r.0 ∙ sym s.0)
one_held files name true false bytes more (inl r) s = absurd (too_long (bytes_of files name) bytes GREATEST_JOURNAL r.1 r.0 s.1)
one_held files name true false bytes more (inr r) s = absurd (none_too_long (bytes_of files name) _ r.1 s.1)
one_held files name false true bytes more r (inl s) = absurd (too_long (bytes_of files name) more GREATEST_JOURNAL s.1 s.0 r.1)
one_held files name false true bytes more r (inr s) = absurd (none_too_long (bytes_of files name) _ s.1 r.1)
one_held files name false false bytes more r s = refl

journal_alone : (meaning : Result (Option Committed) ℕ → Answer → Type 0) (files : List File) (name : List ℕ) → ((held : Result (Option Committed) ℕ) → SaysYesAlone (meaning held))
    → SaysYesAlone (OfJournalFile meaning (Some files) name)
journal_alone meaning files name alone a b agrees p q =
    let one = untaken meaning (Some files) name a p in
    let other = untaken meaning (Some files) name b q in
    let same = one_held files name one.0 other.0 one.1 other.1 one.2 other.2 in
    alone (held_as other.0 other.1) a b agrees (subst (λ held. meaning held a) same one.3) other.3

module _ {R : Type 0} (rules : RecordRules R) (line : R → List ℕ) (files : List File) where
  both_alone : (zero : Option Committed) (one : Result (Option Committed) ℕ) → SaysYesAlone (OfBoth rules line zero one)
  both_alone zero one a b agrees p q = subst IsYes (p ∙ sym q) agrees

  first_alone : (zero : Result (Option Committed) ℕ) → SaysYesAlone (OfFirst rules line (Some files) zero)
  first_alone (Ok zero) = journal_alone (OfBoth rules line zero) files _ (both_alone zero)
  first_alone (Err place) = λ a b agrees p q. absurd (subst IsYes p agrees)

  ledger_alone : SaysYesAlone (OfLedger rules line (Some files))
  ledger_alone = journal_alone (OfFirst rules line (Some files)) files _ first_alone

pub records_alone : (files : List File) (role : Role) → SaysYesAlone (OfRecords role (Some files))
records_alone files roles.Sp = ledger_alone request_rules sp_line files
records_alone files roles.Idp = ledger_alone idp_rules idp_line files
records_alone files roles.Hub = ledger_alone hub_rules hub_line files
