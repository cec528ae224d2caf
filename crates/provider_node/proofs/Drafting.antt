-- What a draft call of a ledger says, in the words of a step.
use Rattle.std.specs.Prelude.{Result, Ok, Err}
use Rattle.std.proofs.Common.{◌≡◌, Bool, true, false, if◌then◌else◌, Option, None, Some, refl, sym, subst, ap, ◌∙◌}
use Rattle.ledger_rules.specs.declared.fault.DraftFault.{DraftFault}
use Rattle.ledger_rules.specs.declared.fault.DraftFault.TheVariants.{LedgerFull, JournalFull, NoMemory}
use Rattle.record_ledger.specs.Rules.{RecordRules, RowRules}
use Rattle.record_ledger.specs.Ledger.{CanCommit, Held, IsFitting, OpenedLedger}
use Rattle.record_ledger.specs.Drafts.{DraftsSome, IsCause, IsDraftOf, SameLedger}
use Rattle.provider_node.specs.Drafted.{drafted_of}
use Rattle.provider_node.specs.Replies.{IsDrafted}
use Rattle.provider_node.specs.Step.{HasPlace, seen}

-- what there is to record, where there may be nothing
pub some_is : {R : Type 0} (nothing : Bool) (own r : R) → (if nothing then None else Some own) ≡ Some r → (nothing ≡ false)
    × (own ≡ r)
some_is true own r is = cc
some_is false own r is = (refl, let same : own ≡ r = cc in same)

-- a step sees the same ledger
pub seen_same : {R S : Type 0} (old new : OpenedLedger R S) → SameLedger old new → seen new ≡ seen old
seen_same old new same = λ i. record { held = same.held i; key = same.key i; broken = same.broken i }

module _ {R S : Type 0} (rules : RecordRules R) (row_rules : RowRules R S) where
  -- there is room for what is drafted
  place_of : (old new : OpenedLedger R S) (r drafted : R)
      → SameLedger old new → IsDraftOf rules row_rules old new r drafted → HasPlace rules old.held drafted
  place_of old new r drafted same is = subst (λ (x : R). HasPlace rules old.held x)
      (sym is.is) (record { few = is.few; fits = subst (λ (h : Held R). IsFitting rules h r) same.held is.can.fits })

  -- there is none where a draft is refused for it
  no_place : (old : OpenedLedger R S) (r : R) (wanted : Option R) (fault : DraftFault) → wanted ≡ Some r → IsCause
      rules old r fault → IsDrafted rules old.held (CanCommit rules row_rules old) wanted (drafted_of (Err fault))
  no_place old r wanted (LedgerFull kept) is cause =
      record { r = r; is = is; none = λ place. let clash = sym cause.0 ∙ place.few in cc }
  no_place old r wanted (JournalFull long room next) is cause =
      record { r = r; is = is; none = λ place. cause.1 place.fits }
  no_place old r wanted NoMemory is cause = tt

  -- where there may be nothing to record
  pub drafted_some : (old new : OpenedLedger R S) (nothing : Bool) (r : R) (wanted : Option R)
      (result : Result (Option R) DraftFault) → SameLedger old new → (nothing ≡ true → wanted ≡ None)
      → (nothing ≡ false → wanted ≡ Some r) → DraftsSome rules row_rules old new nothing r result
      → IsDrafted rules old.held (CanCommit rules row_rules new) wanted (drafted_of result)
  drafted_some old new nothing r wanted (Ok None) same none some drafts = none drafts
  drafted_some old new nothing r wanted (Ok (Some drafted)) same none some drafts = (
    some drafts.0 ∙ ap Some (sym drafts.1.is),
    subst (CanCommit rules row_rules new) (sym drafts.1.is) drafts.1.can,
    place_of old new r drafted same drafts.1,
  )
  drafted_some old new nothing r wanted (Err (LedgerFull kept)) same none some drafts =
      no_place old r wanted (LedgerFull kept) (some drafts.0) drafts.1
  drafted_some old new nothing r wanted (Err (JournalFull long room next)) same none some drafts =
      no_place old r wanted (JournalFull long room next) (some drafts.0) drafts.1
  drafted_some old new nothing r wanted (Err NoMemory) same none some drafts = tt
