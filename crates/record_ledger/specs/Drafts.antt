-- Why a record is not drafted.
use Rattle.std.specs.Prelude.{◌≡◌, ℕ, ◌-◌, ◌^◌, ◌≤◌, ◌<◌, min, Bool, true, false, nat_le, List, length, All, Option, None, Some, Result, Ok, Err}
use Rattle.ledger_rules.specs.declared.fault.DraftFault.{DraftFault}
use Rattle.ledger_rules.specs.declared.fault.DraftFault.TheVariants.{LedgerFull, JournalFull, NoMemory}
use Rattle.ledger_rules.specs.Numbers.{Drawn, NUMBER_END}
use Rattle.record_ledger.specs.Rules.{RecordRules, RowRules}
use Rattle.record_ledger.specs.Ledger.{Held, OpenedLedger, next_number, room_left, IsFitting, CanCommit}
use Rattle.std.specs.Option.{option_map_or}

-- how many rows of one kind may be kept
abbrev pub MOST_ROWS : ℕ
MOST_ROWS = 65536

-- a length, or the greatest number of eight bytes where it is longer
abbrev pub capped : ℕ → ℕ
capped n = min n (2 ^ 64 - 1)

module _ {R : Type 0} (rules : RecordRules R) where
  -- whether these records have as many rows of a record's kind as there may be, or more
  abbrev pub is_full : List R → R → Bool
  is_full records r = option_map_or (nat_le MOST_ROWS) (rules.rows_of_kind records r) false

  -- Why a record is not drafted, the first of these that holds: as many rows of its kind are kept as there may be; it does not
  -- fit. Want of memory may come in place of each.
  abbrev pub IsCause : {S : Type 0} → OpenedLedger R S → R → DraftFault → Type 0
  IsCause ledger r (LedgerFull kept) = (is_full ledger.held.records r ≡ true) × (rules.rows_of_kind ledger.held.records r ≡ Some kept)
  IsCause ledger r (JournalFull long room next) =
      (is_full ledger.held.records r ≡ false) × ¬ (IsFitting rules ledger.held r)
      × (long ≡ capped (length (rules.bytes 2 r))) × (room ≡ room_left rules ledger.held) × (next ≡ next_number rules ledger.held)
  IsCause ledger r NoMemory = Unit {0}

  -- A record that may be drafted: one of the ledger where its numbers are below the end, and these were not drawn before.
  pub record IsDraftable (held : Held R) (r : R) : Type 0 where
    pub numbers : All (λ (d : Drawn). next_number rules held ≤ d.number) (rules.drawn r)
    pub is : All (λ (d : Drawn). d.number < NUMBER_END) (rules.drawn r) → rules.is_record held.records r ≡ true

-- a draft call changes nothing but the memory that is ready
pub record SameLedger {R S : Type 0} (old new : OpenedLedger R S) : Type 0 where
  pub held : new.held ≡ old.held
  pub key : new.key ≡ old.key
  pub broken : new.broken ≡ old.broken

module _ {R S : Type 0} (rules : RecordRules R) (row_rules : RowRules R S) where
  -- a draft of this record, for which nothing but memory was missing, and which can be committed now
  pub record IsDraftOf (old new : OpenedLedger R S) (r drafted : R) : Type 0 where
    pub is : drafted ≡ r
    pub few : is_full rules old.held.records r ≡ false
    pub can : CanCommit rules row_rules new r

  -- what a draft call answers: a draft of this record, or the cause of the refusal
  abbrev pub Drafts : OpenedLedger R S → OpenedLedger R S → R → Result R DraftFault → Type 0
  Drafts old new r (Ok drafted) = IsDraftOf old new r drafted
  Drafts old new r (Err fault) = IsCause rules old r fault

  -- the same where there may be nothing to record: none exactly there
  abbrev pub DraftsSome : OpenedLedger R S → OpenedLedger R S → (nothing : Bool) → R → Result (Option R) DraftFault → Type 0
  DraftsSome old new nothing r (Ok None) = nothing ≡ true
  DraftsSome old new nothing r (Ok (Some drafted)) = (nothing ≡ false) × IsDraftOf old new r drafted
  DraftsSome old new nothing r (Err NoMemory) = Unit {0}
  DraftsSome old new nothing r (Err (LedgerFull kept)) = (nothing ≡ false) × IsCause rules old r (LedgerFull kept)
  DraftsSome old new nothing r (Err (JournalFull long room next)) = (nothing ≡ false) × IsCause rules old r (JournalFull long room next)
