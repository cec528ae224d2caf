-- What an image stands for has records of a ledger.
use Rattle.std.proofs.Common.{◌≡◌, ℕ, List, Option, None, Some, Result, Ok, Err}
use Rattle.gate_journal.specs.Format.{Kept, Fault, journal}
use Rattle.record_ledger.specs.Rules.{RecordRules, records_of}
use Rattle.record_ledger.specs.Ledger.{Held, with_records, held_of, some_held, of_journal}
use Rattle.record_ledger.specs.Laws.{ImagesHoldRecords}
use Rattle.record_ledger.proofs.Records.{records_of-are}

module _ {R : Type 0} (rules : RecordRules R) where
  held_is : (kept : Kept) (found : Result (List R) ℕ) (held : Held R) → with_records kept found ≡ Ok held → found ≡ Ok held.records
  held_is kept (Ok records) held e = cc
  held_is kept (Err n) held e = absurd (cc)

  some_is : (found : Result (Held R) Fault) (held : Held R) → some_held found ≡ Ok (Some held) → found ≡ Ok held
  some_is (Ok other) held e = cc
  some_is (Err fault) held e = absurd (cc)

  kept_is : (found : Result (Option Kept) Fault) (held : Held R) → of_journal rules found ≡ Ok (Some held) → (kept : Kept) × (held_of rules kept ≡ Ok held)
  kept_is (Ok None) held e = absurd (cc)
  kept_is (Ok (Some kept)) held e = (kept, some_is (held_of rules kept) held e)
  kept_is (Err fault) held e = absurd (cc)

  pub images_hold_records : ImagesHoldRecords rules
  images_hold_records image held e =
      let of = kept_is (journal image) held e in
      let kept = of.0 in
      (records_of-are rules kept.holds.version held.records kept.holds.payloads
      (held_is kept (records_of rules kept.holds.version kept.holds.payloads) held of.1)).0
