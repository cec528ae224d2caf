-- A ledger that is made anew with what is kept.
use Rattle.std.specs.Prelude.{IsOk}
use Rattle.std.proofs.Common.{◌≡◌, ℕ, ◌<◌, max, Bool, List, length, Result, Ok, inl, inr, refl, sym, ap, ◌∙◌, subst, arith}
use Rattle.crash_disk.specs.Disk.{Image}
use Rattle.gate_journal.specs.Format.{Kept}
use Rattle.gate_journal.specs.Journal.{Fits, IsOldOrNew, made_anew}
use Rattle.ledger_rules.specs.Kept.{selected}
use Rattle.record_ledger.specs.Rules.{RecordRules, records_of}
use Rattle.record_ledger.specs.Laws.{KeptAreRecords}
use Rattle.record_ledger.specs.Ledger.{Held, next_number, ledger_in}
use Rattle.record_ledger.specs.Keeping.{ok_records, records_in, held_in, StandsFor}
use Rattle.record_ledger.specs.Compacting.{IsCompacted, IsOldOrCompacted, LAST_GENERATION, AreFlags}
use Rattle.record_ledger.specs.Choosing.{AreRead, IsChosen}
use Rattle.record_ledger.proofs.Records.{records_of-length}
use Rattle.record_ledger.proofs.Committing.{its_records, stands_there, sizes_least}
use Rattle.record_ledger.proofs.CompactLaws.{selected_map, kept_fits, kept_read}

pub few_payloads : (payloads : List (List ℕ)) → Fits payloads → length payloads < 4294967295
few_payloads payloads fits = omega (arith, fits.file, sizes_least payloads)

pub flags_fit : (kept : Kept) (flags : List Bool) (payloads : List (List ℕ)) → Fits kept.holds.payloads → payloads ≡ selected flags kept.holds.payloads → Fits payloads
flags_fit kept flags payloads fits is = subst Fits (sym is) (kept_fits flags kept.holds.payloads fits)

module _ {R S : Type 0} (rules : RecordRules R) (stands : S → List R → Type 0) (keeps : KeptAreRecords rules) where
  pub its_read : (kept : Kept) (standing : S) → StandsFor rules stands kept.holds standing → AreRead rules kept.holds.payloads
  its_read kept standing s = record { records = s.records; are = s.are }

  -- the flags of the records of a journal
  abbrev AreItsFlags : ℕ → Kept → List Bool → Type 0
  AreItsFlags now kept flags = (records : List R) → records_of rules 2 kept.holds.payloads ≡ Ok records → AreFlags rules now kept.holds.header.horizon records flags

  module _ (now : ℕ) (kept : Kept) (read : AreRead rules kept.holds.payloads) (flags : List Bool) (are : AreItsFlags now kept flags) where
    pub flags_long : length flags ≡ length kept.holds.payloads
    flags_long = (are read.records read.are).long ∙ records_of-length rules 2 read.records kept.holds.payloads read.are

    pub flags_read : (payloads : List (List ℕ)) → payloads ≡ selected flags kept.holds.payloads → AreRead rules payloads
    flags_read payloads is = record {
      records = selected flags read.records;
      are = ap (records_of rules 2) is ∙ kept_read rules keeps now kept.holds.header.horizon kept.holds.payloads read.records flags read.are (are read.records read.are);
    }

  module _ (now : ℕ) (kept : Kept) (standing : S) (s : StandsFor rules stands kept.holds standing) (payloads : List (List ℕ)) (chosen : S) (is : IsChosen rules stands now kept payloads chosen) (horizon next : ℕ) where
    abbrev anew : Kept
    anew = made_anew payloads horizon next kept

    chosen_read : records_of rules 2 payloads ≡ Ok (selected is.flags s.records)
    chosen_read = ap (records_of rules 2) is.payloads_are ∙ kept_read rules keeps now kept.holds.header.horizon kept.holds.payloads s.records is.flags s.are (is.are s.records s.are)

    pub stands_anew : StandsFor rules stands anew.holds chosen
    stands_anew =
        let both : ◌≡◌ {A = Result (List R) ℕ} (Ok is.stand.records) (Ok (selected is.flags s.records)) = sym is.stand.are ∙ chosen_read in
        let same : is.stand.records ≡ selected is.flags s.records = cc in
        record {
          version = refl;
          records = selected is.flags s.records;
          are = chosen_read;
          spelled = is.payloads_are ∙ ap (selected is.flags) s.spelled ∙ selected_map (rules.bytes 2) is.flags s.records;
          stand = subst (stands chosen) same is.stand.stand;
        }

    pub compacted : horizon ≡ max kept.holds.header.horizon now → next ≡ next_number rules (held_in rules kept) → IsCompacted rules now (held_in rules kept) (held_in rules anew)
    compacted at number =
        let records = records_in rules kept.holds in
        let read : records_of rules 2 kept.holds.payloads ≡ Ok records = s.are ∙ ap Ok (sym (its_records rules stands kept.holds standing s)) in
        let flags = is.are records read in
        record {
          file = refl;
          version = refl;
          generation = refl;
          horizon = at;
          next = number;
          records = record {
            flags = is.flags;
            long = flags.long;
            each = flags.each;
            are = ap ok_records (ap (records_of rules 2) is.payloads_are ∙ kept_read rules keeps now kept.holds.header.horizon kept.holds.payloads records is.flags read flags);
          };
        }

    pub old_or_compacted : horizon ≡ max kept.holds.header.horizon now → next ≡ next_number rules (held_in rules kept) → kept.holds.header.generation < LAST_GENERATION
        → (image : Image) → IsOldOrNew kept anew image → IsOldOrCompacted rules now (held_in rules kept) image
    old_or_compacted at number less image (inl old) = inl (stands_there rules stands kept standing image s old)
    old_or_compacted at number less image (inr new) = inr (held_in rules anew, inr (less, compacted at number), stands_there rules stands anew chosen image stands_anew new)

    pub leads : horizon ≡ max kept.holds.header.horizon now → next ≡ next_number rules (held_in rules kept) → kept.holds.header.generation < LAST_GENERATION → (held : Held R) → held_in rules kept ≡ held
        → (items : List (List ℕ)) → items ≡ payloads → (image : Image) → IsOldOrNew kept (made_anew items horizon next kept) image → IsOldOrCompacted rules now held image
    leads at number less held same items these image is_there =
        subst (λ h. IsOldOrCompacted rules now h image) same
        (old_or_compacted at number less image (subst (λ ps. IsOldOrNew kept (made_anew ps horizon next kept) image) these is_there))

  pub old_or_compacted_ok : (now : ℕ) (old : Held R) (image : Image) → IsOldOrCompacted rules now old image → IsOk (ledger_in rules image)
  old_or_compacted_ok now old image (inl is) = rw is refl
  old_or_compacted_ok now old image (inr (new, are, is)) = rw is refl
