-- A journal whose payloads are records of the ledger, and one record more.
use Rattle.std.specs.Prelude.{IsOk}
use Rattle.std.proofs.Common.{◌≡◌, ℕ, ◌*◌, ◌<◌, ◌≤◌, true, false, List, [], ◌∷◌, ◌++◌, map, length, Option, None, Some, Ok, inl, inr, refl, sym, ap, ◌∙◌, subst, arith}
use Rattle.std.proofs.lemmas.List.{map-append}
use Rattle.crash_disk.specs.Disk.{Image, DiskState, image_of}
use Rattle.crash_disk.specs.Moments.{DiskShown, Leaves, LeavesOnly}
use Rattle.gate_journal.specs.Format.{Committed, Kept, journal, sizes, end_of}
use Rattle.gate_journal.specs.Journal.{OpenedJournal, IsBeforeOrAfter, kept_with}
use Rattle.gate_journal.specs.Journal.{IsOwn as IsJournalsOwn}
use Rattle.gate_journal.proofs.Owning.{own_settled, own_is}
use Rattle.record_ledger.specs.Rules.{RecordRules, records_of, AreRecords}
use Rattle.record_ledger.specs.Ledger.{Held, OpenedLedger, IsOwn, IsWithOrWithout, ledger_in, of_journal, some_held, with_records, held_with, kept_of}
use Rattle.record_ledger.specs.Keeping.{ok_records, records_in, held_in, StandsFor, IsPayload}
use Rattle.record_ledger.proofs.Records.{records_of-record, records_of-length, records_of-are}

-- each body has at least 5 bytes
pub sizes_least : (payloads : List (List ℕ)) → 5 * length payloads ≤ sizes payloads
sizes_least [] = omega arith
sizes_least (payload ∷ payloads) = omega (arith, sizes_least payloads)

-- what a crash might have left, said otherwise
pub leaves_so : {D : Type 0} (shows : D → DiskShown) (old new : D) (P Q : Image → Type 0) → ((image : Image) → P image → Q image)
    → LeavesOnly shows old new P → LeavesOnly shows old new Q
leaves_so shows old new P Q leads only = record {
  later = only.later;
  each = λ image left. leads image (only.each image left);
  before = λ t image le left. elim (only.before t image le left) [ inl past ↦ inl past | inr is ↦ inr (leads image is) ];
  keeps = only.keeps;
  calls = only.calls;
}

module _ {R S : Type 0} (rules : RecordRules R) (stands : S → List R → Type 0) where
  -- ---- what a journal stands for

  pub its_records : (holds : Committed) (standing : S) (s : StandsFor rules stands holds standing) → records_in rules holds ≡ s.records
  its_records holds standing s = ap (λ version. ok_records (records_of rules version holds.payloads)) s.version ∙ ap ok_records s.are

  pub its_are : (holds : Committed) (standing : S) (s : StandsFor rules stands holds standing) → records_of rules holds.version holds.payloads ≡ Ok (records_in rules holds)
  its_are holds standing s = ap (λ version. records_of rules version holds.payloads) s.version ∙ s.are ∙ ap Ok (sym (its_records holds standing s))

  pub its_kept : (kept : Kept) (standing : S) → StandsFor rules stands kept.holds standing → kept_of rules (held_in rules kept) ≡ kept
  its_kept kept standing s =
      let payloads : map (rules.bytes 2) (records_in rules kept.holds) ≡ kept.holds.payloads = ap (map (rules.bytes 2)) (its_records kept.holds standing s) ∙ sym s.spelled in
      ap (λ (ps : List (List ℕ)). record kept { holds = record (kept.holds) { payloads = ps } }) payloads

  pub ledger_at : (kept : Kept) (records : List R) (image : Image) → records_of rules kept.holds.version kept.holds.payloads ≡ Ok records → journal image ≡ Ok (Some kept)
      → ledger_in rules image ≡ Ok (Some (record { file = kept.file; version = kept.holds.version; header = kept.holds.header; records = records }))
  ledger_at kept records image are is =
      ap (of_journal rules) is ∙ ap (λ found. some_held (with_records kept found)) are

  pub stands_there : (kept : Kept) (standing : S) (image : Image) → StandsFor rules stands kept.holds standing → journal image ≡ Ok (Some kept) → ledger_in rules image ≡ Ok (Some (held_in rules kept))
  stands_there kept standing image s is = ledger_at kept (records_in rules kept.holds) image (its_are kept.holds standing s) is

  -- ---- one record more

  records_more : (holds : Committed) (standing : S) (payload : List ℕ) (r : R) (s : StandsFor rules stands holds standing) → IsPayload rules payload r → rules.is_record (records_in rules holds) r ≡ true
      → records_of rules 2 (holds.payloads ++ payload ∷ []) ≡ Ok (s.records ++ r ∷ [])
  records_more holds standing payload r s spells is =
      let is' : rules.is_record s.records r ≡ true = ap (λ rs. rules.is_record rs r) (sym (its_records holds standing s)) ∙ is in
      records_of-record rules 2 s.records holds.payloads payload r s.are spells.found is'

  pub stands_more : (kept : Kept) (old new : S) (payload : List ℕ) (r : R) → StandsFor rules stands kept.holds old → IsPayload rules payload r → rules.is_record (records_in rules kept.holds) r ≡ true → ((records : List R) → stands old records → stands new (records ++ r ∷ []))
      → StandsFor rules stands (kept_with payload kept).holds new
  stands_more kept old new payload r s spells is after = record {
    version = s.version;
    records = s.records ++ r ∷ [];
    are = records_more kept.holds old payload r s spells is;
    spelled = ap (λ ps. ps ++ payload ∷ []) s.spelled ∙ ap (λ p. map (rules.bytes 2) s.records ++ p ∷ []) spells.spelled ∙ sym (map-append (rules.bytes 2) s.records (r ∷ []));
    stand = after s.records s.stand;
  }

  pub holds_more : (kept : Kept) (standing : S) (payload : List ℕ) (r : R) → StandsFor rules stands kept.holds standing → IsPayload rules payload r → rules.is_record (records_in rules kept.holds) r ≡ true
      → held_in rules (kept_with payload kept) ≡ held_with r (held_in rules kept)
  holds_more kept standing payload r s spells is =
      let more : records_in rules (kept_with payload kept).holds ≡ records_in rules kept.holds ++ r ∷ [] =
      ap (λ version. ok_records (records_of rules version (kept.holds.payloads ++ payload ∷ []))) s.version
      ∙ ap ok_records (records_more kept.holds standing payload r s spells is)
      ∙ ap (λ rs. rs ++ r ∷ []) (sym (its_records kept.holds standing s)) in
      ap (λ (rs : List R). record (held_in rules kept) { records = rs }) more

  pub with_or_without : (kept : Kept) (standing : S) (payload : List ℕ) (r : R) → StandsFor rules stands kept.holds standing → IsPayload rules payload r → rules.is_record (records_in rules kept.holds) r ≡ true
      → (image : Image) → IsBeforeOrAfter payload kept image → IsWithOrWithout rules r (held_in rules kept) image
  with_or_without kept standing payload r s spells is image (inl before) = inl (stands_there kept standing image s before)
  with_or_without kept standing payload r s spells is image (inr after) =
      let are : records_of rules kept.holds.version (kept.holds.payloads ++ payload ∷ []) ≡ Ok (records_in rules kept.holds ++ r ∷ []) =
      ap (λ version. records_of rules version (kept.holds.payloads ++ payload ∷ [])) s.version
      ∙ records_more kept.holds standing payload r s spells is
      ∙ ap (λ rs. Ok (rs ++ r ∷ [])) (sym (its_records kept.holds standing s)) in
      inr (ledger_at (kept_with payload kept) (records_in rules kept.holds ++ r ∷ []) image are after)

  -- ---- whose disk it is

  pub ledgers_own : (told : Option DiskState) (j : OpenedJournal) (standing : S) (l : OpenedLedger R S) → StandsFor rules stands j.kept.holds standing → held_in rules j.kept ≡ l.held → j.broken ≡ false → l.broken ≡ false
      → IsOwn rules told l → IsJournalsOwn told j
  ledgers_own None j standing l s same whole whole' own = tt
  ledgers_own (Some d) j standing l s same whole whole' own =
      let is = rw whole' at own in
      own_settled (Some d) j whole (is.0, is.2 ∙ ap (λ (h : Held R). Ok (Some (kept_of rules h))) (sym same) ∙ ap (λ (k : Kept). Ok (Some k)) (its_kept j.kept standing s))

  pub journals_own : (told : Option DiskState) (j : OpenedJournal) (standing : S) (l : OpenedLedger R S) → StandsFor rules stands j.kept.holds standing → held_in rules j.kept ≡ l.held → j.broken ≡ false → l.broken ≡ false
      → IsJournalsOwn told j → IsOwn rules told l
  journals_own None j standing l s same whole whole' own = tt
  journals_own (Some d) j standing l s same whole whole' own =
      let is = own_is (Some d) j whole own in
      let held : ledger_in rules (image_of d) ≡ Ok (Some l.held) = stands_there j.kept standing (image_of d) s is.1 ∙ ap (λ (h : Held R). Ok (Some h)) same in
      let kept : journal (image_of d) ≡ Ok (Some (kept_of rules l.held)) = is.1 ∙ ap (λ (k : Kept). Ok (Some k)) (sym (its_kept j.kept standing s)) ∙ ap (λ (h : Held R). Ok (Some (kept_of rules h))) same in
      rw whole' (is.0, held, kept)

  pub own_broken : (told : Option DiskState) (l : OpenedLedger R S) → l.broken ≡ true → ((image : Image) → Leaves told image → IsOk (ledger_in rules image)) → IsOwn rules told l
  own_broken None l broken each = tt
  own_broken (Some d) l broken each = rw broken each

  pub with_or_without_ok : (r : R) (held : Held R) (image : Image) → IsWithOrWithout rules r held image → IsOk (ledger_in rules image)
  with_or_without_ok r held image (inl is) = rw is refl
  with_or_without_ok r held image (inr is) = rw is refl

  -- what stands there are records of a ledger
  pub stand_are : (holds : Committed) (standing : S) → StandsFor rules stands holds standing → AreRecords rules (records_in rules holds)
  stand_are holds standing s = subst (AreRecords rules) (sym (its_records holds standing s)) (records_of-are rules 2 s.records holds.payloads s.are).0

  -- how many there are
  pub few_records : (holds : Committed) (standing : S) → StandsFor rules stands holds standing → end_of holds.payloads ≤ 134217728 → length (records_in rules holds) < 4294967295
  few_records holds standing s fit =
      let many = records_of-length rules 2 s.records holds.payloads s.are in
      omega (arith, many, sizes_least holds.payloads, fit, ap length (its_records holds standing s))

  -- what stands there are the records that the ledger holds
  pub stand_for : (kept : Kept) (standing : S) (records : List R) → StandsFor rules stands kept.holds standing → records_in rules kept.holds ≡ records → stands standing records
  stand_for kept standing records s same = subst (stands standing) (sym (its_records kept.holds standing s) ∙ same) s.stand
