-- What is opened from what a disk stands for.
use Rattle.std.specs.Prelude.{IsOk, IfSome, IfNone, OnErr, if◌then◌else◌, ◌==◌}
use Rattle.std.proofs.Common.{◌≡◌, ◌⊎◌, inl, inr, ⊎_elim, ℕ, ◌≤◌, Bool, true, false, List, map, Option, None, Some, Result, Ok, Err, refl, sym, ap, ◌∙◌, subst, arith}
use Rattle.std.proofs.lemmas.Bool.{cases_eq}
use Rattle.std.proofs.lemmas.Bool.Decides.{nat_tests}
use Rattle.crash_disk.specs.Disk.{Image, DiskState, MayLeave, image_of}
use Rattle.crash_disk.specs.declared.file_no.FileNo.TheVariants.{Zero, One}
use Rattle.crash_disk.specs.Moments.{DiskShown, Leaves, LeavesOnly}
use Rattle.crash_disk.specs.Steps.{weaker}
use Rattle.gate_journal.specs.Format.{Committed, Kept, Fault, joined, journal, file_of}
use Rattle.gate_journal.specs.Journal.{IsOldOrNew, made_anew}
use Rattle.gate_journal.specs.Making.{first_journal}
use Rattle.gate_journal.specs.Opening.{Opens, IsEmptyOrNone, opened}
use Rattle.gate_journal.proofs.Files.{committed-inverse}
use Rattle.record_ledger.specs.Rules.{RecordRules, records_from, records_of}
use Rattle.record_ledger.specs.Ledger.{Held, IsOpenedFrom, empty_ledger, held_of, ledger_in, migrated, of_journal, some_held, taken, with_records}
use Rattle.record_ledger.specs.Keeping.{StandsFor, held_in, ok_records, records_in}
use Rattle.record_ledger.specs.Loading.{IsLoaded, IsTakenFrom, IsVersion, in_version_2}
use Rattle.record_ledger.proofs.Records.{records_of-are, records_of-bytes}

-- ---- the versions of journals

one_holds : (first second : Bool) (fault : Fault) (a b kept : Kept) → IsVersion a.holds.version → IsVersion b.holds.version
    → (if first then Err fault else if second then Ok (Some a) else Ok (Some b)) ≡ Ok (Some kept) → IsVersion kept.holds.version
one_holds true second fault a b kept x y e = absurd (cc)
one_holds false true fault a b kept x y e = let same : a ≡ kept = cc in subst (λ (k : Kept). IsVersion k.holds.version) same x
one_holds false false fault a b kept x y e = let same : b ≡ kept = cc in subst (λ (k : Kept). IsVersion k.holds.version) same y

joined_version : (zero one : Result (Option Committed) ℕ) (kept : Kept) → ((c : Committed) → zero ≡ Ok (Some c) → IsVersion c.version) → ((c : Committed) → one ≡ Ok (Some c) → IsVersion c.version)
    → joined zero one ≡ Ok (Some kept) → IsVersion kept.holds.version
joined_version (Err place) one kept x y e = absurd (cc)
joined_version (Ok a) (Err place) kept x y e = absurd (cc)
joined_version (Ok None) (Ok None) kept x y e = absurd (cc)
joined_version (Ok (Some a)) (Ok None) kept x y e = let same : record { file = Zero; holds = a } ≡ kept = cc in subst (λ (k : Kept). IsVersion k.holds.version) same (x a refl)
joined_version (Ok None) (Ok (Some b)) kept x y e = let same : record { file = One; holds = b } ≡ kept = cc in subst (λ (k : Kept). IsVersion k.holds.version) same (y b refl)
joined_version (Ok (Some a)) (Ok (Some b)) kept x y e = one_holds _ _ _ (record { file = Zero; holds = a }) (record { file = One; holds = b }) kept (x a refl) (y b refl) e

version_of : (image : Image) (kept : Kept) → journal image ≡ Ok (Some kept) → IsVersion kept.holds.version
version_of image kept e =
    joined_version (file_of image.zero) (file_of image.one) kept
    (λ c is. (committed-inverse image.zero c is).one_of) (λ c is. (committed-inverse image.one c is).one_of) e

-- what was opened stands there, or is the first journal
abbrev pub first : Kept
first = record { file = Zero; holds = first_journal }

pub opened_cases : (found : Result (Option Kept) Fault) (kept : Kept) → opened found ≡ Ok kept → (found ≡ Ok (Some kept)) ⊎ ((found ≡ Ok None) × (first ≡ kept))
opened_cases (Ok None) kept e = inr (refl, cc)
opened_cases (Ok (Some k)) kept e = inl (let same : k ≡ kept = cc in ap (λ (k : Kept). Ok (Some k)) same)
opened_cases (Err fault) kept e = absurd (cc)

pub opened_version : (image : Image) (kept : Kept) → opened (journal image) ≡ Ok kept → IsVersion kept.holds.version
opened_version image kept e =
    ⊎_elim (version_of image kept) (λ both. subst (λ (k : Kept). IsVersion k.holds.version) both.1 (inr refl)) (opened_cases (journal image) kept e)

is_ok : {T E : Type 0} (r : Result T E) (x : T) → r ≡ Ok x → IsOk r
is_ok r x is = rw is refl

-- what a crash might have left since a moment is among it what it may leave now
pub leaves_now : {D : Type 0} (shows : D → DiskShown) (old new : D) (P : Image → Type 0)
    → ((disk : D) (t : ℕ) (image : Image) → t ≤ (shows disk).moment → Leaves (shows disk).told image → (shows disk).left_since t image) → LeavesOnly shows old new P
    → (image : Image) → Leaves (shows new).told image → P image
leaves_now shows old new P counts only image left = only.each image (counts new (shows old).moment image only.later left)

pub on_err : {T E : Type 0} (result : Result T E) (A B : Type 0) → (A → B) → OnErr result A → OnErr result B
on_err (Ok x) A B f a = a
on_err (Err e) A B f a = f a

pub at_err : {T E : Type 0} (result : Result T E) (A : Type 0) → A → OnErr result A
at_err (Ok x) A a = tt
at_err (Err e) A a = a

module _ {R : Type 0} (rules : RecordRules R) where
  -- ---- what a journal holds

  held_ok : (kept : Kept) (records : List R) → records_of rules kept.holds.version kept.holds.payloads ≡ Ok records → held_of rules kept ≡ Ok (held_in rules kept)
  held_ok kept records e =
      ap (with_records kept) e
      ∙ sym (ap (λ (r : Result (List R) ℕ). Ok (record { file = kept.file; version = kept.holds.version; header = kept.holds.header; records = ok_records r })) e)

  -- ---- what is opened

  pub held_first : held_of rules first ≡ Ok empty_ledger
  unfolding records_from
  held_first = refl

  ledger_first : (image : Image) → journal image ≡ Ok (Some first) → ledger_in rules image ≡ Ok (Some empty_ledger)
  ledger_first image is = ap (of_journal rules) is ∙ ap some_held held_first

  pub opens_image : (disk : DiskState) (image : Image) → Opens disk image → IsOpenedFrom rules disk image
  opens_image disk image (start, may, inl same) = (start, may, inl (ap (of_journal rules) same))
  opens_image disk image (start, may, inr (none, made)) = (start, may, inr (empty_ledger, ap (λ (j : Result (Option Kept) Fault). taken (of_journal rules j)) none, ledger_first image made))

  pub taken_opened : (image : Image) (kept : Kept) → opened (journal image) ≡ Ok kept → taken (ledger_in rules image) ≡ taken (some_held (held_of rules kept))
  taken_opened image kept e =
      ⊎_elim (λ found. ap (λ (j : Result (Option Kept) Fault). taken (of_journal rules j)) found)
      (λ both. ap (λ (j : Result (Option Kept) Fault). taken (of_journal rules j)) both.0 ∙ sym (ap (λ (r : Result (Held R) Fault). taken (some_held r)) held_first) ∙ ap (λ (k : Kept). taken (some_held (held_of rules k))) both.1)
      (opened_cases (journal image) kept e)

  pub taken_from : (disk : DiskState) (kept : Kept) (image : Image) → MayLeave disk (image_of disk) → opened (journal (image_of disk)) ≡ Ok kept → IsTakenFrom rules kept image → IsOpenedFrom rules disk image
  taken_from disk kept image may e (inr (held, taken_is, is)) = (image_of disk, may, inr (held, taken_opened (image_of disk) kept e ∙ taken_is, is))
  taken_from disk kept image may e (inl same) = (
    image_of disk,
    may,
    ⊎_elim (λ found. inl (ap (of_journal rules) (same ∙ sym found)))
        (λ both. inr (empty_ledger, ap (λ (j : Result (Option Kept) Fault). taken (of_journal rules j)) both.0, ledger_first image (same ∙ ap (λ (k : Kept). Ok (Some k)) (sym both.1))))
        (opened_cases (journal (image_of disk)) kept e),
  )

  -- where each image stood for a ledger, each that is opened does
  pub opened_ok : (disk : DiskState) (image : Image) → ((start : Image) → MayLeave disk start → IsOk (ledger_in rules start)) → IsOpenedFrom rules disk image → IsOk (ledger_in rules image)
  opened_ok disk image each (start, may, inl same) = subst (λ (r : Result (Option (Held R)) Fault). IsOk r) (sym same) (each start may)
  opened_ok disk image each (start, may, inr (held, taken_is, is)) = is_ok (ledger_in rules image) (Some held) is

  empty_ok : (image : Image) → IsEmptyOrNone image → IsOk (ledger_in rules image)
  empty_ok image (inl none) = is_ok (ledger_in rules image) None (ap (of_journal rules) none)
  empty_ok image (inr made) = is_ok (ledger_in rules image) (Some empty_ledger) (ledger_first image made)

  -- what a crash leaves while a journal is opened stands for a ledger where each image at the start did
  pub leaves_ok : {D : Type 0} (shows : D → DiskShown) (told : Option DiskState) (old new : D)
      → IfSome told (λ d. LeavesOnly shows old new (Opens d)) → IfNone told (LeavesOnly shows old new IsEmptyOrNone)
      → ((start : Image) → Leaves told start → IsOk (ledger_in rules start)) → LeavesOnly shows old new (λ image. IsOk (ledger_in rules image))
  leaves_ok shows None old new some none each = weaker shows old new IsEmptyOrNone (λ image. IsOk (ledger_in rules image)) none empty_ok
  leaves_ok shows (Some d) old new some none each =
      weaker shows old new (Opens d) (λ image. IsOk (ledger_in rules image)) some (λ image is. opened_ok d image each (opens_image d image is))

  -- a broken ledger's disk
  pub own_broken : (told : Option DiskState) → ((image : Image) → Leaves told image → IsOk (ledger_in rules image)) → IfSome told (λ disk. (image : Image) → MayLeave disk image → IsOk (ledger_in rules image))
  own_broken None each = tt
  own_broken (Some d) each = each

  pub broken_own : (told : Option DiskState) → IfSome told (λ disk. (image : Image) → MayLeave disk image → IsOk (ledger_in rules image)) → (image : Image) → Leaves told image → IsOk (ledger_in rules image)
  broken_own None own image left = absurd left
  broken_own (Some d) own image left = own image left

module _ {R S : Type 0} (rules : RecordRules R) (stands : S → List R → Type 0) where
  pub held_stands : (kept : Kept) (standing : S) → StandsFor rules stands kept.holds standing → held_of rules kept ≡ Ok (held_in rules kept)
  held_stands kept standing s = held_ok rules kept s.records (ap (λ v. records_of rules v kept.holds.payloads) s.version ∙ s.are)

  -- ---- a journal in version 2

  module _ (kept : Kept) (standing : S) (made : List (List ℕ)) (l : IsLoaded rules stands kept.holds.version kept.holds.payloads standing made) where
    abbrev anew : Kept
    anew = made_anew made kept.holds.header.horizon kept.holds.header.next kept

    are_anew : kept.holds.version ≡ 1 → records_of rules 2 made ≡ Ok l.records
    are_anew one = ap (records_of rules 2) (l.anew one) ∙ records_of-bytes rules l.records (records_of-are rules kept.holds.version l.records kept.holds.payloads l.are).0 (l.found one)

    stands_anew : kept.holds.version ≡ 1 → StandsFor rules stands anew.holds standing
    stands_anew one = record { version = refl; records = l.records; are = are_anew one; spelled = l.anew one; stand = l.stand }

    stands_same : kept.holds.version ≡ 2 → StandsFor rules stands kept.holds standing
    stands_same two = record {
      version = two;
      records = l.records;
      are = ap (λ v. records_of rules v kept.holds.payloads) (sym two) ∙ l.are;
      spelled = l.spelled ∙ ap (λ v. map (rules.bytes v) l.records) two;
      stand = l.stand;
    }

    pub stands_in_2 : IsVersion kept.holds.version → StandsFor rules stands (in_version_2 made kept).holds standing
    stands_in_2 (inl one) = subst (λ (b : Bool). StandsFor rules stands (if b then anew else kept).holds standing) (sym (ap (λ v. v == 1) one)) (stands_anew one)
    stands_in_2 (inr two) = subst (λ (b : Bool). StandsFor rules stands (if b then anew else kept).holds standing) (sym (ap (λ v. v == 1) two)) (stands_same two)

    taken_held : taken (some_held (held_of rules kept)) ≡ Ok (migrated (held_in rules kept))
    taken_held = ap (λ (r : Result (Held R) Fault). taken (some_held r)) (held_ok rules kept l.records l.are)

    migrated_anew : kept.holds.version ≡ 1 → migrated (held_in rules kept) ≡ held_in rules anew
    migrated_anew one =
        let records : records_in rules kept.holds ≡ ok_records (records_of rules 2 made) = ap ok_records l.are ∙ sym (ap ok_records (are_anew one)) in
        ap (λ (b : Bool). if b then record (held_in rules anew) { records = records_in rules kept.holds } else held_in rules kept) (ap (λ v. v == 1) one)
        ∙ ap (λ (rs : List R). record (held_in rules anew) { records = rs }) records

    migrated_same : kept.holds.version ≡ 2 → migrated (held_in rules kept) ≡ held_in rules kept
    migrated_same two = ap (λ (b : Bool). if b then record (held_in rules anew) { records = records_in rules kept.holds } else held_in rules kept) (ap (λ v. v == 1) two)

    pub taken_in_2 : IsVersion kept.holds.version → taken (some_held (held_of rules kept)) ≡ Ok (held_in rules (in_version_2 made kept))
    taken_in_2 (inl one) = taken_held ∙ ap Ok (migrated_anew one) ∙ ap (λ (b : Bool). Ok (held_in rules (if b then anew else kept))) (sym (ap (λ v. v == 1) one))
    taken_in_2 (inr two) = taken_held ∙ ap Ok (migrated_same two) ∙ ap (λ (b : Bool). Ok (held_in rules (if b then anew else kept))) (sym (ap (λ v. v == 1) two))

    pub taken_image : (image : Image) → IsOldOrNew kept (in_version_2 made kept) image → IsTakenFrom rules kept image
    taken_image image (inl old) = inl old
    taken_image image (inr new) = elim (cases_eq kept.holds.version 1) [
      | inl one ↦
          let holds : journal image ≡ Ok (Some anew) = subst (λ (b : Bool). journal image ≡ Ok (Some (if b then anew else kept))) (ap (λ v. v == 1) one) new in
          inr (held_in rules anew, taken_held ∙ ap Ok (migrated_anew one), ap (of_journal rules) holds ∙ ap some_held (held_stands anew standing (stands_anew one)))
      | inr other ↦
          let test : (kept.holds.version == 1) ≡ false = grind (arith, nat_tests) in
          inl (subst (λ (b : Bool). journal image ≡ Ok (Some (if b then anew else kept))) test new)
    ]

  pub taken_ok : (kept : Kept) (standing : S) (made : List (List ℕ)) → IsLoaded rules stands kept.holds.version kept.holds.payloads standing made → (image : Image) → IsTakenFrom rules kept image → IsOk (ledger_in rules image)
  taken_ok kept standing made l image (inl same) = is_ok (ledger_in rules image) (Some (held_in rules kept)) (ap (of_journal rules) same ∙ ap some_held (held_ok rules kept l.records l.are))
  taken_ok kept standing made l image (inr (held, taken_is, is)) = is_ok (ledger_in rules image) (Some held) is
