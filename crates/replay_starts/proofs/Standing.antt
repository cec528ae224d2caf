-- What the disk of a provider that was started stands for, whatever a crash leaves: a ledger as it is written.
use Rattle.std.specs.Prelude.{IfSome, IsSome, Option, None, Some, Result, Ok, Err, if◌then◌else◌}
use Rattle.std.proofs.Common.{◌≡◌, ◌⊎◌, inl, inr, ℕ, ◌+◌, ◌==◌, Bool, true, false, refl, sym, ap, subst, ◌∙◌}
use Rattle.crash_disk.specs.Disk.{DiskState, Image, MayLeave, image_of}
use Rattle.crash_disk.specs.Torn.{other_file}
use Rattle.gate_journal.specs.Format.{Fault}
use Rattle.http_wire.specs.Requests.{Request}
use Rattle.record_ledger.specs.Compacting.{Compacts, IsOldOrCompacted}
use Rattle.record_ledger.specs.Ledger.{Held, IsWithOrWithout, LeftByOpening, empty_ledger, held_with, ledger_in, migrated, taken}
use Rattle.record_ledger.specs.Rules.{RecordRules}
use Rattle.provider_node.specs.Calls.{CompactingLeaves, MakesCompaction}
use Rattle.provider_node.specs.Node as node
use Rattle.provider_node.specs.Node.{CompactionLeaves}
use Rattle.provider_node.specs.Starts.{StandsAsOpened}
use Rattle.provider_node.specs.Step as steps
use Rattle.provider_node.specs.Step.{AnswersBy, Ledger, MakesRoom, Owns, Provider, ServingLeaves, StepLeaves}
use Rattle.provider_node.proofs.Serving.{settled}

-- ---- the version that is written

abbrev IsWritten : {R : Type 0} → Held R → Type 0
IsWritten held = (held.version == 1) ≡ false

module _ {R : Type 0} where
  abbrev remade : Held R → Held R
  remade held = record held {
    file = other_file held.file;
    version = 2;
    header = record (held.header) { generation = held.header.generation + 1 };
  }

  as_it_stands : (held : Held R) → IsWritten held → migrated held ≡ held
  as_it_stands held written = ap (λ (b : Bool). if b then remade held else held) written

  is_written : (held : Held R) → migrated held ≡ held → IsWritten held
  is_written held same = of_flag (held.version == 1) refl
    where
      of_flag : (b : Bool) → (held.version == 1) ≡ b → IsWritten held
      of_flag false e = e
      of_flag true e =
          let two : held.version ≡ 2 =
          ap (λ (h : Held R). h.version) (sym same)
          ∙ ap (λ (b : Bool). (if b then remade held else held).version) e in
          let clash : (2 == 1) ≡ true = subst (λ (n : ℕ). (n == 1) ≡ true) two e in
          absurd (cc)

  opened_written : (found : Result (Option (Held R)) Fault) (held : Held R) → taken found ≡ Ok held → IsWritten held
  opened_written (Ok None) held opens = subst IsWritten (let same : empty_ledger ≡ held = cc in same) refl
  opened_written (Ok (Some before)) held opens =
      subst IsWritten (let same : migrated before ≡ held = cc in same) (of_flag (before.version == 1) refl)
    where
      of_flag : (b : Bool) → (before.version == 1) ≡ b → IsWritten (if b then remade before else before)
      of_flag true e = refl
      of_flag false e = e
  opened_written (Err fault) held opens = absurd (cc)

  pub opened_stays : (found : Result (Option (Held R)) Fault) (held : Held R) → taken found ≡ Ok held
      → migrated held ≡ held
  opened_stays found held opens = as_it_stands held (opened_written found held opens)

  compacted_written : (rules : RecordRules R) (now : ℕ) (old new : Held R) → Compacts rules now old new
      → IsWritten old → IsWritten new
  compacted_written rules now old new (inl (last, same)) written = subst IsWritten (sym same) written
  compacted_written rules now old new (inr (less, made)) written =
      subst (λ (n : ℕ). (n == 1) ≡ false) (sym made.version) refl

-- ---- an image that stands for such a ledger

abbrev Stands : {R : Type 0} → RecordRules R → Image → Type 0
Stands {R} rules image = (held : Held R) × (ledger_in rules image ≡ Ok (Some held)) × (migrated held ≡ held)

module _ {R : Type 0} (rules : RecordRules R) where
  -- what is opened of a disk that stands so
  found_written : (told : Option DiskState) (found : Held R) → StandsAsOpened rules told → IsSome told
      → IfSome told (λ d. MayLeave d (image_of d)) → IfSome told (λ d. taken (ledger_in rules (image_of d)) ≡ Ok found)
      → IsWritten found
  found_written None found stands tells reads is = cc
  found_written (Some d) found stands tells reads is = opened_written (ledger_in rules (image_of d)) found is

  -- what a ledger that is not broken has
  whole_written : (told : Option DiskState) (ledger : Ledger R) → StandsAsOpened rules told → IsSome told
      → IfSome told (λ d. MayLeave d (image_of d)) → ledger.broken ≡ false → Owns rules told ledger
      → IsWritten ledger.held
  whole_written None ledger stands tells reads whole own = cc
  whole_written (Some d) ledger stands tells reads whole own =
      let is = settled rules (Some d) ledger (image_of d) whole own reads in
      let (held, there, stays) = stands (image_of d) reads in
      let same : held ≡ ledger.held = (let e = sym there ∙ is in cc) in
      subst IsWritten same (is_written held stays)

  -- and so its disk stands
  pub whole_stands : (told : Option DiskState) (ledger : Ledger R) → ledger.broken ≡ false → Owns rules told ledger
      → migrated ledger.held ≡ ledger.held → StandsAsOpened rules told
  whole_stands told ledger whole own stays image left =
      (ledger.held, settled rules told ledger image whole own left, stays)

  -- inside an opening
  pub opening_stands : (told : Option DiskState) → StandsAsOpened rules told → (image : Image) → IsSome told
      → LeftByOpening rules told image → Stands rules image
  opening_stands None stands image tells left = cc
  opening_stands (Some d) stands image tells (first, may, inl same) =
      let (held, is, stays) = stands first may in (held, same ∙ is, stays)
  opening_stands (Some d) stands image tells (first, may, inr (found, opens, is)) =
      (found, is, opened_stays (ledger_in rules first) found opens)

  -- inside a compaction
  compacting_stands : (found : Held R) (told : Option DiskState) (now : ℕ) (image : Image) → IsWritten found
      → CompactingLeaves rules now found told image → Stands rules image
  compacting_stands found told now image written left = of_case left.stands
    where
      of_case : IsOldOrCompacted rules now found image → Stands rules image
      of_case (inl is) = (found, is, as_it_stands found written)
      of_case (inr (held, made, is)) =
          (held, is, as_it_stands held (compacted_written rules now found held made written))

module _ {Setup R : Type 0} (rules : RecordRules R) where
  pub compaction_stands : (one : Provider Setup R) (told : Option DiskState) (now : ℕ) (image : Image)
      → StandsAsOpened rules told → IsSome told → IfSome told (λ d. MayLeave d (image_of d))
      → Owns rules told one.ledger → CompactionLeaves rules one told now image → Stands rules image
  compaction_stands one told now image stands tells reads own (node.InCompaction whole left) =
      compacting_stands rules one.ledger.held told now image
      (whole_written rules told one.ledger stands tells reads whole own) left
  compaction_stands one told now image stands tells reads own
      (node.InCompactionOfOpened found opened broken is made left) =
      compacting_stands rules found opened now image (found_written rules told found stands tells reads is) left
  compaction_stands one told now image stands tells reads own (node.InRestart broken left) =
      opening_stands rules told stands image tells left.stands

  -- inside an answer
  module _ (Answers : AnswersBy Setup R) where
    serving_stands : (setup : Setup) (found : Held R) (request : Request) (now : ℕ) (told : Option DiskState)
        (image : Image) → IsWritten found → ServingLeaves rules Answers setup found request now told image
        → Stands rules image
    serving_stands setup found request now told image written (steps.AtFirst is may) =
        (found, is, as_it_stands found written)
    serving_stands setup found request now told image written (steps.InCompaction room left) =
        compacting_stands rules found told now image written left
    serving_stands setup found request now told image written (steps.InCommit one left) = of_case left.stands
      where
        over : ((one.held ≡ found) × (one.disk ≡ told))
            ⊎ (MakesRoom rules Answers setup found request now one.held × MakesCompaction rules now found told one.disk)
            → IsWritten one.held
        over (inl (same, disk)) = subst IsWritten (sym same) written
        over (inr (room, calls)) = compacted_written rules now found one.held room.made written

        of_case : IsWithOrWithout rules one.r one.held image → Stands rules image
        of_case (inl is) = (one.held, is, as_it_stands one.held (over one.over))
        of_case (inr is) =
            (held_with one.r one.held, is, as_it_stands (held_with one.r one.held) (over one.over))

    pub step_stands : (one : Provider Setup R) (told : Option DiskState) (request : Request) (now : ℕ) (image : Image)
        → StandsAsOpened rules told → IsSome told → IfSome told (λ d. MayLeave d (image_of d))
        → Owns rules told one.ledger → StepLeaves rules Answers one told request now image → Stands rules image
    step_stands one told request now image stands tells reads own (steps.InLedger whole left) =
        serving_stands one.setup one.ledger.held request now told image
        (whole_written rules told one.ledger stands tells reads whole own) left
    step_stands one told request now image stands tells reads own (steps.InOpened found opened broken is made left) =
        serving_stands one.setup found request now opened image (found_written rules told found stands tells reads is)
        left
    step_stands one told request now image stands tells reads own (steps.InOpening broken left) =
        opening_stands rules told stands image tells left.stands
