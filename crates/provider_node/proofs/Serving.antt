-- What follows for a provider and its disk.
use Rattle.std.specs.Prelude.{MatchBool, IfErr, IsErrOf, IsOk, OnOk, Option, None, Some, Result, Ok, Err}
use Rattle.std.proofs.Common.{◌≡◌, ◌⊎◌, inl, inr, ℕ, ◌≤◌, Bool, sym, subst, refl, ap, ◌∙◌, true, false, arith}
use Rattle.crash_disk.specs.Disk.{Image, DiskState, MayLeave, IsSettled, image_of}
use Rattle.crash_disk.specs.Counts.{Rose}
use Rattle.crash_disk.specs.Moments.{Leaves}
use Rattle.http_wire.specs.declared.answer.Answer.{Answer}
use Rattle.http_wire.specs.Requests.{Request}
use Rattle.gate_journal.specs.declared.fault.OpenFault.{OpenFault}
use Rattle.gate_journal.specs.declared.fault.OpenFault.TheVariants.{DiskFault, Foreign, NoMemory}
use Rattle.gate_journal.specs.Format.{journal}
use Rattle.gate_journal.specs.Opening.{open_fault_of}
use Rattle.record_ledger.specs.Rules.{AreRecords, RecordRules}
use Rattle.record_ledger.specs.Ledger.{Held, kept_of, ledger_in, held_with}
use Rattle.record_ledger.specs.Compacting.{Compacts}
use Rattle.provider_node.specs.Calls.{CompactingLeaves, CompactionCalls, MakesCompaction}
use Rattle.provider_node.specs.Step.{Adding, AnswersBy, Ledger, Owns, Provider, HasPlace, IsWhole, MakesRoom}
use Rattle.provider_node.specs.Step.{ServesOnDisk, Recorded, RecordedAfterCompaction, Starved, Failed, ServingLeaves}
use Rattle.provider_node.specs.Step.{AtFirst, InCompaction}
use Rattle.provider_node.specs.Node.{CompactsFound, MadeAnew, Stays, Fails}
use Rattle.provider_node.specs.Serving.{Adds, Added, NotMade, Lost}
use Rattle.provider_node.proofs.Calling.{at_first}

-- a crash leaves a whole ledger as it is
whole_is : {R : Type 0} (rules : RecordRules R) (disk : DiskState) (held : Held R) (b : Bool)
    → b ≡ false → MatchBool b ((image : Image) → MayLeave disk image → IsOk (ledger_in rules image)) (IsSettled disk
    × (ledger_in rules (image_of disk) ≡ Ok (Some held)) × (journal (image_of disk) ≡ Ok (Some (kept_of rules held))))
    → IsSettled disk × (ledger_in rules (image_of disk) ≡ Ok (Some held))
whole_is rules disk held true is own = cc
whole_is rules disk held false is own = (own.0, own.1)

pub settled : {R : Type 0} (rules : RecordRules R) (told : Option DiskState) (ledger : Ledger R) (image : Image)
    → ledger.broken ≡ false → Owns rules told ledger → Leaves told image → ledger_in rules image ≡ Ok (Some ledger.held)
settled rules None ledger image whole own left = absurd left
settled rules (Some disk) ledger image whole own left =
    let is : IsSettled disk × (ledger_in rules (image_of disk) ≡ Ok (Some ledger.held)) =
    whole_is rules disk ledger.held ledger.broken whole own in
    subst (λ (i : Image). ledger_in rules i ≡ Ok (Some ledger.held)) (sym (is.0 image left)) is.1

module _ {Setup R : Type 0} where
  -- one step behind another
  pub whole_on : (old mid new : Provider Setup R) (held now : Held R)
      → IsWhole old mid held → IsWhole mid new now → IsWhole old new now
  whole_on old mid new held now first second = record {
    setup = second.setup ∙ first.setup;
    key = second.key ∙ first.key;
    unbroken = second.unbroken;
    is = second.is;
  }

  pub adds_more : (rules : RecordRules R) (IsPage : Answer → Type 0)
      (r : R) (A B : Type 0) (answer : Answer) (old new : Provider Setup R) (told later : Option DiskState)
      → (A → B) → Adds rules IsPage r A answer old new told later → Adds rules IsPage r B answer old new told later
  adds_more rules IsPage r A B answer old new told later more (Added page whole made) = Added page whole made
  adds_more rules IsPage r A B answer old new told later more (NotMade is whole same) = NotMade is whole same
  adds_more rules IsPage r A B answer old new told later more (Lost other page risen is broken begun) =
      Lost other page (more risen) is broken begun

-- a count that rose in a part rose in all
pub rose_later : (before mid now : ℕ) → before ≤ mid → Rose mid now → Rose before now
rose_later before mid now le rose = omega (arith, le, rose)

module _ {Setup R : Type 0} {rules : RecordRules R} where
  -- what a compaction does, from what its ledger says of it
  pub compacts_found : (now : ℕ) (result : Result (Unit {0}) OpenFault) (old new : Provider Setup R)
      → old.ledger.broken ≡ false → new.setup ≡ old.setup → new.ledger.key ≡ old.ledger.key → OnOk result
      (Compacts rules now old.ledger.held new.ledger.held × (new.ledger.broken ≡ false)) → (IsErrOf result DiskFault
      → (new.ledger.held ≡ old.ledger.held) × (new.ledger.broken ≡ true)) → (IsErrOf result NoMemory → new.ledger ≡
      old.ledger) → IfErr result (λ e. open_fault_of e ≡ None) → CompactsFound rules now old.ledger.held result old new
  compacts_found now (Ok u) old new whole setup key ok failed starved known =
      MadeAnew new.ledger.held refl ok.0 (record { setup = setup; key = key; unbroken = ok.1; is = refl })
  compacts_found now (Err DiskFault) old new whole setup key ok failed starved known =
      Fails refl (record { setup = setup; key = key; is_broken = (failed refl).1 })
  compacts_found now (Err (Foreign file place)) old new whole setup key ok failed starved known = cc
  compacts_found now (Err NoMemory) old new whole setup key ok failed starved known = let same = starved refl in
      Stays refl (record {
        setup = setup;
        key = key;
        unbroken = ap (λ (l : Ledger R). l.broken) same ∙ whole;
        is = ap (λ (l : Ledger R). l.held) same;
      })

-- a record that a request adds, by its parts
module _ {Setup R : Type 0} {rules : RecordRules R} {Answers : AnswersBy Setup R}
    {setup : Setup} {found : Held R} {request : Request} {now : ℕ} {told : Option DiskState} where
  abbrev pub adding : (held : Held R) (disk : Option DiskState) → ((held ≡ found) × (disk ≡ told))
      ⊎ (MakesRoom rules Answers setup found request now held × MakesCompaction rules now found told disk)
      → (r : R) (answer : Answer) → Answers setup held request now answer (Some r)
      → HasPlace rules held r → Adding rules Answers setup found request now told
  adding h d over r a adds place =
      record { held = h; disk = d; over = over; r = r; answer = a; adds = adds; place = place }

-- a record that is added at once
module _ {Setup R : Type 0} (rules : RecordRules R) (Answers : AnswersBy Setup R)
    (old new : Provider Setup R) (request : Request) (now : ℕ) (Risen : Type 0) (answer : Answer)
    (r : R) (IsPage : Answer → Type 0) (told later : Option DiskState) (pages : (other : Answer) → IsPage other
    → Answers old.setup old.ledger.held request now other (Some r)) (place : HasPlace rules old.ledger.held r) where
  pub served : Adds rules IsPage r Risen answer old new told later
      → ServesOnDisk rules Answers old.ledger.held request now Risen answer old new told later
  served (Added page whole made) = record { serves = Recorded r (pages answer page) place whole; calls = made }
  served (NotMade is whole same) = record { serves = Starved old.ledger.held (inl refl) is whole; calls = same }
  served (Lost other page risen is broken begun) = record {
    serves = Failed r other (pages other page) risen is broken;
    calls = inr (adding old.ledger.held told (inl (refl, refl)) r other (pages other page) place, begun);
  }

-- a record that is added after a compaction
module _ {Setup R : Type 0} (rules : RecordRules R) (Answers : AnswersBy Setup R) (old anew new : Provider Setup R)
    (request : Request) (now : ℕ) (Risen : Type 0) (answer : Answer) (r : R) (IsPage : Answer → Type 0) (told between
    later : Option DiskState) (room : MakesRoom rules Answers old.setup old.ledger.held request now anew.ledger.held)
    (compacted : MakesCompaction rules now old.ledger.held told between) (first : IsWhole old anew anew.ledger.held)
    (pages : (other : Answer) → IsPage other → Answers old.setup anew.ledger.held request now other (Some r))
    (place : HasPlace rules anew.ledger.held r) where
  pub served_later : Adds rules IsPage r Risen answer anew new between later
      → ServesOnDisk rules Answers old.ledger.held request now Risen answer old new told later
  served_later (Added page whole made) = record {
    serves = RecordedAfterCompaction anew.ledger.held r room
        (pages answer page) place (whole_on old anew new anew.ledger.held (held_with r anew.ledger.held) first whole);
    calls = (between, compacted, made);
  }
  served_later (NotMade is whole same) = record {
    serves =
        Starved anew.ledger.held (inr room) is (whole_on old anew new anew.ledger.held anew.ledger.held first whole);
    calls = subst (λ (o : Option DiskState). MakesCompaction rules now old.ledger.held told o) (sym same) compacted;
  }
  served_later (Lost other page risen is broken begun) = record {
    serves = Failed room.room.wanted room.room.other room.room.wants risen is
        (record { setup = broken.setup ∙ first.setup; key = broken.key ∙ first.key; is_broken = broken.is_broken });
    calls = inr (adding anew.ledger.held between (inr (room, compacted)) r other (pages other page) place, begun);
  }

module _ {Setup R : Type 0} (rules : RecordRules R) (Answers : AnswersBy Setup R) where
  -- what a compaction leaves, of a ledger that had no place for a record
  pub room_leaves : (setup : Setup) (found : Held R) (request : Request) (now : ℕ)
      (told : Option DiskState) (wanted : R) (other : Answer) → Answers setup found request now other (Some wanted)
      → ¬ (HasPlace rules found wanted) → AreRecords rules found.records → (image : Image)
      → CompactingLeaves rules now found told image → ServingLeaves rules Answers setup found request now told image
  room_leaves setup found request now told wanted other wants none are image left =
      InCompaction (record { wanted = wanted; other = other; wants = wants; none = none; are = are }) left

  -- before the first call
  pub first_leaves : (setup : Setup) (ledger : Ledger R) (request : Request) (now : ℕ) (told : Option DiskState)
      → ledger.broken ≡ false → Owns rules told ledger
      → (image : Image) → Leaves told image → ServingLeaves rules Answers setup ledger.held request now told image
  first_leaves setup ledger request now told whole own image left =
      AtFirst (settled rules told ledger image whole own left) (at_first told image left)

-- the calls of a compaction that ended
pub made_where : {R : Type 0} (rules : RecordRules R)
    (found : Held R) (now : ℕ) (told later : Option DiskState) (result : Result (Unit {0}) OpenFault)
    → CompactionCalls rules now found told later result → OnOk result (MakesCompaction rules now found told later)
made_where rules found now told later (Ok u) calls = calls
made_where rules found now told later (Err fault) calls = tt
