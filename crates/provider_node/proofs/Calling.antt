-- Which calls a ledger's call makes on its disk, from its clause.
use Rattle.std.specs.Prelude.{IfSome, IsSomeAnd, Option, None, Some, Result, Ok, Err, IsErrOf}
use Rattle.std.proofs.Common.{◌≡◌, ⊎_elim, inl, inr, ℕ, List, [], ◌∷◌, ap, refl}
use Rattle.crash_disk.specs.declared.change.Change.{Change}
use Rattle.crash_disk.specs.Disk.{Image, DiskState, MayLeave}
use Rattle.crash_disk.specs.Moments.{DiskShown, Leaves, LeavesOnly}
use Rattle.crash_disk.specs.Plans.{Follows, IsCarriedOut, LeftAmid}
use Rattle.crash_disk.specs.Steps.{weaker}
use Rattle.gate_journal.specs.declared.fault.OpenFault.{OpenFault}
use Rattle.gate_journal.specs.declared.fault.OpenFault.TheVariants.{DiskFault, Foreign, NoMemory}
use Rattle.record_ledger.specs.Rules.{RecordRules}
use Rattle.record_ledger.specs.Ledger.{Held, IsWithOrWithout, LeftByOpening}
use Rattle.record_ledger.specs.Calls.{FollowsCompaction, committing, compacting, opening}
use Rattle.record_ledger.specs.Compacting.{IsOldOrCompacted}
use Rattle.provider_node.specs.Calls.{Begins, BeginsCompaction, CommittingLeaves, CompactingLeaves, CompactionCalls}
use Rattle.provider_node.specs.Calls.{IsAmid, Makes, MakesCompaction, OpeningLeaves}

-- ---- what was carried out

pub carried_ok : (T E : Type 0) (plan : DiskState → List Change) (told later : Option DiskState) (x : T) → IfSome told
    (λ disk. IsSomeAnd later (IsCarriedOut {T = T} {E = E} (Ok x) (plan disk) disk)) → Makes plan told later
carried_ok T E plan None later x is = tt
carried_ok T E plan (Some d) None x is = is
carried_ok T E plan (Some d) (Some n) x is = is

pub carried_err : (T E : Type 0) (plan : DiskState → List Change) (told later : Option DiskState) (e : E) → IfSome told
    (λ disk. IsSomeAnd later (IsCarriedOut {T = T} {E = E} (Err e) (plan disk) disk)) → Begins plan told later
carried_err T E plan None later e is = tt
carried_err T E plan (Some d) None e is = is
carried_err T E plan (Some d) (Some n) e is = is

-- before the first call of a plan
pub amid_first : (plan : List Change) (disk : DiskState) (image : Image)
    → MayLeave disk image → LeftAmid plan disk image
amid_first [] disk image may = may
amid_first (change ∷ plan) disk image may = inl may

pub at_first : (told : Option DiskState) (image : Image) → Leaves told image → IfSome told (λ d. MayLeave d image)
at_first None image left = tt
at_first (Some d) image left = left

pub first_amid : (plan : DiskState → List Change) (told : Option DiskState) (image : Image)
    → Leaves told image → IsAmid plan told image
first_amid plan None image left = tt
first_amid plan (Some d) image left = amid_first (plan d) d image left

-- ---- what a crash leaves

module _ {D : Type 0} (shows : D → DiskShown) where
  both : (old new : D) (P Q : Image → Type 0)
      → LeavesOnly shows old new P → LeavesOnly shows old new Q → LeavesOnly shows old new (λ i. P i × Q i)
  both old new P Q p q = record {
    later = p.later;
    each = λ image left. (p.each image left, q.each image left);
    before = λ t image le left. ⊎_elim inl
        (λ is. ⊎_elim inl (λ too. inr (is, too)) (q.before t image le left)) (p.before t image le left);
    keeps = p.keeps;
    calls = p.calls;
  }

  amid_told : (old new : D) (P : Image → Type 0) (plan : DiskState → List Change) (o : Option DiskState)
      → LeavesOnly shows old new P → IfSome o (λ disk. LeavesOnly shows old new (LeftAmid (plan disk) disk))
      → LeavesOnly shows old new (λ i. P i × IsAmid plan o i)
  amid_told old new P plan None p amid = weaker shows old new P (λ i. P i × IsAmid plan None i) p (λ image is. (is, tt))
  amid_told old new P plan (Some d) p amid = both old new P (LeftAmid (plan d) d) p amid

  amid : {T E : Type 0} (old new : D) (P : Image → Type 0) (plan : DiskState → List Change) (result : Result T E)
      → LeavesOnly shows old new P
      → Follows shows plan old new result → LeavesOnly shows old new (λ i. P i × IsAmid plan (shows old).told i)
  amid old new P plan result p follows = amid_told old new P plan (shows old).told p follows.moments

  module _ {R : Type 0} (rules : RecordRules R) where
    pub opening_leaves : {T E : Type 0} (old new : D) (result : Result T E)
        → LeavesOnly shows old new (LeftByOpening rules (shows old).told)
        → Follows shows (opening rules) old new result → LeavesOnly shows old new (OpeningLeaves rules (shows old).told)
    opening_leaves old new result stands follows =
        weaker shows old new (λ i. LeftByOpening rules (shows old).told i × IsAmid (opening rules) (shows old).told i)
        (OpeningLeaves rules (shows old).told) (amid old new (LeftByOpening rules (shows old).told)
        (opening rules) result stands follows) (λ image is. record { stands = is.0; amid = is.1 })

    pub committing_leaves : {T E : Type 0} (old new : D) (r : R) (held : Held R) (result : Result T E)
        → LeavesOnly shows old new (IsWithOrWithout rules r held) → Follows shows (committing rules held r)
        old new result → LeavesOnly shows old new (CommittingLeaves rules r held (shows old).told)
    committing_leaves old new r held result stands follows =
        weaker shows old new (λ i. IsWithOrWithout rules r held i × IsAmid (committing rules held r) (shows old).told i)
        (CommittingLeaves rules r held (shows old).told) (amid old new (IsWithOrWithout rules r held)
        (committing rules held r) result stands follows) (λ image is. record { stands = is.0; amid = is.1 })

    pub compacting_leaves : {T E : Type 0} (old new : D) (now : ℕ) (held : Held R) (result : Result T E)
        → LeavesOnly shows old new (IsOldOrCompacted rules now held) → FollowsCompaction rules
        shows now held old new result → LeavesOnly shows old new (CompactingLeaves rules now held (shows old).told)
    compacting_leaves old new now held result stands (inl (last, follows)) =
        weaker shows old new (λ i. IsOldOrCompacted rules now held i × IsAmid (λ _. []) (shows old).told i)
        (CompactingLeaves rules now held (shows old).told) (amid old new (IsOldOrCompacted rules now held)
        (λ _. []) result stands follows) (λ image is. record { stands = is.0; amid = inl is.1 })
    compacting_leaves old new now held result stands (inr (less, made, is_made, follows)) = weaker shows old new
        (λ i. IsOldOrCompacted rules now held i × IsAmid (compacting rules made) (shows old).told i) (CompactingLeaves
        rules now held (shows old).told) (amid old new (IsOldOrCompacted rules now held) (compacting rules made)
        result stands follows) (λ image is. record { stands = is.0; amid = inr (less, made, is_made, is.1) })

    -- ---- which calls a compaction made

    pub compaction_ended : (T E : Type 0) (old new : D) (now : ℕ) (held : Held R) (x : T) → FollowsCompaction rules
        {T = T} {E = E} shows now held old new (Ok x) → MakesCompaction rules now held (shows old).told (shows new).told
    compaction_ended T E old new now held x (inl (last, follows)) =
        inl (last, carried_ok T E (λ _. []) (shows old).told (shows new).told x follows.ends)
    compaction_ended T E old new now held x (inr (less, made, is, follows)) =
        inr (less, made, is, carried_ok T E (compacting rules made) (shows old).told (shows new).told x follows.ends)

    pub compaction_begun : (T E : Type 0) (old new : D) (now : ℕ) (held : Held R) (e : E)
        → FollowsCompaction rules {T = T} {E = E} shows now held old new (Err e)
        → BeginsCompaction rules now held (shows old).told (shows new).told
    compaction_begun T E old new now held e (inl (last, follows)) =
        inl (carried_err T E (λ _. []) (shows old).told (shows new).told e follows.ends)
    compaction_begun T E old new now held e (inr (less, made, is, follows)) =
        inr (less, made, is, carried_err T E (compacting rules made) (shows old).told (shows new).told e follows.ends)

    pub compaction_calls : (old new : D) (now : ℕ) (held : Held R) (result : Result (Unit {0}) OpenFault)
        → (IsErrOf result NoMemory → new ≡ old) → FollowsCompaction rules shows now held old new result
        → CompactionCalls rules now held (shows old).told (shows new).told result
    compaction_calls old new now held (Ok u) same follows =
        compaction_ended (Unit {0}) OpenFault old new now held u follows
    compaction_calls old new now held (Err NoMemory) same follows = ap (λ (d : D). (shows d).told) (same refl)
    compaction_calls old new now held (Err DiskFault) same follows =
        compaction_begun (Unit {0}) OpenFault old new now held DiskFault follows
    compaction_calls old new now held (Err (Foreign file place)) same follows =
        compaction_begun (Unit {0}) OpenFault old new now held (Foreign file place) follows
