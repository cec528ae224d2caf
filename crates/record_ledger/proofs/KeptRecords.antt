-- What is kept of records of a ledger are records of a ledger.
use Rattle.std.proofs.Common.{◌≡◌, ◌≤◌, true, false, List, [], ◌∷◌, ◌++◌, sym, subst, arith}
use Rattle.record_ledger.specs.Rules.{RecordRules, next_of, AreRecordsAfter, AreRecords}
use Rattle.record_ledger.specs.Marks.{Each, Marked, all, kept, StaysRecord, NamersOf, AreClosed}
use Rattle.record_ledger.specs.Laws.{KeptAreRecords}
use Rattle.record_ledger.proofs.Words.{each_weaker, each_push}
use Rattle.record_ledger.proofs.Numbers.{next_cons}
use Rattle.record_ledger.proofs.KeptMarks.{all_push, kept_push, left_push, closed_push}
use Rattle.record_ledger.proofs.Records.{AreRecords-push}
use Rattle.record_ledger.proofs.KeptFlags.{are_marked}

module _ {R : Type 0} (rules : RecordRules R) where
  pub next_kept : (marks : List (Marked R)) → next_of rules (kept marks) ≤ next_of rules (all marks)
  next_kept [] = omega arith
  next_kept ((true, r) ∷ marks) =
      let rest = next_kept marks in
      let one = next_cons rules r (kept marks) in
      let other = next_cons rules r (all marks) in omega arith
  next_kept ((false, r) ∷ marks) =
      let rest = next_kept marks in
      let other = next_cons rules r (all marks) in omega arith

module _ {R : Type 0} (rules : RecordRules R) (stays : StaysRecord rules) where
  -- what the next record tells of those before it
  named_by : (earlier later : List (Marked R)) (m : Marked R) → Each (λ (e : Marked R). NamersOf rules e (m ∷ later)) earlier
      → Each (λ (e : Marked R). rules.names m.1 e.1 ≡ true → m.0 ≡ e.0) earlier
  named_by earlier later m =
      each_weaker (λ (e : Marked R). NamersOf rules e (m ∷ later)) (λ (e : Marked R). rules.names m.1 e.1 ≡ true → m.0 ≡ e.0) (λ e namers. namers.0) earlier

  onward : (earlier later : List (Marked R)) (m : Marked R) → Each (λ (e : Marked R). NamersOf rules e (m ∷ later)) earlier → NamersOf rules m later
      → Each (λ (e : Marked R). NamersOf rules e later) (earlier ++ m ∷ [])
  onward earlier later m against own =
      each_push (λ (e : Marked R). NamersOf rules e later) earlier m
      (each_weaker (λ (e : Marked R). NamersOf rules e (m ∷ later)) (λ (e : Marked R). NamersOf rules e later) (λ e namers. namers.1) earlier against) own

  -- what holds in front of a record holds in front of the next
  record IsBetween (earlier later : List (Marked R)) : Type 0 where
    before : AreRecords rules (all earlier)
    closed : AreClosed rules earlier
    are : AreRecordsAfter rules (all earlier) (all later)
    against : Each (λ (e : Marked R). NamersOf rules e later) earlier
    own : AreClosed rules later

  next_between : (earlier later : List (Marked R)) (m : Marked R) → IsBetween earlier (m ∷ later) → IsBetween (earlier ++ m ∷ []) later
  next_between earlier later m b = record {
    before = subst (AreRecords rules) (sym (all_push earlier m)) (AreRecords-push rules (all earlier) m.1 b.before b.are.0);
    closed = closed_push rules earlier m b.closed (named_by earlier later m b.against);
    are = subst (λ rs. AreRecordsAfter rules rs (all later)) (sym (all_push earlier m)) b.are.1;
    against = onward earlier later m b.against b.own.0;
    own = b.own.1;
  }

  kept_after : (earlier later : List (Marked R)) → IsBetween earlier later → AreRecordsAfter rules (kept earlier) (kept later)
  kept_after earlier [] b = tt
  kept_after earlier ((true, r) ∷ later) b =
      let rest = kept_after (earlier ++ (true, r) ∷ []) later (next_between earlier later (true, r) b) in
      let keeps = each_weaker (λ (e : Marked R). rules.names r e.1 ≡ true → true ≡ e.0) (λ (e : Marked R). rules.names r e.1 ≡ true → e.0 ≡ true)
      (λ e same here. sym (same here)) earlier (named_by earlier later (true, r) b.against) in (
        stays earlier r b.before b.closed keeps b.are.0,
        subst (λ rs. AreRecordsAfter rules rs (kept later)) (kept_push earlier r) rest,
      )
  kept_after earlier ((false, r) ∷ later) b =
      let rest = kept_after (earlier ++ (false, r) ∷ []) later (next_between earlier later (false, r) b) in
      subst (λ rs. AreRecordsAfter rules rs (kept later)) (left_push earlier r) rest

  pub kept_are_records : KeptAreRecords rules
  kept_are_records now horizon records some are are_kept =
      let m = are_marked rules now horizon records some are_kept in
      let start : IsBetween [] m.marks = record {
        before = tt;
        closed = tt;
        are = subst (AreRecords rules) (sym m.are_all) are;
        against = tt;
        own = m.closed;
      } in
      subst (AreRecords rules) m.are_kept (kept_after [] m.marks start)
