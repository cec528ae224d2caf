-- What a run of a ledger leads to.
use Rattle.std.specs.Prelude.{Contains}
use Rattle.std.proofs.Common.{◌≡◌, ◌⊎◌, inl, inr, ℕ, zero, suc, ◌≤◌, ◌+◌, ◌==◌, if◌then◌else◌, Bool, true, false, List}
use Rattle.std.proofs.Common.{[], ◌∷◌, All, sym, subst, ap, ◌∙◌, arith}
use Rattle.crash_disk.specs.Torn.{other_file}
use Rattle.ledger_rules.specs.Numbers.{Drawn}
use Rattle.record_ledger.specs.Rules.{RecordRules, AreRecords}
use Rattle.record_ledger.specs.Ledger.{Held, held_with, next_number}
use Rattle.record_ledger.specs.Compacting.{Compacts, IsCompacted}
use Rattle.record_ledger.specs.Laws.{KeptAreRecords}
use Rattle.record_ledger.specs.Runs as events
use Rattle.record_ledger.specs.Runs.{Event, Adds, Opens, Leads}
use Rattle.record_ledger.proofs.Records.{AreRecords-push}
use Rattle.provider_node.specs.Histories.{Another, Includes, Nothing, This}

-- made anew in the version that is written, where it is opened
abbrev pub in_new_version : {R : Type 0} → Held R → Held R
in_new_version held = record held {
  file = other_file held.file;
  version = 2;
  header = record (held.header) { generation = held.header.generation + 1 };
}

-- What is said of a ledger lasts: it is kept by each record that is added, each compaction and each opening.
pub record Lasts {R : Type 0} (rules : RecordRules R) (P : Held R → Type 0) : Type 0 where
  pub adds : (before : Held R) (r : R) → rules.is_record before.records r ≡ true
      → All (λ (d : Drawn). next_number rules before ≤ d.number) (rules.drawn r) → P before → P (held_with r before)
  pub compacts : (now : ℕ) (before held : Held R) → IsCompacted rules now before held → P before → P held
  pub opens : (before : Held R) → P before → P (in_new_version before)

-- So it is said of each ledger that events lead to from one of which it is said.
module _ {R : Type 0} (rules : RecordRules R) (P : Held R → Type 0) (lasts : Lasts rules P) where
  compacted : (now : ℕ) (before held : Held R) → Compacts rules now before held → P before → P held
  compacted now before held (inl same) was = subst P (sym same.1) was
  compacted now before held (inr made) was = lasts.compacts now before held made.1 was

  opened : (before : Held R) (b : Bool) → P before → P (if b then in_new_version before else before)
  opened before true was = lasts.opens before was
  opened before false was = was

  one_event : (start held : Held R) (event : Event R) (past : List (Event R))
      → ((before : Held R) → Leads rules start past before → P before) → Leads rules start (event ∷ past) held → P held
  one_event start held (Adds r) past was leads =
      subst P (sym leads.4) (lasts.adds leads.0 r leads.2 leads.3 (was leads.0 leads.1))
  one_event start held (events.Compacts now) past was leads = compacted now leads.0 held leads.2 (was leads.0 leads.1)
  one_event start held Opens past was leads =
      subst P (sym leads.2) (opened leads.0 (leads.0.version == 1) (was leads.0 leads.1))

  pub run_lasts : (start held : Held R) (events : List (Event R)) → P start → Leads rules start events held → P held
  run_lasts start held [] was leads = subst P (sym leads) was
  run_lasts start held (event ∷ past) was leads =
      one_event start held event past (λ before led. run_lasts start before past was led) leads

-- It lasts also from a record on that was added.
module _ {R : Type 0} (rules : RecordRules R) (P Q : Held R → Type 0)
    (lasts : Lasts rules P) (lasts_before : Lasts rules Q) (start : Held R) (was : Q start) (r : R)
    (comes : (before : Held R) → Q before → rules.is_record before.records r ≡ true → P (held_with r before)) where
  front : (x : R) (xs : List R) → Contains (x ∷ xs) r → (x ≡ r) ⊎ Contains xs r
  front x xs (zero, less, is) = inl is
  front x xs (suc k, less, is) = inr (k, omega (arith, less), is)

  pub lasts_behind : (events : List (Event R)) (records : List R) (held : Held R)
      → Includes events records → Contains records r → Leads rules start events held → P held
  lasts_behind [] [] held Nothing has leads = absurd (omega (arith, has.1))
  lasts_behind [] (x ∷ records) held includes has leads = elim includes [ ]
  lasts_behind (Adds x ∷ past) (same ∷ records) held (This includes) has leads = elim (front x records has) [
    | inl here ↦
        let is = subst (λ (y : R). rules.is_record leads.0.records y ≡ true) here leads.2 in
        subst P (sym (leads.4 ∙ ap (λ (y : R). held_with y leads.0) here))
        (comes leads.0 (run_lasts rules Q lasts_before start leads.0 past was leads.1) is)
    | inr there ↦
        one_event rules P lasts start held
        (Adds x) past (λ before led. lasts_behind past records before includes there led) leads
  ]
  lasts_behind (event ∷ past) records held (Another includes) has leads = one_event rules P lasts start held event past
      (λ before led. lasts_behind past records before includes has led) leads

-- its records are records of the ledger
module _ {R : Type 0} (rules : RecordRules R) (kept : KeptAreRecords rules) where
  pub records_last : Lasts rules (λ held. AreRecords rules held.records)
  records_last = record {
    adds = λ before r is above are. AreRecords-push rules before.records r are is;
    compacts = λ now before held made are. kept now before.header.horizon before.records held.records are made.records;
    opens = λ before are. are;
  }
