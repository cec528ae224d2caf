-- What happened since a record was added.
use Rattle.std.specs.Prelude.{Contains}
use Rattle.std.proofs.Common.{◌≡◌, ◌⊎◌, ⊎_elim, inl, inr, ℕ, zero, suc, ◌<◌, ◌+◌, ◌==◌, if◌then◌else◌, Bool, true, false, List, []}
use Rattle.std.proofs.Common.{◌∷◌, ◌++◌, refl, sym, subst, ap, ◌∙◌, arith}
use Rattle.std.proofs.lemmas.Bool.{cases_lt}
use Rattle.std.proofs.lemmas.List.Elements.{All-contains}
use Rattle.crash_disk.specs.Torn.{other_file}
use Rattle.record_ledger.specs.Rules.{RecordRules}
use Rattle.record_ledger.specs.Ledger.{Held, held_with}
use Rattle.record_ledger.specs.Compacting.{Compacts}
use Rattle.record_ledger.specs.Laws.{ImagesHoldRecords}
use Rattle.record_ledger.proofs.Staying.{visible_records_stay}
use Rattle.record_ledger.specs.Runs as events
use Rattle.record_ledger.specs.Runs.{CompactsAt, EndsBehind, Event, Adds, Opens, Leads}
use Rattle.provider_node.specs.Added.{DrawsAbove}
use Rattle.provider_node.specs.Histories.{Another, CameFrom, CompactsWhere, Includes, This}
use Rattle.provider_node.specs.Staying.{RowIsAsLeft, SessionsStayInAService, SessionsStayOverStarts, WasAdded}
use Rattle.provider_node.specs.Staying.{WhatWasOpenedIsAsLeft}
use Rattle.provider_node.specs.Step.{AnswersBy}
use Rattle.provider_node.proofs.Histories.{what_is_kept}
use Rattle.provider_node.proofs.Starts.{kept_over_at, last_event}

module _ {R : Type 0} (rules : RecordRules R) where
  -- with one event more
  onto : (start held : Held R) (event : Event R) (past : List (Event R)) (r : R) → Leads rules start (event ∷ past) held
      → ((mid : Held R) → Leads rules start past mid → WasAdded rules start mid past r)
      → WasAdded rules start held (event ∷ past) r
  onto start held event past r leads was = let (mid, led, more) = last_event rules start held past event leads in
      let w = was mid led in
      record {
        past = w.past;
        later = event ∷ w.later;
        is = ap (λ (l : List (Event R)). event ∷ l) w.is;
        before = w.before;
        led = w.led;
        leads = more (held_with r w.before) w.later w.leads;
      }

  pub was_added : (start held : Held R) (events : List (Event R)) (records : List R) (r : R) → Leads
      rules start events held → Includes events records → Contains records r → WasAdded rules start held events r
  was_added start held [] [] r leads includes there = absurd (omega (arith, there.1))
  was_added start held [] (x ∷ records) r leads includes there = elim includes [ ]
  was_added start held (Adds x ∷ past) (same ∷ records) r leads (This includes) (zero, less, is) = let y : x ≡ r = is in
      record {
        past = past;
        later = [];
        is = ap (λ (z : R). Adds z ∷ past) y;
        before = leads.0;
        led = leads.1;
        leads = leads.4 ∙ ap (λ (z : R). held_with z leads.0) y;
      }
  was_added start held (Adds x ∷ past) (same ∷ records) r leads (This includes) (suc k, less, is) = onto start held
      (Adds x) past r leads (λ mid led. was_added start mid past records r led includes (k, omega (arith, less), is))
  was_added start held (event ∷ past) records r leads (Another includes) there =
      onto start held event past r leads (λ mid led. was_added start mid past records r led includes there)

  -- the horizon of a ledger is that at the start or a moment of a compaction
  ends_before : (moments : List ℕ) (until : ℕ) (start held : Held R) (events : List (Event R))
      → Leads rules start events held
      → CompactsAt moments events → EndsBehind start.header.horizon moments until → held.header.horizon < until
  ends_before moments until start held [] leads at ends =
      subst (λ (h : Held R). h.header.horizon < until) (sym leads) ends.start
  ends_before moments until start held (Adds x ∷ past) leads at ends = subst (λ (h : Held R). h.header.horizon < until)
      (sym leads.4) (ends_before moments until start leads.0 past leads.1 at ends)
  ends_before moments until start held (events.Compacts now ∷ past) leads at ends =
      of_case (ends_before moments until start leads.0 past leads.1 at.1 ends) leads.2
    where
      of_case : leads.0.header.horizon < until → Compacts rules now leads.0 held → held.header.horizon < until
      of_case earlier (inl (last, same)) = subst (λ (h : Held R). h.header.horizon < until) (sym same) earlier
      of_case earlier (inr (less, made)) = let at_now = All-contains (λ m. m < until) moments now ends.each at.0 in
          let is = made.horizon in omega (arith, earlier, at_now, is)
  ends_before moments until start held (Opens ∷ past) leads at ends =
      subst (λ (h : Held R). h.header.horizon < until) (sym leads.2)
      (by_version leads.0 (leads.0.version == 1) (ends_before moments until start leads.0 past leads.1 at ends))
    where
      by_version : (h : Held R) (b : Bool) → h.header.horizon < until → (if b then record h
          { file = other_file h.file; version = 2; header = record (h.header) { generation = h.header.generation + 1 } }
          else h).header.horizon < until
      by_version h true less = less
      by_version h false less = less

  -- it is that at the start, or one of these moments
  abbrev IsHorizon : (moments : List ℕ) (start : Held R) → ℕ → Type 0
  IsHorizon moments start horizon = (horizon ≡ start.header.horizon) ⊎ Contains moments horizon

  horizon_before : (moments : List ℕ) (start held : Held R) (events : List (Event R)) → Leads rules start events held
      → CompactsAt moments events → IsHorizon moments start held.header.horizon
  horizon_before moments start held [] leads at = inl (ap (λ (h : Held R). h.header.horizon) leads)
  horizon_before moments start held (Adds x ∷ past) leads at =
      subst (λ (h : Held R). IsHorizon moments start h.header.horizon) (sym leads.4)
      (horizon_before moments start leads.0 past leads.1 at)
  horizon_before moments start held (events.Compacts now ∷ past) leads at =
      of_case (horizon_before moments start leads.0 past leads.1 at.1) leads.2
    where
      of_case : IsHorizon moments start leads.0.header.horizon → Compacts rules now leads.0 held
          → IsHorizon moments start held.header.horizon
      of_case earlier (inl (last, same)) =
          subst (λ (h : Held R). IsHorizon moments start h.header.horizon) (sym same) earlier
      of_case earlier (inr (less, made)) = elim (cases_lt leads.0.header.horizon now) [
        | inl above ↦ let same : now ≡ held.header.horizon = omega (arith, above, made.horizon) in
            inr (subst (Contains moments) same at.0)
        | inr over ↦ let same : leads.0.header.horizon ≡ held.header.horizon = omega (arith, over, made.horizon) in
            subst (IsHorizon moments start) same earlier
      ]
  horizon_before moments start held (Opens ∷ past) leads at =
      subst (λ (h : Held R). IsHorizon moments start h.header.horizon) (sym leads.2)
      (by_version leads.0 (leads.0.version == 1) (horizon_before moments start leads.0 past leads.1 at))
    where
      by_version : (h : Held R) (b : Bool) → IsHorizon moments start h.header.horizon
          → IsHorizon moments start (if b then record h
          { file = other_file h.file; version = 2; header = record (h.header) { generation = h.header.generation + 1 } }
          else h).header.horizon
      by_version h true is = is
      by_version h false is = is

-- what is said of all events is said of those before and since
module _ {R : Type 0} where
  later_at : (moments : List ℕ) (later past : List (Event R))
      → CompactsWhere (Contains moments) (later ++ past) → CompactsAt moments later
  later_at moments [] past at = tt
  later_at moments (Adds x ∷ later) past at = later_at moments later past at
  later_at moments (events.Compacts now ∷ later) past at = (at.0, later_at moments later past at.1)
  later_at moments (Opens ∷ later) past at = later_at moments later past at

  past_at : (moments : List ℕ) (later past : List (Event R))
      → CompactsWhere (Contains moments) (later ++ past) → CompactsWhere (Contains moments) past
  past_at moments [] past at = at
  past_at moments (Adds x ∷ later) past at = past_at moments later past at
  past_at moments (events.Compacts now ∷ later) past at = past_at moments later past at.1
  past_at moments (Opens ∷ later) past at = past_at moments later past at

  pub all_at : (moments : List ℕ) (events : List (Event R))
      → CompactsWhere (Contains moments) events → CompactsAt moments events
  all_at moments [] at = tt
  all_at moments (Adds x ∷ past) at = all_at moments past at
  all_at moments (events.Compacts now ∷ past) at = (at.0, all_at moments past at.1)
  all_at moments (Opens ∷ past) at = all_at moments past at

-- a record was added to a ledger; since then it was compacted at these moments alone, and what ends behind them and the
-- horizon at the start ends behind its horizon
pub record Stood {R : Type 0}
    (rules : RecordRules R) (moments : List ℕ) (start held : Held R) (events : List (Event R)) (r : R) : Type 0 where
  pub was : WasAdded rules start held events r
  pub at : CompactsAt moments was.later
  pub ends : (until : ℕ)
      → EndsBehind start.header.horizon moments until → EndsBehind was.before.header.horizon moments until

pub stood : {R : Type 0} (rules : RecordRules R) (moments : List ℕ) (start held : Held R) (records : List R) (r : R)
    → (came : CameFrom rules (Contains moments) start records held) → Contains records r
    → Stood rules moments start held came.events r
stood {R} rules moments start held records r came there =
    let w = was_added rules start held came.events records r came.leads came.includes there in
    let both : CompactsWhere
    (Contains moments) (w.later ++ Adds r ∷ w.past) = subst (CompactsWhere (Contains moments)) w.is came.at in
    record {
      was = w;
      at = later_at moments w.later (Adds r ∷ w.past) both;
      ends = λ until ends. record {
        start = ends_before rules moments until start w.before w.past w.led
            (all_at moments w.past (past_at moments w.later (Adds r ∷ w.past) both)) ends;
        each = ends.each;
      };
    }

pub row_as_left : {R : Type 0} (rules : RecordRules R) (moments : List ℕ) (start held : Held R) (records : List R)
    (r : R) → CameFrom rules (Contains moments) start records held → Contains records r
    → RowIsAsLeft rules moments start r held
row_as_left {R} rules moments start held records r came there =
    let w = was_added rules start held came.events records r came.leads came.includes there in
    let both : CompactsWhere
    (Contains moments) (w.later ++ Adds r ∷ w.past) = subst (CompactsWhere (Contains moments)) w.is came.at in
    let former = horizon_before rules moments start w.before w.past w.led
    (all_at moments w.past (past_at moments w.later (Adds r ∷ w.past) both)) in
    record {
      events = came.events;
      leads = came.leads;
      was = w;
      stays = λ visible. visible_records_stay rules (held_with r w.before) held w.later moments w.before.records [] r
          w.leads (later_at moments w.later (Adds r ∷ w.past) both) refl (λ now horizon at is. visible now horizon at
          (⊎_elim (λ same. ⊎_elim (λ first. inl (same ∙ first))
          (λ one. inr (subst (Contains moments) (sym same) one)) former) inr is));
    }

-- Where a session that was opened is as it was left in each ledger that came by events, it is so in a service and over
-- starts.
module _ {Setup R X : Type 0} (rules : RecordRules R)
    (Opened : List R → X → Type 0) (IsAsLeft : (moments : List ℕ) (start : Held R) → X → Held R → Type 0)
    (Answers : AnswersBy Setup R) (as_left : (moments : List ℕ) (start held : Held R) (records : List R) (x : X)
    → CameFrom rules (Contains moments) start records held → Opened records x → IsAsLeft moments start x held) where
  pub found_as_left : WhatWasOpenedIsAsLeft rules Opened IsAsLeft
  found_as_left moments start records x image (held, is, came) opened =
      (held, is, as_left moments start held records x came opened)

  module _ (law : ImagesHoldRecords rules) (numbers : DrawsAbove rules Answers) where
    pub stay_in_a_service : SessionsStayInAService rules Opened IsAsLeft Answers
    stay_in_a_service first last turns kept at tells run =
        let is = what_is_kept rules Answers law numbers first last turns kept at tells run in
        record {
          records = is.records;
          are = is.are;
          stay = λ x image opened left. found_as_left _ first.node.ledger.held is.records x image
              (is.kept image left) opened;
        }

    pub stay_over_starts : SessionsStayOverStarts rules Opened IsAsLeft Answers
    stay_over_starts moments start starts begun =
        let is = kept_over_at rules Answers law numbers (Contains moments) start starts begun in
        record {
          records = is.records;
          are = is.are;
          stay = λ x image opened left. let opens = is.kept image left in
              (opens.held, opens.opens, as_left moments start opens.held is.records x opens.came opened);
        }
