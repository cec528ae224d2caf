-- A provider serves by what it was started with, at each request of a run.
use Rattle.std.specs.Prelude.{Contains, Option, None, Some}
use Rattle.std.proofs.Common.{◌≡◌, ◌≤◌, ◌⊎◌, inl, inr, ℕ, zero, suc, nat_le, true, List, [], ◌∷◌, sym, subst, refl, ap, ◌∙◌, arith, false}
use Rattle.std.proofs.lemmas.List.Elements.{Contains-append_cases}
use Rattle.crash_disk.specs.Counts.{Rose}
use Rattle.crash_disk.specs.Disk.{DiskState}
use Rattle.conn_table.specs.Table.{Table}
use Rattle.http_wire.specs.declared.answer.Answer.{Answer}
use Rattle.http_wire.specs.Requests.{Request}
use Rattle.ledger_records.specs.declared.sp_record.SpRecord.{SpRecord}
use Rattle.serve_loop.specs.Turns.{Asked, Turn, Answered, asked_in, asked_by, Does, Run}
use Rattle.serve_loop.specs.Worlds.{World}
use Rattle.request_ledger.specs.Ledger.{Held}
use Rattle.request_ledger.specs.Record.{request_rules}
use Rattle.sp_server.specs.Step as steps
use Rattle.verdict_codes.specs.Codes.{number_of}
use Rattle.verdict_codes.specs.declared.codes.Verdict.TheVariants.{RegistryExpired}
use Rattle.sp_server.specs.Step.{Setup, Provider, Answers, is_expired, session_for}
use Rattle.provider_node.specs.Step.{Steps}
use Rattle.provider_node.specs.Histories.{ForAnswer, ForCode, IsProviders, Stands}
use Rattle.sp_setup.specs.Laws.{ARegistryTellsTheProvider, WithoutARegistryNothingEnds}
use Rattle.sp_runs.specs.Laws.{ARunUsesWhatItsRegistryLists, EachRequestIsServedByTheSameSetup, AnEndedRegistryAddsNothing, AnEndedRegistryRecordsNothing, AnEndedRegistryAsksNothing, AsksAndOpensNothing, WithoutARegistryNothingIsExpired}
use Rattle.sp_setup.specs.Setup as setups
use Rattle.provider_run.proofs.Setups.{asked_same}
use Rattle.provider_run.specs.Runs.{world_of}
use Rattle.sp_runs.specs.Runs.{served_by}
use Rattle.sp_runs.proofs.Expired.{step_unexpired}
use Rattle.sp_runs.proofs.Guarded.{guarded}
use Rattle.provider_node.proofs.Answered.{answered}

pub served_by_one : EachRequestIsServedByTheSameSetup
served_by_one told file before opened provider turns kept behind asked begins run there =
    asked_same request_rules Answers (world_of provider opened) behind turns kept asked run there
    ∙ begins.set_up.serves_by

-- ---- registries

pub told_in_a_run : ARegistryTellsTheProvider → ARunUsesWhatItsRegistryLists
told_in_a_run tells told file before opened provider line begins named =
    (tells told _ file begins.set_up.setup line begins.set_up.is named, begins.set_up.serves_by)

-- where a registry has ended nothing is recorded, and this is answered
module _ (setup : Setup) (held : Held) (request : Request) (now : ℕ) (answer : Answer) (adds : Option SpRecord)
    (over : is_expired setup.expiry now ≡ true) where
  abbrev AsksNothing : Type 0
  AsksNothing = (adds ≡ None) × AsksAndOpensNothing setup request answer

  not_over : is_expired setup.expiry now ≡ false → AsksNothing
  not_over unexpired = absurd (let e = sym over ∙ unexpired in cc)

  nothing_asked : Answers setup held request now answer adds → AsksNothing
  nothing_asked (steps.ByStatus status to is none) = (none, inl (status, is))
  nothing_asked (steps.ByMetadata to is none) = (none, inr (inl is))
  nothing_asked (steps.BySession row to found is none) = (none, inr (inr (inl (row, is))))
  nothing_asked (steps.ByAsking bytes to session unexpired id relay page is ids shown) = not_over unexpired
  nothing_asked (steps.ByGuard to is none) = (none, guarded setup request answer (session_for held now request) is)
  nothing_asked (steps.ByOpening b row to unexpired opens token is has shown) = not_over unexpired
  nothing_asked (steps.ByVerdict verdict to unexpired refused is none) = (none, inl (_, is))
  nothing_asked (steps.ByExpiry at expired is none) = (none, inl (number_of RegistryExpired, is))
  nothing_asked (steps.ByLeaving row id bytes to unexpired found is has leaves shown) = not_over unexpired
  nothing_asked (steps.ByNoSession to unexpired found is none) = (none, inl (_, is))
  nothing_asked (steps.ByLogoutVerdict verdict to unexpired refused is none) = (none, inl (_, is))
  nothing_asked (steps.ByEnding asked relay id bytes to unexpired obeyed any is has ends shown) = not_over unexpired
  nothing_asked (steps.ByNothingToEnd asked relay to unexpired obeyed empty is none) = (none, inl (_, is))
  nothing_asked (steps.ByConfirming response to unexpired obeyed awaited is shown) = not_over unexpired
  nothing_asked (steps.ByUnknownLogout response to unexpired obeyed unknown is none) = (none, inl (_, is))

stands_for_none : (asked : Asked Provider) (stood : Option SpRecord) (r : SpRecord)
    → is_expired asked.node.setup.expiry asked.now ≡ true → stood ≡ Some r
    → Stands request_rules Answers asked stood → ⊥
stands_for_none asked stood r ended some (ForAnswer adds is) =
    let e = (nothing_asked asked.node.setup is.held asked.request asked.now asked.answer adds ended is.answers).0 in
    cc
stands_for_none asked stood r ended some (ForCode code own is) = cc

at_or_after : (until now : ℕ) → until ≤ now → nat_le until now ≡ true
at_or_after until now late = grind (arith, Rattle.std.proofs.lemmas.Bool.Decides.nat_tests)

-- the registry has ended at the moment of a request
is_over : (asked : Asked Provider) (until : ℕ) (setup : setups.Setup) → asked.node.setup ≡ served_by setup
    → setup.expiry ≡ Some until → until ≤ asked.now →
    is_expired asked.node.setup.expiry asked.now ≡ true
is_over asked until setup by ends late =
    ap (λ (s : Setup). is_expired s.expiry asked.now) by ∙ ap (λ (e : Option ℕ). is_expired e asked.now) ends
    ∙ at_or_after until asked.now late

pub ended : AnEndedRegistryRecordsNothing
ended told file before opened provider turns kept behind asked until r begins run ends there late stands =
    let by = served_by_one told file before opened provider turns kept behind asked begins run there in
    stands_for_none asked (Some r) r (is_over asked until begins.set_up.setup by ends late) refl stands

pub adds_none : AnEndedRegistryAddsNothing
adds_none setup until held request now answer r ends late answers =
    let over = ap (λ (e : Option ℕ). is_expired e now) ends ∙ at_or_after until now late in
    let none = (nothing_asked setup held request now answer (Some r) over answers).0 in cc

-- what is answered then by a step
step_without : (old : Provider) (disk : Option DiskState) (request : Request) (now : ℕ) (Risen : Type 0)
    (answer : Answer) (new : Provider) → is_expired old.setup.expiry now ≡ true
    → Steps request_rules Answers old disk request now Risen answer new → AsksAndOpensNothing old.setup request answer
step_without old disk request now Risen answer new over =
    answered request_rules Answers request now Risen answer old new (AsksAndOpensNothing old.setup request)
    (λ held adds answers. (nothing_asked old.setup held request now answer adds over answers).1)
    (λ code few. inl (code, refl)) disk

-- ---- without a registry

-- what is done at each request that was asked
record Did (asked : Asked Provider) : Type 0 where
  disk : Option DiskState
  faults : ℕ
  later : ℕ
  new : Provider
  step : Steps request_rules Answers asked.node disk asked.request asked.now (Rose faults later) asked.answer new

did_here : (turn : Turn Provider) (old new : Table) (w later : World Provider) (asked : Asked Provider)
    → Does (IsProviders request_rules Answers) old w turn new later → Contains (asked_by turn) asked → Did asked
did_here (Answered piece one) old new w later asked (between, takes, answers) (zero, within, is) =
    subst Did is (record {
      disk = w.disk;
      faults = w.disk_faults;
      later = answers.told.disk_faults;
      new = answers.told.node;
      step =
          subst (λ (p : Provider). Steps request_rules Answers p w.disk one.request one.now
          (Rose w.disk_faults answers.told.disk_faults)
          one.answer answers.told.node) (sym answers.asks.node) answers.asks.answers.does.step;
    })
did_here (Answered piece one) old new w later asked does (suc k, within, is) = absurd (omega arith)
did_here turn old new w later asked does (k, within, is) = absurd (omega arith)

did : (first last : World Provider) (turns : List (Turn Provider)) (kept : Table) (asked : Asked Provider)
    → Run (IsProviders request_rules Answers) first turns kept last → Contains (asked_in turns) asked → Did asked
did first last [] kept asked run (k, within, is) = absurd (omega arith)
did first last (turn ∷ past) kept asked (old, before, given, run, next, does) there =
    which (λ earlier. did first before past old asked run earlier)
    (Contains-append_cases (asked_in past) (asked_by turn) asked there)
  where
    which : (Contains (asked_in past) asked → Did asked) → Contains (asked_in past) asked
        ⊎ Contains (asked_by turn) asked → Did asked
    which rest (inl earlier) = rest earlier
    which rest (inr now) = did_here turn old kept given last asked does now

pub asks_nothing : AnEndedRegistryAsksNothing
asks_nothing told file before opened provider turns kept behind asked until begins run ends there late =
    let by = served_by_one told file before opened provider turns kept behind asked begins run there in
    let here = did (world_of provider opened) behind turns kept asked run there in
    subst (λ (s : Setup). AsksAndOpensNothing s asked.request asked.answer) by
    (step_without asked.node here.disk asked.request asked.now (Rose here.faults here.later) asked.answer here.new
    (is_over asked until begins.set_up.setup by ends late) here.step)

pub never_expired : WithoutARegistryNothingEnds → WithoutARegistryNothingIsExpired
never_expired endless told file before opened provider turns kept behind asked begins run none there =
    let by = served_by_one told file before opened provider turns kept behind asked begins run there in
    let no_end : asked.node.setup.expiry ≡ None =
    ap (λ (s : Setup). s.expiry) by ∙ endless told _ file begins.set_up.setup begins.set_up.is none in
    let here = did (world_of provider opened) behind turns kept asked run there in
    step_unexpired asked.node here.disk asked.request asked.now (Rose here.faults here.later) asked.answer here.new
    no_end here.step
