-- What a run of a provider acknowledged is kept.
use Rattle.std.specs.Prelude.{IfSome, IsSome, Option, None, Some, Result, Ok}
use Rattle.std.proofs.Common.{◌≡◌, ℕ, List, [], ◌∷◌, sym, subst, ap, ◌∙◌}
use Rattle.std.specs.List.{AllByRecursion}
use Rattle.saml_outside.specs.Files.{File}
use Rattle.conn_table.specs.Table.{Table}
use Rattle.crash_disk.specs.Disk.{Image, DiskState, image_of}
use Rattle.serve_loop.specs.declared.served.Served.{Served}
use Rattle.serve_loop.specs.declared.served.ServeFault.{ServeFault}
use Rattle.serve_loop.specs.Serving.{Serves}
use Rattle.serve_loop.specs.Turns.{Asked, Run, Turn, asked_by}
use Rattle.serve_loop.specs.Worlds.{World}
use Rattle.record_ledger.specs.Rules.{RecordRules, AreRecords}
use Rattle.record_ledger.specs.Ledger.{Held, ledger_in, taken}
use Rattle.record_ledger.specs.Laws.{ImagesHoldRecords}
use Rattle.provider_node.specs.Histories.{IsAtStart, IsProviders}
use Rattle.provider_node.specs.Lasting.{AreKeptSince}
use Rattle.provider_node.specs.Points.{Point, point, point_in, points, points_asked}
use Rattle.provider_node.specs.Starts.{IsServed}
use Rattle.provider_node.specs.Step.{AnswersBy, Provider, StepLeaves}
use Rattle.provider_node.specs.Added.{DrawsAbove}
use Rattle.provider_node.proofs.Lasting.{kept_since}
use Rattle.provider_node.proofs.Opened.{opened_records}
use Rattle.provider_run.specs.Runs.{Outside, world_of}
use Rattle.provider_run.specs.Providers.{Begins, SetUpBy}

-- ---- at the start

-- what a disk that tells is opened to holds records of a ledger
module _ {R : Type 0} (rules : RecordRules R) (hold : ImagesHoldRecords rules) where
  told_records : (told : Option DiskState) (held : Held R)
      → IsSome told → IfSome told (λ d. taken (ledger_in rules (image_of d)) ≡ Ok held) → AreRecords rules held.records
  told_records None held tells holds = cc
  told_records (Some d) held tells holds = opened_records rules hold (image_of d) held holds

-- ---- a provider that was started on a disk that tells

module _ {Setup R : Type 0} (SetsUp : SetUpBy Setup)
    (address key : Setup → List ℕ) (rules : RecordRules R) (Answers : AnswersBy Setup R) (hold : ImagesHoldRecords rules)
    (told : Option (List File)) (file : List ℕ) (before opened : Outside) (provider : Provider Setup R)
    (tells : IsSome before.disk) (begins : Begins SetsUp address key rules told file before provider opened) where
  pub started : IsAtStart rules (world_of provider opened)
  started = record {
    whole = begins.started.whole;
    records = told_records rules hold before.disk provider.ledger.held tells begins.started.holds;
    own = begins.own;
    reads = begins.reads;
  }

  pub still_tells : IsSome opened.disk
  still_tells = begins.tells ∙ tells

  pub is_a_start : (turns : List (Turn (Provider Setup R))) (kept : Table) (behind : World (Provider Setup R))
      → Run (IsProviders rules Answers) (world_of provider opened) turns kept behind
      → IsServed rules Answers before.disk (world_of provider opened) turns kept behind
  is_a_start turns kept behind run =
      record { opened = begins.started.holds; at = started; tells = still_tells; run = run }

  -- also inside later requests
  pub kept_ever_since : DrawsAbove rules Answers → (left : ℕ → Image → Type 0) (budget : ℕ) (after : Outside)
      (last : Provider Setup R) (turns : List (Turn (Provider Setup R))) (served : Result Served ServeFault)
      → (serves : Serves (IsProviders rules Answers)
      (StepLeaves rules Answers) left budget turns (world_of provider opened) served (world_of last after))
      → AreKeptSince rules Answers left (world_of provider opened) turns serves.kept serves.last serves.run
  kept_ever_since draws left budget after last turns served serves = kept_since rules Answers hold draws
      (world_of provider opened) started still_tells left turns serves.kept serves.last serves.run serves.in_order

-- ---- points and turns

-- what holds of the points up to the last turn holds of those up to the end
pub points_behind : {N : Type 0}
    (P : List (Point N) → Type 0) (first : World N) (turns : List (Turn N)) (behind now : World N)
    → (now.node ≡ behind.node) × (now.disk ≡ behind.disk) → P (points first turns behind) → P (points first turns now)
points_behind {N} P first turns behind now same is =
    let alike : point_in now ≡ point_in behind = ap (λ (n : N). point n now.disk) same.0
    ∙ ap (λ (d : Option DiskState). point behind.node d) same.1 in
    subst (λ (p : Point N). P (p ∷ points_asked first turns)) (sym alike) is

-- what holds of each request that a node may be asked holds of those of a turn
all_of : {N : Type 0} (P : Asked N → Type 0)
    → ((asked : Asked N) → P asked) → (list : List (Asked N)) → AllByRecursion P list
all_of P each [] = tt
all_of P each (asked ∷ others) = (each asked, all_of P each others)

pub of_turn : {N : Type 0} (P : Asked N → Type 0)
    → ((asked : Asked N) → P asked) → (turn : Turn N) → AllByRecursion P (asked_by turn)
of_turn P each turn = all_of P each (asked_by turn)
