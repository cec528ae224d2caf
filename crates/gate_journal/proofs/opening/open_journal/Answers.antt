use Rattle.std.specs.Prelude.{IfSome, Option, None, Some, Ok, Err}
use Rattle.std.specs.Option.{option_map}
use Rattle.std.proofs.Common.{◌≡◌, sym, ◌∙◌, ap, subst, rules, List, ◌++◌, Result}
use Rattle.crash_disk.specs.declared.file_no.FileNo.TheVariants.{Zero, One}
use Rattle.crash_disk.specs.Disk.{DiskState, image_of, reads_of}
use Rattle.crash_disk.specs.Plans.{after_all}
use Rattle.crash_disk.specs.Moments.{Leaves, LeavesOnly}
use Rattle.crash_disk.specs.Steps.{then, weaker}
use Rattle.crash_disk.proofs.Following as calls
use Rattle.gate_journal.specs.Format.{Kept, journal}
use Rattle.gate_journal.specs.Making.{IsMadeOrBlank, first_journal, read_of}
use Rattle.gate_journal.specs.Opening.{Opens, IsEmptyOrNone}
use Rattle.gate_journal.proofs.Lifting.{weaken}
use Rattle.gate_journal.proofs.Opened.{if_some, if_none, leaves_nothing, untold_making, no_journal_told, opens_now, opens_synced, opens_making, own_found, synced_told}
use Rattle.crash_disk.specs.declared.change.Change.{Change}
use Rattle.gate_journal.specs.declared.fault.OpenFault.{OpenFault}
use Rattle.gate_journal.specs.declared.journal.Journal.{Journal}
use Rattle.gate_journal.specs.Calls.{syncing_both, making_first, where_none, opening}
use Rattle.gate_journal.proofs.Planned.{nothing_there, something_there}
use Rattle.gate_journal.proofs.opening.open_journal.Goals as goal
use Rattle.gate_journal.proofs.opening.open_journal.Goals.{After-sync_both, After-load, In_ok-file, After-make_first}
use Rattle.gate_journal.proofs.opening.open_journal.Given.{Over}

-- once both files were read
module _ (g : Over) (c : After-load g) where
  module _ (d : DiskState) (is : (g.D.Disk.shows c.args.disk.now).told ≡ Some d) where
    first_synced : (g.D.Disk.shows c.sync_both.new.disk).told ≡ Some (after_all syncing_both d)
    first_synced = c.in_ok-sync_both.ensures.ok ∙ ap (option_map (after_all syncing_both)) is

    synced : (g.D.Disk.shows c.load.new.disk).told ≡ Some (after_all syncing_both d)
    synced = c.load.ensures.same ∙ first_synced

    both_read : LeavesOnly g.D.Disk.shows c.args.disk.now c.load.new.disk (Opens d)
    both_read =
        let shows = g.D.Disk.shows in
        let d0 = c.args.disk.now in
        let d1 = c.sync_both.new.disk in
        let reads = g.met.D.Disk.reads_an_image d0 in
        let first = weaker shows d0 d1 (Leaves (shows d0).told) (Opens d) c.sync_both.ensures.moments (opens_now (shows d0).told d is reads) in
        then shows d0 d1 c.load.new.disk (Opens d) (Leaves (shows d1).told) (Opens d) first c.load.ensures.moments (λ i p. p) (opens_synced (shows d0).told d is reads (shows d1).told first_synced)

  opens_read : IfSome (g.D.Disk.shows c.args.disk.now).told (λ d. LeavesOnly g.D.Disk.shows c.args.disk.now c.load.new.disk (Opens d))
  opens_read = if_some (g.D.Disk.shows c.args.disk.now).told (λ d. _) both_read

  both_synced : IfSome (g.D.Disk.shows c.args.disk.now).told (λ d. (g.D.Disk.shows c.load.new.disk).told ≡ Some (after_all syncing_both d))
  both_synced = if_some (g.D.Disk.shows c.args.disk.now).told (λ d. _) synced

-- what they stand for
found : (g : Over) (c : In_ok-file g) (kept : Option Kept) → option_map (λ pair. record { file = pair.0; holds = pair.1 }) c.in_ok-file.field-0 ≡ kept
    → IfSome (g.D.Disk.shows c.load.new.disk).told (λ d. journal (image_of d) ≡ Ok kept)
found g c kept is =
    subst (λ (o : Option DiskState). IfSome o (λ d. journal (image_of d) ≡ Ok kept)) (sym c.load.ensures.same)
    (weaken (g.D.Disk.shows c.sync_both.new.disk).told (λ d. journal (image_of d) ≡ Ok (option_map (λ pair. record { file = pair.0; holds = pair.1 }) c.in_ok-file.field-0)) _ c.in_ok-file.ensures.gives
    (λ d there. there ∙ ap Ok is))

-- where they hold no journal
none_is : (g : Over) (c : After-make_first g) → IfSome (g.D.Disk.shows c.load.new.disk).told (λ d. journal (image_of d) ≡ Ok None)
none_is g c = found g (goal.at.After-make_first g c).In_ok-file None (ap (λ (o : Option _). option_map (λ pair. record { file = pair.0; holds = pair.1 }) o) c.in-None.is)

pub returns-in_err-file-clause-moments : goal.returns-in_err-file-clause-moments
returns-in_err-file-clause-moments g c = opens_read g (goal.at.returns-in_err-file-clause-moments g c).After-load

pub returns-in-Some-clause-moments : goal.returns-in-Some-clause-moments
returns-in-Some-clause-moments g c = opens_read g (goal.at.returns-in-Some-clause-moments g c).After-load

pub make_first-requires-clause-none : goal.make_first-requires-clause-none
make_first-requires-clause-none g c =
    no_journal_told (g.D.Disk.shows c.load.new.disk).told Zero
    (found g (goal.at.make_first-requires-clause-none g c).In_ok-file None (ap (λ (o : Option _). option_map (λ pair. record { file = pair.0; holds = pair.1 }) o) c.in-None.is))

-- while the first journal is made
making : (g : Over) (c : After-make_first g) → IfSome (g.D.Disk.shows c.args.disk.now).told (λ d. LeavesOnly g.D.Disk.shows c.args.disk.now c.make_first.new.disk (Opens d))
making g c =
    let shows = g.D.Disk.shows in
    let a = (goal.at.After-make_first g c).After-load in
    let d0 = c.args.disk.now in
    let d2 = c.load.new.disk in
    if_some (shows d0).told (λ d. _) (λ d is.
    then shows d0 d2 c.make_first.new.disk (Opens d) (IsMadeOrBlank Zero first_journal (read_of (shows d2).told One)) (Opens d) (both_read g a d is) c.make_first.ensures.moments (λ i p. p)
    (opens_making (shows d0).told d is (g.met.D.Disk.reads_an_image d0) (shows d2).told (synced g a d is) (none_is g c)))

pub returns-in_err-make_first-in-None-clause-moments : goal.returns-in_err-make_first-in-None-clause-moments
returns-in_err-make_first-in-None-clause-moments g c = making g (goal.at.returns-in_err-make_first-in-None-clause-moments g c).After-make_first

pub returns-in_ok-make_first-in-None-clause-moments : goal.returns-in_ok-make_first-in-None-clause-moments
returns-in_ok-make_first-in-None-clause-moments g c = making g (goal.at.returns-in_ok-make_first-in-None-clause-moments g c).After-make_first

pub returns-in-Some-clause-own : goal.returns-in-Some-clause-own
returns-in-Some-clause-own g c =
    let at = goal.at.returns-in-Some-clause-own g c in
    let now = (g.D.Disk.shows c.load.new.disk).told in
    let settled : IfSome now (λ d. (d' : DiskState) × (d ≡ after_all syncing_both d')) =
    synced_told (g.D.Disk.shows c.args.disk.now).told now (c.load.ensures.same ∙ c.in_ok-sync_both.ensures.ok) in
    own_found now c.of.result (search rules) settled (found g at.In_ok-file (Some c.of.result.kept) (search rules))

-- where the disk does not tell
module _ (g : Over) (c : After-load g) (is : (g.D.Disk.shows c.args.disk.now).told ≡ None) where
  untold : (g.D.Disk.shows c.load.new.disk).told ≡ None
  untold = c.load.ensures.same ∙ c.in_ok-sync_both.ensures.ok ∙ ap (option_map (after_all syncing_both)) is

  untold_read : LeavesOnly g.D.Disk.shows c.args.disk.now c.load.new.disk IsEmptyOrNone
  untold_read =
      let shows = g.D.Disk.shows in
      let d0 = c.args.disk.now in
      let d1 = c.sync_both.new.disk in
      let first = weaker shows d0 d1 (Leaves (shows d0).told) IsEmptyOrNone c.sync_both.ensures.moments (leaves_nothing (shows d0).told is IsEmptyOrNone) in
      then shows d0 d1 c.load.new.disk IsEmptyOrNone (Leaves (shows d1).told) IsEmptyOrNone first c.load.ensures.moments (λ i p. p)
      (leaves_nothing (shows d1).told (c.in_ok-sync_both.ensures.ok ∙ ap (option_map (after_all syncing_both)) is) IsEmptyOrNone)

untold_made : (g : Over) (c : After-make_first g) → (g.D.Disk.shows c.args.disk.now).told ≡ None → LeavesOnly g.D.Disk.shows c.args.disk.now c.make_first.new.disk IsEmptyOrNone
untold_made g c is =
    let shows = g.D.Disk.shows in
    let a = (goal.at.After-make_first g c).After-load in
    let d2 = c.load.new.disk in
    then shows c.args.disk.now d2 c.make_first.new.disk IsEmptyOrNone (IsMadeOrBlank Zero first_journal (read_of (shows d2).told One)) IsEmptyOrNone (untold_read g a is) c.make_first.ensures.moments (λ i p. p)
    (untold_making (shows d2).told (untold g a is))

pub returns-in_err-sync_both-clause-untold : goal.returns-in_err-sync_both-clause-untold
returns-in_err-sync_both-clause-untold g c =
    let shows = g.D.Disk.shows in
    let d0 = c.args.disk.now in
    if_none (shows d0).told _ (λ is. weaker shows d0 c.sync_both.new.disk (Leaves (shows d0).told) IsEmptyOrNone c.sync_both.ensures.moments (leaves_nothing (shows d0).told is IsEmptyOrNone))

pub returns-in_err-file-clause-untold : goal.returns-in_err-file-clause-untold
returns-in_err-file-clause-untold g c = if_none (g.D.Disk.shows c.args.disk.now).told _ (untold_read g (goal.at.returns-in_err-file-clause-untold g c).After-load)

pub returns-in-Some-clause-untold : goal.returns-in-Some-clause-untold
returns-in-Some-clause-untold g c = if_none (g.D.Disk.shows c.args.disk.now).told _ (untold_read g (goal.at.returns-in-Some-clause-untold g c).After-load)

pub returns-in_err-make_first-in-None-clause-untold : goal.returns-in_err-make_first-in-None-clause-untold
returns-in_err-make_first-in-None-clause-untold g c = if_none (g.D.Disk.shows c.args.disk.now).told _ (untold_made g (goal.at.returns-in_err-make_first-in-None-clause-untold g c).After-make_first)

pub returns-in_ok-make_first-in-None-clause-untold : goal.returns-in_ok-make_first-in-None-clause-untold
returns-in_ok-make_first-in-None-clause-untold g c = if_none (g.D.Disk.shows c.args.disk.now).told _ (untold_made g (goal.at.returns-in_ok-make_first-in-None-clause-untold g c).After-make_first)

-- THE CHANGING CALLS

-- both files were synced and read, and no more
synced_read : (g : Over) (c : After-load g) → calls.Made g.D.Disk.shows (λ _. syncing_both) c.args.disk.now c.load.new.disk
synced_read g c =
    let plan : DiskState → List Change = λ _. syncing_both in
    let d0 = c.args.disk.now in
    let d1 = c.sync_both.new.disk in
    calls.waits plan d0 d1 c.load.new.disk (calls.made c.in_ok-sync_both.field-0 plan d0 d1 c.in_ok-sync_both.ensures.calls) c.load.ensures.same c.load.ensures.moments

-- what follows the two syncs
abbrev behind : DiskState → List Change
behind d = where_none (journal (image_of d)) (making_first (reads_of d Zero))

-- the first journal is made
abbrev first : DiskState → List Change
first d = making_first (reads_of d Zero)

pub returns-in_err-file-clause-calls : goal.returns-in_err-file-clause-calls
returns-in_err-file-clause-calls g c =
    calls.gives_up _ c.from_residual-in_err-file.result (λ _. syncing_both) behind c.args.disk.now c.load.new.disk c.from_residual-in_err-file.ensures.1
    (synced_read g (goal.at.returns-in_err-file-clause-calls g c).After-load)

pub returns-in-Some-clause-calls : goal.returns-in-Some-clause-calls
returns-in-Some-clause-calls g c =
    let at = goal.at.returns-in-Some-clause-calls g c in
    let d0 = c.args.disk.now in
    let d2 = c.load.new.disk in
    let plan : DiskState → List Change = λ _. syncing_both in
    let done : Result Journal OpenFault = Ok c.of.result in
    calls.follows_same done plan opening d0 d2
    (something_there (g.D.Disk.shows d0).told (g.D.Disk.shows d2).told c.of.result.kept (both_synced g at.After-load) (found g at.In_ok-file (Some c.of.result.kept) (search rules)))
    (calls.answers c.of.result plan d0 d2 (synced_read g at.After-load))

-- the plan is that of an opening, where the first journal is made
planned : (g : Over) (c : After-make_first g) → IfSome (g.D.Disk.shows c.args.disk.now).told (λ d. syncing_both ++ first d ≡ opening d)
planned g c = nothing_there (g.D.Disk.shows c.args.disk.now).told (g.D.Disk.shows c.load.new.disk).told (both_synced g (goal.at.After-make_first g c).After-load) (none_is g c)

pub returns-in_err-make_first-in-None-clause-calls : goal.returns-in_err-make_first-in-None-clause-calls
returns-in_err-make_first-in-None-clause-calls g c =
    let at = goal.at.returns-in_err-make_first-in-None-clause-calls g c in
    let d0 = c.args.disk.now in
    let new = c.make_first.new.disk in
    let other = c.from_residual-in_err-make_first-in-None.result in
    let failed : Result (Unit {0}) OpenFault = Err c.in_err-make_first-in-None.field-0.0 in
    calls.follows_same other (λ d. syncing_both ++ first d) opening d0 new (planned g at.After-make_first)
    (calls.hands_on {T = Unit {0}} _ c.in_err-make_first-in-None.field-0.0 other _ d0 new c.from_residual-in_err-make_first-in-None.ensures.1
    (calls.then_follows failed (λ _. syncing_both) first d0 c.load.new.disk new (synced_read g at.After-load) c.in_err-make_first-in-None.ensures.calls))

pub returns-in_ok-make_first-in-None-clause-calls : goal.returns-in_ok-make_first-in-None-clause-calls
returns-in_ok-make_first-in-None-clause-calls g c =
    let at = goal.at.returns-in_ok-make_first-in-None-clause-calls g c in
    let d0 = c.args.disk.now in
    let new = c.make_first.new.disk in
    let done : Result (Unit {0}) OpenFault = Ok c.in_ok-make_first-in-None.field-0 in
    let answer : Result Journal OpenFault = Ok c.first.result in
    let all : DiskState → List Change = λ d. syncing_both ++ first d in
    calls.follows_same answer all opening d0 new (planned g at.After-make_first)
    (calls.answers c.first.result all d0 new
    (calls.made c.in_ok-make_first-in-None.field-0 all d0 new
    (calls.then_follows done (λ _. syncing_both) first d0 c.load.new.disk new (synced_read g at.After-load) c.in_ok-make_first-in-None.ensures.calls)))
