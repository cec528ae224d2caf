use Rattle.std.proofs.Common.{◌≢◌, [], Err, inl, inr, refl, sym, subst}
use Rattle.provider_run.specs.declared.ended.RunFault.TheVariants as faults
use Rattle.provider_run.specs.Runs.{BadSetUp, NotSetUp, IsNotSetUp}
use Rattle.provider_run.proofs.Completing.{complete}
use Rattle.provider_run.proofs.Moments.{leaves_opening, untouched}
use Rattle.provider_node.specs.Calls.{OpeningLeaves}
use Rattle.provider_node.specs.Step.{StepLeaves}
use Rattle.provider_run.proofs.running.run.Goals as goal

pub returns-in-Ok-clause-runs : goal.returns-in-Ok-clause-runs
returns-in-Ok-clause-runs g c = let (turns, goes, leaves) = c.run_by.ensures.runs in
    let from = c.in-Ok.ensures.ok in
    let told = g.F.Files.holds c.args.files.now in
    let runs = goes told c.args.config.now from in (
      turns,
      runs,
      c.carries_headline.ensures c.run_by.new.disk told c.args.config.now c.args.budget _ turns c.run_by.result _ runs,
      leaves,
    )

pub returns-in-Ok-clause-complete : goal.returns-in-Ok-clause-complete
returns-in-Ok-clause-complete g c = λ can no_read no_link no_disk. let (turns, goes, leaves) = c.run_by.ensures.runs in
    let from = c.in-Ok.ensures.ok in let told = g.F.Files.holds c.args.files.now in let result = c.run_by.result in
    let unread : result ≢ Err faults.ReadFault = λ e. c.run_by.ensures.set_up (subst IsNotSetUp (sym e) tt) in
    let unlinked : result ≢ Err faults.LinkFault = λ e. no_link (c.run_by.ensures.link_fault e) in
    complete g.R.RunsProvider.sets_up g.R.RunsProvider.is_bad g.R.RunsProvider.listens_at g.R.Role.Role.key g.R.Role.Rows.Standing.rules
    g.R.Role.Role.answers result unread no_disk unlinked c.never_both.ensures (g.D.Disk.shows
    c.run_by.new.disk).left_since told c.args.config.now c.args.budget _ _ turns can (goes told c.args.config.now from)

pub returns-in-Ok-clause-untouched : goal.returns-in-Ok-clause-untouched
returns-in-Ok-clause-untouched g c = λ not. absurd (c.run_by.ensures.set_up not)

pub returns-in-Err-BadFile-clause-runs : goal.returns-in-Err-BadFile-clause-runs
returns-in-Err-BadFile-clause-runs g c = let is = rw c.in-Err-BadFile.field-0-is at c.in-Err-BadFile.ensures.err in
    rw c.in-Err-BadFile.field-0-is (
      [],
      BadSetUp c.in-Err-BadFile.file c.in-Err-BadFile.line is refl refl refl,
      c.carries_headline.ensures c.args.disk.now (g.F.Files.holds c.args.files.now) c.args.config.now
          c.args.budget _ [] _ _ (BadSetUp c.in-Err-BadFile.file c.in-Err-BadFile.line is refl refl refl),
      untouched g.D.Disk.shows (OpeningLeaves g.R.Role.Rows.Standing.rules) (StepLeaves g.R.Role.Rows.Standing.rules
          g.R.Role.Role.answers) (λ disk image left. leaves_opening g.R.Role.Rows.Standing.rules
          (g.D.Disk.shows disk).told image (g.met.D.Disk.only_now disk image left)) c.args.disk.now [],
    )

pub returns-in-Err-BadFile-clause-complete : goal.returns-in-Err-BadFile-clause-complete
returns-in-Err-BadFile-clause-complete g c = λ can no_read no_link no_disk.
    let is = rw c.in-Err-BadFile.field-0-is at c.in-Err-BadFile.ensures.err in absurd (c.never_both.ensures can.files
    c.args.config.now can.setup c.in-Err-BadFile.file c.in-Err-BadFile.line can.set_up (rw can.tells at is))

pub returns-in-Err-ReadFault-clause-runs : goal.returns-in-Err-ReadFault-clause-runs
returns-in-Err-ReadFault-clause-runs g c = (
  [],
  NotSetUp (inl refl) refl refl,
  c.carries_headline.ensures c.args.disk.now
      (g.F.Files.holds c.args.files.now) c.args.config.now c.args.budget _ [] _ _ (NotSetUp (inl refl) refl refl),
  untouched g.D.Disk.shows (OpeningLeaves g.R.Role.Rows.Standing.rules) (StepLeaves g.R.Role.Rows.Standing.rules
      g.R.Role.Role.answers) (λ disk image left. leaves_opening g.R.Role.Rows.Standing.rules
      (g.D.Disk.shows disk).told image (g.met.D.Disk.only_now disk image left)) c.args.disk.now [],
)

pub returns-in-Err-NoMemory-clause-runs : goal.returns-in-Err-NoMemory-clause-runs
returns-in-Err-NoMemory-clause-runs g c = (
  [],
  NotSetUp (inr refl) refl refl,
  c.carries_headline.ensures c.args.disk.now
      (g.F.Files.holds c.args.files.now) c.args.config.now c.args.budget _ [] _ _ (NotSetUp (inr refl) refl refl),
  untouched g.D.Disk.shows (OpeningLeaves g.R.Role.Rows.Standing.rules) (StepLeaves g.R.Role.Rows.Standing.rules
      g.R.Role.Role.answers) (λ disk image left. leaves_opening g.R.Role.Rows.Standing.rules
      (g.D.Disk.shows disk).told image (g.met.D.Disk.only_now disk image left)) c.args.disk.now [],
)
