use Rattle.std.proofs.Common.{[], Err, refl, ap, sym, subst, ◌∙◌}
use Rattle.provider_run.specs.Runs.{NotOpened, outside}
use Rattle.provider_run.proofs.Moments.{follows_err, follows_ok, opened, served}
use Rattle.record_ledger.specs.Calls.{opening}
use Rattle.provider_node.specs.Calls.{OpeningLeaves}
use Rattle.provider_node.proofs.Calling.{opening_leaves}
use Rattle.provider_node.specs.Step.{StepLeaves}
use Rattle.provider_run.proofs.running.run_by.Goals as goal

pub returns-in-Ok-clause-runs : goal.returns-in-Ok-clause-runs
returns-in-Ok-clause-runs g c = let link = c.args.link.now in
    let disk = c.args.disk.now in
    let before = outside (g.D.Disk.shows disk) (g.L.Link.shows link) (g.C.Clock.to_come c.args.clock.now) in
    let starts = c.in-Ok.ensures in
    let (turns, goes, leaves) = c.listen_and_serve.ensures.runs in (
      turns,
      λ told file set_up. goes told file before (record {
        set_up = subst (λ (s : g.row.R-Role.Denot). g.R.RunsProvider.sets_up told file s) (sym starts.setup) set_up;
        started = record {
          key_is = starts.key ∙ ap g.R.Role.Role.key (sym starts.setup);
          whole = starts.whole;
          holds = starts.gives;
        };
        opens = follows_ok g.D.Disk.shows (opening g.R.Role.Rows.Standing.rules) disk c.start.new.disk _ starts.calls;
        own = starts.own;
        tells = g.met.D.Disk.tells_always c.start.new.disk ∙ sym (g.met.D.Disk.tells_always disk);
        reads = g.met.D.Disk.reads_an_image c.start.new.disk;
        disk_faults = starts.faults.kept (λ e. cc);
        same = refl;
      }),
      served g.D.Disk.shows (OpeningLeaves g.R.Role.Rows.Standing.rules)
          (StepLeaves g.R.Role.Rows.Standing.rules g.R.Role.Role.answers) g.met.D.Disk.counts_now
          disk c.start.new.disk c.listen_and_serve.new.disk turns (opening_leaves g.D.Disk.shows
          g.R.Role.Rows.Standing.rules disk c.start.new.disk _ starts.moments starts.calls) leaves,
    )

pub returns-in-Err-Foreign-clause-runs : goal.returns-in-Err-Foreign-clause-runs
returns-in-Err-Foreign-clause-runs g c = let why = rw c.in-Err-Foreign.field-0-is at c.in-Err-Foreign.ensures.gives in
    rw c.in-Err-Foreign.field-0-is (
      [],
      λ told file set_up. NotOpened (record {
        setup = c.args.role;
        set_up = set_up;
        fails = (
          why,
          c.in-Err-Foreign.ensures.faults.kept
              (λ e. let both = sym (ap Err c.in-Err-Foreign.field-0-is) ∙ e in cc),
        );
        calls = follows_err g.D.Disk.shows
            (opening g.R.Role.Rows.Standing.rules) c.args.disk.now c.start.new.disk _ c.in-Err-Foreign.ensures.calls;
      }) refl refl,
      opened g.D.Disk.shows (OpeningLeaves g.R.Role.Rows.Standing.rules)
          (StepLeaves g.R.Role.Rows.Standing.rules g.R.Role.Role.answers) c.args.disk.now c.start.new.disk []
          (opening_leaves g.D.Disk.shows g.R.Role.Rows.Standing.rules
          c.args.disk.now c.start.new.disk _ c.in-Err-Foreign.ensures.moments c.in-Err-Foreign.ensures.calls),
    )

pub returns-in-Err-DiskFault-clause-runs : goal.returns-in-Err-DiskFault-clause-runs
returns-in-Err-DiskFault-clause-runs g c =
    let failed = c.in-Err-DiskFault.ensures.faults.failed (ap Err c.in-Err-DiskFault.field-0-is) in (
      [],
      λ told file set_up. NotOpened (record {
        setup = c.args.role;
        set_up = set_up;
        fails = failed;
        calls = follows_err g.D.Disk.shows
            (opening g.R.Role.Rows.Standing.rules) c.args.disk.now c.start.new.disk _ c.in-Err-DiskFault.ensures.calls;
      }) refl refl,
      opened g.D.Disk.shows (OpeningLeaves g.R.Role.Rows.Standing.rules)
          (StepLeaves g.R.Role.Rows.Standing.rules g.R.Role.Role.answers) c.args.disk.now c.start.new.disk []
          (opening_leaves g.D.Disk.shows g.R.Role.Rows.Standing.rules
          c.args.disk.now c.start.new.disk _ c.in-Err-DiskFault.ensures.moments c.in-Err-DiskFault.ensures.calls),
    )

pub returns-in-Err-NoMemory-clause-runs : goal.returns-in-Err-NoMemory-clause-runs
returns-in-Err-NoMemory-clause-runs g c = (
  [],
  λ told file set_up. NotOpened (record {
    setup = c.args.role;
    set_up = set_up;
    fails = c.in-Err-NoMemory.ensures.faults.kept (λ e. let both = sym (ap Err c.in-Err-NoMemory.field-0-is) ∙ e in cc);
    calls = follows_err g.D.Disk.shows
        (opening g.R.Role.Rows.Standing.rules) c.args.disk.now c.start.new.disk _ c.in-Err-NoMemory.ensures.calls;
  }) refl refl,
  opened g.D.Disk.shows (OpeningLeaves g.R.Role.Rows.Standing.rules)
      (StepLeaves g.R.Role.Rows.Standing.rules g.R.Role.Role.answers) c.args.disk.now c.start.new.disk []
      (opening_leaves g.D.Disk.shows g.R.Role.Rows.Standing.rules
      c.args.disk.now c.start.new.disk _ c.in-Err-NoMemory.ensures.moments c.in-Err-NoMemory.ensures.calls),
)
