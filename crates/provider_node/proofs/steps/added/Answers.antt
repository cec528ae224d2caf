use Rattle.std.specs.Prelude.{IfSome, IsSomeAnd, OnErr, Option, Result, Ok, Err}
use Rattle.std.specs.Result.{is_err}
use Rattle.std.proofs.Common.{◌≡◌, ℕ, List, true, false, refl, sym, ◌∙◌}
use Rattle.crash_disk.specs.declared.change.Change.{Change}
use Rattle.crash_disk.specs.Counts.{CountsFaults, Rose}
use Rattle.crash_disk.specs.Disk.{DiskState}
use Rattle.crash_disk.specs.Plans.{IsCarriedOut}
use Rattle.provider_node.specs.Calls.{Begins, Makes}
use Rattle.provider_node.specs.Serving.{Lost}
use Rattle.provider_node.specs.Step.{seen}
use Rattle.provider_node.proofs.Calling.{carried_err, carried_ok, committing_leaves}
use Rattle.provider_node.proofs.steps.added.Goals as goal

-- what an error says
erred : {T E : Type 0} (result : Result T E) (P : Type 0) (before after : ℕ)
    → is_err result ≡ true → OnErr result P → CountsFaults result before after → P × Rose before after
erred (Ok x) P before after is err counts = cc
erred (Err e) P before after is err counts = (err, counts.failed)

-- which calls were made
begun : {T E : Type 0} (result : Result T E) (plan : DiskState → List Change) (told later : Option DiskState)
    → is_err result ≡ true
    → IfSome told (λ disk. IsSomeAnd later (IsCarriedOut result (plan disk) disk)) → Begins plan told later
begun (Ok x) plan told later is ends = cc
begun {T = T} {E = E} (Err e) plan told later is ends = carried_err T E plan told later e ends

made : {T E : Type 0} (result : Result T E) (plan : DiskState → List Change) (told later : Option DiskState)
    → is_err result ≡ false
    → IfSome told (λ disk. IsSomeAnd later (IsCarriedOut result (plan disk) disk)) → Makes plan told later
made {T = T} {E = E} (Ok x) plan told later is ends = carried_ok T E plan told later x ends
made (Err e) plan told later is ends = cc

pub returns-then-is_err-clause-adds : goal.returns-then-is_err-clause-adds
returns-then-is_err-clause-adds g c = let is = sym c.is_err.ensures.value ∙ c.if-is_err.true in
    let of = erred c.commit.result _ (g.D.Disk.shows c.args.disk.now).faults
    (g.D.Disk.shows c.commit.new.disk).faults is c.commit.ensures.err c.commit.ensures.faults in
    Lost _ (record { bytes = c.in-Ok.bytes; shows = c.in-Ok.ensures; is = refl }) of.1 refl
    (record { setup = refl; key = c.commit.ensures.key; is_broken = of.0.1 }) (begun c.commit.result
    _ (g.D.Disk.shows c.args.disk.now).told (g.D.Disk.shows c.commit.new.disk).told is c.commit.ensures.calls.ends)

pub returns-then-is_err-clause-moments : goal.returns-then-is_err-clause-moments
returns-then-is_err-clause-moments g c =
    committing_leaves g.D.Disk.shows g.R.Rows.Standing.rules c.args.disk.now c.commit.new.disk c.args.draft
    (seen c.args.ledger.now).held c.commit.result c.commit.ensures.moments c.commit.ensures.calls

pub returns-clause-moments : goal.returns-clause-moments
returns-clause-moments g c = committing_leaves g.D.Disk.shows g.R.Rows.Standing.rules c.args.disk.now c.commit.new.disk
    c.args.draft (seen c.args.ledger.now).held c.commit.result c.commit.ensures.moments c.commit.ensures.calls
