use Rattle.std.specs.Option.{option_map}
use Rattle.std.proofs.Common.{rules, ◌≡◌, ◌∙◌, ℕ, List, [], Err, refl, ap, inl, subst}
use Rattle.crash_disk.specs.Steps.{started}
use Rattle.crash_disk.specs.Counts.{Rose}
use Rattle.event_link.specs.Links.{ListenFailed, listening, noted}
use Rattle.serve_loop.specs.Serving.{MightLeave}
use Rattle.provider_run.specs.declared.ended.RunFault.TheVariants as faults
use Rattle.provider_run.specs.Runs.{Deaf, Outside, Serving, outside}
use Rattle.provider_run.proofs.Serving.{ready_then}
use Rattle.provider_node.specs.Step.{StepLeaves}
use Rattle.provider_run.proofs.running.listen_and_serve.Goals as goal

pub returns-in_err-listen-clause-runs : goal.returns-in_err-listen-clause-runs
returns-in_err-listen-clause-runs g c = let link = c.args.link.now in
    let heard = c.listen.new.self in
    let disk = g.D.Disk.shows c.args.disk.now in
    let clock = g.C.Clock.to_come c.args.clock.now in
    let is : c.from_residual.result ≡ Err faults.LinkFault = search rules in
    let listens = c.in_err-listen.ensures.listens ∙ ap
    (λ (address : List ℕ). option_map (noted (ListenFailed address)) (g.L.Link.shows link).told)
    (c.address.ensures ∙ ap g.R.RunsProvider.listens_at c.role.ensures) in (
      [],
      λ files file before opens. Deaf c.args.node.now (ready_then g.R.RunsProvider.sets_up g.R.RunsProvider.listens_at
          g.R.Role.Role.key g.R.Role.Rows.Standing.rules files file before c.args.node.now disk (g.L.Link.shows link)
          (g.L.Link.shows heard) clock (noted (ListenFailed (g.R.RunsProvider.listens_at c.args.node.now.setup))) opens
          listens c.in_err-listen.ensures.send_faults) is (subst (λ (n : ℕ). Rose n (g.L.Link.shows heard).faults)
          (ap (λ (o : Outside). o.link_faults) opens.same) c.in_err-listen.ensures.faults.failed) refl,
      started g.D.Disk.shows c.args.disk.now (MightLeave (StepLeaves g.R.Role.Rows.Standing.rules
          g.R.Role.Role.answers) disk.told []) (λ image left. inl (g.met.D.Disk.only_now c.args.disk.now image left)),
    )

pub returns-clause-runs : goal.returns-clause-runs
returns-clause-runs g c = let link = c.args.link.now in
    let heard = c.listen.new.self in
    let disk = g.D.Disk.shows c.args.disk.now in
    let clock = g.C.Clock.to_come c.args.clock.now in
    let now = c.serve.new in
    let listens = c.in_ok-listen.ensures.listens ∙ ap
    (λ (address : List ℕ). option_map (listening address) (g.L.Link.shows link).told)
    (c.address.ensures ∙ ap g.R.RunsProvider.listens_at c.role.ensures) in
    let (turns, serves, leaves) = c.serve.ensures.serves in (
      turns,
      λ files file before opens. Serving c.args.node.now now.node (outside disk (g.L.Link.shows heard) clock)
          c.serve.result (ready_then g.R.RunsProvider.sets_up g.R.RunsProvider.listens_at g.R.Role.Role.key
          g.R.Role.Rows.Standing.rules files file before c.args.node.now disk (g.L.Link.shows link)
          (g.L.Link.shows heard) clock (listening (g.R.RunsProvider.listens_at c.args.node.now.setup))
          opens listens c.in_ok-listen.ensures.send_faults) serves c.ended_of.ensures,
      leaves,
    )
