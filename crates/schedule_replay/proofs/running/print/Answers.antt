use Rattle.std.proofs.Common.{◌≡◌, Bool, subst, sym}
use Rattle.std.specs.Prelude.{take}
use Rattle.saml_outside.specs.Sinks.{then_bytes}
use Rattle.schedule_replay.specs.Runs.{shown}
use Rattle.schedule_replay.proofs.running.print.Goals as goal

pub returns-in-Err-clause-part : goal.returns-in-Err-clause-part
returns-in-Err-clause-part g c =
    let n = c.in-Err.field-0.sent in
    let taken = g.K.Sink.taken in (
      n,
      subst (λ (quiet : Bool). taken c.put.new.self ≡ then_bytes (taken c.args.out.now) (take n (shown quiet c.args.lines.now))) (sym c.if-quiet.false)
          c.in-Err.ensures.puts.1,
    )
