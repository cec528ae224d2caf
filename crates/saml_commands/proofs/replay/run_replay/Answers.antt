use Rattle.std.proofs.Common.{ℕ, List, subst, sym}
use Rattle.saml_outside.specs.Files.{Reads}
use Rattle.saml_outside.specs.declared.reading.FileRead.TheVariants.{Whole}
use Rattle.schedules.specs.declared.read.TheConstants.{MAX_SCHEDULE_LENGTH}
use Rattle.saml_commands.specs.Replay.{OfSchedule}
use Rattle.saml_commands.specs.Running.{Replay, OfCommand}
use Rattle.saml_commands.proofs.Answering.{read_whole}
use Rattle.saml_commands.proofs.Replaying.{file_of_text}
use Rattle.saml_commands.proofs.Serving.{weaker_after}
use Rattle.saml_commands.proofs.replay.run_replay.Goals as goal

pub returns-in-Ok-Some-clause-ends : goal.returns-in-Ok-Some-clause-ends
returns-in-Ok-Some-clause-ends g c =
    let told = g.F.Files.holds c.args.files.now in
    let file = c.args.file.now in
    let read = rw c.in-Ok-Some.field-0-is at c.in-Ok-Some.ensures.ok in
    let reads = subst (λ (bytes : List ℕ). Reads told file MAX_SCHEDULE_LENGTH Whole bytes) (sym c.deref.ensures.value) read in
    let (ran, did, ends) = c.replay_text.ensures.ends in (
      ran,
      file_of_text told file c.deref.result.now ran reads did,
      weaker_after ran (OfSchedule file c.deref.result.now) (OfCommand told ran (Replay file)) (g.K.Sink.taken c.args.out.now) (g.K.Sink.taken c.replay_text.new.out) c.replay_text.result
          (read_whole (OfSchedule file) told file MAX_SCHEDULE_LENGTH c.deref.result.now reads) ends,
    )
