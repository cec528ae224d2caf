use Rattle.std.proofs.Common.{ap, refl, sym}
use Rattle.http_wire.specs.declared.answer.Answer.TheVariants.{Full}
use Rattle.sp_server.specs.Step.{BySession}
use Rattle.sp_server.proofs.role.SpRole.reply_app.Goals as goal

pub returns-in-Some : goal.returns-in-Some
returns-in-Some c =
    (BySession c.in-Some.row.now c.requires (sym c.in-Some.ensures) (ap Full c.in_ok-bytes.ensures) refl, tt)
