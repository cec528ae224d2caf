use Rattle.std.proofs.Common.{sym}
use Rattle.http_wire.specs.Views.{request_view}
use Rattle.sp_server.proofs.Live.{session_texts}
use Rattle.sp_server.proofs.role.SpRole.reply_leave.Goals as goal

pub leaving-requires-clause-name : goal.leaving-requires-clause-name
leaving-requires-clause-name c =
    (session_texts c.args.ledger.now.held (request_view c.args.request.now) c.args.now c.in-Some.row.now
    c.holds_records.ensures (sym c.in-Some.ensures)).name

pub leaving-requires-clause-index : goal.leaving-requires-clause-index
leaving-requires-clause-index c =
    (session_texts c.args.ledger.now.held (request_view c.args.request.now) c.args.now c.in-Some.row.now
    c.holds_records.ensures (sym c.in-Some.ensures)).index
