use Rattle.std.specs.Prelude.{IfOk}
use Rattle.std.proofs.Common.{sym, subst}
use Rattle.http_wire.specs.declared.answer.Answer.TheVariants.{Full}
use Rattle.idp_server.specs.declared.reply.Follows.{Follows}
use Rattle.idp_server.specs.Replies.{IsToldPage}
use Rattle.idp_server.proofs.Shown.{last_page_of, next_page_of}
use Rattle.idp_server.proofs.role.IdpRole.told_page.Goals as goal

pub returns-in-Turn : goal.returns-in-Turn
returns-in-Turn c =
    let setup = c.args.self.now in
    subst (λ (f : Follows). IfOk c.request_page.result (λ bytes. IsToldPage setup f c.args.entry.now c.args.now
    (Full bytes))) (sym c.in-Turn.is)
    (next_page_of setup c.in-Turn.turn c.args.entry.now c.args.now c.first_id.result.now c.request_page.result
    c.first_id.ensures c.request_page.ensures)

pub returns-in-End : goal.returns-in-End
returns-in-End c =
    let setup = c.args.self.now in
    subst (λ (f : Follows). IfOk c.end_page.result (λ bytes. IsToldPage setup f c.args.entry.now c.args.now
    (Full bytes))) (sym c.in-End.is)
    (last_page_of setup c.in-End.message c.in-End.asker c.in-End.partial c.args.now c.end_page.result
    c.end_page.ensures)
