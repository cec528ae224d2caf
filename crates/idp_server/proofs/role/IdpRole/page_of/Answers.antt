use Rattle.std.specs.Prelude.{IfOk, IsTrue}
use Rattle.std.proofs.Common.{◌≡◌, ◌∙◌, Bor, List, ℕ, true, sym, subst}
use Rattle.http_wire.specs.Answers.{is_one_line}
use Rattle.http_wire.specs.declared.answer.Answer.TheVariants.{Full}
use Rattle.idp_server.specs.declared.reply.Reply.{Reply}
use Rattle.idp_server.specs.Replies.{IsPage}
use Rattle.idp_server.proofs.Shown.{end_shown, some_same}
use Rattle.idp_server.proofs.role.IdpRole.page_of.Goals as goal

pub assertion_page-requires-in-Login-clause-cookie : goal.assertion_page-requires-in-Login-clause-cookie
assertion_page-requires-in-Login-clause-cookie c x is =
    let has = (rw c.in-Login.is at c.requires.shown).1 in
    let cookie : Bor (List ℕ) = c.second_id-cookie.result in
    let drawn : has.cookie ≡ cookie.now =
    some_same has.cookie cookie.now (sym has.named ∙ sym c.second_id-cookie.ensures) in
    let same : cookie ≡ x = cc in
    subst (λ (b : Bor (List ℕ)). IsTrue (is_one_line b.now)) same
    (subst (λ (id : List ℕ). is_one_line id ≡ true) drawn has.line)

pub returns-in-Confirm : goal.returns-in-Confirm
returns-in-Confirm c =
    let setup = c.args.self.now in
    subst (λ (x : Reply). IfOk c.end_answer.result (λ bytes. IsPage setup x c.args.entry.now c.args.now (Full bytes)))
    (sym c.in-Confirm.is)
    (end_shown c.in-Confirm.partial c.end_answer.result c.end_answer.ensures)
