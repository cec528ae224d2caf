use Rattle.std.proofs.Common.{◌∙◌, ap, sym}
use Rattle.post_binding.specs.Pages.{login_page}
use Rattle.post_agent.specs.Cuts.{quoted}
use Rattle.post_agent.proofs.Showing.{other_login}
use Rattle.post_agent.proofs.form.login_in.Goals as goal

pub returns-else-eq : goal.returns-else-eq
returns-else-eq c =
    other_login c.args.page.now c.in-Some.part.now c.in-Some.field-0-1.now c.in-Some-2.pending c.as_slice-2.result.now
    (c.in-Some.ensures ∙ ap (λ front. quoted front c.args.page.now) c.as_bytes.ensures.value)
    (sym c.in-Some-2.is ∙ c.in_ok-pending.ensures)
    (c.as_slice-2.ensures ∙ c.in_ok-login_page.ensures ∙ ap login_page c.as_str.ensures)
    c.if-eq.ensures
