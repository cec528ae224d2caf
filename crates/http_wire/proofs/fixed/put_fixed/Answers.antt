use Rattle.std.proofs.Common.{◌≤◌, ◌++◌, length, drop, sym, ap, subst, ◌∙◌, arith}
use Rattle.http_wire.specs.Answers.{refusal, status_page}
use Rattle.http_wire.proofs.Table.{verdict_holds, status_alone, fixed_verdict, same_refusal, same_status}
use Rattle.http_wire.proofs.fixed.put_fixed.Goals as goal

pub put_page-requires-clause-fits : goal.put_page-requires-clause-fits
put_page-requires-clause-fits c =
    let holds = verdict_holds c.args.code c.in-Some.verdict (sym c.verdict_of.ensures ∙ c.in-Some.is) in
    let fits : length (refusal c.in-Some.verdict) ≤ length c.args.out.now = omega (arith, holds.fits) in
    subst (λ xs. length xs ≤ length c.args.out.now) (sym (same_refusal c.in-Some.verdict _ c.args.code _ c.status_of.ensures (sym holds.number) c.name.ensures)) fits

pub put_page-requires-in-None-clause-fits : goal.put_page-requires-in-None-clause-fits
put_page-requires-in-None-clause-fits c =
    let holds = status_alone c.args.code c.requires (sym c.verdict_of.ensures ∙ c.in-None.is) in
    let fits : length (status_page c.args.code) ≤ length c.args.out.now = omega (arith, holds.fits) in
    subst (λ xs. length xs ≤ length c.args.out.now) (sym (same_status c.args.code)) fits

pub returns-in-Some-clause-text : goal.returns-in-Some-clause-text
returns-in-Some-clause-text c =
    let found = sym c.verdict_of.ensures ∙ c.in-Some.is in
    let holds = verdict_holds c.args.code c.in-Some.verdict found in
    c.put_page.ensures.text
    ∙ ap (λ xs. xs ++ drop c.put_page.result c.args.out.now)
    (same_refusal c.in-Some.verdict _ c.args.code _ c.status_of.ensures (sym holds.number) c.name.ensures ∙ sym (fixed_verdict c.args.code c.in-Some.verdict found))

pub returns-in-Some-clause-length : goal.returns-in-Some-clause-length
returns-in-Some-clause-length c =
    let found = sym c.verdict_of.ensures ∙ c.in-Some.is in
    let holds = verdict_holds c.args.code c.in-Some.verdict found in
    c.put_page.ensures.length
    ∙ ap length (same_refusal c.in-Some.verdict _ c.args.code _ c.status_of.ensures (sym holds.number) c.name.ensures ∙ sym (fixed_verdict c.args.code c.in-Some.verdict found))
