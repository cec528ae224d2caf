use Rattle.std.proofs.lemmas.Result.{err_from_is_err_and}
use Rattle.std.proofs.Common.{List, ℕ, subst, sym, arith}
use Rattle.xml_tokens.specs.Lexing.{NoPieces, NoValue, ValueAt}
use Rattle.xml_tokens.proofs.Decoding.{cut_value, value_references, value_read}
use Rattle.xml_tokens.proofs.Faults.{fault_for}
use Rattle.xml_tokens.proofs.ValueReadings.{unread_no_value}
use Rattle.xml_tokens.proofs.values.value.Goals as goal

pub returns-in_err-behind-clause-refused : goal.returns-in_err-behind-clause-refused
returns-in_err-behind-clause-refused c =
    let p = err_from_is_err_and c.from_residual.result c.from_residual.ensures.1 in
    rw (p.1, p.2) (fault_for (NoPieces c.in-Some.quote c.in-Some.inner.now) (NoValue c.args.rest.now) c.in_err-behind.field-0.0
    (unread_no_value c.args.rest.now c.in-Some.inner.now c.in-Some.quote c.in-Some.ensures.1) c.in_err-behind.ensures.refused)

pub new-requires : goal.new-requires
new-requires c =
    let found = c.in_ok-behind.ensures.reading in
    let cut = cut_value c.in-Some.quote c.in-Some.inner.now found.0 c.in_ok-behind.behind.now found.1 in
    value_references c.in-Some.quote c.in-Some.inner.now found.0 c.in_ok-behind.behind.now c.split_at.result.0.now _ found.1
    (omega (arith, cut.0)) c.split_at.ensures.front

pub returns-clause-reading : goal.returns-clause-reading
returns-clause-reading c =
    let found = c.in_ok-behind.ensures.reading in
    let cut = cut_value c.in-Some.quote c.in-Some.inner.now found.0 c.in_ok-behind.behind.now found.1 in
    subst (λ (value : List ℕ). ValueAt c.args.rest.now value c.in_ok-behind.behind.now) (sym c.new.ensures)
    (value_read c.args.rest.now c.in-Some.inner.now c.in-Some.quote found.0 c.in_ok-behind.behind.now c.split_at.result.0.now _ c.in-Some.ensures.0
    c.in-Some.ensures.1 found.1 (omega (arith, cut.0)) c.split_at.ensures.front)
