use Rattle.std.proofs.Common.{◌≤◌, length, take, drop, IsFalse, subst}
use Rattle.xml_spec.specs.Bytes.{AllPass, begins_with}
use Rattle.xml_tokens.specs.Lexing.{is_other}
use Rattle.xml_tokens.proofs.Finding.{has_by_run}
use Rattle.xml_tokens.proofs.marks.has_byte.Goals as goal

pub returns : goal.returns
returns c =
    let n = c.run_len.result in
    let b = c.args.byte in
    let same = c.as_bytes.ensures.value in
    has_by_run b c.args.text.now n (subst (λ bs. n ≤ length bs) same c.run_len.ensures.within)
    (subst (λ bs. AllPass (is_other b) (take n bs)) same c.run_len.ensures.passes)
    (subst (λ bs. IsFalse (begins_with (is_other b) (drop n bs))) same c.run_len.ensures.stops)
