use Rattle.std.proofs.Common.{◌≤◌, length, take, drop, IsFalse, subst}
use Rattle.xml_spec.specs.Bytes.{AllPass, begins_with}
use Rattle.xml_tokens.specs.Lexing.{is_in}
use Rattle.xml_tokens.proofs.Boundaries.{run_boundary}
use Rattle.xml_tokens.proofs.class.split_run.Goals as goal

pub split_at-requires : goal.split_at-requires
split_at-requires c =
    let n = c.run_len-len.result in
    let same = c.as_bytes.ensures.value in
    run_boundary c.args.class c.args.rest.now n c.requires.cut c.utf8.rest
    (subst (λ bs. n ≤ length bs) same c.run_len-len.ensures.within)
    (subst (λ bs. AllPass (is_in c.args.class) (take n bs)) same c.run_len-len.ensures.passes)
    (subst (λ bs. IsFalse (begins_with (is_in c.args.class) (drop n bs))) same c.run_len-len.ensures.stops)
