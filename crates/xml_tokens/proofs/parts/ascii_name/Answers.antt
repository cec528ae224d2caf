use Rattle.std.proofs.Common.{◌≤◌, length, take, subst}
use Rattle.xml_spec.specs.Bytes.{AllPass}
use Rattle.xml_tokens.specs.Lexing.{is_ascii_name_byte}
use Rattle.xml_tokens.proofs.Boundaries.{ascii_boundary}
use Rattle.xml_tokens.proofs.parts.ascii_name.Goals as goal

pub split_at-requires : goal.split_at-requires
split_at-requires c =
    let n = c.ascii_len.result in
    let same = c.as_bytes.ensures.value in
    ascii_boundary c.args.rest.now n c.utf8.rest
    (subst (λ bs. n ≤ length bs) same c.ascii_len.ensures.within)
    (subst (λ bs. AllPass is_ascii_name_byte (take n bs)) same c.ascii_len.ensures.passes)
