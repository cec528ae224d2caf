use Rattle.std.proofs.Common.{◌≡◌, ◌<◌, ◌-◌, true, nat_eq, codes, length, get_or, sym, ap, ◌∙◌, arith}
use Rattle.std.specs.List.{ends_with}
use Rattle.access_policy.proofs.Spelling.{star_is_ascii}
use Rattle.access_policy.proofs.line.prefix_of.Goals as goal

pub range-requires-clause-end_boundary : goal.range-requires-clause-end_boundary
range-requires-clause-end_boundary c =
    let word = c.args.word.now in
    let ends : ends_with nat_eq word (codes "/*") ≡ true =
    ap (λ bytes. ends_with nat_eq bytes (codes "/*")) (sym c.as_bytes-bytes.ensures.value) ∙ sym c.ends_with.ensures.value ∙ c.if-not-ends_with.false in
    let star : get_or word (length word - 1) 0 < 128 = star_is_ascii word ends (omega (arith, c.if-not-ends_with.ensures.bound, c.as_bytes-bytes.ensures.len)) in
    (omega arith, λ within high. absurd (omega (arith, high, star)))
