use Rattle.std.proofs.Common.{◌+◌, length, refl, ap, subst, arith, rules}
use Rattle.std.proofs.lemmas.List.{take_all}
use Rattle.xml_spec.specs.Ascii.{colon}
use Rattle.xml_spec.specs.Bytes.{AllPass}
use Rattle.xml_tokens.specs.Lexing.{is_other}
use Rattle.xml_tokens.proofs.SplitNames.{no_colon, behind_colon}
use Rattle.xml_tokens.proofs.name.front_len.Goals as goal

pub returns-then-byte-eq58-clause-parts : goal.returns-then-byte-eq58-clause-parts
returns-then-byte-eq58-clause-parts c =
    λ some. behind_colon c.args.name.now c.loop-i.i (c.loop-i.i + 1) refl (omega arith) c.loop-i.invariant (search rules)

pub returns-clause-whole : goal.returns-clause-whole
returns-clause-whole c =
    λ none. no_colon c.args.name.now
    (subst (AllPass (is_other colon)) (take_all c.loop-i.i c.args.name.now (omega (arith, ap length c.as_bytes-byte-items.ensures.value))) c.loop-i.invariant)
