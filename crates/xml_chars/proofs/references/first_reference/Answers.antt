use Rattle.std.proofs.Common.{sym, ◌∙◌}
use Rattle.xml_chars.proofs.Signs.{any_by_entity, any_by_number}
use Rattle.xml_chars.proofs.references.first_reference.Goals as goal

pub returns-then-not-has_number_sign : goal.returns-then-not-has_number_sign
returns-then-not-has_number_sign c = any_by_entity c.args.bytes.now c.entity.result (sym c.has_number_sign.ensures ∙ c.if-not-has_number_sign.true) c.entity.ensures

pub returns : goal.returns
returns c = any_by_number c.args.bytes.now c.hexadecimal.result (sym c.has_number_sign.ensures ∙ c.if-not-has_number_sign.false) c.in_default.ensures c.hexadecimal.ensures
