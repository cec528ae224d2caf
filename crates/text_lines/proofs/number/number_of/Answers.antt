use Rattle.std.proofs.Common.{sym, ap, ◌∙◌}
use Rattle.text_lines.specs.Numbers.{is_decimal}
use Rattle.text_lines.proofs.Numerals.{unparsed_number}
use Rattle.text_lines.proofs.number.number_of.Goals as goal

pub returns-in_default-2 : goal.returns-in_default-2
returns-in_default-2 c =
    unparsed_number c.args.word.now c.args.most c.parse.result _ (ap is_decimal (sym c.as_bytes.ensures.value) ∙ sym c.is_decimal.ensures ∙ c.if-not-is_decimal.false) c.ranges.most.fits c.parse.ensures.value.0 c.in_default.is
