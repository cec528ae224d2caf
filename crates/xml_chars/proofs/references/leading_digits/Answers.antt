use Rattle.std.proofs.Common.{arith, ◌≡◌, ◌<◌, ◌∙◌, ap, sym, subst, take, min, ◌+◌, ◌*◌, get_or}
use Rattle.std.specs.Char.{digit_value}
use Rattle.std.specs.Str.Parse.{digits_value}
use Rattle.std.proofs.lemmas.Int.Digits.{digits_more, digits_value_more}
use Rattle.xml_chars.proofs.Numbers.{bounded_step}
use Rattle.xml_chars.proofs.references.leading_digits.Goals as goal

pub loop-i-preserved : goal.loop-i-preserved
loop-i-preserved c =
    let bytes = c.args.bytes.now in
    let before = digits_value c.args.radix (take c.loop-i.i bytes) in
    let byte = get_or bytes c.loop-i.i 0 in
    let digit : c.in-Some.digit ≡ digit_value byte = c.in-Some.ensures.value.1 ∙ ap digit_value c.from.ensures in
    record {
      digits = digits_more c.args.radix bytes c.loop-i.i (omega arith) c.loop-i.invariant.digits
          (subst (λ b. digit_value b < c.args.radix) c.from.ensures c.in-Some.ensures.value.0);
      value = c.min-value.ensures
          ∙ ap (λ v. min (v * c.args.radix + c.in-Some.digit) 0x110000) c.loop-i.invariant.value
          ∙ bounded_step 0x110000 before c.args.radix c.in-Some.digit (omega arith)
          ∙ ap (λ d. min 0x110000 (before * c.args.radix + d)) digit
          ∙ ap (min 0x110000) (sym (digits_value_more c.args.radix bytes c.loop-i.i (omega arith)));
    }
