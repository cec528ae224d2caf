use Rattle.std.proofs.Common.{◌≡◌, take, min}
use Rattle.std.specs.Str.Parse.{AllDigits, digits_value}
use Rattle.xml_chars.proofs.references.leading_digits.Given as goal

abbrev pub invariant-loop-i : goal.invariant-loop-i
invariant-loop-i l = record {
  digits : AllDigits l.radix (take l.i l.bytes);
  value : l.value ≡ min 0x110000 (digits_value l.radix (take l.i l.bytes));
}
