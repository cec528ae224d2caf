-- References that stand at the beginning of bytes.
use Rattle.std.specs.Prelude.{codes, refl}
use Rattle.std.proofs.Common.{lit<}
use Rattle.xml_spec.specs.Syntax.{Ampersand, Decimal, Hexadecimal}
use Rattle.xml_chars.specs.Reading.{BeginsWithReference}

an_entity : BeginsWithReference (codes "&amp;lt;") 38 (codes "lt;")
an_entity = record { reference = Ampersand; valid = tt; meant = refl; printed = refl }

-- XML 1.0, 4.6: "&#38;#60;" is the replacement of lt
a_decimal_reference : BeginsWithReference (codes "&#38;#60;") 38 (codes "#60;")
a_decimal_reference = record { reference = Decimal (codes "38"); valid = (lit< tt, refl, refl); meant = refl; printed = refl }

leading_zeros : BeginsWithReference (codes "&#x000a;b") 10 (codes "b")
leading_zeros = record { reference = Hexadecimal (codes "000a"); valid = (lit< tt, refl, refl); meant = refl; printed = refl }
