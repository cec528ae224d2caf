-- A letter, for the tests.
use Rattle.std.specs.Prelude.{codes, refl}
use Rattle.xml_spec.specs.Characters.{IsText}
use lib.Utf8.{encode}

pub letter_text : IsText (codes "r")
unfolding encode
letter_text = record { characters = codes "r"; allowed = refl; spelled = refl }
