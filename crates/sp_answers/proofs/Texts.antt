-- Texts that the answers hold.
use Rattle.std.specs.Prelude.{codes, refl}
use Rattle.xml_spec.specs.Characters.{IsText}
use lib.Utf8.{encode}

pub acs_text : IsText (codes "/acs")
unfolding encode
acs_text = record { characters = codes "/acs"; allowed = refl; spelled = refl }

-- a letter, for the tests
pub letter_text : IsText (codes "r")
unfolding encode
letter_text = record { characters = codes "r"; allowed = refl; spelled = refl }
