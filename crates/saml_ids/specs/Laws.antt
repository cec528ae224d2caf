-- Laws of the IDs.
use Rattle.std.specs.Prelude.{◌≡◌, ◌≢◌, ◌<◌, ◌^◌, ℕ, List}
use Rattle.xml_spec.specs.Characters.{IsText, IsNoColonName}
use Rattle.saml_ids.specs.Names.{IsIdForm}
use Rattle.saml_ids.specs.IdText.{id_text}
use Rattle.saml_ids.specs.declared.Kind.{Kind}

-- what an ID is: of its form; a Name without a colon, so that it can be the value of an ID attribute ("Values of type ID must
-- match the Name production", XML 1.0, 3.3.1; XML Schema's ID is an NCName); characters that a document may hold
pub record IsUsableId (id : List ℕ) : Type 0 where
  pub form : IsIdForm id
  pub name : IsNoColonName id
  pub text : IsText id

abbrev pub EveryIdIsUsable : Type 0
EveryIdIsUsable = (key : List ℕ) (kind : Kind) (number : ℕ) → IsUsableId (id_text key kind number)

-- two numbers give two IDs, whatever the keys and the kinds
abbrev pub NumbersGiveTheirIds : Type 0
NumbersGiveTheirIds = (key other_key : List ℕ) (kind other_kind : Kind) (number other_number : ℕ) → number < 2 ^ 64 → other_number < 2 ^ 64
    → number ≢ other_number → id_text key kind number ≢ id_text other_key other_kind other_number

-- of one key, equal IDs have equal numbers
abbrev pub KeyGivesAnIdOnce : Type 0
KeyGivesAnIdOnce = (key : List ℕ) (kind other_kind : Kind) (number other_number : ℕ) → number < 2 ^ 64 → other_number < 2 ^ 64
    → id_text key kind number ≡ id_text key other_kind other_number → number ≡ other_number
