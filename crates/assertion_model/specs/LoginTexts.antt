-- The texts of a login: XML 1.0 (fifth edition), 2.2.
use Rattle.std.specs.Prelude.{IfSome}
use Rattle.std.specs.List.{AllByRecursion}
use Rattle.xml_spec.specs.Characters.{IsText}
use Rattle.assertion_model.specs.declared.login.Login.{Login}
use Rattle.assertion_model.specs.Assertion.{IsStatable}

-- each text of the login is of characters that XML allows
pub record HoldsTexts (login : Login) : Type 0 where
  pub id : IsText login.id
  pub issuer : IsText login.issuer
  pub audiences : AllByRecursion (AllByRecursion IsText) login.audiences
  pub recipient : IsText login.recipient
  pub request : IsText login.request
  pub name : IsText login.name
  pub index : IfSome login.index IsText
  pub attributes : AllByRecursion IsStatable login.attributes
