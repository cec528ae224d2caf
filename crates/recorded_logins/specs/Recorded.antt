-- What an identity provider signed for the records that it added.
use Rattle.std.specs.Prelude.{List, Contains}
use Rattle.std.specs.List.{AllByRecursion}
use Rattle.element_make.specs.Made.{Made, IsMade}
use Rattle.ledger_records.specs.declared.idp_record.IdpRecord.{IdpRecord}
use Rattle.idp_ledger.specs.Ledger.{Held}
use Rattle.idp_rules.specs.declared.config.IdpConfig.{IdpConfig}
use Rattle.idp_server.specs.Signed.{IsSignedOf}
use Rattle.login_origin.specs.Signed.{Signed}
use Rattle.recorded_logins.specs.Documents.{IsDocumentOf}

-- a record, and the ledger that it was added to
pub record Added : Type 0 where
  pub held : Held
  pub r : IdpRecord

-- the document of an element that was signed for one of these records, whose names and texts a document may hold
pub record IsOf (setup : IdpConfig) (added : List Added) (s : Signed) : Type 0 where
  pub one : Added
  pub known : Contains added one
  pub element : Made
  pub signed : IsSignedOf setup one.held one.r element
  pub made : IsMade element
  pub document : IsDocumentOf element s

-- each of them is one
abbrev pub AreOf : IdpConfig → List Added → List Signed → Type 0
AreOf setup added issued = AllByRecursion (IsOf setup added) issued
