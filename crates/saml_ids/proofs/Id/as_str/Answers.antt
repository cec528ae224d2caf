use Rattle.std.proofs.Common.{sym, subst}
use Rattle.saml_ids.specs.Laws.{IsUsableId}
use Rattle.saml_ids.proofs.IdForm.{IsUtf8-form, IsUsableId-form}
use Rattle.saml_ids.proofs.Making.{IsOk-from_cases}
use Rattle.saml_ids.proofs.Id.as_str.Goals as goal

pub unwrap-requires : goal.unwrap-requires
unwrap-requires c = IsOk-from_cases _ _ c.from_utf8.result c.from_utf8.ensures.cases (IsUtf8-form _ c.self.invariant)

pub returns-clause-usable : goal.returns-clause-usable
returns-clause-usable c =
    let read = rw c.unwrap.ensures at c.from_utf8.ensures.cases in
    subst IsUsableId (sym read.0) (IsUsableId-form _ c.self.invariant)
