use Rattle.saml_outside.proofs.FileLaws.{decided}
use Rattle.saml_outside.proofs.laws.the_content_decides_the_answer.Goals as goal

pub returns : goal.returns
returns c = decided
