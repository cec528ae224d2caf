use Rattle.saml_outside.proofs.FileLaws.{hides, others}
use Rattle.saml_outside.proofs.laws.the_first_file_of_a_name_counts.Goals as goal

pub returns : goal.returns
returns c = record { hides = hides; others = others }
