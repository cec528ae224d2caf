use Rattle.xml_spec.proofs.Trees.{number_stands}
use Rattle.xml_spec.proofs.a_number_leads_to_its_path.Goals as goal

pub returns : goal.returns
returns c = record { there = λ nodes path k e. (number_stands nodes path k e).0; path = λ nodes path k e. (number_stands nodes path k e).1 }
