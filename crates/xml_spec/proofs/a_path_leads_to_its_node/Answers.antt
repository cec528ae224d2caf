use Rattle.xml_spec.proofs.Trees.{path_leads}
use Rattle.xml_spec.proofs.a_path_leads_to_its_node.Goals as goal

pub returns : goal.returns
returns c = path_leads
