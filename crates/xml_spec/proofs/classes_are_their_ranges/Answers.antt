use Rattle.xml_spec.proofs.Classes.{in_ranges-true, true-in_ranges}
use Rattle.xml_spec.proofs.classes_are_their_ranges.Goals as goal

pub returns : goal.returns
returns c = λ ranges n. (in_ranges-true ranges n, true-in_ranges ranges n)
