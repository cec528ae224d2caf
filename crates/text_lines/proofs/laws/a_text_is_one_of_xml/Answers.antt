use Rattle.text_lines.proofs.Texts.{tested_text, text_tested}
use Rattle.text_lines.proofs.laws.a_text_is_one_of_xml.Goals as goal

pub returns : goal.returns
returns c = λ bytes. (tested_text bytes, text_tested bytes)
