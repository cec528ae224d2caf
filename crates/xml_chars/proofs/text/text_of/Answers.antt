use Rattle.xml_chars.proofs.Texts.{text_utf8}
use Rattle.xml_chars.proofs.text.text_of.Goals as goal

pub returns-in_default-clause-none : goal.returns-in_default-clause-none
returns-in_default-clause-none c = λ text. c.in_default.ensures.cases.0 (text_utf8 c.args.bytes.now text)
