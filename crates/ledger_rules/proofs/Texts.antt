-- The test of a record's text.
use Rattle.std.proofs.Common.{List, ℕ, ◌↔◌, IsTrue}
use Rattle.xml_spec.specs.Characters.{IsText}
use Rattle.text_lines.proofs.Texts as texts
use Rattle.ledger_rules.specs.Numbers.{is_xml_text}

-- what passes it is the UTF-8 of characters that a document may hold, and each such text passes it
pub tested : (text : List ℕ) → IsTrue (is_xml_text text) ↔ IsText text
unfolding is_xml_text
tested text = (texts.tested_text text, texts.text_tested text)
