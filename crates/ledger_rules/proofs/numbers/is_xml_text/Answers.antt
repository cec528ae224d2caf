use Rattle.std.proofs.Common.{◌≡◌, List, ℕ, Bool, true, false, inl, inr, refl, sym, ◌↔◌, IsTrue}
use Rattle.std.proofs.lemmas.Bool.{cases_Bool}
use Rattle.xml_spec.specs.Characters.{IsText}
use Rattle.ledger_rules.specs.Numbers.{is_xml_text}
use Rattle.ledger_rules.proofs.Texts as texts
use Rattle.ledger_rules.proofs.numbers.is_xml_text.Goals as goal

tested : (text : List ℕ) (r : Bool) → (IsTrue r ↔ IsText text) → r ≡ is_xml_text text
tested text true same = sym ((texts.tested text).1 (same.0 refl))
tested text false same = elim (cases_Bool (is_xml_text text)) [
  | inl is ↦ absurd (let clash : false ≡ true = same.1 ((texts.tested text).0 is) in cc)
  | inr not ↦ sym not
]

pub returns : goal.returns
returns c = tested c.args.text.now c.is_text.result c.is_text.ensures
