use Rattle.std.proofs.Common.{◌≡◌, Bool, true, false, not, IsTrue, refl, sym, ◌∙◌}
use Rattle.xml_tokens.proofs.Finding.{lacks_colon}
use Rattle.xml_tokens.proofs.parts.is_ascii_no_colon_name.Goals as goal

turned : (b : Bool) → not b ≡ true → b ≡ false
turned true h = absurd (let clash : false ≡ true = h in cc)
turned false h = refl

pub returns-then-is_ascii_name : goal.returns-then-is_ascii_name
returns-then-is_ascii_name c =
    λ (yes : IsTrue (not c.has_byte.result)).
    (c.is_ascii_name.ensures c.if-is_ascii_name.true, lacks_colon c.args.text.now (sym c.has_byte.ensures ∙ turned c.has_byte.result yes))
