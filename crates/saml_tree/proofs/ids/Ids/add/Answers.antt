use Rattle.std.proofs.Common.{◌≡◌, ℕ, true, List, string_bytes, ap, Some, None, is_some, inr, refl, sym, ◌∙◌, arith}
use Rattle.std.specs.BTreeMap.{get_by_text}
use Rattle.std.specs.Map.{update}
use Rattle.std.specs.Str.{bytes_eq}
use Rattle.std.proofs.lemmas.Map.Text.{text_keys}
use Rattle.xml_spec.specs.Identifiers.{Identifier}
use Rattle.saml_tree.proofs.Indexing.{not_found, indexed_more, not_once}
use Rattle.saml_tree.proofs.ids.Ids.add.Goals as goal

pub returns-then-is_some-clause-err : goal.returns-then-is_some-clause-err
returns-then-is_some-clause-err c =
    let there : is_some (get_by_text c.args.self.now.index (string_bytes c.args.value)) ≡ true =
    ap (λ o. is_some o) (sym c.in_ok-before.ensures.old) ∙ sym c.is_some.ensures ∙ c.if-is_some.true in
    let last : Identifier = record { value = string_bytes c.args.value; node = c.args.node } in
    inr (refl, λ before indexed once. not_once before c.args.self.now last indexed there once)

pub returns-clause-ok : goal.returns-clause-ok
returns-clause-ok c = λ before indexed.
    let free : get_by_text c.args.self.now.index (string_bytes c.args.value) ≡ None =
    not_found (get_by_text c.args.self.now.index (string_bytes c.args.value)) (ap (λ o. is_some o) (sym c.in_ok-before.ensures.old) ∙ sym c.is_some.ensures ∙ c.if-is_some.false) in
    let updated : (value : List ℕ) → get_by_text c.insert.new.self value ≡ update bytes_eq (get_by_text c.args.self.now.index) (string_bytes c.args.value) (Some c.args.node) value = λ value. grind (arith, text_keys) in
    let last : Identifier = record { value = string_bytes c.args.value; node = c.args.node } in
    indexed_more before c.args.self.now (record { index = c.insert.new.self }) last indexed free updated
