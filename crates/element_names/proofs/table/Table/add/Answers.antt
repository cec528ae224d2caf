use Rattle.std.proofs.Common.{◌≡◌, ◌++◌, ℕ, List, [], ◌∷◌, length, map, string_bytes, String, cond, Some, false, sym, ap, ◌∙◌, subst, arith, rules}
use Rattle.std.specs.BTreeMap.{get_by_text}
use Rattle.std.specs.List.{list_any, slice_get}
use Rattle.std.specs.declared.alloc.Global.{Global}
use Rattle.std.specs.Str.{bytes_eq}
use Rattle.std.proofs.lemmas.List.{map-append, length-map}
use Rattle.std.proofs.lemmas.Map.Text.{text_keys}
use Rattle.element_names.specs.Tables.{IsIndexed}
use Rattle.element_names.proofs.TableIndexing.{added_there, added_last, indexed_more, found_last}
use Rattle.element_names.proofs.table.Table.add.Goals as goal

-- one more text, seen as bytes
one_more : (items after : List (String Global)) (kept : String Global) (text : List ℕ) → after ≡ items ++ kept ∷ [] → string_bytes kept ≡ text →
    map string_bytes after ≡ map string_bytes items ++ text ∷ []
one_more items after kept text pushed same =
    ap (map string_bytes) pushed ∙ map-append string_bytes items (kept ∷ []) ∙ ap (λ t. map string_bytes items ++ t ∷ []) same

pub returns-in-Some-clause-table : goal.returns-in-Some-clause-table
returns-in-Some-clause-table c = sym (added_there c.args.self.now c.args.text.now c.in-Some.number c.in-Some.ensures)

pub invariant_of-self-else-is_err : goal.invariant_of-self-else-is_err
invariant_of-self-else-is_err c =
    let table = map string_bytes c.self.inside.texts.items in
    let text = c.args.text.now in
    let after = one_more c.self.inside.texts.items c.push.new.self.items c.in_ok-kept.kept text c.in_ok-push.ensures.items c.in_ok-kept.ensures.ok in
    let none : list_any (λ t. bytes_eq t text) table ≡ false = ap (list_any (λ t. bytes_eq t text)) c.self.view_is ∙ c.in_default.ensures in
    let number : c.in-Ok.number ≡ length table =
    (let e : c.in-Ok.number ≡ length c.self.inside.texts.items = search rules in e) ∙ sym (length-map c.self.inside.texts.items string_bytes) in
    let set : (q : List ℕ) → get_by_text c.insert.new.self q ≡ cond (bytes_eq (string_bytes c.in_ok-key.key) q) (Some c.in-Ok.number) (get_by_text c.self.inside.numbers q) =
    λ q. grind (arith, text_keys) in
    subst (λ (t : List (List ℕ)). IsIndexed t c.insert.new.self) (sym after)
    (indexed_more table c.self.inside.numbers c.insert.new.self text c.self.invariant none
    (λ q. set q ∙ (λ i. cond (bytes_eq (c.in_ok-key.ensures.ok i) q) (Some (number i)) (get_by_text c.self.inside.numbers q))))

pub returns-clause-table : goal.returns-clause-table
returns-clause-table c =
    let table = map string_bytes c.self.inside.texts.items in
    let text = c.args.text.now in
    let after = one_more c.self.inside.texts.items c.push.new.self.items c.in_ok-kept.kept text c.in_ok-push.ensures.items c.in_ok-kept.ensures.ok in
    after ∙ ap (λ (t : List (List ℕ)). t ++ text ∷ []) c.self.view_is ∙ sym (added_last c.args.self.now text c.in_default.ensures)

pub returns-clause-number : goal.returns-clause-number
returns-clause-number c =
    let table = map string_bytes c.self.inside.texts.items in
    let text = c.args.text.now in
    let after = one_more c.self.inside.texts.items c.push.new.self.items c.in_ok-kept.kept text c.in_ok-push.ensures.items c.in_ok-kept.ensures.ok in
    let number : c.in-Ok.number ≡ length table =
    (let e : c.in-Ok.number ≡ length c.self.inside.texts.items = search rules in e) ∙ sym (length-map c.self.inside.texts.items string_bytes) in
    (λ i. slice_get (after i) (number i)) ∙ found_last table text
