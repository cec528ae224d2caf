use Rattle.std.proofs.Common.{◌≡◌, false, ℕ, List, Some, map, MatchOption, string_bytes, sym, ◌∙◌, subst}
use Rattle.std.specs.List.{list_any, slice_get}
use Rattle.std.specs.Str.{bytes_eq}
use Rattle.element_names.proofs.TableIndexing.{numbered}
use Rattle.element_names.proofs.table.Table.number_of.Goals as goal

pub returns : goal.returns
returns c =
    subst (λ (table : List (List ℕ)). MatchOption c.copied.result (list_any (λ t. bytes_eq t c.args.text.now) table ≡ false) (λ n. slice_get table n ≡ Some c.args.text.now))
    c.self.view_is
    (numbered (map string_bytes c.self.inside.texts.items) c.self.inside.numbers c.args.text.now c.copied.result c.self.invariant
    (sym c.get.ensures.value ∙ sym c.copied.ensures))
