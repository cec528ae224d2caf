use Rattle.std.proofs.Common.{rules, tests, ◌≡◌, ◌&&◌, Bool, List, [], ◌∷◌, sym, refl, ap, ◌∙◌}
use Rattle.std.specs.List.{list_all, flat_map}
use Rattle.std.proofs.lemmas.Iterator.{YieldsList-from_slice}
use Rattle.std.proofs.lemmas.Iterator.Search.{all_from_yields_List}
use Rattle.std.proofs.lemmas.List.Folds.{list_all-append}
use Rattle.ledger_rules.specs.Numbers.{is_xml_text}
use Rattle.idp_rows.specs.Record.{of_turn}
use Rattle.idp_rows.proofs.checks.are_allowed_turns.Goals as goal

list_all-flat_map : {X Y : Type 0} (test : Y → Bool) (parts : X → List Y) (xs : List X) → list_all (λ x. list_all test (parts x)) xs ≡ list_all test (flat_map parts xs)
list_all-flat_map test parts [] = refl
list_all-flat_map test parts (x ∷ xs) =
    ap (λ b. list_all test (parts x) && b) (list_all-flat_map test parts xs) ∙ sym (list_all-append test (parts x) (flat_map parts xs))

pub returns : goal.returns
returns c =
    all_from_yields_List (λ a. list_all is_xml_text (of_turn a)) _ _ c.all.result c.all.ensures.ran (YieldsList-from_slice c.args.turns.now cc) (λ x b q k. search (rules, tests))
    ∙ list_all-flat_map is_xml_text of_turn c.args.turns.now
