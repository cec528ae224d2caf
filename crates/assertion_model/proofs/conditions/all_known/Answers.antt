use Rattle.std.proofs.Common.{◌≡◌, true, false, map, sym, ap, ◌∙◌}
use Rattle.std.specs.List.{list_all}
use Rattle.tree_read.specs.Children.{Child}
use Rattle.assertion_model.specs.Login.{is_known}
use Rattle.assertion_model.proofs.PartLemmas.{names_at}
use Rattle.assertion_model.proofs.EachLemmas.{known_stops}
use Rattle.assertion_model.proofs.conditions.all_known.Goals as goal

pub loop-left-init : goal.loop-left-init
loop-left-init c =
    ap (λ l. list_all is_known (map (λ (d : Child). d.name) l)) c.of-left.ensures.left
    ∙ ap (list_all is_known) (sym (names_at c.args.at.doc.now.tree c.args.at.node.0))

pub returns-then-not-take_known : goal.returns-then-not-take_known
returns-then-not-take_known c =
    known_stops is_known _ c.loop-left.left.left c.loop-left.invariant
    (λ h. let clash : true ≡ false = sym (c.is_done.ensures.1 h) ∙ c.loop-left-test.true in cc) c.if-not-take_known.ensures
