use Rattle.std.proofs.Common.{◌++◌, ap, ◌∙◌}
use Rattle.saml_tree.specs.Documents.{DocumentView}
use Rattle.tree_read.specs.Views.{tree_of}
use Rattle.assertion_model.specs.Places.{places_of_statement}
use Rattle.assertion_model.proofs.PlaceLemmas.{more_found}
use Rattle.assertion_model.proofs.places.read_values.Goals as goal

pub loop-statement-preserved : goal.loop-statement-preserved
loop-statement-preserved c = record {
  found = more_found (places_of_statement (tree_of c.args.at)) _ _ c.loop-statement.left.left c.next_named.new.self.left _ c.loop-statement.found _ _ c.saml.ensures
      c.in-Some.ensures.taken c.loop-statement.invariant.found
      (c.in_ok-add_of_statement.ensures
      ∙ ap (λ (d : DocumentView). c.loop-statement.found ++ places_of_statement d.tree c.in-Some.statement.node.0)
      (c.in-Some.ensures.there ∙ c.loop-statement.invariant.document));
  document = c.next_named.ensures.document ∙ c.loop-statement.invariant.document;
}
