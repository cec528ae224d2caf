use Rattle.std.proofs.Common.{◌++◌, ap, ◌∙◌}
use Rattle.saml_tree.specs.Documents.{DocumentView}
use Rattle.tree_read.specs.Views.{tree_of}
use Rattle.assertion_model.specs.Places.{places_of_attribute}
use Rattle.assertion_model.proofs.PlaceLemmas.{more_found}
use Rattle.assertion_model.proofs.places.add_of_statement.Goals as goal

pub loop-attribute-preserved : goal.loop-attribute-preserved
loop-attribute-preserved c = record {
  found = more_found (places_of_attribute (tree_of c.args.at)) _ _ c.loop-attribute.left.left c.next_named.new.self.left _ c.loop-attribute.found _ _ c.saml.ensures
      c.in-Some.ensures.taken c.loop-attribute.invariant.found
      (c.in_ok-add_of_attribute.ensures
      ∙ ap (λ (d : DocumentView). c.loop-attribute.found ++ places_of_attribute d.tree c.in-Some.attribute.node.0)
      (c.in-Some.ensures.there ∙ c.loop-attribute.invariant.document));
  document = c.next_named.ensures.document ∙ c.loop-attribute.invariant.document;
}
