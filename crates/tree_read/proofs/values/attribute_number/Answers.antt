use Rattle.std.proofs.Common.{sym, ◌∙◌}
use Rattle.saml_tree.specs.Views.{name_view}
use Rattle.tree_read.proofs.Attributes.{value_here, value_behind}
use Rattle.tree_read.proofs.values.attribute_number.Goals as goal

pub returns-then-is_unprefixed-clause-value : goal.returns-then-is_unprefixed-clause-value
returns-then-is_unprefixed-clause-value c =
    c.loop-i.invariant.value
    ∙ value_here c.args.at.doc.now.tree c.args.at.node.0 c.loop-i.i c.args.local.now (name_view c.attr_name.result) c.attr_name.ensures
    (sym c.is_unprefixed.ensures ∙ c.if-is_unprefixed.true)

pub loop-i-preserved : goal.loop-i-preserved
loop-i-preserved c = record {
  counted = c.loop-i.invariant.counted;
  value =
      c.loop-i.invariant.value
      ∙ value_behind c.args.at.doc.now.tree c.args.at.node.0 c.loop-i.i c.args.local.now (name_view c.attr_name.result) c.attr_name.ensures
      (sym c.is_unprefixed.ensures ∙ c.if-is_unprefixed.false);
}
