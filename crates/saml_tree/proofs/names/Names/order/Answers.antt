use Rattle.std.proofs.Common.{◌∙◌}
use Rattle.xml_spec.specs.Canonical.{byte_order}
use Rattle.saml_tree.specs.Resolved.{kept_at}
use Rattle.saml_tree.proofs.SameNames.{found_text, in_table}
use Rattle.saml_tree.proofs.names.Names.order.Goals as goal

pub order-requires-clause-one : goal.order-requires-clause-one
order-requires-clause-one c =
    in_table c.args.self.now.table (kept_at c.args.self.now c.args.one) c.number.result c.number.ensures c.requires.one

pub order-requires-clause-other : goal.order-requires-clause-other
order-requires-clause-other c =
    in_table c.args.self.now.table (kept_at c.args.self.now c.args.other) c.number-2.result c.number-2.ensures c.requires.other

pub returns : goal.returns
returns c =
    let one = found_text c.args.self.now.table (kept_at c.args.self.now c.args.one) c.number.result c.number.ensures in
    let other = found_text c.args.self.now.table (kept_at c.args.self.now c.args.other) c.number-2.result c.number-2.ensures in
    c.order.ensures ∙ (λ i. byte_order (one i) (other i))
