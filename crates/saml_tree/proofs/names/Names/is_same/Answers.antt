use Rattle.saml_tree.specs.Resolved.{kept_at}
use Rattle.saml_tree.proofs.SameNames.{in_table, same_spaces}
use Rattle.saml_tree.proofs.names.Names.is_same.Goals as goal

pub returns : goal.returns
returns c =
    same_spaces c.args.self.now.table (kept_at c.args.self.now c.args.one) (kept_at c.args.self.now c.args.other)
    c.number.result c.number-2.result c.is_same.result c.number.ensures c.number-2.ensures
    (in_table c.args.self.now.table (kept_at c.args.self.now c.args.one) c.number.result c.number.ensures c.requires.one)
    (in_table c.args.self.now.table (kept_at c.args.self.now c.args.other) c.number-2.result c.number-2.ensures c.requires.other)
    c.is_same.ensures
