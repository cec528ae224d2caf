use Rattle.saml_tree.proofs.Linking.{all_linked}
use Rattle.saml_tree.proofs.Rows.{depths_length}
use Rattle.saml_tree.proofs.doc.Doc.of.Goals as goal

pub invariant_of-result : goal.invariant_of-result
invariant_of-result c =
    let rows = c.args.rows in
    record {
      shaped = c.requires.shaped;
      ranges = c.requires.ranges;
      count = c.requires.count;
      linked = all_linked rows.rows rows.links c.requires.shaped (depths_length rows.rows) c.requires.linked;
      resolved = c.requires.resolved;
      spelled = c.requires.spelled;
      indexed = c.requires.indexed;
    }
