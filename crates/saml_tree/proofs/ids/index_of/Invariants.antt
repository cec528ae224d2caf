use Rattle.saml_tree.specs.Index.{AreIndexed}
use Rattle.saml_tree.proofs.RowIds.{ids_before}
use Rattle.saml_tree.proofs.ids.index_of.Given as goal

-- the IDs of the rows so far are added
abbrev pub invariant-loop-k : goal.invariant-loop-k
invariant-loop-k l = AreIndexed (ids_before l.rows.rows l.k) l.ids
