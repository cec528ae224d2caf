use Rattle.saml_tree.proofs.Walks.{Walk}
use Rattle.saml_tree.proofs.names.resolve.Given as goal

abbrev pub invariant-loop-k : goal.invariant-loop-k
invariant-loop-k l = Walk l.rows.rows l.k l.spaces l.numbers.items l.named.items
