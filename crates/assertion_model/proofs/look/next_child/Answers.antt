use Rattle.assertion_model.proofs.LookLemmas.{next_left}
use Rattle.assertion_model.proofs.look.next_child.Goals as goal

pub returns : goal.returns
returns c =
    next_left c.args.left.now c.next_named.new.self _ c.args.local.now c.next_named.result c.saml.ensures c.next_named.ensures.document
    c.next_named.ensures.taken c.next_named.ensures.there
