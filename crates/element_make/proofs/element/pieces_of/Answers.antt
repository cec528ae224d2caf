use Rattle.element_make.proofs.Content.{enclosed}
use Rattle.element_make.proofs.element.pieces_of.Goals as goal

pub returns-clause-pieces : goal.returns-clause-pieces
returns-clause-pieces c =
    enclosed c.kid.inside.tag c.kid.inside.content.items c.insert.new.self.items c.push.new.self.items c.args.kid
    c.kid.invariant c.kid.view_is c.in_ok-insert.ensures.items c.in_ok-push.ensures.items
