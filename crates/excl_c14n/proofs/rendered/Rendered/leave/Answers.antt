use Rattle.excl_c14n.proofs.Tables.{level_in_view, view_left}
use Rattle.excl_c14n.proofs.rendered.Rendered.leave.Goals as goal

pub pop-requires : goal.pop-requires
pop-requires c =
    level_in_view c.self.inside.doc.now.tree c.self.inside.places.items c.self.inside.numbers c.args.self.now c.self.view_is c.requires

pub returns-in-Some : goal.returns-in-Some
returns-in-Some c =
    view_left c.self.inside.doc.now.tree c.self.inside.places.items c.truncate.new.self.items c.self.inside.numbers c.pop.new.self
    c.self.inside.starts.items c.pop-2.new.self.items c.in-Some.start c.self.invariant c.pop.ensures c.in-Some.ensures.items c.truncate.ensures.items
    c.args.self.now c.self.view_is
