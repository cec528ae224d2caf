use Rattle.element_make.specs.Views.{open_view}
use Rattle.element_make.specs.Writing.{end_tag}
use Rattle.canon_octets.proofs.Appending.{same_ok, same_err}
use Rattle.element_make.proofs.Opens.{innermost_last}
use Rattle.element_make.proofs.writing.Writing.end.Goals as goal

pub returns-clause-ok : goal.returns-clause-ok
returns-clause-ok g c =
    same_ok g.O.Octets.appends c.put_end.result c.args.out.now c.put_end.new.out (end_tag (open_view c.in-Some.element)) _
    (innermost_last c.args.self.now.open_elements.items c.pop.new.self.items c.in-Some.element c.in-Some.ensures.items) c.put_end.ensures.ok

pub returns-clause-err : goal.returns-clause-err
returns-clause-err g c =
    same_err g.O.Octets.appends c.put_end.result c.args.out.now c.put_end.new.out (end_tag (open_view c.in-Some.element)) _
    (innermost_last c.args.self.now.open_elements.items c.pop.new.self.items c.in-Some.element c.in-Some.ensures.items) c.put_end.ensures.err
