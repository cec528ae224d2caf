use Rattle.std.proofs.Common.{◌-◌, ◌∙◌, arith}
use Rattle.std.proofs.lemmas.List.{take_all, length-drop}
use Rattle.element_make.proofs.Content.{turned_in}
use Rattle.element_make.proofs.piece.put_at.Goals as goal

pub returns-clause-ok : goal.returns-clause-ok
returns-clause-ok c =
    turned_in c.args.content.now.items c.args.pieces.items c.append.new.self.items c.slice_mut.result.now c.rotate_left.new.self c.args.place (c.len.result - c.args.place)
    (omega (arith, c.args.content.now.ok.0)) (omega (arith, c.args.content.now.ok.0)) c.in_ok-append.ensures.items (c.slice_mut.ensures.value ∙ take_all _ _ (omega (arith, length-drop c.args.place c.append.new.self.items, c.append.new.self.ok.0)))
    c.rotate_left.ensures.after c.append.new.self.len c.append.new.self.ok.0
