use Rattle.std.proofs.Common.{ap, ◌∙◌, length, ◌-◌}
use Rattle.std.specs.List.{slice_get}
use Rattle.element_make.proofs.Opens.{inside_last, inside_none}
use Rattle.element_make.proofs.writing.Writing.declared.Goals as goal

pub returns-in-Some : goal.returns-in-Some
returns-in-Some c =
    inside_last c.args.self.now.open_elements.items c.in-Some.element.now
    (c.in-Some.ensures.value ∙ ap (λ xs. slice_get xs (length xs - 1)) c.deref.ensures.value)

pub returns-in-None : goal.returns-in-None
returns-in-None c =
    c.none.ensures ∙ inside_none c.args.self.now.open_elements.items
    (c.in-None.ensures.value ∙ ap (λ xs. slice_get xs (length xs - 1)) c.deref.ensures.value)
