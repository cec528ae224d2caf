use Rattle.std.proofs.Common.{List, ℕ, ◌-◌, ◌∙◌, sym, subst, arith}
use Rattle.std.specs.Str.{IsCharBoundary}
use Rattle.xml_tokens.proofs.SplitNames.{prefix_boundary}
use Rattle.xml_tokens.proofs.name.WrittenName.prefix.Goals as goal

pub split_at-requires : goal.split_at-requires
split_at-requires c =
    let front = c.self.inside.front in
    subst (λ (x : List ℕ). IsCharBoundary x (front - 1)) (c.self.view_is ∙ sym c.as_str-text.ensures)
    (prefix_boundary c.self.inside.text.now front c.self.invariant (omega arith))
