use Rattle.std.proofs.Common.{List, ℕ, ◌∙◌, sym, subst}
use Rattle.std.specs.Str.{IsUtf8, IsCharBoundary}
use Rattle.xml_tokens.proofs.SplitNames.{local_boundary}
use Rattle.xml_tokens.proofs.name.WrittenName.local.Goals as goal

pub split_at-requires : goal.split_at-requires
split_at-requires c =
    let same = c.self.view_is ∙ sym c.as_str-text.ensures in
    subst (λ (x : List ℕ). IsCharBoundary x c.self.inside.front) same
    (local_boundary c.self.inside.text.now c.self.inside.front (subst IsUtf8 (sym same) c.as_str-text.utf8) c.self.invariant)
