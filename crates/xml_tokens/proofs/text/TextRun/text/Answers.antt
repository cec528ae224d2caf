use Rattle.std.proofs.Common.{List, ℕ, length, ◌-◌, ◌∙◌, ap, sym, subst}
use Rattle.std.specs.Str.{IsUtf8, IsCharBoundary}
use Rattle.xml_tokens.specs.Texts.{RunView}
use Rattle.xml_tokens.proofs.TextRuns.{read_boundary}
use Rattle.xml_tokens.proofs.text.TextRun.text.Goals as goal

pub split_at-requires : goal.split_at-requires
split_at-requires c =
    let from = c.self.inside.from.now in
    let same = c.behind-behind.ensures ∙ sym (ap (λ (v : RunView). v.behind) c.self.view_is) in
    subst (λ (x : List ℕ). IsCharBoundary from (length from - length x)) (sym same)
    (read_boundary from c.self.inside.behind.now c.self.invariant (subst IsUtf8 same c.behind-behind.utf8))
