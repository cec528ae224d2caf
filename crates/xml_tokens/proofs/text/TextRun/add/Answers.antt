use Rattle.std.proofs.Common.{List, ℕ, ◌++◌, ◌∙◌, ap, sym, subst}
use Rattle.xml_spec.specs.Syntax.{Alone}
use Rattle.xml_spec.specs.Laws.{BeginsWith}
use Rattle.xml_tokens.specs.Texts.{item_text, RunView}
use Rattle.xml_tokens.proofs.TextRuns.{read_more, run_adds}
use Rattle.xml_tokens.proofs.text.TextRun.add.Goals as goal

pub invariant_of-self : goal.invariant_of-self
invariant_of-self c =
    let from = c.self.inside.from.now in
    let behind = c.self.inside.behind.now in
    let next = c.args.behind.now in
    let is = ap (λ (v : RunView). v.behind) c.self.view_is in
    read_more from behind next c.requires.0 c.self.invariant c.requires.1
    (subst (λ (x : List ℕ). BeginsWith x (Alone c.requires.0) next) (sym is) c.requires.2)

pub returns : goal.returns
returns c = λ item text begins.
    let from = c.self.inside.from.now in
    let behind = c.self.inside.behind.now in
    let next = c.args.behind.now in
    let is = ap (λ (v : RunView). v.behind) c.self.view_is in
    run_adds from behind next item c.self.invariant text (subst (λ (x : List ℕ). BeginsWith x (Alone item) next) (sym is) begins)
    ∙ ap (λ (v : RunView). (let w : RunView = record { text = v.text ++ item_text item; behind = next } in w)) c.self.view_is
