use Rattle.std.proofs.Common.{List, ℕ, ◌-◌, length, ap, ◌∙◌, subst}
use Rattle.xml_tokens.specs.Views.{Shows}
use Rattle.saml_tree.specs.Views.{builder_view}
use Rattle.saml_tree.proofs.Following.{token_length}
use Rattle.saml_tree.proofs.Results.{on_ok_map}
use Rattle.saml_tree.proofs.Stepping.{comment_step, instruction_step, empty_step, start_step, end_step}
use Rattle.saml_tree.proofs.build.Builder.take.Goals as goal

pub returns-in-Comment-clause-ok : goal.returns-in-Comment-clause-ok
returns-in-Comment-clause-ok c =
    let self = c.args.self.now in
    on_ok_map c.leaf.result _ _
    (λ view token shows begins. comment_step (builder_view self) (builder_view c.leaf.new.self) token c.in-Comment.text self.rows.pending _
    (subst (λ m. Shows token m self.rows.pending) c.in-Comment.is shows)
    (ap (λ (x : List ℕ). length x - length c.args.behind.now) c.behind.ensures ∙ token_length self.text.behind c.args.behind.now token begins) view)
    c.leaf.ensures.ok

pub returns-in-Instruction-clause-ok : goal.returns-in-Instruction-clause-ok
returns-in-Instruction-clause-ok c =
    let self = c.args.self.now in
    on_ok_map c.leaf-in-Instruction.result _ _
    (λ view token shows begins. instruction_step (builder_view self) (builder_view c.leaf-in-Instruction.new.self) token c.in-Instruction.target c.in-Instruction.value self.rows.pending _
    (subst (λ m. Shows token m self.rows.pending) c.in-Instruction.is shows)
    (ap (λ (x : List ℕ). length x - length c.args.behind.now) c.behind.ensures ∙ token_length self.text.behind c.args.behind.now token begins) view)
    c.leaf-in-Instruction.ensures.ok

pub returns-in-Empty-clause-ok : goal.returns-in-Empty-clause-ok
returns-in-Empty-clause-ok c =
    let self = c.args.self.now in
    on_ok_map c.push_element.result _ _
    (λ view token shows begins. empty_step (builder_view self) (builder_view c.push_element.new.self) token c.in-Empty.name self.rows.pending _
    (subst (λ m. Shows token m self.rows.pending) c.in-Empty.is shows)
    (ap (λ (x : List ℕ). length x - length c.args.behind.now) c.behind.ensures ∙ token_length self.text.behind c.args.behind.now token begins) view)
    c.push_element.ensures.ok

pub returns-in-Start-clause-ok : goal.returns-in-Start-clause-ok
returns-in-Start-clause-ok c =
    let self = c.args.self.now in
    on_ok_map c.open.result _ _
    (λ view token shows begins. start_step (builder_view self) (builder_view c.open.new.self) token c.in-Start.name self.rows.pending _
    (subst (λ m. Shows token m self.rows.pending) c.in-Start.is shows)
    (ap (λ (x : List ℕ). length x - length c.args.behind.now) c.behind.ensures ∙ token_length self.text.behind c.args.behind.now token begins) view)
    c.open.ensures.ok

pub returns-in-End-clause-ok : goal.returns-in-End-clause-ok
returns-in-End-clause-ok c =
    let self = c.args.self.now in
    on_ok_map c.close.result _ _
    (λ view token shows begins. end_step (builder_view self) (builder_view c.close.new.self) token c.in-End.name self.rows.pending _
    (subst (λ m. Shows token m self.rows.pending) c.in-End.is shows)
    (ap (λ (x : List ℕ). length x - length c.args.behind.now) c.behind.ensures ∙ token_length self.text.behind c.args.behind.now token begins) view)
    c.close.ensures.ok
