-- What one token makes of a document that is being read, by its kind.
use Rattle.std.proofs.Common.{◌≡◌, ℕ, ◌+◌, List, length, sym, ◌∙◌}
use denote.Ref.{Bor}
use Rattle.xml_spec.specs.Tree.{Attribute}
use Rattle.xml_spec.specs.Meaning.{line_ends}
use Rattle.xml_spec.specs.Syntax.{Characters, Refers, Section, CommentItem, ProcessingInstruction, EmptyTag, Token, Alone, StartTag, EndTag, print_token}
use Rattle.xml_tokens.specs.declared.token.Markup.TheVariants as markup
use Rattle.xml_tokens.specs.Views.{Shows}
use Rattle.tree_rows.specs.Rows.{ElementShape, CommentShape, InstructionShape}
use Rattle.saml_tree.specs.Run.{State, NodePart, with_part, with_part_inside, opened, closed, step}

pub comment_step : (s after : State) (token : Token) (text : Bor (List ℕ)) (attributes : List Attribute) (len : ℕ) → Shows token (markup.Comment text) attributes →
    len ≡ length (print_token token) → after ≡ with_part_inside s (NodePart (CommentShape (line_ends text.now))) (s.place + len) → step s token ≡ after
comment_step s after (Alone (Characters b)) text attributes len shows e is = absurd shows
comment_step s after (Alone (Refers b)) text attributes len shows e is = absurd shows
comment_step s after (Alone (Section b)) text attributes len shows e is = absurd shows
comment_step s after (Alone (CommentItem b)) text attributes len shows e is = (λ i. with_part_inside s (NodePart (CommentShape (line_ends (sym shows i)))) (s.place + sym e i)) ∙ sym is
comment_step s after (Alone (ProcessingInstruction t sp v)) text attributes len shows e is = absurd shows
comment_step s after (Alone (EmptyTag tag)) text attributes len shows e is = absurd shows
comment_step s after (StartTag tag) text attributes len shows e is = absurd shows
comment_step s after (EndTag n sp) text attributes len shows e is = absurd shows

pub instruction_step : (s after : State) (token : Token) (target : Bor (List ℕ)) (value : Bor (List ℕ)) (attributes : List Attribute) (len : ℕ) → Shows token (markup.Instruction target value) attributes →
    len ≡ length (print_token token) → after ≡ with_part_inside s (NodePart (InstructionShape target.now (line_ends value.now))) (s.place + len) → step s token ≡ after
instruction_step s after (Alone (Characters b)) target value attributes len shows e is = absurd shows
instruction_step s after (Alone (Refers b)) target value attributes len shows e is = absurd shows
instruction_step s after (Alone (Section b)) target value attributes len shows e is = absurd shows
instruction_step s after (Alone (CommentItem b)) target value attributes len shows e is = absurd shows
instruction_step s after (Alone (ProcessingInstruction t sp v)) target value attributes len shows e is = (λ i. with_part_inside s (NodePart (InstructionShape (sym shows.0 i) (line_ends (sym shows.1 i)))) (s.place + sym e i)) ∙ sym is
instruction_step s after (Alone (EmptyTag tag)) target value attributes len shows e is = absurd shows
instruction_step s after (StartTag tag) target value attributes len shows e is = absurd shows
instruction_step s after (EndTag n sp) target value attributes len shows e is = absurd shows

pub empty_step : (s after : State) (token : Token) (name : List ℕ) (attributes : List Attribute) (len : ℕ) → Shows token (markup.Empty name) attributes →
    len ≡ length (print_token token) → after ≡ with_part s (NodePart (ElementShape name attributes)) (s.place + len) → step s token ≡ after
empty_step s after (Alone (Characters b)) name attributes len shows e is = absurd shows
empty_step s after (Alone (Refers b)) name attributes len shows e is = absurd shows
empty_step s after (Alone (Section b)) name attributes len shows e is = absurd shows
empty_step s after (Alone (CommentItem b)) name attributes len shows e is = absurd shows
empty_step s after (Alone (ProcessingInstruction t sp v)) name attributes len shows e is = absurd shows
empty_step s after (Alone (EmptyTag tag)) name attributes len shows e is = (λ i. with_part s (NodePart (ElementShape (sym shows.0 i) (sym shows.1 i))) (s.place + sym e i)) ∙ sym is
empty_step s after (StartTag tag) name attributes len shows e is = absurd shows
empty_step s after (EndTag n sp) name attributes len shows e is = absurd shows

pub start_step : (s after : State) (token : Token) (name : List ℕ) (attributes : List Attribute) (len : ℕ) → Shows token (markup.Start name) attributes →
    len ≡ length (print_token token) → after ≡ opened s (ElementShape name attributes) (s.place + len) → step s token ≡ after
start_step s after (Alone (Characters b)) name attributes len shows e is = absurd shows
start_step s after (Alone (Refers b)) name attributes len shows e is = absurd shows
start_step s after (Alone (Section b)) name attributes len shows e is = absurd shows
start_step s after (Alone (CommentItem b)) name attributes len shows e is = absurd shows
start_step s after (Alone (ProcessingInstruction t sp v)) name attributes len shows e is = absurd shows
start_step s after (Alone (EmptyTag tag)) name attributes len shows e is = absurd shows
start_step s after (StartTag tag) name attributes len shows e is = (λ i. opened s (ElementShape (sym shows.0 i) (sym shows.1 i)) (s.place + sym e i)) ∙ sym is
start_step s after (EndTag n sp) name attributes len shows e is = absurd shows

pub end_step : (s after : State) (token : Token) (name : Bor (List ℕ)) (attributes : List Attribute) (len : ℕ) → Shows token (markup.End name) attributes →
    len ≡ length (print_token token) → after ≡ closed s s.open_elements (s.place + len) → step s token ≡ after
end_step s after (Alone (Characters b)) name attributes len shows e is = absurd shows
end_step s after (Alone (Refers b)) name attributes len shows e is = absurd shows
end_step s after (Alone (Section b)) name attributes len shows e is = absurd shows
end_step s after (Alone (CommentItem b)) name attributes len shows e is = absurd shows
end_step s after (Alone (ProcessingInstruction t sp v)) name attributes len shows e is = absurd shows
end_step s after (Alone (EmptyTag tag)) name attributes len shows e is = absurd shows
end_step s after (StartTag tag) name attributes len shows e is = absurd shows
end_step s after (EndTag n sp) name attributes len shows e is = (λ i. closed s s.open_elements (s.place + sym e i)) ∙ sym is
