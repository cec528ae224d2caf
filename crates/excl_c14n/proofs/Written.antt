-- What is written of a node, by its kind.
use Rattle.std.proofs.Common.{◌≡◌, ℕ, suc, true, false, List, [], ◌++◌, Option, Some, None, IsSome, IfSome, refl, sym, ap, ◌∙◌, subst, append_assoc}
use Rattle.std.proofs.lemmas.Bool.{cond-true, cond-false}
use Rattle.canon_octets.specs.Places.{IsAppending, AppendsPart}
use Rattle.canon_octets.proofs.Underway.{IsUnderway, further, broken_off}
use Rattle.xml_spec.specs.Tree.{Nodes, NoNodes, Element, Text, Comment, Instruction}
use Rattle.xml_spec.specs.Numbering.{from_node, kids_of, next_of}
use Rattle.xml_spec.specs.Names.{Scope, inner_scope}
use Rattle.xml_spec.specs.Canonical.{escape_text, print_instruction, print_end}
use Rattle.std.specs.Option.{option_map_or}
use Rattle.saml_tree.specs.Documents.{kind_of, name_of, text_of}
use Rattle.saml_tree.specs.NodeNames.{ShownName, shown_name}
use Rattle.saml_tree.specs.declared.node.NodeKind.TheVariants as kinds
use Rattle.saml_tree.specs.Elements.{name_in, attributes_in}
use Rattle.excl_c14n.specs.NodeByNode.{is_skipped, written_in, start_in, nodes_form, node_form}
use Rattle.excl_c14n.proofs.Walking.{form_from, node_then}

module _ (listed : List (List ℕ)) (skip : Option ℕ) (scope rendered : Scope) where
  pub skipped_form : (n : ℕ) (nodes : Nodes) → is_skipped skip n ≡ true → node_form listed skip n scope rendered nodes ≡ []
  unfolding node_form
  skipped_form n NoNodes skipped = refl
  skipped_form n (Element name attributes kids rest) skipped = cond-true (is_skipped skip n) _ _ skipped
  skipped_form n (Text text rest) skipped = cond-true (is_skipped skip n) _ _ skipped
  skipped_form n (Comment text rest) skipped = refl
  skipped_form n (Instruction target value rest) skipped = cond-true (is_skipped skip n) _ _ skipped

  pub text_written : (Q : List ℕ → Type 0) (n : ℕ) (nodes : Nodes) → is_skipped skip n ≡ false → kind_of nodes ≡ Some kinds.Text →
      IfSome (text_of nodes) (λ text. Q (escape_text text)) → Q (node_form listed skip n scope rendered nodes)
  unfolding node_form
  text_written Q n NoNodes other kind put = absurd (let clash : None ≡ Some kinds.Text = kind in cc)
  text_written Q n (Element name attributes kids rest) other kind put = absurd (let clash : Some kinds.Element ≡ Some kinds.Text = kind in cc)
  text_written Q n (Text text rest) other kind put = subst Q (sym (cond-false (is_skipped skip n) [] (escape_text text) other)) put
  text_written Q n (Comment text rest) other kind put = absurd (let clash : Some kinds.Comment ≡ Some kinds.Text = kind in cc)
  text_written Q n (Instruction target value rest) other kind put = absurd (let clash : Some kinds.Instruction ≡ Some kinds.Text = kind in cc)

  pub comment_form : (n : ℕ) (nodes : Nodes) → kind_of nodes ≡ Some kinds.Comment → node_form listed skip n scope rendered nodes ≡ []
  unfolding node_form
  comment_form n NoNodes kind = refl
  comment_form n (Element name attributes kids rest) kind = absurd (let clash : Some kinds.Element ≡ Some kinds.Comment = kind in cc)
  comment_form n (Text text rest) kind = absurd (let clash : Some kinds.Text ≡ Some kinds.Comment = kind in cc)
  comment_form n (Comment text rest) kind = refl
  comment_form n (Instruction target value rest) kind = absurd (let clash : Some kinds.Instruction ≡ Some kinds.Comment = kind in cc)

  pub instruction_written : (Q : List ℕ → Type 0) (n : ℕ) (nodes : Nodes) → is_skipped skip n ≡ false → kind_of nodes ≡ Some kinds.Instruction →
      IfSome (text_of nodes) (λ value. Q (print_instruction (name_in nodes) value)) → Q (node_form listed skip n scope rendered nodes)
  unfolding node_form
  instruction_written Q n NoNodes other kind put = absurd (let clash : None ≡ Some kinds.Instruction = kind in cc)
  instruction_written Q n (Element name attributes kids rest) other kind put =
      absurd (let clash : Some kinds.Element ≡ Some kinds.Instruction = kind in cc)
  instruction_written Q n (Text text rest) other kind put = absurd (let clash : Some kinds.Text ≡ Some kinds.Instruction = kind in cc)
  instruction_written Q n (Comment text rest) other kind put = absurd (let clash : Some kinds.Comment ≡ Some kinds.Instruction = kind in cc)
  instruction_written Q n (Instruction target value rest) other kind put =
      subst Q (sym (cond-false (is_skipped skip n) [] (print_instruction target value) other)) put

  element_parts : (n : ℕ) (nodes : Nodes) → is_skipped skip n ≡ false → kind_of nodes ≡ Some kinds.Element →
      node_form listed skip n scope rendered nodes
      ≡ start_in listed scope rendered (name_in nodes) (attributes_in nodes)
      ++ nodes_form listed skip (suc n) (inner_scope (attributes_in nodes) scope)
      (written_in listed scope rendered (name_in nodes) (attributes_in nodes) ++ rendered) (kids_of nodes)
      ++ print_end (name_in nodes)
  unfolding node_form
  element_parts n NoNodes other kind = absurd (let clash : None ≡ Some kinds.Element = kind in cc)
  element_parts n (Element name attributes kids rest) other kind = cond-false (is_skipped skip n) _ _ other
  element_parts n (Text text rest) other kind = absurd (let clash : Some kinds.Text ≡ Some kinds.Element = kind in cc)
  element_parts n (Comment text rest) other kind = absurd (let clash : Some kinds.Comment ≡ Some kinds.Element = kind in cc)
  element_parts n (Instruction target value rest) other kind = absurd (let clash : Some kinds.Instruction ≡ Some kinds.Element = kind in cc)

  -- an element from its start tag over its kids to its end tag, with what is in scope and rendered inside it
  pub element_form : (n : ℕ) (nodes : Nodes) (inner below : Scope) → is_skipped skip n ≡ false → kind_of nodes ≡ Some kinds.Element →
      inner ≡ inner_scope (attributes_in nodes) scope →
      below ≡ written_in listed scope rendered (name_in nodes) (attributes_in nodes) ++ rendered →
      node_form listed skip n scope rendered nodes
      ≡ start_in listed scope rendered (name_in nodes) (attributes_in nodes)
      ++ (nodes_form listed skip (suc n) inner below (kids_of nodes) ++ print_end (name_in nodes))
  element_form n nodes inner below other kind bound shown =
      element_parts n nodes other kind
      ∙ (λ i. start_in listed scope rendered (name_in nodes) (attributes_in nodes)
      ++ nodes_form listed skip (suc n) (sym bound i) (sym shown i) (kids_of nodes) ++ print_end (name_in nodes))
      ∙ append_assoc (start_in listed scope rendered (name_in nodes) (attributes_in nodes)) (nodes_form listed skip (suc n) inner below (kids_of nodes))
      (print_end (name_in nodes))

  module _ {S : Type 0} {R : S → S → List ℕ → Type 0} (law : IsAppending R) (start now next : S) (tree : Nodes) (k : ℕ) (whole : List ℕ) where
    -- one more node, and then those behind it
    pub one_more_written : IsUnderway R start now (form_from listed skip scope rendered tree (Some k)) whole →
        R now next (node_form listed skip k scope rendered (from_node tree k)) →
        IsUnderway R start next (form_from listed skip scope rendered tree (next_of tree k)) whole
    one_more_written so_far put =
        further law start now next (node_form listed skip k scope rendered (from_node tree k)) (form_from listed skip scope rendered tree (next_of tree k)) _ whole
        (node_then listed skip scope rendered tree k) so_far put

    pub one_written_partly : IsUnderway R start now (form_from listed skip scope rendered tree (Some k)) whole →
        AppendsPart R now next (node_form listed skip k scope rendered (from_node tree k)) → AppendsPart R start next whole
    one_written_partly so_far put =
        broken_off law start now next (node_form listed skip k scope rendered (from_node tree k)) (form_from listed skip scope rendered tree (next_of tree k)) _ whole
        (node_then listed skip scope rendered tree k) so_far put

-- an instruction has a target and a value, and its target is shown as a whole
pub text_there : (nodes : Nodes) → kind_of nodes ≡ Some kinds.Instruction → IsSome (text_of nodes)
text_there NoNodes kind = absurd (let clash : None ≡ Some kinds.Instruction = kind in cc)
text_there (Element name attributes kids rest) kind = absurd (let clash : Some kinds.Element ≡ Some kinds.Instruction = kind in cc)
text_there (Text text rest) kind = absurd (let clash : Some kinds.Text ≡ Some kinds.Instruction = kind in cc)
text_there (Comment text rest) kind = absurd (let clash : Some kinds.Comment ≡ Some kinds.Instruction = kind in cc)
text_there (Instruction target value rest) kind = refl

pub name_there : (nodes : Nodes) → kind_of nodes ≡ Some kinds.Instruction → IsSome (name_of nodes)
name_there NoNodes kind = absurd (let clash : None ≡ Some kinds.Instruction = kind in cc)
name_there (Element name attributes kids rest) kind = absurd (let clash : Some kinds.Element ≡ Some kinds.Instruction = kind in cc)
name_there (Text text rest) kind = absurd (let clash : Some kinds.Text ≡ Some kinds.Instruction = kind in cc)
name_there (Comment text rest) kind = absurd (let clash : Some kinds.Comment ≡ Some kinds.Instruction = kind in cc)
name_there (Instruction target value rest) kind = refl

pub target_shown : (scope : Scope) (nodes : Nodes) (shown : ShownName) → kind_of nodes ≡ Some kinds.Instruction → shown_name scope nodes ≡ Some shown →
    shown.local ≡ name_in nodes
target_shown scope NoNodes shown kind is = absurd (let clash : None ≡ Some kinds.Instruction = kind in cc)
target_shown scope (Element name attributes kids rest) shown kind is = absurd (let clash : Some kinds.Element ≡ Some kinds.Instruction = kind in cc)
target_shown scope (Text text rest) shown kind is = absurd (let clash : Some kinds.Text ≡ Some kinds.Instruction = kind in cc)
target_shown scope (Comment text rest) shown kind is = absurd (let clash : Some kinds.Comment ≡ Some kinds.Instruction = kind in cc)
target_shown scope (Instruction target value rest) shown kind is = ap (λ (o : Option ShownName). option_map_or (λ s. s.local) o target) (sym is)
