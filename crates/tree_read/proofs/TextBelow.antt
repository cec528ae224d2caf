-- The text of a list, node by node in document order.
use Rattle.std.proofs.Common.{◌≡◌, ◌≢◌, ◌⊎◌, ℕ, zero, suc, ◌+◌, ◌-◌, ◌<◌, ◌≤◌, cond, ltb, List, [], ◌++◌, Some, None, IfSome, refl, sym, ap, ◌∙◌, inl, inr, append_assoc, arith}
use Rattle.std.proofs.lemmas.Bool.{cases_lt, cond-true, cond-false, lt-ltb, le-ltb}
use Rattle.std.proofs.lemmas.List.{append-nil}
use Rattle.xml_spec.specs.Tree.{Attribute, Nodes, NoNodes, Element, Text, Comment, Instruction}
use Rattle.xml_spec.specs.Numbering.{size, from_node, kids_of}
use Rattle.saml_tree.specs.Documents.{kind_of}
use Rattle.saml_tree.specs.Documents as documents
use Rattle.saml_tree.specs.declared.node.NodeKind.{NodeKind}
use Rattle.saml_tree.specs.declared.node.NodeKind.TheVariants as kinds
use Rattle.tree_read.specs.Texts.{text_in, text_of}
use Rattle.saml_tree.proofs.Numbers.{in_kids, in_rest, kid_from}

-- the text that the first node of a list is, empty where it is none
abbrev pub own_text : Nodes → List ℕ
own_text (Text text rest) = text
own_text _ = []

-- the text of node k and all nodes that follow it in document order
abbrev pub text_from : Nodes → ℕ → List ℕ
text_from NoNodes k = []
text_from (Element name attributes kids rest) zero = text_in kids ++ text_in rest
text_from (Element name attributes kids rest) (suc k) =
    cond (ltb k (size kids)) (text_from kids k ++ text_in rest) (text_from rest (k - size kids))
text_from (Text text rest) zero = text ++ text_in rest
text_from (Text text rest) (suc k) = text_from rest k
text_from (Comment text rest) zero = text_in rest
text_from (Comment text rest) (suc k) = text_from rest k
text_from (Instruction target value rest) zero = text_in rest
text_from (Instruction target value rest) (suc k) = text_from rest k

pub from_first_on : (nodes : Nodes) → text_from nodes 0 ≡ text_in nodes
from_first_on NoNodes = refl
from_first_on (Element name attributes kids rest) = refl
from_first_on (Text text rest) = refl
from_first_on (Comment text rest) = refl
from_first_on (Instruction target value rest) = refl

text_in_rest : (name : List ℕ) (attributes : List Attribute) (kids rest : Nodes) (k : ℕ) → size kids ≤ k →
    text_from (Element name attributes kids rest) (suc k) ≡ text_from rest (k - size kids)
text_in_rest name attributes kids rest k h = cond-false (ltb k (size kids)) _ _ (le-ltb _ _ h)

-- behind the last node there is no text
pub from_end : (nodes : Nodes) (k : ℕ) → size nodes ≤ k → text_from nodes k ≡ []
from_end NoNodes k h = refl
from_end (Element name attributes kids rest) zero h = absurd (omega arith)
from_end (Element name attributes kids rest) (suc k) h =
    text_in_rest name attributes kids rest k (omega arith) ∙ from_end rest (k - size kids) (omega arith)
from_end (Text text rest) zero h = absurd (omega arith)
from_end (Text text rest) (suc k) h = from_end rest k (omega arith)
from_end (Comment text rest) zero h = absurd (omega arith)
from_end (Comment text rest) (suc k) h = from_end rest k (omega arith)
from_end (Instruction target value rest) zero h = absurd (omega arith)
from_end (Instruction target value rest) (suc k) h = from_end rest k (omega arith)

text_in_kids : (name : List ℕ) (attributes : List Attribute) (kids rest : Nodes) (k : ℕ) → k ≤ size kids →
    text_from (Element name attributes kids rest) (suc k) ≡ text_from kids k ++ text_in rest
text_in_kids name attributes kids rest k h = elim (cases_lt k (size kids)) [
  | inl less ↦ cond-true (ltb k (size kids)) _ _ (lt-ltb _ _ less)
  | inr past ↦
      (let none : k - size kids ≡ 0 = omega arith in
      text_in_rest name attributes kids rest k past ∙ ap (text_from rest) none ∙ from_first_on rest
      ∙ ap (λ xs. xs ++ text_in rest) (sym (from_end kids k past)))
]

-- the text of a node, and of those that follow it
pub from_next : (nodes : Nodes) (k : ℕ) → k < size nodes → text_from nodes k ≡ own_text (from_node nodes k) ++ text_from nodes (suc k)
from_next NoNodes k h = absurd (omega arith)
from_next (Element name attributes kids rest) zero h =
    ap (λ xs. xs ++ text_in rest) (sym (from_first_on kids)) ∙ sym (text_in_kids name attributes kids rest 0 (omega arith))
from_next (Element name attributes kids rest) (suc k) h = elim (cases_lt k (size kids)) [
  | inl less ↦
      text_in_kids name attributes kids rest k (omega arith) ∙ ap (λ xs. xs ++ text_in rest) (from_next kids k less)
      ∙ append_assoc (own_text (from_node kids k)) (text_from kids (suc k)) (text_in rest)
      ∙ (λ i. own_text (sym (in_kids name attributes kids rest k less) i) ++ sym (text_in_kids name attributes kids rest (suc k) (omega arith)) i)
  | inr past ↦
      (let place : suc (k - size kids) ≡ suc k - size kids = omega arith in
      text_in_rest name attributes kids rest k past ∙ from_next rest (k - size kids) (omega arith)
      ∙ (λ i. own_text (sym (in_rest name attributes kids rest k past) i)
      ++ (ap (text_from rest) place ∙ sym (text_in_rest name attributes kids rest (suc k) (omega arith))) i))
]
from_next (Text text rest) zero h = ap (λ xs. text ++ xs) (sym (from_first_on rest))
from_next (Text text rest) (suc k) h = from_next rest k (omega arith)
from_next (Comment text rest) zero h = sym (from_first_on rest)
from_next (Comment text rest) (suc k) h = from_next rest k (omega arith)
from_next (Instruction target value rest) zero h = sym (from_first_on rest)
from_next (Instruction target value rest) (suc k) h = from_next rest k (omega arith)

-- the text of what is below node n, and behind node k
abbrev pub text_behind : Nodes → ℕ → ℕ → List ℕ
text_behind tree n k = text_from (kids_of (from_node tree n)) (k - n)

-- one node on
pub one_on : (tree : Nodes) (n k : ℕ) → n ≤ k → k < n + size (kids_of (from_node tree n)) →
    text_behind tree n k ≡ own_text (from_node tree (k + 1)) ++ text_behind tree n (k + 1)
one_on tree n k low high =
    let number : suc (n + (k - n)) ≡ k + 1 = omega arith in
    let next : suc (k - n) ≡ k + 1 - n = omega arith in
    from_next (kids_of (from_node tree n)) (k - n) (omega arith)
    ∙ (λ i. own_text ((sym (kid_from tree n (k - n) (omega arith)) ∙ ap (from_node tree) number) i)
    ++ text_from (kids_of (from_node tree n)) (next i))

-- no node yet, and all nodes
pub none_on : (tree : Nodes) (n : ℕ) → text_behind tree n n ≡ text_of tree n
none_on tree n =
    let start : n - n ≡ 0 = omega arith in
    ap (text_from (kids_of (from_node tree n))) start ∙ from_first_on (kids_of (from_node tree n))

pub all_on : (tree : Nodes) (n k : ℕ) → n + size (kids_of (from_node tree n)) ≤ k → text_behind tree n k ≡ []
all_on tree n k h = from_end (kids_of (from_node tree n)) (k - n) (omega arith)

-- the text of a node is put, one of another kind has none
pub text_put : (nodes : Nodes) (old new : List ℕ) → kind_of nodes ≡ Some kinds.Text →
    IfSome (documents.text_of nodes) (λ text. new ≡ old ++ text) → new ≡ old ++ own_text nodes
text_put NoNodes old new e put = absurd (let clash : None ≡ Some kinds.Text = e in cc)
text_put (Element name attributes kids rest) old new e put = absurd (let clash : Some kinds.Element ≡ Some kinds.Text = e in cc)
text_put (Text text rest) old new e put = put
text_put (Comment text rest) old new e put = absurd (let clash : Some kinds.Comment ≡ Some kinds.Text = e in cc)
text_put (Instruction target value rest) old new e put = absurd (let clash : Some kinds.Instruction ≡ Some kinds.Text = e in cc)

pub one_more_put : (tree : Nodes) (n k : ℕ) (old new all : List ℕ) → n ≤ k → k < n + size (kids_of (from_node tree n)) →
    new ≡ old ++ own_text (from_node tree (k + 1)) → old ++ text_behind tree n k ≡ all → new ++ text_behind tree n (k + 1) ≡ all
one_more_put tree n k old new all low high put was =
    ap (λ xs. xs ++ text_behind tree n (k + 1)) put
    ∙ append_assoc old (own_text (from_node tree (k + 1))) (text_behind tree n (k + 1))
    ∙ ap (λ xs. old ++ xs) (sym (one_on tree n k low high)) ∙ was

-- a node of another kind has no text of its own
pub no_text : (nodes : Nodes) (kind : NodeKind) → kind_of nodes ≡ Some kind → kind ≢ kinds.Text → own_text nodes ≡ []
no_text NoNodes kind e other = refl
no_text (Element name attributes kids rest) kind e other = refl
no_text (Text text rest) kind e other = absurd (other (let same : Some kinds.Text ≡ Some kind = e in cc))
no_text (Comment text rest) kind e other = refl
no_text (Instruction target value rest) kind e other = refl

pub not_text : (kind : NodeKind) → (kind ≡ kinds.Element) ⊎ ((kind ≡ kinds.Comment) ⊎ (kind ≡ kinds.Instruction)) → kind ≢ kinds.Text
not_text kind (inl element) e = let clash : kinds.Element ≡ kinds.Text = cc in cc
not_text kind (inr (inl comment)) e = let clash : kinds.Comment ≡ kinds.Text = cc in cc
not_text kind (inr (inr instruction)) e = let clash : kinds.Instruction ≡ kinds.Text = cc in cc

pub none_put : (nodes : Nodes) (old new : List ℕ) → own_text nodes ≡ [] → new ≡ old → new ≡ old ++ own_text nodes
none_put nodes old new none same = rw none (rw append-nil same)
