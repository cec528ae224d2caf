-- What the program reads of rows and their links, and what it says of the tree.
use Rattle.std.proofs.Common.{◌≡◌, ℕ, suc, ◌+◌, ◌<◌, ◌≤◌, true, List, length, get_or, take, drop, Some, None, IsSome, sym, ap, ◌∙◌, subst, arith}
use Rattle.xml_spec.specs.Tree.{Nodes}
use Rattle.xml_spec.specs.Numbering.{size, from_node, elements_before, kids_of, rest_of, first_kid_of, next_of, parent_of}
use Rattle.xml_spec.specs.Document.{IsRange}
use Rattle.tree_rows.specs.Rows.{Shape, Row, node, nodes_at, row_at}
use Rattle.tree_rows.specs.Shaped.{is_element, IsShaped}
use Rattle.tree_rows.specs.declared.node.Link.{Link}
use Rattle.saml_tree.specs.Documents.{kind_of}
use Rattle.saml_tree.specs.Kept.{HaveRanges}
use Rattle.saml_tree.specs.Links.{depths_of, IsParent, IsEnd, AreLinked}
use Rattle.saml_tree.proofs.Nodes.{HasRoom, kids_of_node, rest_of_node, in_tree}
use Rattle.saml_tree.proofs.Places.{room_of}
use Rattle.saml_tree.proofs.Rows.{depth_at, size_is, node_is, behind, first_kid_there, first_kid_none, next_there, next_none, root_alone, parent_there, before_row, split_at}

pub end_read : (depths : List ℕ) (links : List Link) (k : ℕ) (link : Link) → AreLinked depths links → k < length depths →
    link ≡ get_or links k link → IsEnd depths k link.end
end_read depths links k link linked h read = subst (λ (l : Link). IsEnd depths k l.end) (sym read) (linked.ends.each k link (omega arith) (omega (arith, linked.count)))

pub parent_read : (depths : List ℕ) (links : List Link) (k : ℕ) (link : Link) → AreLinked depths links → 0 < k → k < length depths →
    link ≡ get_or links k link → IsParent depths k link.parent
parent_read depths links k link linked some h read = subst (λ (l : Link). IsParent depths k l.parent) (sym read) (linked.parents.each k link some (omega (arith, linked.count)))

pub depth_read : (views : List Row) (k depth : ℕ) → depth ≡ (row_at views k).depth → depth ≡ get_or (depths_of views) k 0
depth_read views k depth read = read ∙ sym (depth_at views k)

-- a node is its shape, its kids and the rest
node_parts : (nodes kids rest : Nodes) (shape : Shape) → HasRoom shape kids → nodes ≡ node shape kids rest →
    nodes ≡ node shape (kids_of nodes) (rest_of nodes)
node_parts nodes kids rest shape room e =
    let k : kids ≡ kids_of nodes = sym (ap kids_of e ∙ kids_of_node shape kids rest room) in
    let r : rest ≡ rest_of nodes = sym (ap rest_of e ∙ rest_of_node shape kids rest) in
    e ∙ (λ i. node shape (k i) (r i))

module _ (views : List Row) (tree : Nodes) (shaped : IsShaped views) (is : nodes_at 0 views ≡ tree) where
  pub rows_are : size tree ≡ length views
  rows_are = sym (ap size is) ∙ size_is views shaped

  pub is_row : (k : ℕ) → IsSome (kind_of (from_node tree k)) → k < length views
  is_row k h = omega (arith, in_tree tree k h, rows_are)

  pub node_read : (k : ℕ) → k < length views → from_node tree k ≡ node (row_at views k).shape (kids_of (from_node tree k)) (rest_of (from_node tree k))
  node_read k there =
      let kept = row_at views k in
      let list = drop (suc k) views in
      node_parts (from_node tree k) (nodes_at (suc kept.depth) list) (nodes_at kept.depth list) kept.shape
      (room_of kept list (behind views shaped k there))
      (sym (ap (λ nodes. from_node nodes k) is) ∙ node_is views shaped k there)

  pub first_kid_read : (k end : ℕ) → k < length views → IsEnd (depths_of views) k end → k + 1 < end → first_kid_of tree k ≡ Some (k + 1)
  first_kid_read k end h is_end more =
      let same : suc k ≡ k + 1 = omega arith in
      sym (ap (λ nodes. first_kid_of nodes k) is) ∙ first_kid_there views shaped k end h is_end (omega arith) ∙ ap Some same

  pub no_kid_read : (k end : ℕ) → k < length views → IsEnd (depths_of views) k end → end ≤ k + 1 → first_kid_of tree k ≡ None
  no_kid_read k end h is_end less =
      sym (ap (λ nodes. first_kid_of nodes k) is) ∙ first_kid_none views shaped k end h is_end (omega arith)

  pub next_read : (k end : ℕ) → k < length views → IsEnd (depths_of views) k end → end < length views →
      get_or (depths_of views) end 0 ≡ get_or (depths_of views) k 0 → next_of tree k ≡ Some end
  next_read k end h is_end there same =
      sym (ap (λ nodes. next_of nodes k) is) ∙ next_there views shaped k end h is_end there same

  pub no_next_read : (k end : ℕ) → k < length views → IsEnd (depths_of views) k end →
      (end < length views → get_or (depths_of views) end 0 ≡ get_or (depths_of views) k 0 → ⊥) → next_of tree k ≡ None
  no_next_read k end h is_end other =
      sym (ap (λ nodes. next_of nodes k) is) ∙ next_none views shaped k end h is_end other

  pub no_parent_read : (k : ℕ) → k ≡ 0 → parent_of tree k ≡ None
  no_parent_read k first = sym (ap (λ nodes. parent_of nodes k) is) ∙ root_alone views shaped k first

  pub parent_is_read : (k parent : ℕ) → k < length views → IsParent (depths_of views) k parent → parent_of tree k ≡ Some parent
  parent_is_read k parent h is_parent =
      sym (ap (λ nodes. parent_of nodes k) is) ∙ parent_there views shaped k parent h is_parent

  pub range_read : (text : List ℕ) (k : ℕ) → HaveRanges text views → k < length views → is_element (row_at views k).shape ≡ true →
      IsRange text (elements_before tree k) (record { start = (row_at views k).start; end = (row_at views k).end })
  range_read text k ranges there element =
      let row = row_at views k in
      let number = sym (before_row views shaped k there) ∙ ap (λ nodes. elements_before nodes k) is in
      subst (λ (n : ℕ). IsRange text n (record { start = row.start; end = row.end })) number
      (ranges (take k views) (drop (suc k) views) row (split_at views shaped k there) element)
