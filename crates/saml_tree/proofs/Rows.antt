-- What the calls on a document say, of the rows of one tree.
use Rattle.std.proofs.Common.{◌≡◌, ℕ, zero, suc, ◌+◌, ◌-◌, ◌<◌, ◌≤◌, List, [], ◌∷◌, ◌++◌, length, get_or, take, drop, Some, None, refl, sym, ap, ◌∙◌, inl, inr, arith, take-append-drop}
use Rattle.std.proofs.Math.ListN.{get_or-map}
use Rattle.std.proofs.Math.Seq.{drop-cons}
use Rattle.std.proofs.lemmas.List.{drop-map, drop-drop, drop_all, length-map, length-drop, get_or-drop}
use Rattle.std.proofs.lemmas.Bool.{cases_lt}
use Rattle.xml_spec.specs.Tree.{NoNodes}
use Rattle.xml_spec.specs.Numbering.{size, from_node, elements_before, kids_of, rest_of, number_if_any, first_kid_of, next_of, parent_of}
use Rattle.tree_rows.specs.Rows.{Row, nodes_at, no_row}
use Rattle.tree_rows.specs.Shaped.{IsShaped}
use Rattle.saml_tree.specs.Kept.{elements_in}
use Rattle.saml_tree.specs.Links.{depths_of, IsParent, IsEnd}
use Rattle.saml_tree.proofs.Within.{within, within_out, within_in, within_all, within_is, within_most}
use Rattle.saml_tree.proofs.Nodes.{kids_of_node, rest_of_node, number_of_node, parent_is}
use Rattle.saml_tree.proofs.Places.{limit, Steps, steps_of, limit_most, own, nodes_same, nodes_deeper, nodes_less, within_past, room_of, sized, kids_sized, place, found, has_no_parent}
use Rattle.saml_tree.proofs.Counts.{before_is}

pub depth_at : (rows : List Row) (k : ℕ) → get_or (depths_of rows) k 0 ≡ (get_or rows k no_row).depth
depth_at rows k = get_or-map (λ (row : Row). row.depth) rows k no_row

pub depths_length : (rows : List Row) → length (depths_of rows) ≡ length rows
depths_length rows = length-map rows (λ (row : Row). row.depth)

steps_behind : (top : ℕ) (rows : List Row) (k : ℕ) → Steps top rows → k < length rows →
    Steps (limit (get_or rows k no_row)) (drop (suc k) rows)
steps_behind top [] k h in_rows = absurd (omega arith)
steps_behind top (row ∷ rows) zero h in_rows = h.1
steps_behind top (row ∷ rows) (suc k) h in_rows = steps_behind (limit row) rows k h.1 (omega arith)

pub not_empty : (rows : List Row) → IsShaped rows → 0 < length rows
not_empty [] h = absurd h
not_empty (row ∷ rows) h = omega arith

pub root_depth : (rows : List Row) → IsShaped rows → get_or (depths_of rows) 0 0 ≡ 0
root_depth [] h = absurd h
root_depth (row ∷ rows) h = h.0

-- a list of nodes that begins at row k
list_begins : (rows : List Row) (k i : ℕ) → k < length rows → number_if_any (nodes_at (get_or rows k no_row).depth (drop k rows)) i ≡ Some i
list_begins rows k i h =
    let row = get_or rows k no_row in
    ap (λ list. number_if_any (nodes_at row.depth list) i) (drop-cons rows k no_row h)
    ∙ ap (λ nodes. number_if_any nodes i) (nodes_same row (drop (suc k) rows))
    ∙ number_of_node row.shape (nodes_at (suc row.depth) (drop (suc k) rows)) (nodes_at row.depth (drop (suc k) rows)) i

list_is_empty : (d : ℕ) (rows : List Row) (k : ℕ) → (k < length rows → get_or (depths_of rows) k 0 < d) → nodes_at d (drop k rows) ≡ NoNodes
list_is_empty d rows k h = elim (cases_lt k (length rows)) [
  | inl in_rows ↦
      let row = get_or rows k no_row in
      ap (nodes_at d) (drop-cons rows k no_row in_rows) ∙ nodes_less d row (drop (suc k) rows) (omega (arith, h in_rows, depth_at rows k))
  | inr past ↦ ap (nodes_at d) (drop_all k rows past)
]

-- rows that are deeper say nothing of a list
deeper_skipped : (d : ℕ) (rows : List Row) → nodes_at d rows ≡ nodes_at d (drop (within (suc d) (depths_of rows)) rows)
deeper_skipped d [] = refl
deeper_skipped d (row ∷ rows) = elim (cases_lt d row.depth) [
  | inl deeper ↦
      nodes_deeper d row rows deeper ∙ deeper_skipped d rows
      ∙ ap (λ n. nodes_at d (drop n (row ∷ rows))) (sym (within_in (suc d) row.depth (depths_of rows) deeper))
  | inr other ↦ ap (λ n. nodes_at d (drop n (row ∷ rows))) (sym (within_out (suc d) row.depth (depths_of rows) (omega arith)))
]

-- a row is deeper by one at most than the one before it
pub step_at : (top : ℕ) (rows : List Row) (k : ℕ) → Steps top rows → suc k < length rows →
    (get_or rows (suc k) no_row).depth ≤ suc (get_or rows k no_row).depth
step_at top [] k h in_rows = absurd (omega arith)
step_at top (row ∷ []) k h in_rows = absurd (omega arith)
step_at top (row ∷ next ∷ rows) zero h in_rows = omega (arith, h.1.0, limit_most row)
step_at top (row ∷ next ∷ rows) (suc k) h in_rows = step_at (limit row) (next ∷ rows) k h.1 (omega arith)

module _ (rows : List Row) (shaped : IsShaped rows) where
  none_deeper : within 1 (depths_of rows) ≡ 0
  none_deeper = within_past 1 0 rows (steps_of rows shaped) (omega arith)

  pub size_is : size (nodes_at 0 rows) ≡ length rows
  size_is =
      omega (arith, sized 0 0 rows (steps_of rows shaped), none_deeper, within_all (depths_of rows), depths_length rows)

  pub node_is : (k : ℕ) → k < length rows → from_node (nodes_at 0 rows) k ≡ own (get_or rows k no_row ∷ drop (suc k) rows)
  node_is k h =
      let fits : k < size (nodes_at 0 rows) = omega (arith, size_is) in
      let same : place 0 rows k ≡ k = omega (arith, none_deeper) in
      found 0 0 rows k (steps_of rows shaped) fits ∙ ap (λ i. own (drop i rows)) same ∙ ap own (drop-cons rows k no_row h)

  pub behind : (k : ℕ) → k < length rows → Steps (limit (get_or rows k no_row)) (drop (suc k) rows)
  behind k h = steps_behind 0 rows k (steps_of rows shaped) h

  kids_are : (k : ℕ) → k < length rows → kids_of (from_node (nodes_at 0 rows) k) ≡ nodes_at (suc (get_or rows k no_row).depth) (drop (suc k) rows)
  kids_are k h =
      let row = get_or rows k no_row in
      ap kids_of (node_is k h)
      ∙ kids_of_node row.shape (nodes_at (suc row.depth) (drop (suc k) rows)) (nodes_at row.depth (drop (suc k) rows)) (room_of row (drop (suc k) rows) (behind k h))

  rest_is : (k : ℕ) → k < length rows → rest_of (from_node (nodes_at 0 rows) k) ≡ nodes_at (get_or rows k no_row).depth (drop (suc k) rows)
  rest_is k h =
      let row = get_or rows k no_row in
      ap rest_of (node_is k h)
      ∙ rest_of_node row.shape (nodes_at (suc row.depth) (drop (suc k) rows)) (nodes_at row.depth (drop (suc k) rows))

  depth_behind : (k i : ℕ) → get_or (depths_of (drop (suc k) rows)) i 0 ≡ get_or (depths_of rows) (suc k + i) 0
  depth_behind k i =
      ap (λ depths. get_or depths i 0) (sym (drop-map (λ (row : Row). row.depth) (suc k) rows))
      ∙ get_or-drop (suc k) (depths_of rows) i 0

  length_behind : (k : ℕ) → length (depths_of (drop (suc k) rows)) ≡ length rows - suc k
  length_behind k = depths_length (drop (suc k) rows) ∙ length-drop (suc k) rows

  inside_is : (k end : ℕ) → k < length rows → IsEnd (depths_of rows) k end →
      within (suc (get_or rows k no_row).depth) (depths_of (drop (suc k) rows)) ≡ end - suc k
  inside_is k end h is_end =
      let here = depth_at rows k in
      let all = depths_length rows in
      let in_range = is_end.in_range in
      let after = is_end.behind in
      within_is (suc (get_or rows k no_row).depth) (depths_of (drop (suc k) rows)) (end - suc k)
      (omega (arith, length_behind k))
      (λ i b. omega (arith, depth_behind k i, is_end.deeper (suc k + i) (omega arith) (omega arith)))
      (λ b. omega (
        arith,
        depth_behind k (end - suc k),
        ap (λ i. get_or (depths_of rows) i 0) (let same : suc k + (end - suc k) ≡ end = omega arith in same),
        is_end.stops (omega (arith, length_behind k)),
      ))

  pub first_kid_there : (k end : ℕ) → k < length rows → IsEnd (depths_of rows) k end → suc k < end →
      first_kid_of (nodes_at 0 rows) k ≡ Some (suc k)
  first_kid_there k end h is_end more =
      let all = depths_length rows in
      let in_range = is_end.in_range in
      let in_rows : suc k < length rows = omega arith in
      let deeper = is_end.deeper (suc k) (omega arith) more in
      let step = step_at 0 rows k (steps_of rows shaped) in_rows in
      let same : suc (get_or rows k no_row).depth ≡ (get_or rows (suc k) no_row).depth = omega (arith, depth_at rows k, depth_at rows (suc k)) in
      ap (λ nodes. number_if_any nodes (suc k)) (kids_are k h)
      ∙ ap (λ d. number_if_any (nodes_at d (drop (suc k) rows)) (suc k)) same
      ∙ list_begins rows (suc k) (suc k) in_rows

  pub first_kid_none : (k end : ℕ) → k < length rows → IsEnd (depths_of rows) k end → end ≤ suc k →
      first_kid_of (nodes_at 0 rows) k ≡ None
  first_kid_none k end h is_end less =
      let all = depths_length rows in
      let after = is_end.behind in
      let same : end ≡ suc k = omega arith in
      ap (λ nodes. number_if_any nodes (suc k)) (kids_are k h)
      ∙ ap (λ nodes. number_if_any nodes (suc k)) (list_is_empty (suc (get_or rows k no_row).depth) rows (suc k)
      (λ b. omega (arith, depth_at rows k, is_end.stops (omega arith), ap (λ i. get_or (depths_of rows) i 0) same)))

  next_number : (k end : ℕ) → k < length rows → IsEnd (depths_of rows) k end →
      suc (k + size (kids_of (from_node (nodes_at 0 rows) k))) ≡ end
  next_number k end h is_end =
      let after = is_end.behind in
      omega (arith, ap size (kids_are k h), kids_sized (get_or rows k no_row) (drop (suc k) rows) (behind k h), inside_is k end h is_end)

  rest_begins : (k end : ℕ) → k < length rows → IsEnd (depths_of rows) k end →
      rest_of (from_node (nodes_at 0 rows) k) ≡ nodes_at (get_or rows k no_row).depth (drop end rows)
  rest_begins k end h is_end =
      let after = is_end.behind in
      let d = (get_or rows k no_row).depth in
      let same : suc k + (end - suc k) ≡ end = omega arith in
      rest_is k h ∙ deeper_skipped d (drop (suc k) rows)
      ∙ ap (λ n. nodes_at d (drop n (drop (suc k) rows))) (inside_is k end h is_end)
      ∙ ap (nodes_at d) (drop-drop (end - suc k) (suc k) rows)
      ∙ ap (λ n. nodes_at d (drop n rows)) same

  pub next_there : (k end : ℕ) → k < length rows → IsEnd (depths_of rows) k end → end < length rows →
      get_or (depths_of rows) end 0 ≡ get_or (depths_of rows) k 0 → next_of (nodes_at 0 rows) k ≡ Some end
  next_there k end h is_end in_rows same =
      let level : (get_or rows k no_row).depth ≡ (get_or rows end no_row).depth = sym (depth_at rows k) ∙ sym same ∙ depth_at rows end in
      ap (λ nodes. number_if_any nodes (suc (k + size (kids_of (from_node (nodes_at 0 rows) k))))) (rest_begins k end h is_end)
      ∙ ap (number_if_any (nodes_at (get_or rows k no_row).depth (drop end rows))) (next_number k end h is_end)
      ∙ ap (λ d. number_if_any (nodes_at d (drop end rows)) end) level
      ∙ list_begins rows end end in_rows

  pub next_none : (k end : ℕ) → k < length rows → IsEnd (depths_of rows) k end →
      (end < length rows → get_or (depths_of rows) end 0 ≡ get_or (depths_of rows) k 0 → ⊥) → next_of (nodes_at 0 rows) k ≡ None
  next_none k end h is_end other =
      let all = depths_length rows in
      let number = suc (k + size (kids_of (from_node (nodes_at 0 rows) k))) in
      ap (λ nodes. number_if_any nodes number) (rest_begins k end h is_end)
      ∙ ap (λ nodes. number_if_any nodes number) (list_is_empty (get_or rows k no_row).depth rows end
      (λ b. let stops = is_end.stops (omega arith) in let apart = other b in let here = depth_at rows k in omega arith))

  pub root_alone : (k : ℕ) → k ≡ 0 → parent_of (nodes_at 0 rows) k ≡ None
  root_alone k first =
      let in_rows : 0 < length rows = not_empty rows shaped in
      let steps = steps_of rows shaped in
      ap (parent_of (nodes_at 0 rows)) first
      ∙ has_no_parent 0 0 rows 0 steps (omega (arith, size_is))
      (let at = root_depth rows shaped in ap (λ i. get_or (depths_of rows) i 0) (let same : place 0 rows 0 ≡ 0 = omega (arith, none_deeper) in same) ∙ at)

  pub parent_there : (k parent : ℕ) → k < length rows → IsParent (depths_of rows) k parent → parent_of (nodes_at 0 rows) k ≡ Some parent
  parent_there k parent h is_parent =
      let before = is_parent.before in
      let one_less = is_parent.one_less in
      let in_rows : parent < length rows = omega arith in
      let row = get_or rows parent no_row in
      let steps = behind parent in_rows in
      let list = drop (suc parent) rows in
      let j = k - suc parent in
      let at = depth_at rows parent in
      let number : suc parent + j ≡ k = omega arith in
      let kids = kids_are parent in_rows in
      let most : suc j ≤ within (suc row.depth) (depths_of list) =
      within_most (suc row.depth) (depths_of list) (suc j) (omega (arith, length_behind parent))
      (λ i b. elim (cases_lt (suc parent + i) k) [
        | inl less ↦ omega (arith, depth_behind parent i, is_parent.between (suc parent + i) (omega arith) less)
        | inr past ↦ omega (arith, depth_behind parent i, ap (λ n. get_or (depths_of rows) n 0) (let same : suc parent + i ≡ k = omega arith in same))
      ]) in
      let fits : j < size (kids_of (from_node (nodes_at 0 rows) parent)) = omega (arith, ap size kids, kids_sized row list steps) in
      let none_twice = within_past (suc (suc row.depth)) (limit row) list steps (omega (arith, limit_most row)) in
      let place_is : place (suc row.depth) list j ≡ j = omega arith in
      let level : get_or (depths_of list) (place (suc row.depth) list j) 0 ≡ suc row.depth =
      ap (λ i. get_or (depths_of list) i 0) place_is
      ∙ omega (arith, depth_behind parent j, ap (λ i. get_or (depths_of rows) i 0) number) in
      let alone : parent_of (kids_of (from_node (nodes_at 0 rows) parent)) j ≡ None =
      ap (λ nodes. parent_of nodes j) kids
      ∙ has_no_parent (suc row.depth) (limit row) list j steps (omega (arith, kids_sized row list steps)) level in
      let same : k ≡ suc (parent + j) = omega arith in
      ap (parent_of (nodes_at 0 rows)) same
      ∙ parent_is (nodes_at 0 rows) parent j (omega (arith, size_is)) fits alone

  pub before_row : (k : ℕ) → k < length rows → elements_before (nodes_at 0 rows) k ≡ elements_in (take k rows)
  before_row k h =
      let steps = steps_of rows shaped in
      let all = before_is 0 0 rows k steps (omega (arith, size_is)) in
      omega (
        arith,
        all,
        ap (λ i. elements_in (take i rows)) none_deeper,
        ap (λ i. elements_in (take i rows)) (let same : place 0 rows k ≡ k = omega (arith, none_deeper) in same),
      )

  pub split_at : (k : ℕ) → k < length rows → rows ≡ take k rows ++ get_or rows k no_row ∷ drop (suc k) rows
  split_at k h = sym (take-append-drop k rows) ∙ ap (λ back. take k rows ++ back) (drop-cons rows k no_row h)
