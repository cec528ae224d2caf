-- What the builder's calls do to the links of its rows.
use Rattle.std.proofs.Common.{◌≡◌, ℕ, ◌+◌, ◌-◌, ◌<◌, List, [], ◌∷◌, ◌++◌, length, get_or, set, refl, sym, ap, ◌∙◌, subst, arith}
use Rattle.std.proofs.lemmas.List.{map-append, length-map, get_or_push, get_or_default, length_push, length-reverse}
use Rattle.tree_rows.specs.Rows.{Shape, Row, end_at}
use Rattle.tree_rows.specs.declared.node.Link.{Link}
use Rattle.saml_tree.specs.Links.{depths_of, AreLinkedSoFar}
use Rattle.saml_tree.specs.Run.{State, NodePart, with_part}
use Rattle.saml_tree.specs.Views.{builder_view, IsLinking}
use Rattle.saml_tree.specs.declared.build.Builder.{Builder}
use Rattle.saml_tree.proofs.Building.{end_at_depths}
use Rattle.saml_tree.proofs.Linking.{linked_more, linked_opened, linked_closed}

levels_count : (rows : List Row) → length (depths_of rows) ≡ length rows
levels_count rows = length-map rows (λ (r : Row). r.depth)

levels_more : (rows : List Row) (row : Row) → depths_of (rows ++ row ∷ []) ≡ depths_of rows ++ row.depth ∷ []
levels_more rows row = map-append (λ (r : Row). r.depth) rows (row ∷ [])

pub row_added : (rows : List Row) (links : List Link) (row : Row) (link : Link) (numbers : List ℕ) → row.depth ≡ length numbers →
    link.parent ≡ get_or numbers (length numbers - 1) 0 → link.end ≡ length rows + 1 →
    AreLinkedSoFar (depths_of rows) links numbers → AreLinkedSoFar (depths_of (rows ++ row ∷ [])) (links ++ link ∷ []) numbers
row_added rows links row link numbers depth parent end h =
    let depths = levels_more rows row ∙ ap (λ n. depths_of rows ++ n ∷ []) depth in
    subst (λ (ds : List ℕ). AreLinkedSoFar ds (links ++ link ∷ []) numbers) (sym depths)
    (linked_more (depths_of rows) links numbers link h parent (omega (arith, levels_count rows)))

pub row_closed : (rows : List Row) (links : List Link) (place n : ℕ) (link : Link) (numbers : List ℕ) → n < length rows →
    link.parent ≡ (get_or links n link).parent → link.end ≡ length rows →
    AreLinkedSoFar (depths_of rows) links (numbers ++ n ∷ []) → AreLinkedSoFar (depths_of (end_at place n rows)) (set links n link) numbers
row_closed rows links place n link numbers within parent end h =
    subst (λ (ds : List ℕ). AreLinkedSoFar ds (set links n link) numbers) (sym (end_at_depths place n rows))
    (linked_closed (depths_of rows) links numbers n link h (omega (arith, h.count, levels_count rows)) parent (omega (arith, levels_count rows)))

-- an open element is one of the rows
pub row_open : (rows : List Row) (links : List Link) (n : ℕ) (numbers : List ℕ) → AreLinkedSoFar (depths_of rows) links (numbers ++ n ∷ []) → n < length rows
row_open rows links n numbers h =
    let own = h.opened (length numbers) (omega (arith, length_push numbers n)) in
    omega (arith, own.there, get_or_push numbers n 0 (length numbers) refl, levels_count rows)

-- the row that was added last is opened
pub row_opened : (rows : List Row) (links : List Link) (row : Row) (n : ℕ) (numbers : List ℕ) → n ≡ length rows → row.depth ≡ length numbers →
    AreLinkedSoFar (depths_of (rows ++ row ∷ [])) links numbers → AreLinkedSoFar (depths_of (rows ++ row ∷ [])) links (numbers ++ n ∷ [])
row_opened rows links row n numbers at depth h =
    let place : length (depths_of rows) ≡ n = levels_count rows ∙ sym at in
    linked_opened (depths_of (rows ++ row ∷ [])) links numbers n h
    (omega (arith, ap length (levels_more rows row), length_push (depths_of rows) row.depth, place))
    (ap (λ (ds : List ℕ). get_or ds n 0) (levels_more rows row) ∙ get_or_push (depths_of rows) row.depth 0 n place ∙ depth)

-- the end of a row is where the rows so far end
pub row_ended : (rows : List Row) (links : List Link) (place n : ℕ) (none : Link) (numbers : List ℕ) → n < length rows →
    AreLinkedSoFar (depths_of rows) links (numbers ++ n ∷ []) →
    AreLinkedSoFar (depths_of (end_at place n rows)) (set links n (record (get_or links n none) { end = length rows })) numbers
row_ended rows links place n none numbers within h =
    let link : Link = record (get_or links n none) { end = length rows } in
    let there : n < length links = omega (arith, h.count, levels_count rows) in
    row_closed rows links place n link numbers within (ap (λ (l : Link). l.parent) (get_or_default links n none link there)) refl h

-- the element that was added last is opened
pub element_opened : (before after : Builder) (shape : Shape) (end n : ℕ) → (builder_view before).text ≡ [] →
    builder_view after ≡ with_part (builder_view before) (NodePart shape) end → n ≡ length before.rows.rows → IsLinking after →
    AreLinkedSoFar (depths_of after.rows.rows) after.rows.links (after.open_elements.items ++ n ∷ [])
element_opened before after shape end n empty view at h =
    let level : ℕ = length (builder_view before).open_elements in
    let row : Row = record { depth = level; start = before.place; end = end; shape = shape } in
    let numbers = after.open_elements.items in
    let added : after.rows.rows ≡ before.rows.rows ++ row ∷ [] =
    ap (λ (s : State). s.rows) view
    ∙ ap (λ (t : List ℕ). (with_part (record (builder_view before) { text = t }) (NodePart shape) end).rows) empty in
    let opened : level ≡ length numbers = sym (ap (λ (s : State). length s.open_elements) view) ∙ length-reverse numbers in
    subst (λ (rows : List Row). AreLinkedSoFar (depths_of rows) after.rows.links (numbers ++ n ∷ [])) (sym added)
    (row_opened before.rows.rows after.rows.links row n numbers at opened
    (subst (λ (rows : List Row). AreLinkedSoFar (depths_of rows) after.rows.links numbers) added h))
