-- The rows of a document: their tree, their ranges, their depths and names.
use Rattle.std.proofs.Common.{◌≡◌, ℕ, suc, ◌+◌, ◌≤◌, Bool, true, false, cond, List, [], ◌∷◌, ◌++◌, length, IsTrue, Some, refl, sym, ◌∙◌, ap, subst, append_assoc, arith}
use Rattle.std.specs.Prelude.{slice_get}
use Rattle.std.specs.Bool.{if◌then◌else◌}
use Rattle.std.specs.List.{list_all}
use Rattle.xml_spec.specs.Tree.{Element}
use Rattle.xml_spec.specs.Syntax.{is_white, Characters, Refers, Section, CommentItem, ProcessingInstruction, EmptyTag, Content, NoContent, Then, Pair}
use Rattle.xml_spec.specs.Meaning.{attributes_of}
use Rattle.xml_spec.specs.Document.{is_epilog, is_document, root_of, Document, print_head, Writes, Span, spans_of}
use Rattle.xml_spec.proofs.Tests.{both_true}
use Rattle.tree_rows.specs.Rows.{TextShape, Row, nodes_at}
use Rattle.saml_tree.specs.Run.{text_rows, Part, TextPart, NodePart, part_of, part_rows, part_text}
use Rattle.tree_rows.specs.Shaped.{is_element, AreBelow, IsShaped}
use Rattle.saml_tree.specs.Kept.{elements_in, HaveRanges}
use Rattle.saml_tree.proofs.Contents.{shape_row, element_row, item_end, start_length, pair_end, rows_of, at_depth, content_deep, deep_passed, rows_are_nodes, four_joined}
use Rattle.saml_tree.proofs.Completing.{root_rows}

pub nothing_behind : {X : Type 0} (xs : List X) → xs ≡ xs ++ []
nothing_behind [] = refl
nothing_behind (x ∷ xs) = ap (λ zs. x ∷ zs) (nothing_behind xs)

-- the tree of a document's rows is its root
pub root_nodes : (c : Content) (place : ℕ) → is_document c ≡ true → nodes_at 0 (root_rows place c) ≡ root_of c
root_nodes NoContent place h = absurd (let clash : false ≡ true = h in cc)
root_nodes (Then (Characters bytes) rest) place h =
    root_nodes rest (item_end place (Characters bytes)) (both_true (list_all is_white bytes) _ h).1
root_nodes (Then (CommentItem bytes) rest) place h = root_nodes rest (item_end place (CommentItem bytes)) h
root_nodes (Then (ProcessingInstruction t s v) rest) place h = root_nodes rest (item_end place (ProcessingInstruction t s v)) h
root_nodes (Then (Refers r) rest) place h = absurd (let clash : false ≡ true = h in cc)
root_nodes (Then (Section bytes) rest) place h = absurd (let clash : false ≡ true = h in cc)
root_nodes (Then (EmptyTag tag) rest) place h = at_depth (element_row 0 place (item_end place (EmptyTag tag)) tag) []
root_nodes (Pair tag inner space rest) place h =
    let begin = place + start_length tag in
    let inside = rows_of 1 begin [] inner in
    at_depth (element_row 0 place (pair_end place tag inner space) tag) inside
    ∙ (λ i. Element tag.name (attributes_of tag)
    ((ap (nodes_at 1) (nothing_behind inside) ∙ rows_are_nodes inner 1 begin [] [] tt) i)
    ((ap (nodes_at 0) (nothing_behind inside) ∙ deep_passed 0 inside [] (content_deep inner 1 begin [])) i))

-- where the elements among the rows stand
abbrev element_spans : List Row → List Span
element_spans [] = []
element_spans (row ∷ rows) =
    if is_element row.shape then record { start = row.start; end = row.end } ∷ element_spans rows else element_spans rows

if_append : (b : Bool) (x : Span) (xs ys : List Span) → cond b (x ∷ (xs ++ ys)) (xs ++ ys) ≡ cond b (x ∷ xs) xs ++ ys
if_append true x xs ys = refl
if_append false x xs ys = refl

spans_append : (rows more : List Row) → element_spans (rows ++ more) ≡ element_spans rows ++ element_spans more
spans_append [] more = refl
spans_append (row ∷ rows) more =
    ap (λ zs. cond (is_element row.shape) (record { start = row.start; end = row.end } ∷ zs) zs) (spans_append rows more)
    ∙ if_append (is_element row.shape) (record { start = row.start; end = row.end }) (element_spans rows) (element_spans more)

-- texts are passed over
text_spans : (depth place : ℕ) (text : List ℕ) (rows : List Row) → element_spans (text_rows depth place text ++ rows) ≡ element_spans rows
text_spans depth place [] rows = refl
text_spans depth place (b ∷ bytes) rows = refl

node_spans : (depth place : ℕ) (text : List ℕ) (row : Row) (rows : List Row) →
    element_spans ((text_rows depth place text ++ row ∷ []) ++ rows) ≡ element_spans (row ∷ rows)
node_spans depth place [] row rows = refl
node_spans depth place (b ∷ bytes) row rows = refl

content_spans : (c : Content) (depth place : ℕ) (text : List ℕ) → spans_of place c ≡ element_spans (rows_of depth place text c)
content_spans NoContent depth place text = sym (text_spans depth place text []) ∙ ap element_spans (sym (nothing_behind (text_rows depth place text)))
content_spans (Then (Characters bytes) rest) depth place text = content_spans rest depth (item_end place (Characters bytes)) (part_text text (part_of (Characters bytes)))
content_spans (Then (Refers r) rest) depth place text = content_spans rest depth (item_end place (Refers r)) (part_text text (part_of (Refers r)))
content_spans (Then (Section bytes) rest) depth place text = content_spans rest depth (item_end place (Section bytes)) (part_text text (part_of (Section bytes)))
content_spans (Then (CommentItem bytes) rest) depth place text =
    let end = item_end place (CommentItem bytes) in
    content_spans rest depth end [] ∙ sym (node_spans depth place text _ (rows_of depth end [] rest))
content_spans (Then (ProcessingInstruction t s v) rest) depth place text =
    let end = item_end place (ProcessingInstruction t s v) in
    content_spans rest depth end [] ∙ sym (node_spans depth place text _ (rows_of depth end [] rest))
content_spans (Then (EmptyTag tag) rest) depth place text =
    let end = item_end place (EmptyTag tag) in
    ap (λ zs. record { start = place; end = end } ∷ zs) (content_spans rest depth end [])
    ∙ sym (node_spans depth place text (element_row depth place end tag) (rows_of depth end [] rest))
content_spans (Pair tag inner space rest) depth place text =
    let end = pair_end place tag inner space in
    let begin = place + start_length tag in
    let inside = rows_of (suc depth) begin [] inner in
    let later = rows_of depth end [] rest in
    (λ i. record { start = place; end = end } ∷ content_spans inner (suc depth) begin [] i ++ content_spans rest depth end [] i)
    ∙ ap (λ zs. record { start = place; end = end } ∷ zs) (sym (spans_append inside later))
    ∙ sym (text_spans depth place text (element_row depth place end tag ∷ (inside ++ later)))

epilog_spans : (c : Content) (place : ℕ) → is_epilog c ≡ true → spans_of place c ≡ []
epilog_spans NoContent place h = refl
epilog_spans (Then (Characters bytes) rest) place h = epilog_spans rest (item_end place (Characters bytes)) (both_true (list_all is_white bytes) _ h).1
epilog_spans (Then (CommentItem bytes) rest) place h = epilog_spans rest (item_end place (CommentItem bytes)) h
epilog_spans (Then (ProcessingInstruction t s v) rest) place h = epilog_spans rest (item_end place (ProcessingInstruction t s v)) h
epilog_spans (Then (Refers r) rest) place h = absurd (let clash : false ≡ true = h in cc)
epilog_spans (Then (Section bytes) rest) place h = absurd (let clash : false ≡ true = h in cc)
epilog_spans (Then (EmptyTag tag) rest) place h = absurd (let clash : false ≡ true = h in cc)
epilog_spans (Pair tag inner space rest) place h = absurd (let clash : false ≡ true = h in cc)

document_spans : (c : Content) (place : ℕ) → is_document c ≡ true → spans_of place c ≡ element_spans (root_rows place c)
document_spans NoContent place h = absurd (let clash : false ≡ true = h in cc)
document_spans (Then (Characters bytes) rest) place h =
    document_spans rest (item_end place (Characters bytes)) (both_true (list_all is_white bytes) _ h).1
document_spans (Then (CommentItem bytes) rest) place h = document_spans rest (item_end place (CommentItem bytes)) h
document_spans (Then (ProcessingInstruction t s v) rest) place h = document_spans rest (item_end place (ProcessingInstruction t s v)) h
document_spans (Then (Refers r) rest) place h = absurd (let clash : false ≡ true = h in cc)
document_spans (Then (Section bytes) rest) place h = absurd (let clash : false ≡ true = h in cc)
document_spans (Then (EmptyTag tag) rest) place h =
    ap (λ zs. record { start = place; end = item_end place (EmptyTag tag) } ∷ zs) (epilog_spans rest (item_end place (EmptyTag tag)) h)
document_spans (Pair tag inner space rest) place h =
    let end = pair_end place tag inner space in
    let begin = place + start_length tag in
    (λ i. record { start = place; end = end } ∷ content_spans inner 1 begin [] i ++ epilog_spans rest end h i)
    ∙ ap (λ zs. record { start = place; end = end } ∷ zs) (sym (nothing_behind (element_spans (rows_of 1 begin [] inner))))

span_at : (front back : List Row) (row : Row) → IsTrue (is_element row.shape) →
    slice_get (element_spans (front ++ row ∷ back)) (elements_in front) ≡ Some (record { start = row.start; end = row.end })
span_at [] back row h = ap (λ b. slice_get (cond b (record { start = row.start; end = row.end } ∷ element_spans back) (element_spans back)) 0) h
span_at (r ∷ front) back row h = past (is_element r.shape) (span_at front back row h)
  where
    past : (b : Bool) → slice_get (element_spans (front ++ row ∷ back)) (elements_in front) ≡ Some (record { start = row.start; end = row.end }) →
        slice_get (cond b (record { start = r.start; end = r.end } ∷ element_spans (front ++ row ∷ back)) (element_spans (front ++ row ∷ back)))
        (cond b (suc (elements_in front)) (elements_in front)) ≡ Some (record { start = row.start; end = row.end })
    past true e = e
    past false e = e

-- each element of a document stands where its row says
pub have_ranges : (text : List ℕ) (d : Document) → Writes text d → HaveRanges text (root_rows (length (print_head d)) d.content)
have_ranges text d w front back row e element = record {
  document = d;
  writes = w;
  place =
      ap (λ zs. slice_get zs (elements_in front)) (document_spans d.content (length (print_head d)) w.valid.shape ∙ ap element_spans e)
      ∙ span_at front back row element;
}

-- how deep the row behind this one may be
abbrev allowed : Row → ℕ
allowed before = if is_element before.shape then suc before.depth else before.depth

allowed_least : (row : Row) → row.depth ≤ allowed row
allowed_least row = by_test (is_element row.shape)
  where
    by_test : (b : Bool) → row.depth ≤ cond b (suc row.depth) row.depth
    by_test true = omega arith
    by_test false = omega arith

-- these rows may stand behind each that allows this depth
abbrev MayFollow : ℕ → List Row → Type 0
MayFollow depth rows = (before : Row) → depth ≤ allowed before → AreBelow before rows

row_follows : (row : Row) (rows : List Row) → 1 ≤ row.depth → MayFollow row.depth rows → MayFollow row.depth (row ∷ rows)
row_follows row rows low f before h = (low, h, f row (allowed_least row))

text_follows : (depth place : ℕ) (text : List ℕ) (rows : List Row) → 1 ≤ depth → MayFollow depth rows → MayFollow depth (text_rows depth place text ++ rows)
text_follows depth place [] rows low f = f
text_follows depth place (b ∷ bytes) rows low f = row_follows (shape_row depth place place (TextShape (b ∷ bytes))) rows low f

part_follows : (depth place end : ℕ) (text : List ℕ) (part : Part) (rows : List Row) → 1 ≤ depth → MayFollow depth rows →
    MayFollow depth (part_rows depth place end text part ++ rows)
part_follows depth place end text (TextPart bytes) rows low f = f
part_follows depth place end text (NodePart shape) rows low f =
    let row = shape_row depth place end shape in
    subst (MayFollow depth) (sym (append_assoc (text_rows depth place text) (row ∷ []) rows))
    (text_follows depth place text (row ∷ rows) low (row_follows row rows low f))

rows_follow : (c : Content) (depth place : ℕ) (text : List ℕ) (rows : List Row) → 1 ≤ depth → MayFollow depth rows →
    MayFollow depth (rows_of depth place text c ++ rows)
rows_follow NoContent depth place text rows low f = text_follows depth place text rows low f
rows_follow (Then item rest) depth place text rows low f =
    let end = item_end place item in
    let first = part_rows depth place end text (part_of item) in
    let later = rows_of depth end (part_text text (part_of item)) rest in
    subst (MayFollow depth) (sym (append_assoc first later rows))
    (part_follows depth place end text (part_of item) (later ++ rows) low (rows_follow rest depth end (part_text text (part_of item)) rows low f))
rows_follow (Pair tag inner space rest) depth place text rows low f =
    let end = pair_end place tag inner space in
    let begin = place + start_length tag in
    let row = element_row depth place end tag in
    let inside = rows_of (suc depth) begin [] inner in
    let later = rows_of depth end [] rest in
    let behind = rows_follow rest depth end [] rows low f in
    let kids = rows_follow inner (suc depth) begin [] (later ++ rows) (omega arith) (λ x k. behind x (omega arith)) in
    subst (MayFollow depth) (sym (four_joined (text_rows depth place text) inside later rows row))
    (text_follows depth place text (row ∷ (inside ++ (later ++ rows))) low (λ before h. (low, h, kids row (omega arith))))

pub root_shaped : (c : Content) (place : ℕ) → is_document c ≡ true → IsShaped (root_rows place c)
root_shaped NoContent place h = absurd (let clash : false ≡ true = h in cc)
root_shaped (Then (Characters bytes) rest) place h = root_shaped rest (item_end place (Characters bytes)) (both_true (list_all is_white bytes) _ h).1
root_shaped (Then (CommentItem bytes) rest) place h = root_shaped rest (item_end place (CommentItem bytes)) h
root_shaped (Then (ProcessingInstruction t s v) rest) place h = root_shaped rest (item_end place (ProcessingInstruction t s v)) h
root_shaped (Then (Refers r) rest) place h = absurd (let clash : false ≡ true = h in cc)
root_shaped (Then (Section bytes) rest) place h = absurd (let clash : false ≡ true = h in cc)
root_shaped (Then (EmptyTag tag) rest) place h = (refl, refl, tt)
root_shaped (Pair tag inner space rest) place h =
    let row = element_row 0 place (pair_end place tag inner space) tag in
    let begin = place + start_length tag in
    let inside = rows_of 1 begin [] inner in (
      refl,
      refl,
      subst (AreBelow row) (sym (nothing_behind inside)) (rows_follow inner 1 begin [] [] (omega arith) (λ x k. tt) row (omega arith)),
    )
