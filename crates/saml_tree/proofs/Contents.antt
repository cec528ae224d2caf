-- The rows of a content, and that they are the nodes that it means.
use Rattle.std.proofs.Common.{◌≡◌, ℕ, suc, ◌+◌, ◌<◌, ◌≤◌, Bool, true, false, cond, ◌==◌, nat_lt, List, [], ◌∷◌, ◌++◌, length, refl, sym, ◌∙◌, ap, append_assoc, arith}
use Rattle.std.specs.Bool.{⊤}
use Rattle.std.specs.List.{AllByRecursion}
use Rattle.xml_spec.specs.Tree.{Nodes, NoNodes, Element, Text, Comment, Instruction, with_text, begins_with_text}
use Rattle.xml_spec.specs.Syntax.{Tag, Item, Characters, Refers, Section, CommentItem, ProcessingInstruction, EmptyTag, print_item, StartTag, EndTag, print_token, print_tokens, Content, NoContent, Then, Pair, tokens_of}
use Rattle.xml_spec.specs.Meaning.{attributes_of, with_item, nodes_of}
use Rattle.tree_rows.specs.Rows.{Shape, TextShape, Row, node, nodes_at}
use Rattle.saml_tree.specs.Run.{text_rows, Part, TextPart, NodePart, part_of, part_rows, part_text, shape_of}

abbrev pub shape_row : ℕ → ℕ → ℕ → Shape → Row
shape_row depth place end shape = record { depth = depth; start = place; end = end; shape = shape }

abbrev pub element_row : ℕ → ℕ → ℕ → Tag → Row
element_row depth place end tag = shape_row depth place end (shape_of tag)

-- where what is written ends
abbrev pub item_end : ℕ → Item → ℕ
item_end place item = place + length (print_item item)

abbrev pub start_length : Tag → ℕ
start_length tag = length (print_token (StartTag tag))

abbrev pub content_length : Content → ℕ
content_length c = length (print_tokens (tokens_of c))

abbrev pub end_length : Tag → List ℕ → ℕ
end_length tag space = length (print_token (EndTag tag.name space))

abbrev pub pair_end : ℕ → Tag → Content → List ℕ → ℕ
pair_end place tag inner space = place + start_length tag + content_length inner + end_length tag space

-- the rows of a content at this depth that begins at this place, with the text that stands before it
abbrev pub rows_of : ℕ → ℕ → List ℕ → Content → List Row
rows_of depth place text NoContent = text_rows depth place text
rows_of depth place text (Then item rest) =
    part_rows depth place (item_end place item) text (part_of item)
    ++ rows_of depth (item_end place item) (part_text text (part_of item)) rest
rows_of depth place text (Pair tag inner space rest) =
    text_rows depth place text
    ++ (element_row depth place (pair_end place tag inner space) tag
    ∷ (rows_of (suc depth) (place + start_length tag) [] inner ++ rows_of depth (pair_end place tag inner space) [] rest))

-- no nodes of this depth or a greater one begin these rows
abbrev pub IsShallow : ℕ → List Row → Type 0
IsShallow depth [] = ⊤
IsShallow depth (row ∷ rows) = row.depth < depth

shallow_is_none : (depth : ℕ) (rows : List Row) → IsShallow depth rows → nodes_at depth rows ≡ NoNodes
shallow_is_none depth [] h = refl
shallow_is_none depth (row ∷ rows) h = by_tests (row.depth == depth) (nat_lt depth row.depth) refl refl
  where
    by_tests : (a b : Bool) → (row.depth == depth) ≡ a → nat_lt depth row.depth ≡ b →
        cond a (node row.shape (nodes_at (suc depth) rows) (nodes_at depth rows)) (cond b (nodes_at depth rows) NoNodes) ≡ NoNodes
    by_tests true b e f = absurd (let same : row.depth ≡ depth = grind arith in omega arith)
    by_tests false true e f = absurd (let less : depth < row.depth = grind arith in omega arith)
    by_tests false false e f = refl

-- rows of the depth
pub at_depth : (row : Row) (rows : List Row) → nodes_at row.depth (row ∷ rows) ≡ node row.shape (nodes_at (suc row.depth) rows) (nodes_at row.depth rows)
at_depth row rows = by_test (row.depth == row.depth) (equal row.depth)
  where
    equal : (n : ℕ) → (n == n) ≡ true
    equal n = grind arith

    by_test : (a : Bool) → a ≡ true →
        cond a (node row.shape (nodes_at (suc row.depth) rows) (nodes_at row.depth rows)) (cond (nat_lt row.depth row.depth) (nodes_at row.depth rows) NoNodes)
        ≡ node row.shape (nodes_at (suc row.depth) rows) (nodes_at row.depth rows)
    by_test true e = refl
    by_test false e = absurd (let clash : false ≡ true = e in cc)

-- a deeper row is passed over
deeper_row : (depth : ℕ) (row : Row) (rows : List Row) → depth < row.depth → nodes_at depth (row ∷ rows) ≡ nodes_at depth rows
deeper_row depth row rows h = by_tests (row.depth == depth) (nat_lt depth row.depth) refl refl
  where
    by_tests : (a b : Bool) → (row.depth == depth) ≡ a → nat_lt depth row.depth ≡ b →
        cond a (node row.shape (nodes_at (suc depth) rows) (nodes_at depth rows)) (cond b (nodes_at depth rows) NoNodes) ≡ nodes_at depth rows
    by_tests true b e f = absurd (let same : row.depth ≡ depth = grind arith in omega arith)
    by_tests false true e f = refl
    by_tests false false e f = absurd (let no_less : row.depth ≤ depth = grind arith in omega arith)

pub join_all : {X : Type 0} (P : X → Type 0) (xs ys : List X) → AllByRecursion P xs → AllByRecursion P ys → AllByRecursion P (xs ++ ys)
join_all P [] ys h k = k
join_all P (x ∷ xs) ys h k = (h.0, join_all P xs ys h.1 k)

-- none of the rows stands less deep
abbrev pub AreDeep : ℕ → List Row → Type 0
AreDeep depth rows = AllByRecursion (λ (row : Row). depth ≤ row.depth) rows

pub less_deep : (low depth : ℕ) (rows : List Row) → low ≤ depth → AreDeep depth rows → AreDeep low rows
less_deep low depth [] h k = tt
less_deep low depth (row ∷ rows) h k = (let here = k.0 in omega arith, less_deep low depth rows h k.1)

text_deep : (depth place : ℕ) (text : List ℕ) → AreDeep depth (text_rows depth place text)
text_deep depth place [] = tt
text_deep depth place (b ∷ bytes) = (omega arith, tt)

part_deep : (depth place end : ℕ) (text : List ℕ) (part : Part) → AreDeep depth (part_rows depth place end text part)
part_deep depth place end text (TextPart bytes) = tt
part_deep depth place end text (NodePart shape) =
    join_all (λ (row : Row). depth ≤ row.depth) (text_rows depth place text) (shape_row depth place end shape ∷ []) (text_deep depth place text) (omega arith, tt)

pub content_deep : (c : Content) (depth place : ℕ) (text : List ℕ) → AreDeep depth (rows_of depth place text c)
content_deep NoContent depth place text = text_deep depth place text
content_deep (Then item rest) depth place text =
    join_all (λ (row : Row). depth ≤ row.depth) (part_rows depth place (item_end place item) text (part_of item)) (rows_of depth (item_end place item) (part_text text (part_of item)) rest)
    (part_deep depth place (item_end place item) text (part_of item)) (content_deep rest depth (item_end place item) (part_text text (part_of item)))
content_deep (Pair tag inner space rest) depth place text =
    let end = pair_end place tag inner space in
    let inside = rows_of (suc depth) (place + start_length tag) [] inner in
    let later = rows_of depth end [] rest in
    join_all (λ (row : Row). depth ≤ row.depth) (text_rows depth place text) (element_row depth place end tag ∷ (inside ++ later)) (text_deep depth place text) (
      omega arith,
      join_all (λ (row : Row). depth ≤ row.depth) inside later
          (less_deep depth (suc depth) inside (omega arith) (content_deep inner (suc depth) (place + start_length tag) []))
          (content_deep rest depth end []),
    )

-- deeper rows are passed over
pub deep_passed : (low : ℕ) (xs rows : List Row) → AreDeep (suc low) xs → nodes_at low (xs ++ rows) ≡ nodes_at low rows
deep_passed low [] rows h = refl
deep_passed low (x ∷ xs) rows h = deeper_row low x (xs ++ rows) (let here = h.0 in omega arith) ∙ deep_passed low xs rows h.1

-- a content's rows begin less deep than its kids would
text_shallow : (depth place : ℕ) (text : List ℕ) (rows : List Row) → IsShallow (suc depth) rows → IsShallow (suc depth) (text_rows depth place text ++ rows)
text_shallow depth place [] rows h = h
text_shallow depth place (b ∷ bytes) rows h = omega arith

less_shallow : (depth : ℕ) (rows : List Row) → IsShallow depth rows → IsShallow (suc depth) rows
less_shallow depth [] h = tt
less_shallow depth (row ∷ rows) h = omega arith

part_shallow : (depth place end : ℕ) (text : List ℕ) (part : Part) (rows : List Row) → IsShallow (suc depth) rows →
    IsShallow (suc depth) (part_rows depth place end text part ++ rows)
part_shallow depth place end text (TextPart bytes) rows h = h
part_shallow depth place end [] (NodePart shape) rows h = omega arith
part_shallow depth place end (b ∷ bytes) (NodePart shape) rows h = omega arith

moved : (depth : ℕ) (xs ys : List Row) → xs ≡ ys → IsShallow depth ys → IsShallow depth xs
moved depth xs ys e h = rw e h

shallow_rows : (c : Content) (depth place : ℕ) (text : List ℕ) (rows : List Row) → IsShallow depth rows →
    IsShallow (suc depth) (rows_of depth place text c ++ rows)
shallow_rows NoContent depth place text rows h = text_shallow depth place text rows (less_shallow depth rows h)
shallow_rows (Then item rest) depth place text rows h =
    let first = part_rows depth place (item_end place item) text (part_of item) in
    let later = rows_of depth (item_end place item) (part_text text (part_of item)) rest in
    moved (suc depth) ((first ++ later) ++ rows) (first ++ (later ++ rows)) (append_assoc first later rows)
    (part_shallow depth place (item_end place item) text (part_of item) (later ++ rows) (shallow_rows rest depth (item_end place item) (part_text text (part_of item)) rows h))
shallow_rows (Pair tag inner space rest) depth place [] rows h = omega arith
shallow_rows (Pair tag inner space rest) depth place (b ∷ bytes) rows h = omega arith

-- a text in front of what begins with no text
text_in_front : (b : ℕ) (bytes : List ℕ) (nodes : Nodes) → begins_with_text nodes ≡ false → with_text (b ∷ bytes) nodes ≡ Text (b ∷ bytes) nodes
text_in_front b bytes NoNodes t = refl
text_in_front b bytes (Element name attributes kids rest) t = refl
text_in_front b bytes (Text text rest) t = absurd (let clash : true ≡ false = t in cc)
text_in_front b bytes (Comment text rest) t = refl
text_in_front b bytes (Instruction target value rest) t = refl

text_nodes : (depth place : ℕ) (text : List ℕ) (rows : List Row) (nodes : Nodes) → nodes_at depth rows ≡ nodes → begins_with_text nodes ≡ false →
    nodes_at depth (text_rows depth place text ++ rows) ≡ with_text text nodes
text_nodes depth place [] rows nodes e h = e
text_nodes depth place (b ∷ bytes) rows nodes e h =
    at_depth (shape_row depth place place (TextShape (b ∷ bytes))) rows ∙ ap (Text (b ∷ bytes)) e ∙ sym (text_in_front b bytes nodes h)

nothing_more : (xs : List ℕ) → xs ++ [] ≡ xs
nothing_more [] = refl
nothing_more (x ∷ xs) = ap (λ zs. x ∷ zs) (nothing_more xs)

-- two texts in front are one
pub text_twice : (text more : List ℕ) (nodes : Nodes) → with_text (text ++ more) nodes ≡ with_text text (with_text more nodes)
text_twice [] more nodes = refl
text_twice (b ∷ bytes) [] NoNodes = ap (λ z. Text (b ∷ z) NoNodes) (nothing_more bytes)
text_twice (b ∷ bytes) [] (Element name attributes kids rest) = ap (λ z. Text (b ∷ z) (Element name attributes kids rest)) (nothing_more bytes)
text_twice (b ∷ bytes) [] (Text text rest) = ap (λ z. Text ((b ∷ z) ++ text) rest) (nothing_more bytes)
text_twice (b ∷ bytes) [] (Comment text rest) = ap (λ z. Text (b ∷ z) (Comment text rest)) (nothing_more bytes)
text_twice (b ∷ bytes) [] (Instruction target value rest) = ap (λ z. Text (b ∷ z) (Instruction target value rest)) (nothing_more bytes)
text_twice (b ∷ bytes) (m ∷ more) NoNodes = refl
text_twice (b ∷ bytes) (m ∷ more) (Element name attributes kids rest) = refl
text_twice (b ∷ bytes) (m ∷ more) (Text text rest) = ap (λ z. Text (b ∷ z) rest) (append_assoc bytes (m ∷ more) text)
text_twice (b ∷ bytes) (m ∷ more) (Comment text rest) = refl
text_twice (b ∷ bytes) (m ∷ more) (Instruction target value rest) = refl

-- a node of its own is no text
abbrev IsNode : Part → Type 0
IsNode (TextPart bytes) = ⊤
IsNode (NodePart shape) = (kids rest : Nodes) → begins_with_text (node shape kids rest) ≡ false

item_is_node : (item : Item) → IsNode (part_of item)
item_is_node (Characters bytes) = tt
item_is_node (Refers r) = tt
item_is_node (Section bytes) = tt
item_is_node (CommentItem bytes) = λ kids rest. refl
item_is_node (ProcessingInstruction t s v) = λ kids rest. refl
item_is_node (EmptyTag tag) = λ kids rest. refl

-- a part in front of the nodes
abbrev part_nodes : Part → Nodes → Nodes
part_nodes (TextPart bytes) nodes = with_text bytes nodes
part_nodes (NodePart shape) nodes = node shape NoNodes nodes

item_nodes : (item : Item) (nodes : Nodes) → part_nodes (part_of item) nodes ≡ with_item item nodes
item_nodes (Characters bytes) nodes = refl
item_nodes (Refers r) nodes = refl
item_nodes (Section bytes) nodes = refl
item_nodes (CommentItem bytes) nodes = refl
item_nodes (ProcessingInstruction t s v) nodes = refl
item_nodes (EmptyTag tag) nodes = refl

pub three_joined : (xs ys zs : List Row) (row : Row) → ((xs ++ row ∷ []) ++ ys) ++ zs ≡ xs ++ (row ∷ (ys ++ zs))
three_joined xs ys zs row = append_assoc (xs ++ row ∷ []) ys zs ∙ append_assoc xs (row ∷ []) (ys ++ zs)

pub four_joined : (xs ys zs ws : List Row) (row : Row) → (xs ++ (row ∷ (ys ++ zs))) ++ ws ≡ xs ++ (row ∷ (ys ++ (zs ++ ws)))
four_joined xs ys zs ws row =
    append_assoc xs (row ∷ (ys ++ zs)) ws ∙ ap (λ more. xs ++ (row ∷ more)) (append_assoc ys zs ws)

part_are_nodes : (part : Part) (depth place end : ℕ) (text : List ℕ) (rest : Content) (rows : List Row) → IsNode part →
    IsShallow (suc depth) (rows_of depth end [] rest ++ rows) →
    ((more : List ℕ) → nodes_at depth (rows_of depth end more rest ++ rows) ≡ with_text more (nodes_of rest)) →
    nodes_at depth ((part_rows depth place end text part ++ rows_of depth end (part_text text part) rest) ++ rows)
    ≡ with_text text (part_nodes part (nodes_of rest))
part_are_nodes (TextPart bytes) depth place end text rest rows n h known = known (text ++ bytes) ∙ text_twice text bytes (nodes_of rest)
part_are_nodes (NodePart shape) depth place end text rest rows n h known =
    let row = shape_row depth place end shape in
    let later = rows_of depth end [] rest in
    ap (nodes_at depth) (three_joined (text_rows depth place text) later rows row)
    ∙ text_nodes depth place text (row ∷ (later ++ rows)) (node shape NoNodes (nodes_of rest))
    (at_depth row (later ++ rows) ∙ (λ i. node shape (shallow_is_none (suc depth) (later ++ rows) h i) (known [] i)))
    (n NoNodes (nodes_of rest))

-- what the rows of a content are as nodes
pub rows_are_nodes : (c : Content) (depth place : ℕ) (text : List ℕ) (rows : List Row) → IsShallow depth rows →
    nodes_at depth (rows_of depth place text c ++ rows) ≡ with_text text (nodes_of c)
rows_are_nodes NoContent depth place text rows h = text_nodes depth place text rows NoNodes (shallow_is_none depth rows h) refl
rows_are_nodes (Then item rest) depth place text rows h =
    let end = item_end place item in
    part_are_nodes (part_of item) depth place end text rest rows (item_is_node item) (shallow_rows rest depth end [] rows h)
    (λ more. rows_are_nodes rest depth end more rows h)
    ∙ ap (with_text text) (item_nodes item (nodes_of rest))
rows_are_nodes (Pair tag inner space rest) depth place text rows h =
    let end = pair_end place tag inner space in
    let begin = place + start_length tag in
    let row = element_row depth place end tag in
    let inside = rows_of (suc depth) begin [] inner in
    let later = rows_of depth end [] rest in
    ap (nodes_at depth) (four_joined (text_rows depth place text) inside later rows row)
    ∙ text_nodes depth place text (row ∷ (inside ++ (later ++ rows))) (Element tag.name (attributes_of tag) (nodes_of inner) (nodes_of rest))
    (at_depth row (inside ++ (later ++ rows))
    ∙ (λ i. Element tag.name (attributes_of tag)
    (rows_are_nodes inner (suc depth) begin [] (later ++ rows) (shallow_rows rest depth end [] rows h) i)
    ((deep_passed depth inside (later ++ rows) (content_deep inner (suc depth) begin []) ∙ rows_are_nodes rest depth end [] rows h) i)))
    refl
