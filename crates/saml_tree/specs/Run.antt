-- What one token after the other makes of a document that is being read: its rows.
use Rattle.std.specs.Prelude.{ℕ, ◌+◌, Bool, true, false, List, [], ◌∷◌, ◌++◌, length, if◌then◌else◌}
use Rattle.std.specs.Char.{encode_utf8}
use Rattle.xml_spec.specs.Syntax.{character_of, Tag, Item, Characters, Refers, Section, CommentItem, ProcessingInstruction, EmptyTag, print_item, Token, Alone, StartTag, EndTag, print_token}
use Rattle.xml_spec.specs.Meaning.{line_ends, attributes_of}
use Rattle.tree_rows.specs.Rows.{Shape, ElementShape, TextShape, CommentShape, InstructionShape, Row, end_at}

-- the rows so far, the text behind them that may go on, the numbers of the open elements, the innermost first, and
-- where the next token begins
pub record State : Type 0 where
  pub rows : List Row
  pub text : List ℕ
  pub open_elements : List ℕ
  pub place : ℕ

-- a text that ends at this place as a row, an empty one as none
abbrev pub text_rows : ℕ → ℕ → List ℕ → List Row
text_rows depth place [] = []
text_rows depth place (b ∷ bytes) =
    record { depth = depth; start = place; end = place; shape = TextShape (b ∷ bytes) } ∷ []

-- the rows, and the text behind them
abbrev pub all_rows : State → List Row
all_rows s = s.rows ++ text_rows (length s.open_elements) s.place s.text

-- what an item is in an element: a piece of a text, which joins what stands before it, or a node of its own
pub data Part : Type 0 where
  TextPart : (bytes : List ℕ) → Part
  NodePart : (shape : Shape) → Part

abbrev pub shape_of : Tag → Shape
shape_of tag = ElementShape tag.name (attributes_of tag)

abbrev pub part_of : Item → Part
part_of (Characters bytes) = TextPart (line_ends bytes)
part_of (Refers reference) = TextPart (encode_utf8 (character_of reference))
part_of (Section bytes) = TextPart (line_ends bytes)
part_of (CommentItem bytes) = NodePart (CommentShape (line_ends bytes))
part_of (ProcessingInstruction target space value) = NodePart (InstructionShape target (line_ends value))
part_of (EmptyTag tag) = NodePart (shape_of tag)

-- the rows that a part adds behind this text, and the text that is left
abbrev pub part_rows : ℕ → ℕ → ℕ → List ℕ → Part → List Row
part_rows depth place end text (TextPart bytes) = []
part_rows depth place end text (NodePart shape) =
    text_rows depth place text ++ record { depth = depth; start = place; end = end; shape = shape } ∷ []

abbrev pub part_text : List ℕ → Part → List ℕ
part_text text (TextPart bytes) = text ++ bytes
part_text text (NodePart shape) = []

-- a part that is written up to this place
abbrev pub with_part : State → Part → ℕ → State
with_part s part end = record s {
  rows = s.rows ++ part_rows (length s.open_elements) s.place end s.text part;
  text = part_text s.text part;
  place = end;
}

abbrev pub is_some : {X : Type 0} → List X → Bool
is_some [] = false
is_some (x ∷ xs) = true

-- outside the root nothing is kept
abbrev pub with_part_inside : State → Part → ℕ → State
with_part_inside s part end = if is_some s.open_elements then with_part s part end else record s { place = end }

-- an item that is written up to this place; one outside that is an element is the root
abbrev pub with_item : State → Item → ℕ → State
with_item s (EmptyTag tag) end = with_part s (NodePart (shape_of tag)) end
with_item s item end = with_part_inside s (part_of item) end

-- an element whose start tag is written up to this place
abbrev pub opened : State → Shape → ℕ → State
opened s shape end = record (with_part s (NodePart shape) end) { open_elements = length (all_rows s) ∷ s.open_elements }

-- the innermost of these open elements ends at this place
abbrev pub closed : State → List ℕ → ℕ → State
closed s [] end = record { rows = all_rows s; text = []; open_elements = []; place = end }
closed s (n ∷ outer) end = record { rows = end_at end n (all_rows s); text = []; open_elements = outer; place = end }

-- the state behind a token
abbrev pub step : State → Token → State
step s (Alone item) = with_item s item (s.place + length (print_item item))
step s (StartTag tag) = opened s (shape_of tag) (s.place + length (print_token (StartTag tag)))
step s (EndTag name space) = closed s s.open_elements (s.place + length (print_token (EndTag name space)))

-- the state behind tokens in a row
abbrev pub run : State → List Token → State
run s [] = s
run s (token ∷ tokens) = run (step s token) tokens

-- before the first token, which begins at this place
abbrev pub first_state : ℕ → State
first_state place = record { rows = []; text = []; open_elements = []; place = place }
