-- What one more token makes of the rows: how many there are, how many elements are open, and which are small.
use Rattle.std.proofs.Common.{◌≡◌, ℕ, zero, suc, ◌+◌, ◌<◌, ◌≤◌, Bool, true, false, cond, ◌&&◌, List, [], ◌∷◌, ◌++◌, length, Some, None, refl, sym, ◌∙◌, ap, arith, length-append}
use Rattle.std.specs.List.{list_all}
use Rattle.std.specs.Str.{bytes_eq}
use Rattle.std.proofs.lemmas.List.Folds.{list_all-append}
use Rattle.xml_spec.specs.Syntax.{Item, Characters, Refers, Section, CommentItem, ProcessingInstruction, EmptyTag, print_item, Token, Alone, StartTag, EndTag, print_token, IsToken}
use Rattle.xml_spec.specs.Document.{is_misc}
use Rattle.xml_spec.proofs.Tokens.{token_is_not_empty}
use Rattle.tree_rows.specs.Rows.{Shape, Row, end_at}
use Rattle.saml_tree.specs.RowTests.{is_small, is_small_token}
use Rattle.saml_tree.specs.Run.{State, text_rows, all_rows, Part, TextPart, NodePart, part_of, part_rows, part_text, with_part, with_part_inside, shape_of, with_item, is_some, opened, closed, step}
use Rattle.saml_tree.specs.Outlines.{Outline, item_outside, named_end, next_outline}
use Rattle.saml_tree.proofs.Contents.{shape_row}

-- how many rows a text makes
abbrev pub text_count : List ℕ → ℕ
text_count [] = 0
text_count (b ∷ bytes) = 1

-- how many rows there are, the text behind them with them
abbrev pub count : State → ℕ
count s = length s.rows + text_count s.text

abbrev pub is_small_row : Row → Bool
is_small_row row = is_small row.depth row.shape

abbrev pub are_small : List Row → Bool
are_small rows = list_all is_small_row rows

-- what a step makes: one more row at most, one more open element at most, and the small rows stay so
pub record Grows (s after : State) (end : ℕ) (kept : Bool) : Type 0 where
  pub rows : count after ≤ suc (count s)
  pub stack : length after.open_elements ≤ suc (length s.open_elements)
  pub place : after.place ≡ end
  pub small : are_small after.rows ≡ (are_small s.rows && kept)

and_true_more : (b : Bool) → b ≡ (b && true)
and_true_more true = refl
and_true_more false = refl

text_counted : (depth place : ℕ) (text : List ℕ) → length (text_rows depth place text) ≡ text_count text
text_counted depth place [] = refl
text_counted depth place (b ∷ bytes) = refl

text_at_most : (text : List ℕ) → text_count text ≤ 1
text_at_most [] = omega arith
text_at_most (b ∷ bytes) = omega arith

text_more : (text more : List ℕ) → text_count (text ++ more) ≤ suc (text_count text)
text_more [] more = let most = text_at_most more in omega arith
text_more (b ∷ bytes) more = omega arith

text_small : (depth place : ℕ) (text : List ℕ) → are_small (text_rows depth place text) ≡ true
text_small depth place [] = refl
text_small depth place (b ∷ bytes) = refl

abbrev part_small : ℕ → Part → Bool
part_small depth (TextPart bytes) = true
part_small depth (NodePart shape) = is_small depth shape

rows_small : (rows more : List Row) (a b : Bool) → are_small rows ≡ a → are_small more ≡ b → are_small (rows ++ more) ≡ (a && b)
rows_small rows more a b e f = list_all-append is_small_row rows more ∙ (λ i. e i && f i)

part_rows_small : (depth place end : ℕ) (text : List ℕ) (part : Part) → are_small (part_rows depth place end text part) ≡ part_small depth part
part_rows_small depth place end text (TextPart bytes) = refl
part_rows_small depth place end text (NodePart shape) =
    rows_small (text_rows depth place text) (shape_row depth place end shape ∷ []) true (is_small depth shape) (text_small depth place text) (sym (and_true_more (is_small depth shape)))

part_counted : (depth place end : ℕ) (text : List ℕ) (part : Part) →
    length (part_rows depth place end text part) + text_count (part_text text part) ≤ suc (text_count text)
part_counted depth place end text (TextPart bytes) = let more = text_more text bytes in omega arith
part_counted depth place end text (NodePart shape) =
    let more = length-append (text_rows depth place text) (shape_row depth place end shape ∷ []) in
    let counted = text_counted depth place text in
    omega arith

part_grows : (s : State) (part : Part) (end : ℕ) → Grows s (with_part s part end) end (part_small (length s.open_elements) part)
part_grows s part end =
    let depth = length s.open_elements in
    let added = part_rows depth s.place end s.text part in
    let more = length-append s.rows added in
    let counted = part_counted depth s.place end s.text part in
    record {
      rows = omega arith;
      stack = omega arith;
      place = refl;
      small = rows_small s.rows added (are_small s.rows) (part_small depth part) refl (part_rows_small depth s.place end s.text part);
    }

stays : (s : State) (end : ℕ) → Grows s (record s { place = end }) end true
stays s end = record { rows = omega arith; stack = omega arith; place = refl; small = and_true_more (are_small s.rows) }

inside_grows : (s : State) (part : Part) (end : ℕ) → part_small (length s.open_elements) part ≡ true → Grows s (with_part_inside s part end) end true
inside_grows s part end h = by_test (is_some s.open_elements)
  where
    by_test : (b : Bool) → Grows s (cond b (with_part s part end) (record s { place = end })) end true
    by_test true = let grown = part_grows s part end in
        record { rows = grown.rows; stack = grown.stack; place = grown.place; small = grown.small ∙ ap (λ c. are_small s.rows && c) h }
    by_test false = stays s end

item_grows : (s : State) (item : Item) (end : ℕ) → Grows s (with_item s item end) end (is_small_token (length s.open_elements) (Alone item))
item_grows s (Characters bytes) end = inside_grows s (part_of (Characters bytes)) end refl
item_grows s (Refers r) end = inside_grows s (part_of (Refers r)) end refl
item_grows s (Section bytes) end = inside_grows s (part_of (Section bytes)) end refl
item_grows s (CommentItem bytes) end = inside_grows s (part_of (CommentItem bytes)) end refl
item_grows s (ProcessingInstruction t u v) end = inside_grows s (part_of (ProcessingInstruction t u v)) end refl
item_grows s (EmptyTag tag) end = part_grows s (NodePart (shape_of tag)) end

opened_grows : (s : State) (shape : Shape) (end : ℕ) → Grows s (opened s shape end) end (is_small (length s.open_elements) shape)
opened_grows s shape end =
    let grown = part_grows s (NodePart shape) end in
    record { rows = grown.rows; stack = omega arith; place = refl; small = grown.small }

end_length : (place n : ℕ) (rows : List Row) → length (end_at place n rows) ≡ length rows
end_length place n [] = refl
end_length place zero (row ∷ rows) = refl
end_length place (suc n) (row ∷ rows) = ap suc (end_length place n rows)

end_small : (place n : ℕ) (rows : List Row) → are_small (end_at place n rows) ≡ are_small rows
end_small place n [] = refl
end_small place zero (row ∷ rows) = refl
end_small place (suc n) (row ∷ rows) = ap (λ b. is_small_row row && b) (end_small place n rows)

all_small : (s : State) → are_small (all_rows s) ≡ (are_small s.rows && true)
all_small s = rows_small s.rows (text_rows (length s.open_elements) s.place s.text) (are_small s.rows) true refl (text_small (length s.open_elements) s.place s.text)

all_counted : (s : State) → length (all_rows s) ≡ count s
all_counted s =
    length-append s.rows (text_rows (length s.open_elements) s.place s.text)
    ∙ ap (λ n. length s.rows + n) (text_counted (length s.open_elements) s.place s.text)

closed_grows : (s : State) (stack : List ℕ) (end : ℕ) → length stack ≤ length s.open_elements → Grows s (closed s stack end) end true
closed_grows s [] end h = let counted = all_counted s in
    record { rows = omega arith; stack = omega arith; place = refl; small = all_small s }
closed_grows s (n ∷ outer) end h =
    let counted = all_counted s in
    let same = end_length end n (all_rows s) in
    record { rows = omega arith; stack = omega arith; place = refl; small = end_small end n (all_rows s) ∙ all_small s }

pub step_grows : (s : State) (t : Token) → Grows s (step s t) (s.place + length (print_token t)) (is_small_token (length s.open_elements) t)
step_grows s (Alone item) = item_grows s item (s.place + length (print_item item))
step_grows s (StartTag tag) = opened_grows s (shape_of tag) (s.place + length (print_token (StartTag tag)))
step_grows s (EndTag name space) = closed_grows s s.open_elements (s.place + length (print_token (EndTag name space))) (omega arith)

-- a valid token has a byte
pub token_some : (t : Token) → IsToken t → 0 < length (print_token t)
token_some t v = some (print_token t) (λ e. token_is_not_empty t [] v (ap (λ z. z ++ []) e))
  where
    some : (xs : List ℕ) → ¬ (xs ≡ []) → 0 < length xs
    some [] h = absurd (h refl)
    some (x ∷ xs) h = omega arith

-- the outline has a name for each open element
stack_inside : (s : State) (part : Part) (end : ℕ) → (with_part_inside s part end).open_elements ≡ s.open_elements
stack_inside s part end = by_test (is_some s.open_elements)
  where
    by_test : (b : Bool) → (cond b (with_part s part end) (record s { place = end })).open_elements ≡ s.open_elements
    by_test true = refl
    by_test false = refl

item_stack : (s : State) (item : Item) (end : ℕ) → (with_item s item end).open_elements ≡ s.open_elements
item_stack s (Characters bytes) end = stack_inside s (part_of (Characters bytes)) end
item_stack s (Refers r) end = stack_inside s (part_of (Refers r)) end
item_stack s (Section bytes) end = stack_inside s (part_of (Section bytes)) end
item_stack s (CommentItem bytes) end = stack_inside s (part_of (CommentItem bytes)) end
item_stack s (ProcessingInstruction t u v) end = stack_inside s (part_of (ProcessingInstruction t u v)) end
item_stack s (EmptyTag tag) end = refl

none_some : {X : Type 0} (x : X) → None ≡ Some x → ⊥
none_some x e = cc

chosen : (b : Bool) (next after : Outline) → cond b (Some next) None ≡ Some after → next ≡ after
chosen true next after e = cc
chosen false next after e = absurd (none_some after e)

outside_names : (o after : Outline) (item : Item) → item_outside o item ≡ Some after → after.names ≡ o.names
outside_names o after (EmptyTag tag) e = by_test o.begun e
  where
    by_test : (b : Bool) → cond b None (Some (record o { begun = true })) ≡ Some after → after.names ≡ o.names
    by_test true f = absurd (none_some after f)
    by_test false f = let same : record o { begun = true } ≡ after = cc in ap (λ (z : Outline). z.names) (sym same)
outside_names o after (Characters bytes) e = ap (λ (z : Outline). z.names) (sym (chosen (is_misc (Characters bytes)) o after e))
outside_names o after (Refers r) e = absurd (none_some after e)
outside_names o after (Section bytes) e = absurd (none_some after e)
outside_names o after (CommentItem bytes) e = ap (λ (z : Outline). z.names) (sym (chosen true o after e))
outside_names o after (ProcessingInstruction t u v) e = ap (λ (z : Outline). z.names) (sym (chosen true o after e))

item_names : (o after : Outline) (item : Item) → next_outline o (Alone item) ≡ Some after → after.names ≡ o.names
item_names o after item e = by_test (is_some o.names) e
  where
    by_test : (b : Bool) → cond b (Some o) (item_outside o item) ≡ Some after → after.names ≡ o.names
    by_test true f = let same : o ≡ after = cc in ap (λ (z : Outline). z.names) (sym same)
    by_test false f = outside_names o after item f

closed_level : (o after : Outline) (s : State) (names : List (List ℕ)) (stack : List ℕ) (name : List ℕ) (end : ℕ) →
    named_end o names name ≡ Some after → length names ≡ length stack → length after.names ≡ length (closed s stack end).open_elements
closed_level o after s [] stack name end e h = absurd (none_some after e)
closed_level o after s (inner ∷ names) [] name end e h = absurd (omega arith)
closed_level o after s (inner ∷ names) (n ∷ stack) name end e h =
    ap (λ (z : Outline). length z.names) (sym (chosen (bytes_eq inner name) (record o { names = names }) after e)) ∙ omega arith

pub step_level : (o after : Outline) (s : State) (t : Token) → next_outline o t ≡ Some after → length o.names ≡ length s.open_elements →
    length after.names ≡ length (step s t).open_elements
step_level o after s (Alone item) e h =
    ap length (item_names o after item e) ∙ h ∙ sym (ap length (item_stack s item (s.place + length (print_item item))))
step_level o after s (StartTag tag) e h =
    ap (λ (z : Outline). length z.names) (sym (chosen _ (record { names = tag.name ∷ o.names; begun = true }) after e)) ∙ omega arith
step_level o after s (EndTag name space) e h =
    closed_level o after s o.names s.open_elements name (s.place + length (print_token (EndTag name space))) e h
