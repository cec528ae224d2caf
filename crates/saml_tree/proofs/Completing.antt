-- What is made of a document's tokens in a row: its rows.
use Rattle.std.proofs.Common.{◌≡◌, ℕ, suc, ◌+◌, true, false, cond, List, [], ◌∷◌, ◌++◌, length, refl, sym, ◌∙◌, ap, append_assoc, arith, length-append}
use Rattle.std.specs.List.{list_all}
use Rattle.xml_spec.specs.Syntax.{is_white, Tag, Item, Characters, Refers, Section, CommentItem, ProcessingInstruction, EmptyTag, Token, Alone, StartTag, EndTag, print_token, print_tokens, Content, NoContent, Then, Pair, tokens_of}
use Rattle.xml_spec.specs.Document.{is_epilog, is_document}
use Rattle.xml_spec.proofs.Tests.{both_true}
use Rattle.tree_rows.specs.Rows.{Row, ended, end_at}
use Rattle.saml_tree.specs.Run.{State, text_rows, all_rows, part_of, part_rows, part_text, with_part, with_item, is_some, closed, step, run, first_state}
use Rattle.saml_tree.proofs.Contents.{element_row, item_end, start_length, content_length, end_length, pair_end, rows_of}

-- the state with these rows and no text, this stack of open elements, and this place
abbrev pub state : List Row → List ℕ → ℕ → State
state rows stack place = record { rows = rows; text = []; open_elements = stack; place = place }

pub run_append : (ts us : List Token) (s : State) → run s (ts ++ us) ≡ run (run s ts) us
run_append [] us s = refl
run_append (t ∷ ts) us s = run_append ts us (step s t)

length_tokens : (t : Token) (ts : List Token) → length (print_tokens (t ∷ ts)) ≡ length (print_token t) + length (print_tokens ts)
length_tokens t ts = length-append (print_token t) (print_tokens ts)

print_append : (ts us : List Token) → print_tokens (ts ++ us) ≡ print_tokens ts ++ print_tokens us
print_append [] us = refl
print_append (t ∷ ts) us = ap (λ z. print_token t ++ z) (print_append ts us) ∙ sym (append_assoc (print_token t) (print_tokens ts) (print_tokens us))

-- the length of an element with its tags and its content, and of what follows it
pair_length : (tag : Tag) (inner : Content) (space : List ℕ) (rest : Content) →
    content_length (Pair tag inner space rest) ≡ start_length tag + content_length inner + end_length tag space + content_length rest
pair_length tag inner space rest =
    let whole = length_tokens (StartTag tag) (tokens_of inner ++ EndTag tag.name space ∷ tokens_of rest) in
    let parts = ap length (print_append (tokens_of inner) (EndTag tag.name space ∷ tokens_of rest))
    ∙ length-append (print_tokens (tokens_of inner)) (print_tokens (EndTag tag.name space ∷ tokens_of rest)) in
    let ending = length_tokens (EndTag tag.name space) (tokens_of rest) in
    omega arith

nothing_more : (n : ℕ) → n ≡ n + 0
nothing_more n = omega arith

item_place : (place : ℕ) (item : Item) (rest : Content) →
    item_end place item + content_length rest ≡ place + content_length (Then item rest)
item_place place item rest = let whole = length_tokens (Alone item) (tokens_of rest) in omega arith

pair_place : (place : ℕ) (tag : Tag) (inner : Content) (space : List ℕ) (rest : Content) →
    pair_end place tag inner space + content_length rest ≡ place + content_length (Pair tag inner space rest)
pair_place place tag inner space rest = let whole = pair_length tag inner space rest in omega arith

-- an item in an open element
item_inside : (s : State) (item : Item) (end : ℕ) → is_some s.open_elements ≡ true → with_item s item end ≡ with_part s (part_of item) end
item_inside s (Characters bytes) end h = ap (λ b. cond b (with_part s (part_of (Characters bytes)) end) (record s { place = end })) h
item_inside s (Refers r) end h = ap (λ b. cond b (with_part s (part_of (Refers r)) end) (record s { place = end })) h
item_inside s (Section bytes) end h = ap (λ b. cond b (with_part s (part_of (Section bytes)) end) (record s { place = end })) h
item_inside s (CommentItem bytes) end h = ap (λ b. cond b (with_part s (part_of (CommentItem bytes)) end) (record s { place = end })) h
item_inside s (ProcessingInstruction t u v) end h = ap (λ b. cond b (with_part s (part_of (ProcessingInstruction t u v)) end) (record s { place = end })) h
item_inside s (EmptyTag tag) end h = refl

-- what a content in an element makes of the state before it
record Makes (s after : State) (c : Content) : Type 0 where
  rows : all_rows after ≡ s.rows ++ rows_of (length s.open_elements) s.place s.text c
  stack : after.open_elements ≡ s.open_elements
  place : after.place ≡ s.place + content_length c

-- the row at a seam ends
end_seam : (place : ℕ) (xs : List Row) (row : Row) (ys : List Row) → end_at place (length xs) (xs ++ row ∷ ys) ≡ xs ++ ended place row ∷ ys
end_seam place [] row ys = refl
end_seam place (x ∷ xs) row ys = ap (λ zs. x ∷ zs) (end_seam place xs row ys)

started : (xs ys zs : List Row) (row : Row) → (xs ++ (ys ++ row ∷ [])) ++ zs ≡ (xs ++ ys) ++ row ∷ zs
started xs ys zs row =
    ap (λ ws. ws ++ zs) (sym (append_assoc xs ys (row ∷ []))) ∙ append_assoc (xs ++ ys) (row ∷ []) zs

-- behind an element's end tag
end_step : (s inside : State) (tag : Tag) (inner : Content) (space : List ℕ) →
    Makes (step s (StartTag tag)) inside inner →
    step inside (EndTag tag.name space)
    ≡ state (all_rows s ++ element_row (length s.open_elements) s.place (pair_end s.place tag inner space) tag
    ∷ rows_of (suc (length s.open_elements)) (s.place + start_length tag) [] inner) s.open_elements (pair_end s.place tag inner space)
end_step s inside tag inner space m =
    let depth = length s.open_elements in
    let begin = s.place + start_length tag in
    let end = pair_end s.place tag inner space in
    let first = element_row depth s.place begin tag in
    let rows = rows_of (suc depth) begin [] inner in
    let placed : inside.place + end_length tag space ≡ end = ap (λ p. p + end_length tag space) m.place in
    (λ i. closed inside (m.stack i) (placed i))
    ∙ ap (λ zs. state (end_at end (length (all_rows s)) zs) s.open_elements end)
    (m.rows ∙ started s.rows (text_rows depth s.place s.text) rows first)
    ∙ ap (λ zs. state zs s.open_elements end) (end_seam end (all_rows s) first rows)

-- the rows behind an element and what follows it
pair_rows : (xs ys zs ws : List Row) (row : Row) → ((xs ++ ys) ++ row ∷ zs) ++ ws ≡ xs ++ (ys ++ (row ∷ (zs ++ ws)))
pair_rows xs ys zs ws row = append_assoc (xs ++ ys) (row ∷ zs) ws ∙ append_assoc xs ys (row ∷ (zs ++ ws))

-- behind a content in an element
run_content : (c : Content) (s : State) → is_some s.open_elements ≡ true → Makes s (run s (tokens_of c)) c
run_content NoContent s h = record { rows = refl; stack = refl; place = nothing_more s.place }
run_content (Then item rest) s h =
    let depth = length s.open_elements in
    let end = item_end s.place item in
    let next = with_part s (part_of item) end in
    let same : step s (Alone item) ≡ next = item_inside s item end h in
    let behind = run_content rest next h in
    record {
      rows =
          ap (λ t. all_rows (run t (tokens_of rest))) same ∙ behind.rows
          ∙ append_assoc s.rows (part_rows depth s.place end s.text (part_of item)) (rows_of depth end (part_text s.text (part_of item)) rest);
      stack = ap (λ t. (run t (tokens_of rest)).open_elements) same ∙ behind.stack;
      place = ap (λ t. (run t (tokens_of rest)).place) same ∙ behind.place ∙ item_place s.place item rest;
    }
run_content (Pair tag inner space rest) s h =
    let depth = length s.open_elements in
    let begin = s.place + start_length tag in
    let end = pair_end s.place tag inner space in
    let inside = run (step s (StartTag tag)) (tokens_of inner) in
    let row = element_row depth s.place end tag in
    let rows = rows_of (suc depth) begin [] inner in
    let next = state (all_rows s ++ row ∷ rows) s.open_elements end in
    let same : run s (tokens_of (Pair tag inner space rest)) ≡ run next (tokens_of rest) =
    run_append (tokens_of inner) (EndTag tag.name space ∷ tokens_of rest) (step s (StartTag tag))
    ∙ ap (λ t. run t (tokens_of rest)) (end_step s inside tag inner space (run_content inner (step s (StartTag tag)) refl)) in
    let behind = run_content rest next h in
    record {
      rows = ap all_rows same ∙ behind.rows ∙ pair_rows s.rows (text_rows depth s.place s.text) rows (rows_of depth end [] rest) row;
      stack = ap (λ (t : State). t.open_elements) same ∙ behind.stack;
      place = ap (λ (t : State). t.place) same ∙ behind.place ∙ pair_place s.place tag inner space rest;
    }

-- the rows of a document
abbrev pub root_rows : ℕ → Content → List Row
root_rows place NoContent = []
root_rows place (Then (EmptyTag tag) rest) = element_row 0 place (item_end place (EmptyTag tag)) tag ∷ []
root_rows place (Then item rest) = root_rows (item_end place item) rest
root_rows place (Pair tag inner space rest) =
    element_row 0 place (pair_end place tag inner space) tag ∷ rows_of 1 (place + start_length tag) [] inner

-- behind an epilog
run_epilog : (c : Content) (rows : List Row) (place : ℕ) → is_epilog c ≡ true → (run (state rows [] place) (tokens_of c)).rows ≡ rows
run_epilog NoContent rows place h = refl
run_epilog (Then (Characters bytes) rest) rows place h =
    run_epilog rest rows (item_end place (Characters bytes)) (both_true (list_all is_white bytes) _ h).1
run_epilog (Then (CommentItem bytes) rest) rows place h = run_epilog rest rows (item_end place (CommentItem bytes)) h
run_epilog (Then (ProcessingInstruction t s v) rest) rows place h = run_epilog rest rows (item_end place (ProcessingInstruction t s v)) h
run_epilog (Then (Refers r) rest) rows place h = absurd (let clash : false ≡ true = h in cc)
run_epilog (Then (Section bytes) rest) rows place h = absurd (let clash : false ≡ true = h in cc)
run_epilog (Then (EmptyTag tag) rest) rows place h = absurd (let clash : false ≡ true = h in cc)
run_epilog (Pair tag inner space rest) rows place h = absurd (let clash : false ≡ true = h in cc)

-- behind a document
pub run_document : (c : Content) (place : ℕ) → is_document c ≡ true → (run (first_state place) (tokens_of c)).rows ≡ root_rows place c
run_document NoContent place h = absurd (let clash : false ≡ true = h in cc)
run_document (Then (Characters bytes) rest) place h =
    run_document rest (item_end place (Characters bytes)) (both_true (list_all is_white bytes) _ h).1
run_document (Then (CommentItem bytes) rest) place h = run_document rest (item_end place (CommentItem bytes)) h
run_document (Then (ProcessingInstruction t s v) rest) place h = run_document rest (item_end place (ProcessingInstruction t s v)) h
run_document (Then (Refers r) rest) place h = absurd (let clash : false ≡ true = h in cc)
run_document (Then (Section bytes) rest) place h = absurd (let clash : false ≡ true = h in cc)
run_document (Then (EmptyTag tag) rest) place h =
    run_epilog rest (element_row 0 place (item_end place (EmptyTag tag)) tag ∷ []) (item_end place (EmptyTag tag)) h
run_document (Pair tag inner space rest) place h =
    let s = first_state place in
    let end = pair_end place tag inner space in
    let inside = run (step s (StartTag tag)) (tokens_of inner) in
    let rows = element_row 0 place end tag ∷ rows_of 1 (place + start_length tag) [] inner in
    ap (λ (t : State). t.rows)
    (run_append (tokens_of inner) (EndTag tag.name space ∷ tokens_of rest) (step s (StartTag tag))
    ∙ ap (λ t. run t (tokens_of rest)) (end_step s inside tag inner space (run_content inner (step s (StartTag tag)) refl)))
    ∙ run_epilog rest rows end h
