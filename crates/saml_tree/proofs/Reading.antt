-- What reading token by token says of a whole text.
use Rattle.std.proofs.Common.{◌≡◌, ℕ, ◌+◌, ◌-◌, ◌<◌, ◌≤◌, Bool, true, false, ◌&&◌, not, List, [], ◌∷◌, ◌++◌, length, Some, None, refl, sym, ◌∙◌, ap, subst, append_assoc, arith, length-append}
use Rattle.std.specs.List.{AllByRecursion}
use Rattle.std.specs.Option.{option_and_then}
use Rattle.xml_spec.specs.Bytes.{begins_with, no_two}
use Rattle.xml_spec.specs.Characters.{IsText}
use Rattle.xml_spec.specs.Tree.{Nodes}
use Rattle.xml_spec.specs.Syntax.{Characters, Refers, Section, CommentItem, ProcessingInstruction, EmptyTag, Token, Alone, StartTag, EndTag, print_token, print_tokens, is_run, IsToken, AreTokens, tokens_of, Content}
use Rattle.xml_spec.specs.Document.{is_document, Document, print_head, Writes, Spells}
use Rattle.xml_spec.specs.Laws.{BeginsWith}
use Rattle.xml_spec.proofs.Tests.{both_true, and_true}
use Rattle.xml_spec.proofs.Tokens.{is_run_byte, same_token, token_is_not_empty}
use Rattle.xml_spec.proofs.Sequences.{head_is_whole}
use Rattle.xml_tokens.specs.Markup.{NoTokens}
use Rattle.xml_tokens.specs.Heads.{HasHead}
use Rattle.tree_rows.specs.Shaped.{IsShaped}
use Rattle.saml_tree.specs.Kept.{IsRead}
use Rattle.saml_tree.specs.Reads.{Reads}
use Rattle.saml_tree.specs.Run.{State, step, run, first_state}
use Rattle.saml_tree.specs.Outlines.{Outline, next_outline, outline_of, first_outline, is_complete}
use Rattle.saml_tree.proofs.Outlines.{outline, outline_on, document_outline, document_of}
use Rattle.saml_tree.proofs.Completing.{run_append, root_rows, run_document}
use Rattle.saml_tree.proofs.Counting.{count, step_grows, token_some, step_level}
use Rattle.saml_tree.proofs.Roots.{root_nodes, have_ranges, root_shaped}

-- one more token is read
pub reads_more : (ts : List Token) (text middle rest : List ℕ) (t : Token) → Reads text ts middle → BeginsWith middle t rest →
    Reads text (ts ++ t ∷ []) rest
reads_more [] text middle rest t e b = (rest, subst (λ z. BeginsWith z t rest) (sym e) b, refl)
reads_more (u ∷ ts) text middle rest t r b = (r.0, r.1, reads_more ts r.0 middle rest t r.2 b)

pub reads_printed : (ts : List Token) (text rest : List ℕ) → Reads text ts rest → text ≡ print_tokens ts ++ rest
reads_printed [] text rest e = e
reads_printed (t ∷ ts) text rest r =
    (r.1).printed ∙ ap (λ z. print_token t ++ z) (reads_printed ts r.0 rest r.2)
    ∙ sym (append_assoc (print_token t) (print_tokens ts) rest)

run_begins : (u : Token) (x : List ℕ) → is_run u ≡ true → IsToken u → begins_with is_run_byte (print_token u ++ x) ≡ true
run_begins (Alone (Characters [])) x h v = absurd (let none : 0 < length {A = ℕ} [] = v.0 in omega arith)
run_begins (Alone (Characters (b ∷ bytes))) x h v = (both_true (is_run_byte b) _ v.1).0
run_begins (Alone (Refers r)) x h v = absurd (let clash : false ≡ true = h in cc)
run_begins (Alone (Section bytes)) x h v = absurd (let clash : false ≡ true = h in cc)
run_begins (Alone (CommentItem bytes)) x h v = absurd (let clash : false ≡ true = h in cc)
run_begins (Alone (ProcessingInstruction t s w)) x h v = absurd (let clash : false ≡ true = h in cc)
run_begins (Alone (EmptyTag tag)) x h v = absurd (let clash : false ≡ true = h in cc)
run_begins (StartTag tag) x h v = absurd (let clash : false ≡ true = h in cc)
run_begins (EndTag name space) x h v = absurd (let clash : false ≡ true = h in cc)

apart_if : (a b c : Bool) → not (a && c) ≡ true → (b ≡ true → c ≡ true) → not (a && b) ≡ true
apart_if false b c h i = refl
apart_if true false c h i = refl
apart_if true true c h i = subst (λ d. not d ≡ true) (i refl) h

reads_apart : (ts : List Token) (text rest : List ℕ) → Reads text ts rest → no_two is_run ts ≡ true
reads_apart [] text rest r = refl
reads_apart (t ∷ []) text rest r = never (is_run t)
  where
    never : (a : Bool) → (not (a && false) && true) ≡ true
    never true = refl
    never false = refl
reads_apart (t ∷ u ∷ ts) text rest r =
    let next = (r.2).1 in
    and_true (not (is_run t && is_run u)) (no_two is_run (u ∷ ts))
    (apart_if (is_run t) (is_run u) (begins_with is_run_byte r.0) (r.1).whole
    (λ h. ap (begins_with is_run_byte) next.printed ∙ run_begins u ((r.2).0) h next.valid))
    (reads_apart (u ∷ ts) r.0 rest r.2)

reads_valid : (ts : List Token) (text rest : List ℕ) → Reads text ts rest → AllByRecursion IsToken ts
reads_valid [] text rest r = tt
reads_valid (t ∷ ts) text rest r = ((r.1).valid, reads_valid ts r.0 rest r.2)

-- what a text that was read in part is written as goes through what was read
pub record GoesOn (ts us : List Token) (rest : List ℕ) : Type 0 where
  pub later : List Token
  pub joined : us ≡ ts ++ later
  pub valid : AreTokens later
  pub printed : rest ≡ print_tokens later

pub first_of : (t : Token) (text middle : List ℕ) (us : List Token) → BeginsWith text t middle → AreTokens us → text ≡ print_tokens us →
    (vs : List Token) × (us ≡ t ∷ vs) × AreTokens vs × (middle ≡ print_tokens vs)
first_of t text middle [] b v e = absurd (token_is_not_empty t middle b.valid (sym b.printed ∙ e))
first_of t text middle (u ∷ us) b v e =
    let same = same_token t u middle (print_tokens us) b.valid v.each.0 b.whole (head_is_whole u us v.whole_runs) (sym b.printed ∙ e) in (
      us,
      ap (λ w. w ∷ us) (sym same.whole),
      record { each = v.each.1; whole_runs = (both_true (not (is_run u && begins_with is_run us)) _ v.whole_runs).1 },
      same.behind,
    )

pub reads_go_on : (ts us : List Token) (text rest : List ℕ) → Reads text ts rest → AreTokens us → text ≡ print_tokens us → GoesOn ts us rest
reads_go_on [] us text rest r v e = record { later = us; joined = refl; valid = v; printed = sym r ∙ e }
reads_go_on (t ∷ ts) us text rest r v e =
    let first = first_of t text r.0 us r.1 v e in
    let onward = reads_go_on ts first.0 r.0 rest r.2 first.2 first.3 in
    record { later = onward.later; joined = first.1 ∙ ap (λ z. t ∷ z) onward.joined; valid = onward.valid; printed = onward.printed }

-- what a text spells: tokens that are read to their end
pub record IsWritten (rest : List ℕ) : Type 0 where
  pub tokens : List Token
  pub valid : AreTokens tokens
  pub printed : rest ≡ print_tokens tokens
  pub complete : outline_of first_outline tokens ≡ Some (outline [] true)

pub written_of : (text rest : List ℕ) (tree : Nodes) → HasHead text rest → Spells text tree → IsWritten rest
written_of text rest tree head s =
    let d = s.document in
    record {
      tokens = tokens_of d.content;
      valid = s.writes.valid.tokens;
      printed = sym (head.others d s.writes.valid s.writes.printed);
      complete = document_outline d.content s.writes.valid.shape;
    }

pub none_some : {X : Type 0} (x : X) → None ≡ Some x → ⊥
none_some x e = cc

-- where the first tokens begin
abbrev pub start : List ℕ → List ℕ → ℕ
start text rest = length text - length rest

-- the rows behind tokens that the rest of a text begins with
abbrev pub after : List ℕ → List ℕ → List Token → State
after text rest ts = run (first_state (start text rest)) ts

-- the rest of a text behind its head was read up to here
pub record Progress (text rest now : List ℕ) (ts : List Token) (o : Outline) : Type 0 where
  pub reads : Reads rest ts now
  pub outline : outline_of first_outline ts ≡ Some o
  pub level : length o.names ≡ length (after text rest ts).open_elements
  pub count : count (after text rest ts) ≤ (after text rest ts).place
  pub stack : length (after text rest ts).open_elements ≤ (after text rest ts).place
  pub place : (after text rest ts).place + length now ≡ length text

-- one more token
pub more_progress : (text rest now behind : List ℕ) (ts : List Token) (o next : Outline) (t : Token) → Progress text rest now ts o →
    BeginsWith now t behind → next_outline o t ≡ Some next → Progress text rest behind (ts ++ t ∷ []) next
more_progress text rest now behind ts o next t p b e =
    let s = after text rest ts in
    let same : after text rest (ts ++ t ∷ []) ≡ step s t = run_append ts (t ∷ []) (first_state (start text rest)) in
    let grown = step_grows s t in
    let some = token_some t b.valid in
    let whole = ap length b.printed ∙ length-append (print_token t) behind in
    let before = p.place in
    let counted = p.count in
    let stacked = p.stack in
    let bound = grown.rows in
    let depth = grown.stack in
    let placed = grown.place in
    record {
      reads = reads_more ts rest now behind t p.reads b;
      outline = outline_on ts (t ∷ []) first_outline o p.outline ∙ ap (option_and_then (λ z. outline_of z [])) e;
      level = step_level o next s t e p.level ∙ sym (ap (λ (z : State). length z.open_elements) same);
      count = subst (λ (z : State). count z ≤ z.place) (sym same) (omega arith);
      stack = subst (λ (z : State). length z.open_elements ≤ z.place) (sym same) (omega arith);
      place = ap (λ (z : State). z.place + length behind) same ∙ omega arith;
    }

-- where the next token has no place, the text spells nothing
pub no_place : (text rest now behind : List ℕ) (ts : List Token) (o : Outline) (t : Token) → HasHead text rest → Progress text rest now ts o →
    BeginsWith now t behind → next_outline o t ≡ None → (tree : Nodes) → ¬ (Spells text tree)
no_place text rest now behind ts o t head p b none tree spelled =
    let w = written_of text rest tree head spelled in
    let onward = reads_go_on ts w.tokens rest now p.reads w.valid w.printed in
    let first = first_of t now behind onward.later b onward.valid onward.printed in
    none_some (outline [] true)
    (sym (ap (outline_of first_outline) (onward.joined ∙ ap (λ z. ts ++ z) first.1) ∙ outline_on ts (t ∷ first.0) first_outline o p.outline
    ∙ ap (option_and_then (λ z. outline_of z first.0)) none) ∙ w.complete)

-- where what is left is written as no tokens, the text spells nothing
pub no_tokens : (text rest now : List ℕ) (ts : List Token) (o : Outline) → HasHead text rest → Progress text rest now ts o → NoTokens now →
    (tree : Nodes) → ¬ (Spells text tree)
no_tokens text rest now ts o head p none tree spelled =
    let w = written_of text rest tree head spelled in
    let onward = reads_go_on ts w.tokens rest now p.reads w.valid w.printed in
    none onward.later onward.valid onward.printed

pub nothing_left : (vs : List Token) → AreTokens vs → [] ≡ print_tokens vs → vs ≡ []
nothing_left [] v e = refl
nothing_left (u ∷ vs) v e = absurd (token_is_not_empty u (print_tokens vs) v.each.0 (sym e))

pub nothing : {X : Type 0} (xs : List X) → xs ++ [] ≡ xs
nothing [] = refl
nothing (x ∷ xs) = ap (λ z. x ∷ z) (nothing xs)

-- where the text ends too soon, it spells nothing
pub not_complete : (text rest : List ℕ) (ts : List Token) (o : Outline) → HasHead text rest → Progress text rest [] ts o →
    is_complete o ≡ false → (tree : Nodes) → ¬ (Spells text tree)
not_complete text rest ts o head p incomplete tree spelled =
    let w = written_of text rest tree head spelled in
    let onward = reads_go_on ts w.tokens rest [] p.reads w.valid w.printed in
    let all = onward.joined ∙ ap (λ z. ts ++ z) (nothing_left onward.later onward.valid onward.printed) ∙ nothing ts in
    let same : Some o ≡ Some (outline [] true) = sym p.outline ∙ ap (outline_of first_outline) (sym all) ∙ w.complete in
    let outlines : o ≡ outline [] true = cc in
    let clash : false ≡ true = sym incomplete ∙ ap is_complete outlines in
    cc

-- a text that was read to its end
record IsWhole (text rest : List ℕ) (ts : List Token) : Type 0 where
  content : Content
  tokens : ts ≡ tokens_of content
  shape : is_document content ≡ true
  rows : root_rows (start text rest) content ≡ (after text rest ts).rows

whole_of : (text rest : List ℕ) (ts : List Token) (o : Outline) → Progress text rest [] ts o → is_complete o ≡ true → IsWhole text rest ts
whole_of text rest ts o p complete =
    let d = document_of ts o p.outline complete in
    record {
      content = d.0;
      tokens = d.1;
      shape = d.2;
      rows = sym (ap (λ us. (after text rest us).rows) d.1 ∙ run_document d.0 (start text rest) d.2);
    }

-- its rows are those of one tree
pub whole_shaped : (text rest : List ℕ) (ts : List Token) (o : Outline) → Progress text rest [] ts o → is_complete o ≡ true →
    IsShaped (after text rest ts).rows
whole_shaped text rest ts o p complete =
    let w = whole_of text rest ts o p complete in
    subst IsShaped w.rows (root_shaped w.content (start text rest) w.shape)

read_as : (text rest : List ℕ) (c : Content) → HasHead text rest → rest ≡ print_tokens (tokens_of c) → AreTokens (tokens_of c) →
    is_document c ≡ true → IsText text → IsRead text (root_rows (start text rest) c)
read_as text rest c head printed valid shape characters =
    let d : Document = record { mark = head.mark; declaration = head.declaration; content = c } in
    let place : length (print_head d) ≡ start text rest =
    (let all = ap length head.printed ∙ length-append (print_head d) rest in omega arith) in
    let writes : Writes text d = record {
      valid = record { declaration = head.valid; tokens = valid; shape = shape };
      printed = head.printed ∙ ap (λ z. print_head d ++ z) printed;
      characters = characters;
    } in
    subst (λ at. IsRead text (root_rows at c)) place (record {
      spells = record { document = d; writes = writes; means = root_nodes c (length (print_head d)) shape };
      shaped = root_shaped c (length (print_head d)) shape;
      ranges = have_ranges text d writes;
    })

pub read_whole : (text rest : List ℕ) (ts : List Token) (o : Outline) → HasHead text rest → Progress text rest [] ts o → is_complete o ≡ true →
    IsText text → IsRead text (after text rest ts).rows
read_whole text rest ts o head p complete characters =
    let w = whole_of text rest ts o p complete in
    let printed = reads_printed ts rest [] p.reads ∙ nothing (print_tokens ts) ∙ ap print_tokens w.tokens in
    let valid : AreTokens (tokens_of w.content) =
    subst AreTokens w.tokens (record { each = reads_valid ts rest [] p.reads; whole_runs = reads_apart ts rest [] p.reads }) in
    subst (IsRead text) w.rows (read_as text rest w.content head printed valid w.shape characters)
