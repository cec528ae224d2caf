-- The tokens that bytes are written as, and the content that tokens write, are one.
use Rattle.std.proofs.Common.{◌≡◌, ℕ, Bool, true, false, ◌&&◌, not, List, [], ◌∷◌, ◌++◌, refl, sym, ◌∙◌, ap, subst, append_assoc}
use Rattle.std.specs.Bool.{⊤}
use Rattle.std.specs.List.{AllByRecursion}
use Rattle.xml_spec.specs.Bytes.{begins_with, no_two}
use Rattle.xml_spec.specs.Syntax.{Tag, Item, Characters, Refers, Section, CommentItem, ProcessingInstruction, EmptyTag, Token, Alone, StartTag, EndTag, print_token, print_tokens, is_run, IsToken, Content, NoContent, Then, Pair, tokens_of}
use Rattle.xml_spec.specs.Laws.{IsWhole}
use Rattle.xml_spec.proofs.Tests.{both_true}
use Rattle.xml_spec.proofs.Values.{reference_begins, first_not}
use Rattle.xml_spec.proofs.Tokens.{is_run_byte, same_token, token_is_not_empty}

-- a token that is no run begins with markup
pub markup_begins : (t : Token) (x : List ℕ) → is_run t ≡ false → begins_with is_run_byte (print_token t ++ x) ≡ false
markup_begins (Alone (Characters bytes)) x h = absurd (let clash : true ≡ false = h in cc)
markup_begins (Alone (Refers r)) x h = ap (begins_with is_run_byte) (reference_begins r x)
markup_begins (Alone (Section bytes)) x h = refl
markup_begins (Alone (CommentItem bytes)) x h = refl
markup_begins (Alone (ProcessingInstruction target space value)) x h = refl
markup_begins (Alone (EmptyTag tag)) x h = refl
markup_begins (StartTag tag) x h = refl
markup_begins (EndTag name space) x h = refl

pub tokens_begin : (ts : List Token) → begins_with is_run ts ≡ false → begins_with is_run_byte (print_tokens ts) ≡ false
tokens_begin [] h = refl
tokens_begin (t ∷ ts) h = markup_begins t (print_tokens ts) h

pub whole_if : (a b c : Bool) → not (a && b) ≡ true → (b ≡ false → c ≡ false) → not (a && c) ≡ true
whole_if true b c h i = ap not (i (first_not true b h refl))
whole_if false b c h i = refl

-- in valid tokens each one goes on as long as it can
pub head_is_whole : (t : Token) (ts : List Token) → no_two is_run (t ∷ ts) ≡ true → IsWhole t (print_tokens ts)
head_is_whole t ts h =
    whole_if (is_run t) (begins_with is_run ts) (begins_with is_run_byte (print_tokens ts))
    (both_true (not (is_run t && begins_with is_run ts)) _ h).0 (tokens_begin ts)

pub no_token_is_empty : (t : Token) (x : List ℕ) → IsToken t → [] ≡ print_token t ++ x → ⊥
no_token_is_empty t x v e = token_is_not_empty t x v (sym e)

pub same_tokens : (ts us : List Token) → AllByRecursion IsToken ts → AllByRecursion IsToken us →
    no_two is_run ts ≡ true → no_two is_run us ≡ true → print_tokens ts ≡ print_tokens us → ts ≡ us
same_tokens [] [] vt vu nt nu e = refl
same_tokens [] (u ∷ us) vt vu nt nu e = absurd (no_token_is_empty u (print_tokens us) vu.0 e)
same_tokens (t ∷ ts) [] vt vu nt nu e = absurd (no_token_is_empty t (print_tokens ts) vt.0 (sym e))
same_tokens (t ∷ ts) (u ∷ us) vt vu nt nu e =
    let here = same_token t u (print_tokens ts) (print_tokens us) vt.0 vu.0 (head_is_whole t ts nt) (head_is_whole u us nu) e in
    let later = same_tokens ts us vt.1 vu.1 (both_true (not (is_run t && begins_with is_run ts)) _ nt).1
    (both_true (not (is_run u && begins_with is_run us)) _ nu).1 here.behind in
    λ i. here.whole i ∷ later i

-- what may follow a content: nothing, or an end tag
abbrev pub EndsContent : List Token → Type 0
EndsContent [] = ⊤
EndsContent (Alone item ∷ tokens) = ⊥
EndsContent (StartTag tag ∷ tokens) = ⊥
EndsContent (EndTag name space ∷ tokens) = ⊤

-- two readings of a content
pub record SameContent (c d : Content) (r s : List Token) : Type 0 where
  whole : c ≡ d
  behind : r ≡ s

pub pair_regroups : (inner rest : Content) (name space : List ℕ) (r : List Token) →
    (tokens_of inner ++ EndTag name space ∷ tokens_of rest) ++ r ≡ tokens_of inner ++ (EndTag name space ∷ (tokens_of rest ++ r))
pair_regroups inner rest name space r = append_assoc (tokens_of inner) (EndTag name space ∷ tokens_of rest) r

pub no_item : (item : Item) (ts r : List Token) → EndsContent r → r ≡ Alone item ∷ ts → ⊥
no_item item ts r h e = subst EndsContent e h

pub no_start : (tag : Tag) (ts r : List Token) → EndsContent r → r ≡ StartTag tag ∷ ts → ⊥
no_start tag ts r h e = subst EndsContent e h

pub same_content : (c d : Content) (r s : List Token) → EndsContent r → EndsContent s →
    tokens_of c ++ r ≡ tokens_of d ++ s → SameContent c d r s
same_content NoContent NoContent r s hr hs e = record { whole = refl; behind = e }
same_content NoContent (Then item rest) r s hr hs e = absurd (no_item item (tokens_of rest ++ s) r hr e)
same_content NoContent (Pair tag inner space rest) r s hr hs e =
    absurd (no_start tag ((tokens_of inner ++ EndTag tag.name space ∷ tokens_of rest) ++ s) r hr e)
same_content (Then item rest) NoContent r s hr hs e = absurd (no_item item (tokens_of rest ++ r) s hs (sym e))
same_content (Pair tag inner space rest) NoContent r s hr hs e =
    absurd (no_start tag ((tokens_of inner ++ EndTag tag.name space ∷ tokens_of rest) ++ r) s hs (sym e))
same_content (Then item rest) (Pair tag inner space others) r s hr hs e = cc
same_content (Pair tag inner space rest) (Then item others) r s hr hs e = cc
same_content (Then item rest) (Then other others) r s hr hs e =
    let items : item ≡ other = cc in
    let tails : tokens_of rest ++ r ≡ tokens_of others ++ s = cc in
    let later = same_content rest others r s hr hs tails in
    record { whole = λ i. Then (items i) (later.whole i); behind = later.behind }
same_content (Pair tag inner space rest) (Pair other within blank others) r s hr hs e =
    let tags : tag ≡ other = cc in
    let tails : (tokens_of inner ++ EndTag tag.name space ∷ tokens_of rest) ++ r ≡ (tokens_of within ++ EndTag other.name blank ∷ tokens_of others) ++ s = cc in
    let inside = same_content inner within (EndTag tag.name space ∷ (tokens_of rest ++ r)) (EndTag other.name blank ∷ (tokens_of others ++ s)) tt tt
    (sym (pair_regroups inner rest tag.name space r) ∙ tails ∙ pair_regroups within others other.name blank s) in
    let spaces : space ≡ blank = cc (inside.behind) in
    let outside : tokens_of rest ++ r ≡ tokens_of others ++ s = cc (inside.behind) in
    let later = same_content rest others r s hr hs outside in
    record { whole = λ i. Pair (tags i) (inside.whole i) (spaces i) (later.whole i); behind = later.behind }

-- what tokens write is one content
pub content_of_tokens : (c d : Content) → tokens_of c ≡ tokens_of d → c ≡ d
content_of_tokens c d e = (same_content c d [] [] tt tt (ap (λ ts. ts ++ []) e)).whole
