-- Which tokens make a document: those behind which the root is read and no element is open.
use Rattle.std.proofs.Common.{◌≡◌, ℕ, Bool, true, false, cond, ◌||◌, not, List, [], ◌∷◌, ◌++◌, Option, Some, None, IsTrue, refl, sym, ◌∙◌, ap, subst, append_assoc}
use Rattle.std.specs.List.{list_all}
use Rattle.std.specs.Option.{option_and_then}
use Rattle.std.specs.Str.{bytes_eq}
use Rattle.std.proofs.lemmas.Slice.Eq.{bytes_eq-Decides}
use Rattle.xml_spec.specs.Syntax.{is_white, Tag, Item, Characters, Refers, Section, CommentItem, ProcessingInstruction, EmptyTag, Token, Alone, StartTag, EndTag, Content, NoContent, Then, Pair, tokens_of}
use Rattle.xml_spec.specs.Document.{is_misc, is_epilog, is_document}
use Rattle.xml_spec.proofs.Tests.{both_true, and_true}
use Rattle.saml_tree.specs.Run.{is_some}
use Rattle.saml_tree.specs.Outlines.{Outline, item_outside, next_outline, outline_of, first_outline, is_complete}

abbrev pub outline : List (List ℕ) → Bool → Outline
outline names begun = record { names = names; begun = begun }

onward : (ts us : List Token) → ((o : Outline) → outline_of o (ts ++ us) ≡ option_and_then (λ next. outline_of next us) (outline_of o ts)) →
    (found : Option Outline) →
    option_and_then (λ next. outline_of next (ts ++ us)) found
    ≡ option_and_then (λ next. outline_of next us) (option_and_then (λ next. outline_of next ts) found)
onward ts us h None = refl
onward ts us h (Some next) = h next

pub outline_append : (ts us : List Token) (o : Outline) →
    outline_of o (ts ++ us) ≡ option_and_then (λ next. outline_of next us) (outline_of o ts)
outline_append [] us o = refl
outline_append (t ∷ ts) us o = onward ts us (outline_append ts us) (next_outline o t)

-- what was read and what follows it
pub outline_on : (ts us : List Token) (o next : Outline) → outline_of o ts ≡ Some next → outline_of o (ts ++ us) ≡ outline_of next us
outline_on ts us o next e = outline_append ts us o ∙ ap (option_and_then (λ found. outline_of found us)) e

named_itself : (name : List ℕ) → bytes_eq name name ≡ true
named_itself name = (bytes_eq-Decides name name).1 refl

-- the end of the innermost element
end_step : (name space : List ℕ) (names : List (List ℕ)) (begun : Bool) (ts : List Token) →
    outline_of (outline (name ∷ names) begun) (EndTag name space ∷ ts) ≡ outline_of (outline names begun) ts
end_step name space names begun ts =
    ap (λ b. option_and_then (λ next. outline_of next ts) (cond b (Some (outline names begun)) None)) (named_itself name)

-- behind a content in an element
content_outline : (c : Content) (name : List ℕ) (names : List (List ℕ)) (begun : Bool) (ts : List Token) → begun ≡ true →
    outline_of (outline (name ∷ names) begun) (tokens_of c ++ ts) ≡ outline_of (outline (name ∷ names) begun) ts
content_outline NoContent name names begun ts h = refl
content_outline (Then item rest) name names begun ts h = content_outline rest name names begun ts h
content_outline (Pair tag inner space rest) name names begun ts h =
    let later = tokens_of rest ++ ts in
    ap (outline_of (outline (tag.name ∷ name ∷ names) true)) (append_assoc (tokens_of inner) (EndTag tag.name space ∷ tokens_of rest) ts)
    ∙ content_outline inner tag.name (name ∷ names) true (EndTag tag.name space ∷ later) refl
    ∙ end_step tag.name space (name ∷ names) true later
    ∙ ap (λ b. outline_of (outline (name ∷ names) b) later) (sym h)
    ∙ content_outline rest name names begun ts h

-- an item that may stand outside the root
misc_outside : (o : Outline) (item : Item) → is_misc item ≡ true → item_outside o item ≡ Some o
misc_outside o (Characters bytes) h = ap (λ b. cond b (Some o) None) h
misc_outside o (Refers r) h = absurd (let clash : false ≡ true = h in cc)
misc_outside o (Section bytes) h = absurd (let clash : false ≡ true = h in cc)
misc_outside o (CommentItem bytes) h = refl
misc_outside o (ProcessingInstruction t s v) h = refl
misc_outside o (EmptyTag tag) h = absurd (let clash : false ≡ true = h in cc)

epilog_outline : (c : Content) → is_epilog c ≡ true → outline_of (outline [] true) (tokens_of c) ≡ Some (outline [] true)
epilog_outline NoContent h = refl
epilog_outline (Then item rest) h =
    let both = both_true (is_misc item) (is_epilog rest) h in
    ap (option_and_then (λ next. outline_of next (tokens_of rest))) (misc_outside (outline [] true) item both.0)
    ∙ epilog_outline rest both.1
epilog_outline (Pair tag inner space rest) h = absurd (let clash : false ≡ true = h in cc)

misc_then : (item : Item) (rest : Content) → is_misc item ≡ true →
    outline_of first_outline (tokens_of rest) ≡ Some (outline [] true) → outline_of first_outline (tokens_of (Then item rest)) ≡ Some (outline [] true)
misc_then item rest h e = ap (option_and_then (λ next. outline_of next (tokens_of rest))) (misc_outside first_outline item h) ∙ e

-- the tokens of a document are read to their end
pub document_outline : (c : Content) → is_document c ≡ true → outline_of first_outline (tokens_of c) ≡ Some (outline [] true)
document_outline NoContent h = absurd (let clash : false ≡ true = h in cc)
document_outline (Then (EmptyTag tag) rest) h = epilog_outline rest h
document_outline (Then (Characters bytes) rest) h =
    let both = both_true (list_all is_white bytes) (is_document rest) h in misc_then (Characters bytes) rest both.0 (document_outline rest both.1)
document_outline (Then (CommentItem bytes) rest) h = document_outline rest h
document_outline (Then (ProcessingInstruction t s v) rest) h = document_outline rest h
document_outline (Then (Refers r) rest) h = absurd (let clash : false ≡ true = h in cc)
document_outline (Then (Section bytes) rest) h = absurd (let clash : false ≡ true = h in cc)
document_outline (Pair tag inner space rest) h =
    content_outline inner tag.name [] true (EndTag tag.name space ∷ tokens_of rest) refl
    ∙ end_step tag.name space [] true (tokens_of rest)
    ∙ epilog_outline rest h

-- what is left closes these elements and ends the document; the root has begun
abbrev Closes : List (List ℕ) → Bool → List Token → Type 0
Closes [] true ts = (c : Content) × (ts ≡ tokens_of c) × IsTrue (is_epilog c)
Closes [] false ts = (c : Content) × (ts ≡ tokens_of c) × IsTrue (is_document c)
Closes (name ∷ names) begun ts =
    (c : Content) × (space : List ℕ) × (us : List Token) × (ts ≡ tokens_of c ++ EndTag name space ∷ us) × Closes names true us

none_is_not_some : {X : Type 0} (x : X) → None ≡ Some x → ⊥
none_is_not_some x e = cc

-- an item in an open element
in_element : (item : Item) (name : List ℕ) (names : List (List ℕ)) (a b : Bool) (ts : List Token) →
    Closes (name ∷ names) a ts → Closes (name ∷ names) b (Alone item ∷ ts)
in_element item name names a b ts h = (Then item h.0, h.1, h.2, ap (λ us. Alone item ∷ us) h.3, h.4)

-- an item outside the root
misc_document : (item : Item) (c : Content) → is_misc item ≡ true → is_document c ≡ true → is_document (Then item c) ≡ true
misc_document (Characters bytes) c m h = and_true (list_all is_white bytes) _ m h
misc_document (Refers r) c m h = absurd (let clash : false ≡ true = m in cc)
misc_document (Section bytes) c m h = absurd (let clash : false ≡ true = m in cc)
misc_document (CommentItem bytes) c m h = h
misc_document (ProcessingInstruction t s v) c m h = h
misc_document (EmptyTag tag) c m h = absurd (let clash : false ≡ true = m in cc)

outside : (item : Item) (begun : Bool) (ts : List Token) → is_misc item ≡ true → Closes [] begun ts → Closes [] begun (Alone item ∷ ts)
outside item true ts m h = (Then item h.0, ap (λ us. Alone item ∷ us) h.1, and_true (is_misc item) _ m h.2)
outside item false ts m h = (Then item h.0, ap (λ us. Alone item ∷ us) h.1, misc_document item h.0 m h.2)

-- a pair of tags and what stands between and behind them
pair_tokens : (tag : Tag) (c d : Content) (space : List ℕ) (ts us vs : List Token) → ts ≡ tokens_of c ++ EndTag tag.name space ∷ us →
    us ≡ tokens_of d ++ vs → StartTag tag ∷ ts ≡ tokens_of (Pair tag c space d) ++ vs
pair_tokens tag c d space ts us vs e f =
    ap (λ z. StartTag tag ∷ z) (e ∙ ap (λ z. tokens_of c ++ EndTag tag.name space ∷ z) f
    ∙ sym (append_assoc (tokens_of c) (EndTag tag.name space ∷ tokens_of d) vs))

pair_inside : (tag : Tag) (name : List ℕ) (names : List (List ℕ)) (a b : Bool) (ts : List Token) →
    Closes (tag.name ∷ name ∷ names) a ts → Closes (name ∷ names) b (StartTag tag ∷ ts)
pair_inside tag name names a b ts h =
    let outer = h.4 in (
      Pair tag h.0 h.1 outer.0,
      outer.1,
      outer.2,
      pair_tokens tag h.0 outer.0 h.1 ts h.2 (EndTag name outer.1 ∷ outer.2) h.3 outer.3,
      outer.4,
    )

nothing : {X : Type 0} (xs : List X) → xs ++ [] ≡ xs
nothing [] = refl
nothing (x ∷ xs) = ap (λ zs. x ∷ zs) (nothing xs)

pair_outside : (tag : Tag) (a : Bool) (ts : List Token) → Closes (tag.name ∷ []) a ts → Closes [] false (StartTag tag ∷ ts)
pair_outside tag a ts h =
    let outer = h.4 in (
      Pair tag h.0 h.1 outer.0,
      pair_tokens tag h.0 outer.0 h.1 ts h.2 [] h.3 (outer.1 ∙ sym (nothing (tokens_of outer.0))) ∙ nothing (tokens_of (Pair tag h.0 h.1 outer.0)),
      outer.2,
    )

-- a root that is an empty-element tag
empty_root : (tag : Tag) (ts : List Token) → Closes [] true ts → Closes [] false (Alone (EmptyTag tag) ∷ ts)
empty_root tag ts h = (Then (EmptyTag tag) h.0, ap (λ us. Alone (EmptyTag tag) ∷ us) h.1, h.2)

-- what a test chose
chosen_true : (b : Bool) (next final : Outline) (ts : List Token) →
    option_and_then (λ o. outline_of o ts) (cond b (Some next) None) ≡ Some final → (b ≡ true) × (outline_of next ts ≡ Some final)
chosen_true true next final ts e = (refl, e)
chosen_true false next final ts e = absurd (none_is_not_some final e)

complete_end : (begun : Bool) (final : Outline) → Some (outline [] begun) ≡ Some final → is_complete final ≡ true → begun ≡ true
complete_end begun final e h = let same : outline [] begun ≡ final = cc in ap is_complete same ∙ h

open_is_not_complete : (name : List ℕ) (names : List (List ℕ)) (begun : Bool) (final : Outline) →
    Some (outline (name ∷ names) begun) ≡ Some final → is_complete final ≡ true → ⊥
open_is_not_complete name names begun final e h =
    let same : outline (name ∷ names) begun ≡ final = cc in
    let clash : false ≡ true = ap is_complete same ∙ h in
    cc

epilog_as : (begun : Bool) → begun ≡ true → Closes [] begun []
epilog_as true h = (NoContent, refl, refl)
epilog_as false h = absurd (let clash : false ≡ true = h in cc)

end_here : (name other space : List ℕ) (names : List (List ℕ)) (a b : Bool) (ts : List Token) → bytes_eq other name ≡ true → b ≡ true →
    Closes names b ts → Closes (other ∷ names) a (EndTag name space ∷ ts)
end_here name other space names a b ts e t h =
    (NoContent, space, ts, ap (λ n. EndTag n space ∷ ts) (sym ((bytes_eq-Decides other name).0 e)), subst (λ d. Closes names d ts) t h)

-- an open element stands in a root that has begun
abbrev HasBegun : List (List ℕ) → Bool → Type 0
HasBegun names begun = (not (is_some names) || begun) ≡ true

sound : (ts : List Token) (names : List (List ℕ)) (begun : Bool) (final : Outline) → HasBegun names begun →
    outline_of (outline names begun) ts ≡ Some final → is_complete final ≡ true → Closes names begun ts
sound [] [] begun final b e h = epilog_as begun (complete_end begun final e h)
sound [] (name ∷ names) begun final b e h = absurd (open_is_not_complete name names begun final e h)
sound (Alone item ∷ ts) (name ∷ names) begun final b e h = in_element item name names begun begun ts (sound ts (name ∷ names) begun final b e h)
sound (Alone (EmptyTag tag) ∷ ts) [] true final b e h = absurd (none_is_not_some final e)
sound (Alone (EmptyTag tag) ∷ ts) [] false final b e h = empty_root tag ts (sound ts [] true final refl e h)
sound (Alone (Characters bytes) ∷ ts) [] begun final b e h =
    let chosen = chosen_true (list_all is_white bytes) (outline [] begun) final ts e in
    outside (Characters bytes) begun ts chosen.0 (sound ts [] begun final b chosen.1 h)
sound (Alone (CommentItem bytes) ∷ ts) [] begun final b e h = outside (CommentItem bytes) begun ts refl (sound ts [] begun final b e h)
sound (Alone (ProcessingInstruction t s v) ∷ ts) [] begun final b e h = outside (ProcessingInstruction t s v) begun ts refl (sound ts [] begun final b e h)
sound (Alone (Refers r) ∷ ts) [] begun final b e h = absurd (none_is_not_some final e)
sound (Alone (Section bytes) ∷ ts) [] begun final b e h = absurd (none_is_not_some final e)
sound (StartTag tag ∷ ts) [] true final b e h = absurd (none_is_not_some final e)
sound (StartTag tag ∷ ts) [] false final b e h = pair_outside tag true ts (sound ts (tag.name ∷ []) true final refl e h)
sound (StartTag tag ∷ ts) (name ∷ names) begun final b e h = pair_inside tag name names true begun ts (sound ts (tag.name ∷ name ∷ names) true final refl e h)
sound (EndTag name space ∷ ts) [] begun final b e h = absurd (none_is_not_some final e)
sound (EndTag name space ∷ ts) (other ∷ names) begun final b e h =
    let chosen = chosen_true (bytes_eq other name) (outline names begun) final ts e in
    end_here name other space names begun begun ts chosen.0 b (sound ts names begun final (ap (λ d. not (is_some names) || d) b ∙ or_true (not (is_some names))) chosen.1 h)
  where
    or_true : (a : Bool) → (a || true) ≡ true
    or_true true = refl
    or_true false = refl

-- tokens behind which the root is read and no element is open are those of a document
pub document_of : (ts : List Token) (final : Outline) → outline_of first_outline ts ≡ Some final → is_complete final ≡ true →
    (c : Content) × (ts ≡ tokens_of c) × IsTrue (is_document c)
document_of ts final e h = sound ts [] false final refl e h
