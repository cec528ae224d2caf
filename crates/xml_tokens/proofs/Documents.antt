-- What stands behind the head of a document is its content.
use Rattle.std.proofs.Common.{◌≡◌, ℕ, ◌<◌, Bool, true, false, ◌==◌, List, [], ◌∷◌, ◌++◌, length, get_or, drop, codes, Option, Some, None, unwrap_or, refl, sym, ◌∙◌, ap, append_assoc, append-nil, arith}
use Rattle.std.specs.Prelude.{IfSome}
use Rattle.std.specs.Option.{MatchOption}
use Rattle.std.specs.List.{AllByRecursion}
use Rattle.std.specs.Str.{str_to_ascii_lowercase}
use denote.Ref.{Bor}
use Rattle.xml_spec.specs.Bytes.{AllPass, begins_with}
use Rattle.xml_spec.specs.Syntax.{is_white, Characters, Refers, Section, CommentItem, ProcessingInstruction, EmptyTag, Token, Alone, StartTag, EndTag, IsToken, print_token, print_tokens, Content, NoContent, tokens_of}
use Rattle.xml_spec.specs.Document.{Declaration, print_declaration, IsDeclaration, Document, print_mark, print_head, print_document, IsDocument}
use Rattle.xml_spec.proofs.Tests.{both_true}
use Rattle.xml_spec.proofs.Runs.{apart_at, same_run}
use Rattle.xml_spec.proofs.NameBytes.{name_passes}
use Rattle.xml_spec.proofs.Tags.{white_is_no_name}
use Rattle.xml_spec.proofs.Tokens.{kind_of, from_space, processing_parts, space_stops_target}
use Rattle.xml_spec.proofs.Heads.{version_on, declaration_parts, same_declaration}
use Rattle.xml_spec.proofs.Documents.{document_parts, has_no_mark}
use Rattle.xml_tokens.specs.Lexing.{is_name_byte}
use Rattle.xml_tokens.specs.Heads.{HasHead, DeclaredAt, NoDeclared}
use Rattle.xml_tokens.proofs.TokenReadings.{other_kind}

-- what stands behind the mark
abbrev after_mark : Option Declaration → Content → List ℕ
after_mark None c = print_tokens (tokens_of c)
after_mark (Some declaration) c = print_declaration declaration ++ print_tokens (tokens_of c)

-- a mark or none, and the rest
pub record MarkedAs (text rest : List ℕ) : Type 0 where
  pub mark : Bool
  pub split : text ≡ print_mark mark ++ rest
  pub unmarked : mark ≡ false → (x : List ℕ) → ¬ (text ≡ print_mark true ++ x)

pub marked_as : (text : List ℕ) (b next : Bor (List ℕ)) (r : Option (Bor (List ℕ))) → b.now ≡ text →
    MatchOption r ((x : List ℕ) → ¬ (text ≡ print_mark true ++ x)) (λ y. text ≡ print_mark true ++ y.now) → next ≡ unwrap_or r b →
    MarkedAs text next.now
marked_as text b next None e h n = record {
  mark = false;
  split = sym e ∙ ap (λ (x : Bor (List ℕ)). x.now) (sym n);
  unmarked = λ f. h;
}
marked_as text b next (Some y) e h n = record {
  mark = true;
  split = h ∙ ap (λ (x : Bor (List ℕ)). print_mark true ++ x.now) (sym n);
  unmarked = λ (f : true ≡ false). absurd (let clash : true ≡ false = f in cc);
}

behind_mark : (m n : Bool) (rest x text : List ℕ) → text ≡ print_mark m ++ rest → (m ≡ false → (y : List ℕ) → ¬ (text ≡ print_mark true ++ y)) →
    text ≡ print_mark n ++ x → (0xEF == get_or x 0 0) ≡ false → rest ≡ x
behind_mark true true rest x text e u f h = ap (drop 3) (sym e ∙ f)
behind_mark false false rest x text e u f h = sym e ∙ f
behind_mark true false rest x text e u f h = absurd (apart_at 0 (0xEF ∷ 0xBB ∷ 0xBF ∷ rest) x h (sym e ∙ f))
behind_mark false true rest x text e u f h = absurd (u refl x f)

-- what a document is behind its mark
rest_is : (text rest : List ℕ) → MarkedAs text rest → (d : Document) → IsDocument d → text ≡ print_document d → rest ≡ after_mark d.declaration d.content
rest_is text rest m d v e =
    behind_mark m.mark d.mark rest (after_mark d.declaration d.content) text m.split m.unmarked (e ∙ document_parts d)
    (has_no_mark d.declaration d.content v.shape v.tokens.each)

is_processing_kind : ℕ → Bool
is_processing_kind k = k == 4

-- tokens do not begin as the XML declaration does
no_declaration : (ts : List Token) (x : List ℕ) → AllByRecursion IsToken ts → begins_with is_name_byte x ≡ false →
    print_tokens ts ≡ codes "<?xml" ++ x → ⊥
unfolding is_processing_kind
no_declaration [] x v stops e = cc
no_declaration (t ∷ ts) x v stops e = by_kind t v.0 e
  where
    other : (s : Token) → IsToken s → print_token s ++ print_tokens ts ≡ codes "<?xml" ++ x → is_processing_kind (kind_of s) ≡ false → ⊥
    other s w f differs = other_kind is_processing_kind (codes "<?xml" ++ x) s (print_tokens ts) refl differs w (sym f)

    by_kind : (s : Token) → IsToken s → print_token s ++ print_tokens ts ≡ codes "<?xml" ++ x → ⊥
    by_kind (Alone (Characters bytes)) w f = other (Alone (Characters bytes)) w f refl
    by_kind (Alone (Refers r)) w f = other (Alone (Refers r)) w f refl
    by_kind (Alone (Section bytes)) w f = other (Alone (Section bytes)) w f refl
    by_kind (Alone (CommentItem bytes)) w f = other (Alone (CommentItem bytes)) w f refl
    by_kind (Alone (EmptyTag tag)) w f = other (Alone (EmptyTag tag)) w f refl
    by_kind (StartTag tag) w f = other (StartTag tag) w f refl
    by_kind (EndTag name space) w f = other (EndTag name space) w f refl
    by_kind (Alone (ProcessingInstruction target space value)) w f =
        let inner : target ++ from_space space value (print_tokens ts) ≡ codes "xml" ++ x =
        ap (drop 2) (sym (processing_parts target space value (print_tokens ts)) ∙ f) in
        let named = same_run is_name_byte target (codes "xml") (from_space space value (print_tokens ts)) x
        (name_passes target w.named.0) refl (space_stops_target space value (print_tokens ts) w.white w.apart) stops inner in
        w.not_xml (ap str_to_ascii_lowercase named.0)

white_is_no_name_byte : (x : List ℕ) → begins_with is_white x ≡ true → begins_with is_name_byte x ≡ false
white_is_no_name_byte [] h = absurd (let clash : false ≡ true = h in cc)
white_is_no_name_byte (b ∷ x) h = white_is_no_name b h

all_begin : (space x : List ℕ) → 0 < length space → AllPass is_white space → begins_with is_white (space ++ x) ≡ true
all_begin [] x l h = absurd (omega arith)
all_begin (b ∷ space) x l h = (both_true (is_white b) _ h).0

version_is_white : (d : Declaration) (x : List ℕ) → IsDeclaration d → begins_with is_white (version_on d x) ≡ true
version_is_white d x v = all_begin d.version.before _ v.version.0.apart v.version.0.before

-- where no declaration stands, the rest is the content
undeclared : (o : Option Declaration) (c : Content) (rest : List ℕ) → IfSome o IsDeclaration →
    ((x : List ℕ) → begins_with is_white x ≡ true → ¬ (rest ≡ codes "<?xml" ++ x)) → rest ≡ after_mark o c → print_tokens (tokens_of c) ≡ rest
undeclared None c rest v none e = sym e
undeclared (Some d) c rest v none e =
    absurd (none (version_on d (print_tokens (tokens_of c))) (version_is_white d (print_tokens (tokens_of c)) v)
    (e ∙ declaration_parts d (print_tokens (tokens_of c))))

plain_printed : (mark : Bool) (text rest : List ℕ) → text ≡ print_mark mark ++ rest →
    text ≡ print_head (record { mark = mark; declaration = None; content = NoContent }) ++ rest
plain_printed mark text rest e = e ∙ ap (λ z. z ++ rest) (sym (append-nil (print_mark mark)))

pub head_without_declaration : (text rest : List ℕ) → MarkedAs text rest →
    ((x : List ℕ) → begins_with is_white x ≡ true → ¬ (rest ≡ codes "<?xml" ++ x)) → HasHead text rest
head_without_declaration text rest m none = record {
  mark = m.mark;
  declaration = None;
  valid = tt;
  printed = plain_printed m.mark text rest m.split;
  others = λ d v e. undeclared d.declaration d.content rest v.declaration none (rest_is text rest m d v e);
}

-- another byte than white space follows the name
pub no_white_behind : (rest declared : List ℕ) → rest ≡ codes "<?xml" ++ declared → begins_with is_white declared ≡ false →
    (x : List ℕ) → begins_with is_white x ≡ true → ¬ (rest ≡ codes "<?xml" ++ x)
no_white_behind rest declared e h x w f =
    let same : declared ≡ x = ap (drop 5) (sym e ∙ f) in
    let clash : false ≡ true = sym h ∙ ap (begins_with is_white) same ∙ w in
    cc

-- where a declaration begins, the document has one
declared_of : (o : Option Declaration) (c : Content) (rest declared : List ℕ) → IfSome o IsDeclaration → AllByRecursion IsToken (tokens_of c) →
    rest ≡ codes "<?xml" ++ declared → begins_with is_white declared ≡ true → rest ≡ after_mark o c → DeclaredAt declared (print_tokens (tokens_of c))
declared_of None c rest declared v ts e w f =
    absurd (no_declaration (tokens_of c) declared ts (white_is_no_name_byte declared w) (sym f ∙ e))
declared_of (Some d) c rest declared v ts e w f = record { declaration = d; valid = v; printed = sym e ∙ f }

same_behind : (bytes x y : List ℕ) → DeclaredAt bytes x → DeclaredAt bytes y → x ≡ y
same_behind bytes x y a b = (same_declaration a.declaration b.declaration x y a.valid b.valid (sym a.printed ∙ b.printed)).behind

pub head_with_declaration : (text rest declared : List ℕ) (r : Option (Bor (List ℕ))) → MarkedAs text rest → rest ≡ codes "<?xml" ++ declared →
    begins_with is_white declared ≡ true → MatchOption r (NoDeclared declared) (λ behind. DeclaredAt declared behind.now) →
    MatchOption r ((d : Document) → IsDocument d → ¬ (text ≡ print_document d)) (λ behind. HasHead text behind.now)
head_with_declaration text rest declared None m e w none = λ d v f.
    none (print_tokens (tokens_of d.content))
    (declared_of d.declaration d.content rest declared v.declaration v.tokens.each e w (rest_is text rest m d v f))
head_with_declaration text rest declared (Some behind) m e w at = record {
  mark = m.mark;
  declaration = Some at.declaration;
  valid = at.valid;
  printed = m.split ∙ ap (λ z. print_mark m.mark ++ z) (e ∙ at.printed)
      ∙ sym (append_assoc (print_mark m.mark) (print_declaration at.declaration) behind.now);
  others = λ d v f. same_behind declared (print_tokens (tokens_of d.content)) behind.now
      (declared_of d.declaration d.content rest declared v.declaration v.tokens.each e w (rest_is text rest m d v f)) at;
}
