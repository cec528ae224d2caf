-- Bytes are written as one document, so they spell one tree, and each element has one range.
use Rattle.std.proofs.Common.{◌≡◌, ℕ, ◌<◌, Bool, true, false, ◌==◌, List, [], ◌∷◌, ◌++◌, length, get_or, drop, codes, Option, Some, None, IsTrue, refl, sym, ◌∙◌, ap, arith}
use Rattle.std.specs.Prelude.{slice_get, IfSome}
use Rattle.std.specs.List.{list_all, AllByRecursion}
use Rattle.std.specs.Str.{str_to_ascii_lowercase}
use Rattle.xml_spec.specs.Bytes.{AllPass, begins_with}
use Rattle.xml_spec.specs.Tree.{Nodes}
use Rattle.xml_spec.specs.Syntax.{is_white, Characters, Refers, Section, CommentItem, ProcessingInstruction, EmptyTag, Token, Alone, StartTag, EndTag, IsToken, print_token, print_tokens, AreTokens, Content, NoContent, Then, Pair, tokens_of}
use Rattle.xml_spec.specs.Document.{Declaration, print_declaration, IsDeclaration, is_document, root_of, Document, print_mark, print_head, print_document, Writes, Spells, Span, spans_of, IsRange}
use Rattle.xml_spec.proofs.Tests.{both_true}
use Rattle.xml_spec.proofs.Runs.{apart_at, same_run}
use Rattle.xml_spec.proofs.NameBytes.{is_name_byte, name_passes}
use Rattle.xml_spec.proofs.Tags.{white_begins}
use Rattle.xml_spec.proofs.Tokens.{kind, kind_of, token_kind, numbers_apart, from_space, processing_parts, space_stops_target}
use Rattle.xml_spec.proofs.Sequences.{same_tokens, content_of_tokens}
use Rattle.xml_spec.proofs.Heads.{version_on, declaration_parts, same_declaration}

abbrev pub after_mark : Option Declaration → Content → List ℕ
after_mark None c = print_tokens (tokens_of c)
after_mark (Some declaration) c = print_declaration declaration ++ print_tokens (tokens_of c)

pub document_parts : (d : Document) → print_document d ≡ print_mark d.mark ++ after_mark d.declaration d.content
document_parts d = parts d.mark d.declaration d.content
  where
    parts : (mark : Bool) (declaration : Option Declaration) (c : Content) →
        print_document (record { mark = mark; declaration = declaration; content = c }) ≡ print_mark mark ++ after_mark declaration c
    parts true None c = refl
    parts false None c = refl
    parts true (Some declaration) c = refl
    parts false (Some declaration) c = refl

pub white_is_no_mark : (b : ℕ) → is_white b ≡ true → (0xEF == b) ≡ false
white_is_no_mark b h = grind arith

pub white_has_no_mark : (bytes x : List ℕ) → 0 < length bytes → AllPass is_white bytes → (0xEF == get_or (bytes ++ x) 0 0) ≡ false
white_has_no_mark [] x h ws = absurd (omega arith)
white_has_no_mark (b ∷ bytes) x h ws = white_is_no_mark b (both_true (is_white b) _ ws).0

pub content_has_no_mark : (content : Content) → IsTrue (is_document content) → AllByRecursion IsToken (tokens_of content) →
    (0xEF == get_or (print_tokens (tokens_of content)) 0 0) ≡ false
content_has_no_mark NoContent h v = absurd (let clash : false ≡ true = h in cc)
content_has_no_mark (Then (Characters bytes) rest) h v = white_has_no_mark bytes _ v.0.0 (both_true (list_all is_white bytes) _ h).0
content_has_no_mark (Then (Refers r) rest) h v = absurd (let clash : false ≡ true = h in cc)
content_has_no_mark (Then (Section bytes) rest) h v = refl
content_has_no_mark (Then (CommentItem bytes) rest) h v = refl
content_has_no_mark (Then (ProcessingInstruction target space value) rest) h v = refl
content_has_no_mark (Then (EmptyTag tag) rest) h v = refl
content_has_no_mark (Pair tag inner space rest) h v = refl

pub has_no_mark : (declaration : Option Declaration) (content : Content) → IsTrue (is_document content) →
    AllByRecursion IsToken (tokens_of content) → (0xEF == get_or (after_mark declaration content) 0 0) ≡ false
has_no_mark None c h v = content_has_no_mark c h v
has_no_mark (Some declaration) c h v = refl

pub same_mark : (m n : Bool) (x y : List ℕ) → (0xEF == get_or x 0 0) ≡ false → (0xEF == get_or y 0 0) ≡ false →
    print_mark m ++ x ≡ print_mark n ++ y → (m ≡ n) × (x ≡ y)
same_mark true true x y hx hy e = (refl, ap (drop 3) e)
same_mark false false x y hx hy e = (refl, e)
same_mark true false x y hx hy e = absurd (apart_at 0 (0xEF ∷ 0xBB ∷ 0xBF ∷ x) y hy e)
same_mark false true x y hx hy e = absurd (apart_at 0 (0xEF ∷ 0xBB ∷ 0xBF ∷ y) x hx (sym e))

-- tokens do not begin as the XML declaration does
pub no_declaration : (ts : List Token) (d : Declaration) (x : List ℕ) → AllByRecursion IsToken ts → IsDeclaration d →
    print_tokens ts ≡ codes "<?xml" ++ version_on d x → ⊥
no_declaration [] d x v u e = cc
no_declaration (t ∷ ts) d x v u e = by_kind t v.0 e
  where
    xml_stops : begins_with is_name_byte (version_on d x) ≡ false
    xml_stops = white_begins d.version.before _ u.version.0.apart u.version.0.before

    other : (s : Token) → IsToken s → print_token s ++ print_tokens ts ≡ codes "<?xml" ++ version_on d x → (kind_of s == 4) ≡ false → ⊥
    other s w f differs = numbers_apart (kind_of s) 4 differs (sym (token_kind s (print_tokens ts) w) ∙ ap kind f)

    by_kind : (s : Token) → IsToken s → print_token s ++ print_tokens ts ≡ codes "<?xml" ++ version_on d x → ⊥
    by_kind (Alone (Characters bytes)) w f = other (Alone (Characters bytes)) w f refl
    by_kind (Alone (Refers r)) w f = other (Alone (Refers r)) w f refl
    by_kind (Alone (Section bytes)) w f = other (Alone (Section bytes)) w f refl
    by_kind (Alone (CommentItem bytes)) w f = other (Alone (CommentItem bytes)) w f refl
    by_kind (Alone (EmptyTag tag)) w f = other (Alone (EmptyTag tag)) w f refl
    by_kind (StartTag tag) w f = other (StartTag tag) w f refl
    by_kind (EndTag name space) w f = other (EndTag name space) w f refl
    by_kind (Alone (ProcessingInstruction target space value)) w f =
        let inner : target ++ from_space space value (print_tokens ts) ≡ codes "xml" ++ version_on d x =
        ap (drop 2) (sym (processing_parts target space value (print_tokens ts)) ∙ f) in
        let named = same_run is_name_byte target (codes "xml") (from_space space value (print_tokens ts)) (version_on d x)
        (name_passes target w.named.0) refl (space_stops_target space value (print_tokens ts) w.white w.apart) xml_stops inner in
        w.not_xml (ap str_to_ascii_lowercase named.0)

-- two readings of what stands behind the mark
pub record SameRest (o p : Option Declaration) (c d : Content) : Type 0 where
  declarations : o ≡ p
  contents : c ≡ d

pub same_rest : (o p : Option Declaration) (c d : Content) → IfSome o IsDeclaration → IfSome p IsDeclaration →
    AreTokens (tokens_of c) → AreTokens (tokens_of d) → after_mark o c ≡ after_mark p d → SameRest o p c d
same_rest None None c d ho hp v u e =
    record { declarations = refl; contents = content_of_tokens c d (same_tokens (tokens_of c) (tokens_of d) v.each u.each v.whole_runs u.whole_runs e) }
same_rest None (Some f) c d ho hp v u e = absurd (no_declaration (tokens_of c) f (print_tokens (tokens_of d)) v.each hp (e ∙ declaration_parts f _))
same_rest (Some f) None c d ho hp v u e = absurd (no_declaration (tokens_of d) f (print_tokens (tokens_of c)) u.each ho (sym e ∙ declaration_parts f _))
same_rest (Some f) (Some g) c d ho hp v u e =
    let same = same_declaration f g (print_tokens (tokens_of c)) (print_tokens (tokens_of d)) ho hp e in
    record {
      declarations = λ i. Some (same.whole i);
      contents = content_of_tokens c d (same_tokens (tokens_of c) (tokens_of d) v.each u.each v.whole_runs u.whole_runs same.behind);
    }

pub one_document : (bytes : List ℕ) (d e : Document) → Writes bytes d → Writes bytes e → d ≡ e
one_document bytes d e w v =
    let marks = same_mark d.mark e.mark (after_mark d.declaration d.content) (after_mark e.declaration e.content)
    (has_no_mark d.declaration d.content w.valid.shape w.valid.tokens.each) (has_no_mark e.declaration e.content v.valid.shape v.valid.tokens.each)
    (sym (document_parts d) ∙ sym w.printed ∙ v.printed ∙ document_parts e) in
    let rest = same_rest d.declaration e.declaration d.content e.content w.valid.declaration v.valid.declaration w.valid.tokens v.valid.tokens marks.1 in
    λ i. record { mark = marks.0 i; declaration = rest.declarations i; content = rest.contents i }

pub one_tree : (bytes : List ℕ) (one other : Nodes) → Spells bytes one → Spells bytes other → one ≡ other
one_tree bytes one other s r =
    s.means ∙ ap (λ (d : Document). root_of d.content) (one_document bytes s.document r.document s.writes r.writes) ∙ sym r.means

pub some_is_one : (a b : Span) (o : Option Span) → o ≡ Some a → o ≡ Some b → a ≡ b
some_is_one a b o e f = cc

pub one_range : (bytes : List ℕ) (n : ℕ) (one other : Span) → IsRange bytes n one → IsRange bytes n other → one ≡ other
one_range bytes n one other r s =
    some_is_one one other (slice_get (spans_of (length (print_head s.document)) s.document.content) n)
    (sym (ap (λ (d : Document). slice_get (spans_of (length (print_head d)) d.content) n) (one_document bytes r.document s.document r.writes s.writes)) ∙ r.place)
    s.place
