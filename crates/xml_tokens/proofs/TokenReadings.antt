-- What tags, end tags, runs of characters and references say of the first token, and what refuses one.
use Rattle.std.proofs.Common.{◌≡◌, ℕ, ◌<◌, Bool, true, false, ◌&&◌, not, ◌==◌, List, [], ◌∷◌, ◌++◌, length, drop, codes, ◌⊎◌, inl, inr, Option, Some, None, Result, IsFalse, refl, sym, ◌∙◌, ap, subst, arith}
use Rattle.std.specs.Option.{ok_or}
use Rattle.std.specs.Result.{IfErr}
use denote.Ref.{Bor}
use Rattle.xml_spec.specs.Ascii.{greater_than}
use Rattle.xml_spec.specs.Bytes.{AllPass, begins_with, has}
use Rattle.xml_spec.specs.Tree as tree
use Rattle.xml_spec.specs.Syntax.{is_white, print_tag, Characters, Refers, Section, CommentItem, ProcessingInstruction, EmptyTag, Token, Alone, StartTag, EndTag, print_token, print_tokens, IsToken}
use Rattle.xml_spec.specs.Meaning.{attributes_of}
use Rattle.xml_spec.specs.Laws.{BeginsWith}
use Rattle.xml_spec.proofs.Runs.{same_run}
use Rattle.xml_spec.proofs.Tokens.{kind, kind_of, token_kind, empty_parts, start_parts, end_parts, space_stops_name}
use Rattle.xml_spec.proofs.Sequences.{head_is_whole}
use Rattle.xml_chars.specs.Reading.{BeginsWithReference}
use Rattle.xml_tokens.specs.declared.token.Markup.{Markup}
use Rattle.xml_tokens.specs.declared.token.TokenFault.{TokenFault}
use Rattle.xml_tokens.specs.declared.token.TokenFault.TheVariants.{Invalid, NoMemory}
use Rattle.xml_tokens.specs.Markup.{NoTokens}
use Rattle.xml_tokens.specs.Lexing.{is_character_byte, NameAt, BeginsTag, TagAt, EndAt, CharactersAt, NoName, NoTag, NoEnd, NoCharacters, NoToken, ReadsToken}
use Rattle.xml_tokens.proofs.AttributeReadings.{same_name}
use Rattle.xml_tokens.proofs.TagReadings.{same_tag_end}

not_equal : (b n : ℕ) → (b ≡ n → ⊥) → (b == n) ≡ false
not_equal b n h = grind arith

-- bytes of one kind are no token of another
pub other_kind : (test : ℕ → Bool) (bytes : List ℕ) (t : Token) (x : List ℕ) → test (kind bytes) ≡ true → test (kind_of t) ≡ false →
    IsToken t → bytes ≡ print_token t ++ x → ⊥
other_kind test bytes t x here other v e =
    let clash : true ≡ false = sym here ∙ ap (λ z. test (kind z)) e ∙ ap test (token_kind t x v) ∙ other in
    cc

is_tag_kind : ℕ → Bool
is_tag_kind k = k == 6

-- behind '<' stands a tag, unless a slash, a question mark or an exclamation mark follows
tag_kind : (b : ℕ) (rest : List ℕ) → (b == 47) ≡ false → (b == 63) ≡ false → (b == 33) ≡ false → is_tag_kind (kind (60 ∷ b ∷ rest)) ≡ true
unfolding is_tag_kind
tag_kind b rest h k l = grind arith

open_kind : (rest : List ℕ) → BeginsTag rest → is_tag_kind (kind (60 ∷ rest)) ≡ true
unfolding is_tag_kind
open_kind [] h = refl
open_kind (b ∷ rest) h =
    tag_kind b rest (not_equal b 47 (λ (e : b ≡ 47). h.no_end rest (ap (λ c. c ∷ rest) e)))
    (not_equal b 63 (λ (e : b ≡ 63). h.no_instruction rest (ap (λ c. c ∷ rest) e)))
    (not_equal b 33 (λ (e : b ≡ 33). h.no_declaration rest (ap (λ c. c ∷ rest) e)))

-- a start tag or the tag of an empty element
record Opened (rest behind : List ℕ) : Type 0 where
  name : List ℕ
  attributes : List tree.Attribute
  close : List ℕ
  tag : TagAt rest name attributes close
  closes : (close ≡ greater_than ∷ behind) ⊎ (close ≡ codes "/>" ++ behind)

opened : (rest : List ℕ) (t : Token) (x : List ℕ) → is_tag_kind (kind (60 ∷ rest)) ≡ true → IsToken t → 60 ∷ rest ≡ print_token t ++ x → Opened rest x
unfolding is_tag_kind
opened rest (Alone (Characters a)) x k v e = absurd (other_kind is_tag_kind (60 ∷ rest) (Alone (Characters a)) x k refl v e)
opened rest (Alone (Refers a)) x k v e = absurd (other_kind is_tag_kind (60 ∷ rest) (Alone (Refers a)) x k refl v e)
opened rest (Alone (Section a)) x k v e = absurd (other_kind is_tag_kind (60 ∷ rest) (Alone (Section a)) x k refl v e)
opened rest (Alone (CommentItem a)) x k v e = absurd (other_kind is_tag_kind (60 ∷ rest) (Alone (CommentItem a)) x k refl v e)
opened rest (Alone (ProcessingInstruction a b d)) x k v e = absurd (other_kind is_tag_kind (60 ∷ rest) (Alone (ProcessingInstruction a b d)) x k refl v e)
opened rest (EndTag a b) x k v e = absurd (other_kind is_tag_kind (60 ∷ rest) (EndTag a b) x k refl v e)
opened rest (Alone (EmptyTag tag)) x k v e = record {
  name = tag.name;
  attributes = attributes_of tag;
  close = codes "/>" ++ x;
  tag = record { tag = tag; valid = v; named = refl; mean = refl; split = ap (drop 1) (e ∙ empty_parts tag x); not_white = refl; not_name = refl };
  closes = inr refl;
}
opened rest (StartTag tag) x k v e = record {
  name = tag.name;
  attributes = attributes_of tag;
  close = greater_than ∷ x;
  tag = record { tag = tag; valid = v; named = refl; mean = refl; split = ap (drop 1) (e ∙ start_parts tag x); not_white = refl; not_name = refl };
  closes = inl refl;
}

pub untagged_no_token : (rest : List ℕ) → BeginsTag rest → NoTag rest → NoToken (60 ∷ rest)
untagged_no_token rest h none t x b =
    let o = opened rest t x (open_kind rest h) b.valid b.printed in
    none o.name o.attributes o.close o.tag

pub unclosed_no_token : (rest name : List ℕ) (attributes : List tree.Attribute) (close : List ℕ) → BeginsTag rest →
    TagAt rest name attributes close → ((x : List ℕ) → ¬ (close ≡ 62 ∷ x)) →
    ((x : List ℕ) → ¬ (close ≡ codes "/>" ++ x)) → NoToken (60 ∷ rest)
unclosed_no_token rest name attributes close h at no_sign no_slash t x b =
    let o = opened rest t x (open_kind rest h) b.valid b.printed in
    let same : close ≡ o.close = same_tag_end rest name o.name attributes o.attributes close o.close at o.tag in
    elim o.closes [ inl e ↦ no_sign x (same ∙ e) | inr e ↦ no_slash x (same ∙ e) ]

pub start_begins : (rest name : List ℕ) (attributes : List tree.Attribute) (close behind : List ℕ) →
    (at : TagAt rest name attributes close) → close ≡ 62 ∷ behind → BeginsWith (60 ∷ rest) (StartTag at.tag) behind
start_begins rest name attributes close behind at e = record {
  valid = at.valid;
  whole = refl;
  printed = ap (λ z. 60 ∷ z) (at.split ∙ ap (λ z. print_tag at.tag ++ z) e) ∙ sym (start_parts at.tag behind);
}

pub empty_begins : (rest name : List ℕ) (attributes : List tree.Attribute) (close behind : List ℕ) →
    (at : TagAt rest name attributes close) → close ≡ codes "/>" ++ behind → BeginsWith (60 ∷ rest) (Alone (EmptyTag at.tag)) behind
empty_begins rest name attributes close behind at e = record {
  valid = at.valid;
  whole = refl;
  printed = ap (λ z. 60 ∷ z) (at.split ∙ ap (λ z. print_tag at.tag ++ z) e) ∙ sym (empty_parts at.tag behind);
}

name_of_end : (bytes name behind : List ℕ) → (at : EndAt bytes name behind) → NameAt bytes name (at.space ++ (greater_than ∷ behind))
name_of_end bytes name behind at =
    record { named = at.named; split = at.split; ends = space_stops_name at.space behind at.white }

pub unnamed_no_end : (bytes : List ℕ) → NoName bytes → NoEnd bytes
unnamed_no_end bytes none name behind at = none name (at.space ++ (greater_than ∷ behind)) (name_of_end bytes name behind at)

pub unclosed_no_end : (bytes name mid space close : List ℕ) → NameAt bytes name mid → mid ≡ space ++ close → AllPass is_white space →
    IsFalse (begins_with is_white close) → ((x : List ℕ) → ¬ (close ≡ 62 ∷ x)) → NoEnd bytes
unclosed_no_end bytes name mid space close n e white stops none other behind at =
    let same = same_name bytes name other mid (at.space ++ (greater_than ∷ behind)) n (name_of_end bytes other behind at) in
    let split = same_run is_white space at.space close (greater_than ∷ behind) white at.white stops refl (sym e ∙ same.1) in
    none behind split.1

is_end_kind : ℕ → Bool
is_end_kind k = k == 5

pub no_end_token : (rest : List ℕ) → NoEnd rest → NoToken (60 ∷ 47 ∷ rest)
unfolding is_end_kind
no_end_token rest none t x b = case t b.valid b.printed
  where
    case : (t : Token) → IsToken t → 60 ∷ 47 ∷ rest ≡ print_token t ++ x → ⊥
    case (Alone (Characters a)) v e = other_kind is_end_kind (60 ∷ 47 ∷ rest) (Alone (Characters a)) x refl refl v e
    case (Alone (Refers a)) v e = other_kind is_end_kind (60 ∷ 47 ∷ rest) (Alone (Refers a)) x refl refl v e
    case (Alone (Section a)) v e = other_kind is_end_kind (60 ∷ 47 ∷ rest) (Alone (Section a)) x refl refl v e
    case (Alone (CommentItem a)) v e = other_kind is_end_kind (60 ∷ 47 ∷ rest) (Alone (CommentItem a)) x refl refl v e
    case (Alone (ProcessingInstruction a b d)) v e = other_kind is_end_kind (60 ∷ 47 ∷ rest) (Alone (ProcessingInstruction a b d)) x refl refl v e
    case (Alone (EmptyTag a)) v e = other_kind is_end_kind (60 ∷ 47 ∷ rest) (Alone (EmptyTag a)) x refl refl v e
    case (StartTag a) v e = other_kind is_end_kind (60 ∷ 47 ∷ rest) (StartTag a) x refl refl v e
    case (EndTag name space) v e =
        none name x (record { space = space; named = v.0; white = v.1; split = ap (drop 2) (e ∙ end_parts name space x) })

pub end_begins : (rest name behind : List ℕ) → (at : EndAt rest name behind) → BeginsWith (60 ∷ 47 ∷ rest) (EndTag name at.space) behind
end_begins rest name behind at = record {
  valid = (at.named, at.white);
  whole = refl;
  printed = ap (λ z. 60 ∷ 47 ∷ z) at.split ∙ sym (end_parts name at.space behind);
}

-- runs of characters
same_characters : (bytes text mid other behind : List ℕ) → bytes ≡ text ++ mid → AllPass is_character_byte text →
    IsFalse (begins_with is_character_byte mid) → CharactersAt bytes other behind → text ≡ other
same_characters bytes text mid other behind e passes stops at =
    (same_run is_character_byte text other mid behind passes at.passes stops at.ends (sym e ∙ at.split)).0

pub empty_no_characters : (bytes text mid : List ℕ) → bytes ≡ text ++ mid → AllPass is_character_byte text →
    IsFalse (begins_with is_character_byte mid) → length text < 1 → NoCharacters bytes
empty_no_characters bytes text mid e passes stops none other behind at =
    let same : length text ≡ length other = ap length (same_characters bytes text mid other behind e passes stops at) in
    let some : 0 < length other = at.some in
    absurd (omega arith)

pub closed_no_characters : (bytes text mid : List ℕ) → bytes ≡ text ++ mid → AllPass is_character_byte text →
    IsFalse (begins_with is_character_byte mid) → has (codes "]]>") text ≡ true → NoCharacters bytes
closed_no_characters bytes text mid e passes stops closed other behind at =
    let same : has (codes "]]>") text ≡ has (codes "]]>") other = ap (has (codes "]]>")) (same_characters bytes text mid other behind e passes stops at) in
    let unclosed : has (codes "]]>") other ≡ false = at.not_closed in
    let clash : true ≡ false = sym closed ∙ same ∙ unclosed in
    cc

whole_when_stopped : (b : Bool) → b ≡ false → not (true && b) ≡ true
whole_when_stopped b h = ap not h

pub characters_begin : (rest text behind : List ℕ) → CharactersAt rest text behind → BeginsWith rest (Alone (Characters text)) behind
characters_begin rest text behind at = record {
  valid = (at.some, at.passes, at.not_closed);
  whole = whole_when_stopped (begins_with is_character_byte behind) at.ends;
  printed = at.split;
}

pub reference_begins_with : (rest : List ℕ) (character : ℕ) (behind : List ℕ) → (at : BeginsWithReference rest character behind) →
    BeginsWith rest (Alone (Refers at.reference)) behind
reference_begins_with rest character behind at = record { valid = at.valid; whole = refl; printed = at.printed }

-- where no token begins the bytes, they are those of no tokens
pub no_token_no_tokens : (bytes : List ℕ) → 0 < length bytes → NoToken bytes → NoTokens bytes
no_token_no_tokens bytes l none [] are e = absurd (let empty : length bytes ≡ 0 = ap length e in omega arith)
no_token_no_tokens bytes l none (t ∷ ts) are e =
    none t (print_tokens ts) (record { valid = are.each.0; whole = head_is_whole t ts are.whole_runs; printed = e })

-- what the reader answers where a reader of one kind of token reads none
pub refused_by : (found : Option (Markup × Bor (List ℕ))) (r : Result (Markup × Bor (List ℕ)) TokenFault) (bytes whole : List ℕ) → 0 < length whole →
    whole ≡ bytes → ReadsToken bytes found → r ≡ ok_or found Invalid → IfErr r (λ e. (e ≡ NoMemory) ⊎ ((e ≡ Invalid) × NoTokens whole))
refused_by None r bytes whole l same none e =
    subst (λ q. IfErr q (λ e. (e ≡ NoMemory) ⊎ ((e ≡ Invalid) × NoTokens whole))) (sym e)
    (inr (refl, no_token_no_tokens whole l (subst NoToken (sym same) none)))
refused_by (Some x) r bytes whole l same read e =
    subst (λ q. IfErr q (λ e. (e ≡ NoMemory) ⊎ ((e ≡ Invalid) × NoTokens whole))) (sym e) tt
