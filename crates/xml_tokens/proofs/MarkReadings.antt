-- What sections, comments and instructions say of the first token, and what refuses one.
use Rattle.std.proofs.Common.{◌≡◌, ℕ, ◌<◌, Bool, true, false, cond, ◌&&◌, ◌||◌, ◌==◌, nat_eq, List, [], ◌∷◌, ◌++◌, length, get_or, drop, codes, ◌⊎◌, inl, inr, None, IsFalse, refl, sym, ◌∙◌, ap, subst, arith}
use Rattle.std.specs.List.{starts_with}
use Rattle.std.specs.Str.{str_to_ascii_lowercase}
use Rattle.xml_spec.specs.Ascii.{hyphen}
use Rattle.xml_spec.specs.Bytes.{AllPass, begins_with, has}
use Rattle.xml_spec.specs.Characters.{at_colon}
use Rattle.xml_spec.specs.Syntax.{is_white, Characters, Refers, Section, CommentItem, ProcessingInstruction, EmptyTag, Token, Alone, StartTag, EndTag, print_token, IsToken}
use Rattle.xml_spec.specs.Laws.{BeginsWith}
use Rattle.xml_spec.proofs.Runs.{apart_at, same_run}
use Rattle.xml_spec.proofs.Ends.{same_value, found, two_equal, neither}
use Rattle.xml_spec.proofs.Tokens.{kind, from_space, from_value, processing_parts, space_stops_target, section_parts, comment_parts, value_not_white}
use Rattle.xml_tokens.specs.Lexing.{CutAt, NameAt, CommentAt, ProcessingInstructionAt, NoName, NoComment, NoProcessingInstruction, NoToken}
use Rattle.xml_tokens.proofs.AttributeReadings.{same_name}
use Rattle.xml_tokens.proofs.Finding.{front_lacks, front_has_none}
use Rattle.xml_tokens.proofs.TokenReadings.{other_kind}

-- what stands behind '<!': a section or a comment
abbrev Declared : List ℕ → List ℕ → Type 0
Declared rest x =
    ((bytes : List ℕ) × (rest ≡ codes "[CDATA[" ++ (bytes ++ (codes "]]>" ++ x))))
    ⊎ ((bytes : List ℕ) × CommentAt (drop 2 rest) bytes x × (rest ≡ codes "--" ++ (bytes ++ (codes "-->" ++ x))))

is_declared_kind : ℕ → Bool
is_declared_kind k = k == 2 || k == 3

declared_kind : (rest : List ℕ) → is_declared_kind (kind (60 ∷ 33 ∷ rest)) ≡ true
unfolding is_declared_kind
declared_kind rest = which (get_or rest 0 0 == 91)
  where
    which : (c : Bool) → is_declared_kind (cond c 2 3) ≡ true
    which true = refl
    which false = refl

declared : (rest : List ℕ) (t : Token) (x : List ℕ) → IsToken t → 60 ∷ 33 ∷ rest ≡ print_token t ++ x → Declared rest x
unfolding is_declared_kind
declared rest (Alone (Section a)) x v e = inl (a, ap (drop 2) (e ∙ section_parts a x))
declared rest (Alone (CommentItem a)) x v e =
    inr (
      a,
      record { apart = v; split = ap (drop 4) (e ∙ comment_parts a x) },
      ap (drop 2) (e ∙ comment_parts a x),
    )
declared rest (Alone (Characters a)) x v e = absurd (other_kind is_declared_kind (60 ∷ 33 ∷ rest) (Alone (Characters a)) x (declared_kind rest) refl v e)
declared rest (Alone (Refers a)) x v e = absurd (other_kind is_declared_kind (60 ∷ 33 ∷ rest) (Alone (Refers a)) x (declared_kind rest) refl v e)
declared rest (Alone (ProcessingInstruction a b d)) x v e = absurd (other_kind is_declared_kind (60 ∷ 33 ∷ rest) (Alone (ProcessingInstruction a b d)) x (declared_kind rest) refl v e)
declared rest (Alone (EmptyTag a)) x v e = absurd (other_kind is_declared_kind (60 ∷ 33 ∷ rest) (Alone (EmptyTag a)) x (declared_kind rest) refl v e)
declared rest (StartTag a) x v e = absurd (other_kind is_declared_kind (60 ∷ 33 ∷ rest) (StartTag a) x (declared_kind rest) refl v e)
declared rest (EndTag a b) x v e = absurd (other_kind is_declared_kind (60 ∷ 33 ∷ rest) (EndTag a b) x (declared_kind rest) refl v e)

-- a section that does not end
pub no_section_token : (rest inner : List ℕ) → rest ≡ codes "[CDATA[" ++ inner →
    ((front behind : List ℕ) → ¬ (inner ≡ front ++ (codes "]]>" ++ behind))) → NoToken (60 ∷ 33 ∷ rest)
no_section_token rest inner e none t x b = elim (declared rest t x b.valid b.printed) [
  | inl section ↦ none section.0 x (ap (drop 7) (sym e ∙ section.1))
  | inr comment ↦ apart_at 0 (codes "[CDATA[" ++ inner) (codes "--" ++ (comment.0 ++ (codes "-->" ++ x))) refl (sym e ∙ comment.2)
]

-- what is no comment
pub no_comment_token : (rest inner : List ℕ) → rest ≡ codes "--" ++ inner → NoComment inner → NoToken (60 ∷ 33 ∷ rest)
no_comment_token rest inner e none t x b = elim (declared rest t x b.valid b.printed) [
  | inl section ↦ apart_at 0 (codes "--" ++ inner) (codes "[CDATA[" ++ (section.0 ++ (codes "]]>" ++ x))) refl (sym e ∙ section.1)
  | inr comment ↦ none comment.0 x (subst (λ bs. CommentAt bs comment.0 x) (ap (drop 2) e) comment.1)
]

pub neither_token : (rest : List ℕ) → ((x : List ℕ) → ¬ (rest ≡ codes "[CDATA[" ++ x)) → ((x : List ℕ) → ¬ (rest ≡ codes "--" ++ x)) →
    NoToken (60 ∷ 33 ∷ rest)
neither_token rest no_section no_comment t x b = elim (declared rest t x b.valid b.printed) [
  | inl section ↦ no_section (section.0 ++ (codes "]]>" ++ x)) section.1
  | inr comment ↦ no_comment (comment.0 ++ (codes "-->" ++ x)) comment.2
]

pub section_begins : (rest inner text behind : List ℕ) → rest ≡ codes "[CDATA[" ++ inner → CutAt (codes "]]>") inner text behind →
    BeginsWith (60 ∷ 33 ∷ rest) (Alone (Section text)) behind
section_begins rest inner text behind e cut = record {
  valid = front_has_none (codes "]]>") inner text behind cut;
  whole = refl;
  printed = ap (λ z. 60 ∷ 33 ∷ z) (e ∙ ap (λ z. codes "[CDATA[" ++ z) cut.split) ∙ sym (section_parts text behind);
}

pub comment_begins : (rest inner text behind : List ℕ) → rest ≡ codes "--" ++ inner → CommentAt inner text behind →
    BeginsWith (60 ∷ 33 ∷ rest) (Alone (CommentItem text)) behind
comment_begins rest inner text behind e at = record {
  valid = at.apart;
  whole = refl;
  printed = ap (λ z. 60 ∷ 33 ∷ z) (e ∙ ap (λ z. codes "--" ++ z) at.split) ∙ sym (comment_parts text behind);
}

not_earlier : (y : ℕ) (ys r s : List ℕ) → has (codes "--") ((y ∷ ys) ++ hyphen ∷ []) ≡ false → codes "--" ++ r ≡ (y ∷ ys) ++ (codes "--" ++ s) → ⊥
not_earlier y [] r s h e = found ((45 == y) && ((45 == 45) && true)) (has (codes "--") (45 ∷ [])) (two_equal 45 45 y 45 (cc) refl) h
not_earlier y (z ∷ ys) r s h e =
    found ((45 == y) && ((45 == z) && true)) (has (codes "--") ((z ∷ ys) ++ 45 ∷ [])) (two_equal 45 45 y z (cc) (cc)) h

same_dashes : (xs ys r s : List ℕ) → has (codes "--") (xs ++ hyphen ∷ []) ≡ false → has (codes "--") (ys ++ hyphen ∷ []) ≡ false →
    xs ++ (codes "--" ++ r) ≡ ys ++ (codes "--" ++ s) → r ≡ s
same_dashes [] [] r s hx hy e = ap (drop 2) e
same_dashes [] (y ∷ ys) r s hx hy e = absurd (not_earlier y ys r s hy e)
same_dashes (x ∷ xs) [] r s hx hy e = absurd (not_earlier x xs s r hx (sym e))
same_dashes (x ∷ xs) (y ∷ ys) r s hx hy e =
    same_dashes xs ys r s
    (neither (starts_with nat_eq (x ∷ (xs ++ 45 ∷ [])) (codes "--")) (has (codes "--") (xs ++ 45 ∷ [])) hx).1
    (neither (starts_with nat_eq (y ∷ (ys ++ 45 ∷ [])) (codes "--")) (has (codes "--") (ys ++ 45 ∷ [])) hy).1
    (ap (drop 1) e)

front_apart : (bytes text close : List ℕ) → CutAt (codes "--") bytes text close → has (codes "--") (text ++ hyphen ∷ []) ≡ false
front_apart bytes text close cut = front_lacks (codes "--") bytes text close (45 ∷ []) (45 ∷ close) cut refl refl

pub unended_no_comment : (bytes : List ℕ) → ((front behind : List ℕ) → ¬ (bytes ≡ front ++ (codes "--" ++ behind))) → NoComment bytes
unended_no_comment bytes none text behind at = none text (62 ∷ behind) at.split

pub dashes_no_comment : (bytes text close : List ℕ) → CutAt (codes "--") bytes text close → ((x : List ℕ) → ¬ (close ≡ 62 ∷ x)) → NoComment bytes
dashes_no_comment bytes text close cut none other behind at =
    none behind (same_dashes text other close (62 ∷ behind) (front_apart bytes text close cut) at.apart (sym cut.split ∙ at.split))

pub comment_from : (bytes text close behind : List ℕ) → CutAt (codes "--") bytes text close → close ≡ 62 ∷ behind → CommentAt bytes text behind
comment_from bytes text close behind cut e =
    record { apart = front_apart bytes text close cut; split = cut.split ∙ ap (λ z. text ++ (codes "--" ++ z)) e }

-- instructions
is_processing_kind : ℕ → Bool
is_processing_kind k = k == 4

pub no_processing_token : (rest : List ℕ) → NoProcessingInstruction rest → NoToken (60 ∷ 63 ∷ rest)
unfolding is_processing_kind
no_processing_token rest none t x b = case t b.valid b.printed
  where
    case : (t : Token) → IsToken t → 60 ∷ 63 ∷ rest ≡ print_token t ++ x → ⊥
    case (Alone (Characters a)) v e = other_kind is_processing_kind (60 ∷ 63 ∷ rest) (Alone (Characters a)) x refl refl v e
    case (Alone (Refers a)) v e = other_kind is_processing_kind (60 ∷ 63 ∷ rest) (Alone (Refers a)) x refl refl v e
    case (Alone (Section a)) v e = other_kind is_processing_kind (60 ∷ 63 ∷ rest) (Alone (Section a)) x refl refl v e
    case (Alone (CommentItem a)) v e = other_kind is_processing_kind (60 ∷ 63 ∷ rest) (Alone (CommentItem a)) x refl refl v e
    case (Alone (EmptyTag a)) v e = other_kind is_processing_kind (60 ∷ 63 ∷ rest) (Alone (EmptyTag a)) x refl refl v e
    case (StartTag a) v e = other_kind is_processing_kind (60 ∷ 63 ∷ rest) (StartTag a) x refl refl v e
    case (EndTag a b) v e = other_kind is_processing_kind (60 ∷ 63 ∷ rest) (EndTag a b) x refl refl v e
    case (Alone (ProcessingInstruction target space value)) v e =
        none target value x (record { space = space; valid = v; split = ap (drop 2) (e ∙ processing_parts target space value x) })

pub processing_begins : (rest target value behind : List ℕ) → (at : ProcessingInstructionAt rest target value behind) →
    BeginsWith (60 ∷ 63 ∷ rest) (Alone (ProcessingInstruction target at.space value)) behind
processing_begins rest target value behind at = record {
  valid = at.valid;
  whole = refl;
  printed = ap (λ z. 60 ∷ 63 ∷ z) at.split ∙ sym (processing_parts target at.space value behind);
}

name_of_processing : (bytes target value behind : List ℕ) → (at : ProcessingInstructionAt bytes target value behind) →
    NameAt bytes target (from_space at.space value behind)
name_of_processing bytes target value behind at = record {
  named = at.valid.named.0;
  split = at.split;
  ends = space_stops_target at.space value behind at.valid.white at.valid.apart;
}

pub unnamed_no_processing : (bytes : List ℕ) → NoName bytes → NoProcessingInstruction bytes
unnamed_no_processing bytes none target value behind at =
    none target (from_space at.space value behind) (name_of_processing bytes target value behind at)

same_target : (bytes target mid other value behind : List ℕ) → NameAt bytes target mid → (at : ProcessingInstructionAt bytes other value behind) →
    (target ≡ other) × (mid ≡ from_space at.space value behind)
same_target bytes target mid other value behind n at =
    same_name bytes target other mid (from_space at.space value behind) n (name_of_processing bytes other value behind at)

-- a name may be that of an instruction
abbrev pub IsTarget : List ℕ → Type 0
IsTarget name = (at_colon name ≡ None) × (str_to_ascii_lowercase name ≡ codes "xml" → ⊥)

pub other_no_processing : (bytes target mid : List ℕ) → NameAt bytes target mid → ¬ (IsTarget target) → NoProcessingInstruction bytes
other_no_processing bytes target mid n none other value behind at =
    none (subst IsTarget (sym (same_target bytes target mid other value behind n at).0) (at.valid.named.1, at.valid.not_xml))

-- what stands behind the white space behind the target
same_data : (bytes target mid space inner other value behind : List ℕ) → NameAt bytes target mid → mid ≡ space ++ inner → AllPass is_white space →
    IsFalse (begins_with is_white inner) → (at : ProcessingInstructionAt bytes other value behind) → (space ≡ at.space) × (inner ≡ from_value value behind)
same_data bytes target mid space inner other value behind n e white stops at =
    same_run is_white space at.space inner (from_value value behind) white at.valid.white stops (value_not_white value behind at.valid.begins)
    (sym e ∙ (same_target bytes target mid other value behind n at).1)

pub unended_no_processing : (bytes target mid space inner : List ℕ) → NameAt bytes target mid → mid ≡ space ++ inner → AllPass is_white space →
    IsFalse (begins_with is_white inner) → ((front behind : List ℕ) → ¬ (inner ≡ front ++ (codes "?>" ++ behind))) → NoProcessingInstruction bytes
unended_no_processing bytes target mid space inner n e white stops none other value behind at =
    none value behind (same_data bytes target mid space inner other value behind n e white stops at).1

pub joined_no_processing : (bytes target mid space inner value behind : List ℕ) → NameAt bytes target mid → mid ≡ space ++ inner → AllPass is_white space →
    IsFalse (begins_with is_white inner) → CutAt (codes "?>") inner value behind → length space < 1 → 0 < length value → NoProcessingInstruction bytes
joined_no_processing bytes target mid space inner value behind n e white stops cut short some other text x at =
    let same = same_data bytes target mid space inner other text x n e white stops at in
    let values = same_value value text behind x (front_has_none (codes "?>") inner value behind cut) at.valid.closed (sym cut.split ∙ same.1) in
    let spaces : length space ≡ length at.space = ap length same.0 in
    let lengths : length value ≡ length text = ap length values.0 in
    let apart : 0 < length at.space = at.valid.apart (omega arith) in
    absurd (omega arith)

front_not_white : (value x : List ℕ) → begins_with is_white (value ++ x) ≡ false → begins_with is_white value ≡ false
front_not_white [] x h = refl
front_not_white (b ∷ value) x h = h

pub processing_from : (bytes target mid space inner value behind : List ℕ) → NameAt bytes target mid → IsTarget target → mid ≡ space ++ inner →
    AllPass is_white space → IsFalse (begins_with is_white inner) → CutAt (codes "?>") inner value behind → (0 < length value → 0 < length space) →
    ProcessingInstructionAt bytes target value behind
processing_from bytes target mid space inner value behind n is e white stops cut apart = record {
  space = space;
  valid = record {
    named = (n.named, is.0);
    not_xml = is.1;
    white = white;
    apart = apart;
    begins = front_not_white value (codes "?>" ++ behind) (sym (ap (begins_with is_white) cut.split) ∙ stops);
    closed = front_has_none (codes "?>") inner value behind cut;
  };
  split = n.split ∙ ap (λ z. target ++ z) (e ∙ ap (λ z. space ++ z) cut.split);
}
