-- Readings of an XML declaration and of its parts are one, and what refuses them.
use Rattle.std.proofs.Common.{◌≡◌, ℕ, ◌<◌, Bool, true, false, ◌==◌, nat_lt, List, [], ◌∷◌, ◌++◌, length, drop, codes, Option, Some, None, ◌⊎◌, inl, inr, IsFalse, refl, sym, ◌∙◌, ap, subst, arith}
use Rattle.std.specs.Prelude.{IfSome}
use Rattle.std.specs.Option.{MatchOption}
use Rattle.std.specs.Char.{to_ascii_lowercase}
use Rattle.std.specs.List.{list_all}
use Rattle.std.specs.Str.{str_to_ascii_lowercase}
use Rattle.std.proofs.Math.Seq.{drop-append_seam}
use denote.Ref.{Bor}
use Rattle.xml_spec.specs.Ascii.{equals_sign}
use Rattle.xml_spec.specs.Bytes.{AllPass, begins_with}
use Rattle.xml_spec.specs.Syntax.{is_white, is_quote}
use Rattle.xml_spec.specs.Document.{Setting, IsSetting, Declaration, IsDeclaration}
use Rattle.xml_spec.proofs.Tests.{both_true, and_true}
use Rattle.xml_spec.proofs.Runs.{same_run}
use Rattle.xml_spec.proofs.Heads.{setting_on, optional_on, close_on, standalone_on, encoding_on, version_on, left_on, declaration_parts, quote_not_white}
use Rattle.xml_spec.proofs.Tokens.{fails}
use Rattle.xml_tokens.specs.Lexing.{is_value_byte, EqualsAt, QuotedAt, NoEquals, NoQuoted}
use Rattle.xml_tokens.specs.Heads.{is_no_white, IsVersion, IsEncoding, IsStandalone, SettingAt, NoSetting, VersionAt, NoVersion, OptionalAt, NoOptional, DeclaredAt, NoDeclared}
use Rattle.xml_tokens.proofs.AttributeReadings.{same_equals}
use Rattle.xml_tokens.proofs.ValueReadings.{quote_fails}

-- quoted values
pub no_quoted : (quote : ℕ) (rest value at bytes : List ℕ) → bytes ≡ quote ∷ rest → rest ≡ value ++ at → AllPass (is_value_byte quote) value →
    IsFalse (begins_with (is_value_byte quote) at) → ((x : List ℕ) → ¬ (at ≡ quote ∷ x)) → NoQuoted bytes
no_quoted quote rest value at bytes b e passes stops none v behind a =
    let begin : quote ∷ rest ≡ a.quote ∷ (v ++ a.quote ∷ behind) = sym b ∙ a.split in
    let heads : a.quote ≡ quote = cc (begin) in
    let tails : rest ≡ v ++ a.quote ∷ behind = cc (begin) in
    let whole : value ++ at ≡ v ++ quote ∷ behind = sym e ∙ tails ∙ ap (λ q. v ++ q ∷ behind) heads in
    let split = same_run (is_value_byte quote) value v at (quote ∷ behind) passes
    (subst (λ q. AllPass (is_value_byte q) v) heads a.passes) stops (quote_fails quote) whole in
    none behind split.1

same_quoted : (bytes v w x y : List ℕ) → QuotedAt bytes v x → QuotedAt bytes w y → (v ≡ w) × (x ≡ y)
same_quoted bytes v w x y a b =
    let begin : a.quote ∷ (v ++ a.quote ∷ x) ≡ b.quote ∷ (w ++ b.quote ∷ y) = sym a.split ∙ b.split in
    let heads : b.quote ≡ a.quote = cc (begin) in
    let tails : v ++ a.quote ∷ x ≡ w ++ b.quote ∷ y = cc (begin) in
    let split = same_run (is_value_byte a.quote) v w (a.quote ∷ x) (a.quote ∷ y) a.passes
    (subst (λ q. AllPass (is_value_byte q) w) heads b.passes) (quote_fails a.quote) (quote_fails a.quote)
    (tails ∙ ap (λ q. w ++ q ∷ y) heads) in
    (split.0, ap (drop 1) split.1)

-- settings
append_left : (front x y : List ℕ) → front ++ x ≡ front ++ y → x ≡ y
append_left front x y e = sym (drop-append_seam front x) ∙ ap (drop (length front)) e ∙ drop-append_seam front y

word_not_white : (name x : List ℕ) → begins_with is_no_white name ≡ true → begins_with is_white (name ++ x) ≡ false
word_not_white [] x h = absurd (let clash : false ≡ true = h in cc)
word_not_white (b ∷ name) x h = fails (is_white b) h

-- what stands behind the white space
behind_space : (name bytes space word value behind : List ℕ) → begins_with is_no_white name ≡ true → bytes ≡ space ++ word → AllPass is_white space →
    IsFalse (begins_with is_white word) → (at : SettingAt name bytes value behind) → (space ≡ at.space) × (word ≡ name ++ at.sign)
behind_space name bytes space word value behind w e white stops at =
    same_run is_white space at.space word (name ++ at.sign) white at.white stops (word_not_white name at.sign w) (sym e ∙ at.split)

pub unspaced_no_setting : (name bytes space word : List ℕ) → begins_with is_no_white name ≡ true → bytes ≡ space ++ word → AllPass is_white space →
    IsFalse (begins_with is_white word) → length space < 1 → NoSetting name bytes
unspaced_no_setting name bytes space word w e white stops short value behind at =
    let same : length space ≡ length at.space = ap length (behind_space name bytes space word value behind w e white stops at).0 in
    let some : 0 < length at.space = at.apart in
    absurd (omega arith)

pub unnamed_no_setting : (name bytes space word : List ℕ) → begins_with is_no_white name ≡ true → bytes ≡ space ++ word → AllPass is_white space →
    IsFalse (begins_with is_white word) → ((x : List ℕ) → ¬ (word ≡ name ++ x)) → NoSetting name bytes
unnamed_no_setting name bytes space word w e white stops none value behind at =
    none at.sign (behind_space name bytes space word value behind w e white stops at).1

pub unequal_no_setting : (name bytes space word sign : List ℕ) → begins_with is_no_white name ≡ true → bytes ≡ space ++ word → AllPass is_white space →
    IsFalse (begins_with is_white word) → word ≡ name ++ sign → NoEquals sign → NoSetting name bytes
unequal_no_setting name bytes space word sign w e white stops n none value behind at =
    let signs : at.sign ≡ sign = append_left name at.sign sign (sym (behind_space name bytes space word value behind w e white stops at).1 ∙ n) in
    none at.quote (subst (λ z. EqualsAt z at.quote) signs at.equated)

pub setting_read : (name bytes space word sign quote : List ℕ) (r : Option (Bor (List ℕ) × Bor (List ℕ))) → begins_with is_no_white name ≡ true →
    bytes ≡ space ++ word → AllPass is_white space → IsFalse (begins_with is_white word) → 0 < length space → word ≡ name ++ sign → EqualsAt sign quote →
    MatchOption r (NoQuoted quote) (λ found. QuotedAt quote found.0.now found.1.now) →
    MatchOption r (NoSetting name bytes) (λ found. SettingAt name bytes found.0.now found.1.now)
setting_read name bytes space word sign quote None w e white stops apart n equals none = λ value behind at.
    let signs : at.sign ≡ sign = append_left name at.sign sign (sym (behind_space name bytes space word value behind w e white stops at).1 ∙ n) in
    let quotes : at.quote ≡ quote = same_equals sign at.quote quote (subst (λ z. EqualsAt z at.quote) signs at.equated) equals in
    none value behind (subst (λ z. QuotedAt z value behind) quotes at.quoted)
setting_read name bytes space word sign quote (Some found) w e white stops apart n equals quoted = record {
  space = space;
  sign = sign;
  quote = quote;
  apart = apart;
  white = white;
  split = e ∙ ap (λ z. space ++ z) n;
  equated = equals;
  quoted = quoted;
}

-- two readings of a setting
pub same_setting : (name bytes v w x y : List ℕ) → begins_with is_no_white name ≡ true → SettingAt name bytes v x → SettingAt name bytes w y → (v ≡ w) × (x ≡ y)
same_setting name bytes v w x y word a b =
    let same = same_run is_white a.space b.space (name ++ a.sign) (name ++ b.sign) a.white b.white
    (word_not_white name a.sign word) (word_not_white name b.sign word) (sym a.split ∙ b.split) in
    let signs : a.sign ≡ b.sign = append_left name a.sign b.sign same.1 in
    let quotes : a.quote ≡ b.quote = same_equals b.sign a.quote b.quote (subst (λ z. EqualsAt z a.quote) signs a.equated) b.equated in
    same_quoted b.quote v w x y (subst (λ z. QuotedAt z v x) quotes a.quoted) b.quoted

-- the version
pub unset_no_version : (bytes : List ℕ) → NoSetting (codes "version") bytes → NoVersion bytes
unset_no_version bytes none behind at = none at.value behind at.set

pub other_no_version : (bytes value behind : List ℕ) → SettingAt (codes "version") bytes value behind → (IsVersion value → ⊥) → NoVersion bytes
other_no_version bytes value behind set none other at =
    none ((same_setting (codes "version") bytes value at.value behind other refl set at.set).0 ∙ at.allowed)

-- parts that may be left out
same_optional : (name : List ℕ) (Allows : List ℕ → Type 0) (bytes x y : List ℕ) → begins_with is_no_white name ≡ true → OptionalAt name Allows bytes x →
    OptionalAt name Allows bytes y → x ≡ y
same_optional name Allows bytes x y w a b =
    elim a [
      | inl one ↦ elim b [
        | inl other ↦ (same_setting name bytes one.0 other.0 x y w one.1 other.1).1
        | inr none ↦ absurd (none.0 one.0 x one.1)
      ]
      | inr none ↦ elim b [
        | inl other ↦ absurd (none.0 other.0 y other.1)
        | inr still ↦ sym none.1 ∙ still.1
      ]
    ]

no_optional : (name : List ℕ) (Allows : List ℕ → Type 0) (bytes x : List ℕ) → begins_with is_no_white name ≡ true → NoOptional name Allows bytes →
    OptionalAt name Allows bytes x → ⊥
no_optional name Allows bytes x w bad at =
    elim at [
      | inl one ↦ bad.3 (subst Allows (same_setting name bytes one.0 bad.0 x bad.1 w one.1 bad.2).0 one.2)
      | inr none ↦ none.0 bad.0 bad.1 bad.2
    ]

-- what a setting is printed as is read
setting_at : (name : List ℕ) (s : Setting) (x : List ℕ) → IsSetting s → AllPass (is_value_byte s.quote) s.value → SettingAt name (setting_on name s x) s.value x
setting_at name s x v passes = record {
  space = s.before;
  sign = left_on s x;
  quote = s.quote ∷ (s.value ++ (s.quote ∷ x));
  apart = v.apart;
  white = v.before;
  split = refl;
  equated = record {
    left = s.left;
    right = s.right;
    left_white = v.left;
    right_white = v.right;
    split = refl;
    ends = quote_not_white s.quote v.quote;
  };
  quoted = record { quote = s.quote; quoted = v.quote; passes = passes; split = refl };
}

-- what is read is printed so
made_setting : (name bytes value behind : List ℕ) → SettingAt name bytes value behind →
    (s : Setting) × IsSetting s × (s.value ≡ value) × (bytes ≡ setting_on name s behind)
made_setting name bytes value behind at =
    let s : Setting = record { before = at.space; left = at.equated.left; right = at.equated.right; quote = at.quoted.quote; value = value } in (
      s,
      record { apart = at.apart; before = at.white; left = at.equated.left_white; right = at.equated.right_white; quote = at.quoted.quoted },
      refl,
      at.split ∙ ap (λ z. at.space ++ (name ++ z)) (at.equated.split ∙ ap (λ z. at.equated.left ++ equals_sign ∷ (at.equated.right ++ z)) at.quoted.split),
    )

-- an allowed value holds no quote and no sign of markup
abbrev Passes : (List ℕ → Type 0) → Type 0
Passes Allows = (value : List ℕ) (quote : ℕ) → is_quote quote ≡ true → Allows value → AllPass (is_value_byte quote) value

one_of : (quote : ℕ) → is_quote quote ≡ true → (quote ≡ 34) ⊎ (quote ≡ 39)
one_of quote h = grind arith

by_quote : (P : ℕ → Bool) (quote : ℕ) → is_quote quote ≡ true → P 34 ≡ true → P 39 ≡ true → P quote ≡ true
by_quote P quote h double single = elim (one_of quote h) [
  | inl e ↦ subst (λ q. P q ≡ true) (sym e) double
  | inr e ↦ subst (λ q. P q ≡ true) (sym e) single
]

word_passes : (word : List ℕ) → list_all (is_value_byte 34) word ≡ true → list_all (is_value_byte 39) word ≡ true →
    (value : List ℕ) (quote : ℕ) → is_quote quote ≡ true → value ≡ word → AllPass (is_value_byte quote) value
word_passes word double single value quote h e =
    ap (list_all (is_value_byte quote)) e ∙ by_quote (λ q. list_all (is_value_byte q) word) quote h double single

version_passes : Passes IsVersion
version_passes value quote h e = word_passes (codes "1.0") refl refl value quote h e

standalone_passes : Passes IsStandalone
standalone_passes value quote h e = elim e [
  | inl same ↦ word_passes (codes "yes") refl refl value quote h same
  | inr same ↦ word_passes (codes "no") refl refl value quote h same
]

-- a byte whose lower case passes does
high_passes : (quote b : ℕ) → quote < 65 → nat_lt b 65 ≡ false → is_value_byte quote b ≡ true
high_passes quote b h k = grind arith

low_same : (b : ℕ) → nat_lt b 65 ≡ true → to_ascii_lowercase b ≡ b
low_same b h = grind arith

lower_keeps : (quote b : ℕ) (t : Bool) → quote < 65 → nat_lt b 65 ≡ t → is_value_byte quote (to_ascii_lowercase b) ≡ true → is_value_byte quote b ≡ true
lower_keeps quote b true l t h = ap (is_value_byte quote) (sym (low_same b t)) ∙ h
lower_keeps quote b false l t h = high_passes quote b l t

lower_passes : (quote : ℕ) → quote < 65 → (value : List ℕ) → list_all (is_value_byte quote) (str_to_ascii_lowercase value) ≡ true →
    list_all (is_value_byte quote) value ≡ true
lower_passes quote l [] h = refl
lower_passes quote l (b ∷ value) h =
    let both = both_true (is_value_byte quote (to_ascii_lowercase b)) (list_all (is_value_byte quote) (str_to_ascii_lowercase value)) h in
    and_true (is_value_byte quote b) (list_all (is_value_byte quote) value) (lower_keeps quote b (nat_lt b 65) l refl both.0)
    (lower_passes quote l value both.1)

quote_below : (quote : ℕ) → is_quote quote ≡ true → quote < 65
quote_below quote h = grind arith

encoding_passes : Passes IsEncoding
encoding_passes value quote h e =
    lower_passes quote (quote_below quote h) value (word_passes (codes "utf-8") refl refl (str_to_ascii_lowercase value) quote h e)

optional_at : (name : List ℕ) (Allows : List ℕ → Type 0) (o : Option Setting) (y : List ℕ) → Passes Allows → IfSome o (λ s. IsSetting s × Allows s.value) →
    NoSetting name y → OptionalAt name Allows (optional_on name o y) y
optional_at name Allows None y p v none = inr (none, refl)
optional_at name Allows (Some s) y p v none = inl (s.value, setting_at name s y v.0 (p s.value s.quote v.0.quote v.1), v.1)

made_optional : (name : List ℕ) (Allows : List ℕ → Type 0) (bytes behind : List ℕ) → OptionalAt name Allows bytes behind →
    (o : Option Setting) × IfSome o (λ s. IsSetting s × Allows s.value) × (bytes ≡ optional_on name o behind)
made_optional name Allows bytes behind at = elim at [
  | inl one ↦ (let made = made_setting name bytes one.0 behind one.1 in
      (Some made.0, (made.1, subst Allows (sym made.2) one.2), made.3))
  | inr none ↦ (None, tt, none.1)
]

-- what follows an optional part does not begin as one of another name
other_word : (name bytes space word : List ℕ) → begins_with is_no_white name ≡ true → bytes ≡ space ++ word → AllPass is_white space →
    IsFalse (begins_with is_white word) → ((x : List ℕ) → ¬ (word ≡ name ++ x)) → NoSetting name bytes
other_word name bytes space word w e white stops none = unnamed_no_setting name bytes space word w e white stops none

first_differs : (b c : ℕ) (x y : List ℕ) → (b == c) ≡ false → b ∷ x ≡ c ∷ y → ⊥
first_differs b c x y h e = let same : b ≡ c = cc in clash b c h same
  where
    clash : (m n : ℕ) → (m == n) ≡ false → m ≡ n → ⊥
    clash m n h e = absurd (grind arith)

close_is_no_setting : (name : List ℕ) (first : ℕ) (others : List ℕ) (d : Declaration) (x : List ℕ) → name ≡ first ∷ others → (63 == first) ≡ false →
    begins_with is_no_white name ≡ true → AllPass is_white d.space → NoSetting name (close_on d x)
close_is_no_setting name first others d x e differs w white =
    other_word name (close_on d x) d.space (codes "?>" ++ x) w refl white refl
    (λ y f. first_differs 63 first (62 ∷ x) (others ++ y) differs (f ∙ ap (λ z. z ++ y) e))

no_standalone : (d : Declaration) (x : List ℕ) → AllPass is_white d.space → NoSetting (codes "standalone") (close_on d x)
no_standalone d x white = close_is_no_setting (codes "standalone") 115 (codes "tandalone") d x refl refl refl white

no_encoding : (o : Option Setting) (d : Declaration) (x : List ℕ) → IfSome o (λ s. IsSetting s × IsStandalone s.value) → AllPass is_white d.space →
    NoSetting (codes "encoding") (optional_on (codes "standalone") o (close_on d x))
no_encoding None d x v white = close_is_no_setting (codes "encoding") 101 (codes "ncoding") d x refl refl refl white
no_encoding (Some s) d x v white =
    other_word (codes "encoding") (setting_on (codes "standalone") s (close_on d x)) s.before (codes "standalone" ++ left_on s (close_on d x)) refl refl v.0.before
    refl (λ y f. first_differs 115 101 (codes "tandalone" ++ left_on s (close_on d x)) (codes "ncoding" ++ y) refl f)

-- the parts of a declaration that stands there
version_of : (bytes behind : List ℕ) → (at : DeclaredAt bytes behind) → VersionAt bytes (encoding_on at.declaration behind)
version_of bytes behind at =
    let d = at.declaration in
    let v = at.valid.version in
    let inner : bytes ≡ version_on d behind = ap (drop 5) (at.printed ∙ declaration_parts d behind) in
    record {
      value = d.version.value;
      set = subst (λ z. SettingAt (codes "version") z d.version.value (encoding_on d behind)) (sym inner)
          (setting_at (codes "version") d.version (encoding_on d behind) v.0 (version_passes d.version.value d.version.quote v.0.quote v.1));
      allowed = v.1;
    }

encoding_of : (d : Declaration) (behind : List ℕ) → IsDeclaration d → OptionalAt (codes "encoding") IsEncoding (encoding_on d behind) (standalone_on d behind)
encoding_of d behind v =
    optional_at (codes "encoding") IsEncoding d.encoding (standalone_on d behind) encoding_passes v.encoding
    (no_encoding d.standalone d behind v.standalone v.space)

standalone_of : (d : Declaration) (behind : List ℕ) → IsDeclaration d → OptionalAt (codes "standalone") IsStandalone (standalone_on d behind) (close_on d behind)
standalone_of d behind v =
    optional_at (codes "standalone") IsStandalone d.standalone (close_on d behind) standalone_passes v.standalone (no_standalone d behind v.space)

pub unversioned_undeclared : (bytes : List ℕ) → NoVersion bytes → NoDeclared bytes
unversioned_undeclared bytes none behind at = none (encoding_on at.declaration behind) (version_of bytes behind at)

encoded_is : (bytes encoded behind : List ℕ) → VersionAt bytes encoded → (at : DeclaredAt bytes behind) → encoded ≡ encoding_on at.declaration behind
encoded_is bytes encoded behind version at =
    let own = version_of bytes behind at in
    (same_setting (codes "version") bytes version.value own.value encoded (encoding_on at.declaration behind) refl version.set own.set).1

pub unencoded_undeclared : (bytes encoded : List ℕ) → VersionAt bytes encoded → NoOptional (codes "encoding") IsEncoding encoded → NoDeclared bytes
unencoded_undeclared bytes encoded version none behind at =
    no_optional (codes "encoding") IsEncoding encoded (standalone_on at.declaration behind) refl none
    (subst (λ z. OptionalAt (codes "encoding") IsEncoding z (standalone_on at.declaration behind)) (sym (encoded_is bytes encoded behind version at))
    (encoding_of at.declaration behind at.valid))

alone_is : (bytes encoded alone behind : List ℕ) → VersionAt bytes encoded → OptionalAt (codes "encoding") IsEncoding encoded alone →
    (at : DeclaredAt bytes behind) → alone ≡ standalone_on at.declaration behind
alone_is bytes encoded alone behind version encoding at =
    same_optional (codes "encoding") IsEncoding encoded alone (standalone_on at.declaration behind) refl encoding
    (subst (λ z. OptionalAt (codes "encoding") IsEncoding z (standalone_on at.declaration behind)) (sym (encoded_is bytes encoded behind version at))
    (encoding_of at.declaration behind at.valid))

pub unalone_undeclared : (bytes encoded alone : List ℕ) → VersionAt bytes encoded → OptionalAt (codes "encoding") IsEncoding encoded alone →
    NoOptional (codes "standalone") IsStandalone alone → NoDeclared bytes
unalone_undeclared bytes encoded alone version encoding none behind at =
    no_optional (codes "standalone") IsStandalone alone (close_on at.declaration behind) refl none
    (subst (λ z. OptionalAt (codes "standalone") IsStandalone z (close_on at.declaration behind)) (sym (alone_is bytes encoded alone behind version encoding at))
    (standalone_of at.declaration behind at.valid))

space_is : (bytes encoded alone space behind : List ℕ) → VersionAt bytes encoded → OptionalAt (codes "encoding") IsEncoding encoded alone →
    OptionalAt (codes "standalone") IsStandalone alone space → (at : DeclaredAt bytes behind) → space ≡ close_on at.declaration behind
space_is bytes encoded alone space behind version encoding standalone at =
    same_optional (codes "standalone") IsStandalone alone space (close_on at.declaration behind) refl standalone
    (subst (λ z. OptionalAt (codes "standalone") IsStandalone z (close_on at.declaration behind)) (sym (alone_is bytes encoded alone behind version encoding at))
    (standalone_of at.declaration behind at.valid))

-- the declaration where its parts are read
pub declared_read : (bytes encoded alone space white close : List ℕ) (r : Option (Bor (List ℕ))) → VersionAt bytes encoded →
    OptionalAt (codes "encoding") IsEncoding encoded alone → OptionalAt (codes "standalone") IsStandalone alone space → space ≡ white ++ close →
    AllPass is_white white → IsFalse (begins_with is_white close) →
    MatchOption r ((x : List ℕ) → ¬ (close ≡ codes "?>" ++ x)) (λ behind. close ≡ codes "?>" ++ behind.now) →
    MatchOption r (NoDeclared bytes) (λ behind. DeclaredAt bytes behind.now)
declared_read bytes encoded alone space white close None version encoding standalone split passes stops none = λ behind at.
    let same = same_run is_white white at.declaration.space close (codes "?>" ++ behind) passes at.valid.space stops refl
    (sym split ∙ space_is bytes encoded alone space behind version encoding standalone at) in
    none behind same.1
declared_read bytes encoded alone space white close (Some behind) version encoding standalone split passes stops closes =
    let v = made_setting (codes "version") bytes version.value encoded version.set in
    let e = made_optional (codes "encoding") IsEncoding encoded alone encoding in
    let s = made_optional (codes "standalone") IsStandalone alone space standalone in
    let d : Declaration = record { version = v.0; encoding = e.0; standalone = s.0; space = white } in
    let close_is : space ≡ close_on d behind.now = split ∙ ap (λ z. white ++ z) closes in
    let alone_is : alone ≡ standalone_on d behind.now = s.2 ∙ ap (optional_on (codes "standalone") s.0) close_is in
    let encoded_is : encoded ≡ encoding_on d behind.now = e.2 ∙ ap (optional_on (codes "encoding") e.0) alone_is in
    let whole : bytes ≡ version_on d behind.now = v.3 ∙ ap (setting_on (codes "version") v.0) encoded_is in
    record {
      declaration = d;
      valid = record { version = (v.1, v.2 ∙ version.allowed); encoding = e.1; standalone = s.1; space = passes };
      printed = ap (λ z. codes "<?xml" ++ z) whole ∙ sym (declaration_parts d behind.now);
    }
