-- The head of a document is determined by the bytes that begin with it.
use Rattle.std.proofs.Common.{◌≡◌, ℕ, Bool, true, false, ◌||◌, not, ◌==◌, List, [], ◌∷◌, ◌++◌, get_or, drop, codes, Option, Some, None, refl, sym, ◌∙◌, ap, subst, append_assoc, arith, ◌⊎◌, inl, inr}
use Rattle.std.specs.Prelude.{IfSome}
use Rattle.std.specs.Char.{to_ascii_lowercase}
use Rattle.std.specs.List.{list_all}
use Rattle.std.specs.Str.{str_to_ascii_lowercase}
use Rattle.xml_spec.specs.Ascii.{equals_sign, quotation_mark, apostrophe}
use Rattle.xml_spec.specs.Bytes.{AllPass, begins_with}
use Rattle.xml_spec.specs.Syntax.{is_white, is_quote}
use Rattle.xml_spec.specs.Document.{Setting, print_setting, IsSetting, Declaration, print_optional, print_declaration, IsDeclaration}
use Rattle.xml_spec.proofs.Tests.{both_true, and_true}
use Rattle.xml_spec.proofs.Runs.{apart_at, same_run, equal_test}

-- parts of a setting and what follows it
abbrev pub value_on : Setting → List ℕ → List ℕ
value_on s x = s.value ++ (s.quote ∷ x)

abbrev pub right_on : Setting → List ℕ → List ℕ
right_on s x = s.right ++ (s.quote ∷ value_on s x)

abbrev pub left_on : Setting → List ℕ → List ℕ
left_on s x = s.left ++ (equals_sign ∷ right_on s x)

abbrev pub setting_on : List ℕ → Setting → List ℕ → List ℕ
setting_on name s x = s.before ++ (name ++ left_on s x)

pub setting_parts : (name : List ℕ) (s : Setting) (x : List ℕ) → print_setting name s ++ x ≡ setting_on name s x
setting_parts name s x = simp append_assoc

pub quote_not_white : (q : ℕ) → is_quote q ≡ true → is_white q ≡ false
quote_not_white q h = grind arith

-- a name of a setting: it begins with a letter, and what follows it is determined
pub record IsWord (name : List ℕ) : Type 0 where
  begins : (x : List ℕ) → begins_with is_white (name ++ x) ≡ false
  behind : (x y : List ℕ) → name ++ x ≡ name ++ y → x ≡ y

-- a byte of a value in these quotes
abbrev pub is_value_byte : ℕ → ℕ → Bool
is_value_byte quote b = not (b == quote)

pub quote_ends : (quote : ℕ) → is_value_byte quote quote ≡ false
quote_ends quote = ap not (equal_test quote)

pub record SameSetting (s t : Setting) (x y : List ℕ) : Type 0 where
  whole : s ≡ t
  after : x ≡ y

-- the value does not hold the quote, whichever of the two it is
abbrev pub HasNoQuote : List ℕ → Type 0
HasNoQuote value = (q : ℕ) → is_quote q ≡ true → AllPass (is_value_byte q) value

pub same_setting : (name : List ℕ) (s t : Setting) (x y : List ℕ) → IsWord name → IsSetting s → IsSetting t →
    HasNoQuote s.value → HasNoQuote t.value → setting_on name s x ≡ setting_on name t y → SameSetting s t x y
same_setting name s t x y w v u ns nt e =
    let before = same_run is_white s.before t.before (name ++ left_on s x) (name ++ left_on t y) v.before u.before
    (w.begins (left_on s x)) (w.begins (left_on t y)) e in
    let lefts : left_on s x ≡ left_on t y = w.behind (left_on s x) (left_on t y) before.1 in
    let left = same_run is_white s.left t.left (equals_sign ∷ right_on s x) (equals_sign ∷ right_on t y) v.left u.left refl refl lefts in
    let rights : right_on s x ≡ right_on t y = ap (drop 1) left.1 in
    let right = same_run is_white s.right t.right (s.quote ∷ value_on s x) (t.quote ∷ value_on t y) v.right u.right
    (quote_not_white s.quote v.quote) (quote_not_white t.quote u.quote) rights in
    let quotes : s.quote ≡ t.quote = ap (λ z. get_or z 0 0) right.1 in
    let values : value_on s x ≡ t.value ++ (s.quote ∷ y) =
    ap (drop 1) right.1 ∙ ap (λ q. t.value ++ (q ∷ y)) (sym quotes) in
    let value = same_run (is_value_byte s.quote) s.value t.value (s.quote ∷ x) (s.quote ∷ y) (ns s.quote v.quote) (nt s.quote v.quote)
    (quote_ends s.quote) (quote_ends s.quote) values in
    record {
      whole = λ i. record { before = before.0 i; left = left.0 i; right = right.0 i; quote = quotes i; value = value.0 i };
      after = ap (drop 1) value.1;
    }

-- the words that may stand as values hold no quote
pub either_quote : (P : ℕ → Bool) (q : ℕ) → is_quote q ≡ true → P quotation_mark ≡ true → P apostrophe ≡ true → P q ≡ true
either_quote P q h a b = which (q == quotation_mark) (q == apostrophe) refl refl h
  where
    which : (c d : Bool) → (q == quotation_mark) ≡ c → (q == apostrophe) ≡ d → (c || d) ≡ true → P q ≡ true
    which true d e f g = subst (λ n. P n ≡ true) (let same : quotation_mark ≡ q = grind arith in same) a
    which false true e f g = subst (λ n. P n ≡ true) (let same : apostrophe ≡ q = grind arith in same) b
    which false false e f g = absurd (let clash : false ≡ true = g in cc)

pub literal_has_none : (value word : List ℕ) → value ≡ word → list_all (is_value_byte quotation_mark) word ≡ true →
    list_all (is_value_byte apostrophe) word ≡ true → HasNoQuote value
literal_has_none value word e a b q h =
    subst (λ z. list_all (is_value_byte q) z ≡ true) (sym e) (either_quote (λ n. list_all (is_value_byte n) word) q h a b)

pub one_of_quotes_kept : (q : ℕ) → is_quote q ≡ true → (to_ascii_lowercase q == q) ≡ true
one_of_quotes_kept q h = either_quote (λ n. to_ascii_lowercase n == n) q h refl refl

pub lower_keeps : (b q : ℕ) → is_quote q ≡ true → is_value_byte q (to_ascii_lowercase b) ≡ true → is_value_byte q b ≡ true
lower_keeps b q h k = keeps (b == q) refl
  where
    keeps : (c : Bool) → (b == q) ≡ c → not c ≡ true
    keeps false e = refl
    keeps true e =
        let same : q ≡ b = grind arith in
        let kept : (to_ascii_lowercase b == q) ≡ true = subst (λ n. (to_ascii_lowercase n == q) ≡ true) same (one_of_quotes_kept q h) in
        absurd (let clash : not true ≡ true = subst (λ c. not c ≡ true) kept k in cc)

pub no_quote_of_lower : (q : ℕ) → is_quote q ≡ true → (value : List ℕ) →
    list_all (is_value_byte q) (str_to_ascii_lowercase value) ≡ true → list_all (is_value_byte q) value ≡ true
no_quote_of_lower q h [] k = refl
no_quote_of_lower q h (b ∷ value) k =
    and_true _ _ (lower_keeps b q h (both_true (is_value_byte q (to_ascii_lowercase b)) _ k).0)
    (no_quote_of_lower q h value (both_true (is_value_byte q (to_ascii_lowercase b)) _ k).1)

pub encoding_has_none : (value : List ℕ) → str_to_ascii_lowercase value ≡ codes "utf-8" → HasNoQuote value
encoding_has_none value e q h = no_quote_of_lower q h value (literal_has_none (str_to_ascii_lowercase value) (codes "utf-8") e refl refl q h)

pub standalone_has_none : (value : List ℕ) → (value ≡ codes "yes") ⊎ (value ≡ codes "no") → HasNoQuote value
standalone_has_none value h =
    elim h [ inl e ↦ literal_has_none value (codes "yes") e refl refl | inr e ↦ literal_has_none value (codes "no") e refl refl ]

-- a setting or none, and what follows
abbrev pub optional_on : List ℕ → Option Setting → List ℕ → List ℕ
optional_on name None x = x
optional_on name (Some s) x = setting_on name s x

pub optional_parts : (name : List ℕ) (o : Option Setting) (x : List ℕ) → print_optional name o ++ x ≡ optional_on name o x
optional_parts name None x = refl
optional_parts name (Some s) x = setting_parts name s x

abbrev pub close_on : Declaration → List ℕ → List ℕ
close_on d x = d.space ++ (codes "?>" ++ x)

abbrev pub standalone_on : Declaration → List ℕ → List ℕ
standalone_on d x = optional_on (codes "standalone") d.standalone (close_on d x)

abbrev pub encoding_on : Declaration → List ℕ → List ℕ
encoding_on d x = optional_on (codes "encoding") d.encoding (standalone_on d x)

abbrev pub version_on : Declaration → List ℕ → List ℕ
version_on d x = setting_on (codes "version") d.version (encoding_on d x)

pub regroup_six : (a b c d e f x : List ℕ) → (a ++ b ++ c ++ d ++ e ++ f) ++ x ≡ a ++ (b ++ (c ++ (d ++ (e ++ (f ++ x)))))
regroup_six a b c d e f x = simp append_assoc

pub declaration_parts : (d : Declaration) (x : List ℕ) → print_declaration d ++ x ≡ codes "<?xml" ++ version_on d x
declaration_parts d x =
    regroup_six (codes "<?xml") (print_setting (codes "version") d.version) (print_optional (codes "encoding") d.encoding)
    (print_optional (codes "standalone") d.standalone) d.space (codes "?>") x
    ∙ ap (λ z. codes "<?xml" ++ z) (setting_parts (codes "version") d.version _
    ∙ ap (setting_on (codes "version") d.version) (optional_parts (codes "encoding") d.encoding _
    ∙ ap (optional_on (codes "encoding") d.encoding) (optional_parts (codes "standalone") d.standalone (close_on d x))))

pub version_word : IsWord (codes "version")
version_word = record { begins = λ x. refl; behind = λ x y e. ap (drop 7) e }

pub encoding_word : IsWord (codes "encoding")
encoding_word = record { begins = λ x. refl; behind = λ x y e. ap (drop 8) e }

pub standalone_word : IsWord (codes "standalone")
standalone_word = record { begins = λ x. refl; behind = λ x y e. ap (drop 10) e }

-- two words behind white space that differ in the first byte
pub differ : (ws vs x y : List ℕ) → AllPass is_white ws → AllPass is_white vs → begins_with is_white x ≡ false → begins_with is_white y ≡ false →
    (get_or x 0 0 == get_or y 0 0) ≡ false → ws ++ x ≡ vs ++ y → ⊥
differ ws vs x y hw hv hx hy no_match e = apart_at 0 x y no_match (same_run is_white ws vs x y hw hv hx hy e).1

-- two readings of a setting that may be left out
pub record SameOptional (o p : Option Setting) (x y : List ℕ) : Type 0 where
  whole : o ≡ p
  after : x ≡ y

pub same_standalone : (o p : Option Setting) (ws vs x y : List ℕ) →
    IfSome o (λ s. IsSetting s × ((s.value ≡ codes "yes") ⊎ (s.value ≡ codes "no"))) →
    IfSome p (λ s. IsSetting s × ((s.value ≡ codes "yes") ⊎ (s.value ≡ codes "no"))) →
    AllPass is_white ws → AllPass is_white vs →
    optional_on (codes "standalone") o (ws ++ (codes "?>" ++ x)) ≡ optional_on (codes "standalone") p (vs ++ (codes "?>" ++ y)) →
    SameOptional o p (ws ++ (codes "?>" ++ x)) (vs ++ (codes "?>" ++ y))
same_standalone None None ws vs x y ho hp hw hv e = record { whole = refl; after = e }
same_standalone None (Some s) ws vs x y ho hp hw hv e =
    absurd (differ ws s.before (codes "?>" ++ x) (codes "standalone" ++ left_on s (vs ++ (codes "?>" ++ y))) hw hp.0.before refl refl refl e)
same_standalone (Some s) None ws vs x y ho hp hw hv e =
    absurd (differ s.before vs (codes "standalone" ++ left_on s (ws ++ (codes "?>" ++ x))) (codes "?>" ++ y) ho.0.before hv refl refl refl e)
same_standalone (Some s) (Some t) ws vs x y ho hp hw hv e =
    let same = same_setting (codes "standalone") s t (ws ++ (codes "?>" ++ x)) (vs ++ (codes "?>" ++ y)) standalone_word ho.0 hp.0
    (standalone_has_none s.value ho.1) (standalone_has_none t.value hp.1) e in
    record { whole = λ i. Some (same.whole i); after = same.after }

-- what follows the encoding does not begin as one
pub no_encoding : (o : Option Setting) (s : Setting) (ws x y : List ℕ) →
    IfSome o (λ t. IsSetting t × ((t.value ≡ codes "yes") ⊎ (t.value ≡ codes "no"))) → IsSetting s → AllPass is_white ws →
    optional_on (codes "standalone") o (ws ++ (codes "?>" ++ x)) ≡ setting_on (codes "encoding") s y → ⊥
no_encoding None s ws x y ho v hw e = differ ws s.before (codes "?>" ++ x) (codes "encoding" ++ left_on s y) hw v.before refl refl refl e
no_encoding (Some t) s ws x y ho v hw e =
    differ t.before s.before (codes "standalone" ++ left_on t (ws ++ (codes "?>" ++ x))) (codes "encoding" ++ left_on s y) ho.0.before v.before refl refl refl e

pub same_encoding : (o p : Option Setting) (d f : Declaration) (x y : List ℕ) → IsDeclaration d → IsDeclaration f →
    IfSome o (λ s. IsSetting s × (str_to_ascii_lowercase s.value ≡ codes "utf-8")) →
    IfSome p (λ s. IsSetting s × (str_to_ascii_lowercase s.value ≡ codes "utf-8")) →
    optional_on (codes "encoding") o (standalone_on d x) ≡ optional_on (codes "encoding") p (standalone_on f y) →
    SameOptional o p (standalone_on d x) (standalone_on f y)
same_encoding None None d f x y v u ho hp e = record { whole = refl; after = e }
same_encoding None (Some s) d f x y v u ho hp e = absurd (no_encoding d.standalone s d.space x (standalone_on f y) v.standalone hp.0 v.space e)
same_encoding (Some s) None d f x y v u ho hp e = absurd (no_encoding f.standalone s f.space y (standalone_on d x) u.standalone ho.0 u.space (sym e))
same_encoding (Some s) (Some t) d f x y v u ho hp e =
    let same = same_setting (codes "encoding") s t (standalone_on d x) (standalone_on f y) encoding_word ho.0 hp.0
    (encoding_has_none s.value ho.1) (encoding_has_none t.value hp.1) e in
    record { whole = λ i. Some (same.whole i); after = same.after }

-- two readings of a declaration
pub record SameDeclaration (d f : Declaration) (x y : List ℕ) : Type 0 where
  pub whole : d ≡ f
  pub behind : x ≡ y

pub same_declaration : (d f : Declaration) (x y : List ℕ) → IsDeclaration d → IsDeclaration f →
    print_declaration d ++ x ≡ print_declaration f ++ y → SameDeclaration d f x y
same_declaration d f x y v u e =
    let inner : version_on d x ≡ version_on f y = ap (drop 5) (sym (declaration_parts d x) ∙ e ∙ declaration_parts f y) in
    let version = same_setting (codes "version") d.version f.version (encoding_on d x) (encoding_on f y) version_word v.version.0 u.version.0
    (literal_has_none d.version.value (codes "1.0") v.version.1 refl refl) (literal_has_none f.version.value (codes "1.0") u.version.1 refl refl) inner in
    let encoding = same_encoding d.encoding f.encoding d f x y v u v.encoding u.encoding version.after in
    let standalone = same_standalone d.standalone f.standalone d.space f.space x y v.standalone u.standalone v.space u.space encoding.after in
    let close = same_run is_white d.space f.space (codes "?>" ++ x) (codes "?>" ++ y) v.space u.space refl refl standalone.after in
    record {
      whole = λ i. record { version = version.whole i; encoding = encoding.whole i; standalone = standalone.whole i; space = close.0 i };
      behind = ap (drop 2) close.1;
    }
