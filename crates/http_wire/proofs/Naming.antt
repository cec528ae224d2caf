-- The values of lines of one name, and texts.
use Rattle.std.proofs.Common.{◌≡◌, ℕ, ◌+◌, ◌<◌, Bool, true, false, cond, List, [], ◌∷◌, ◌++◌, length, take, get_or, map, filter, nat_lt, Option, Some, None, IfSome, is_some, refl, sym, ap, ◌∙◌, arith, append-nil}
use Rattle.std.specs.Option.{option_map, option_or}
use Rattle.std.specs.Str.{IsUtf8, is_utf8, str_to_ascii_lowercase, bytes_eq}
use Rattle.std.proofs.lemmas.List.{take_more, map-append}
use Rattle.std.proofs.lemmas.List.Elements.{filter-append}
use Rattle.std.proofs.lemmas.Bool.Decides.{nat_tests}
use Rattle.std.proofs.lemmas.Str.{IsUtf8-from_is_utf8, is_utf8-from_IsUtf8}
use lib.Pointwise.{bytes_decides}
use Rattle.http_wire.specs.Lines.{Line, is_named, values, first_of, text_of}

pub is_text : (value text : List ℕ) → text ≡ value → IsUtf8 value → Some text ≡ text_of value
is_text value text same valid = ap Some same ∙ sym (ap (λ t. cond t (Some value) None) (is_utf8-from_IsUtf8 value valid))

pub is_no_text : (value : List ℕ) → ¬ (IsUtf8 value) → None ≡ text_of value
is_no_text value invalid = sym (by_test (is_utf8 value) refl)
  where
    by_test : (t : Bool) → t ≡ is_utf8 value → cond t (Some value) None ≡ None
    by_test true h = absurd (invalid (IsUtf8-from_is_utf8 value (sym h)))
    by_test false h = refl

-- ---- one line more

-- the value of a line, where it has the name
abbrev pub value_if : Bool → Line → List (List ℕ)
value_if true line = line.1 ∷ []
value_if false line = []

one_value : (name : List ℕ) (line : Line) (t : Bool) → is_named name line ≡ t → values name (line ∷ []) ≡ value_if t line
one_value name line true named = ap (λ t. map (λ (l : Line). l.1) (cond t (line ∷ []) [])) named
one_value name line false named = ap (λ t. map (λ (l : Line). l.1) (cond t (line ∷ []) [])) named

values_more : {H : Type 0} (name : List ℕ) (read : H → Line) (lines : List H) (i : ℕ) (d : H) (t : Bool) → i < length lines → is_named name (read (get_or lines i d)) ≡ t →
    values name (map read (take (i + 1) lines)) ≡ values name (map read (take i lines)) ++ value_if t (read (get_or lines i d))
values_more name read lines i d t within named =
    let line = read (get_or lines i d) in
    ap (λ ls. values name (map read ls)) (take_more lines i d within)
    ∙ ap (values name) (map-append read (take i lines) (get_or lines i d ∷ []))
    ∙ ap (map (λ (l : Line). l.1)) (filter-append (is_named name) (map read (take i lines)) (line ∷ []))
    ∙ map-append (λ (l : Line). l.1) (filter (is_named name) (map read (take i lines))) (filter (is_named name) (line ∷ []))
    ∙ ap (λ vs. values name (map read (take i lines)) ++ vs) (one_value name line t named)

-- a name is the one of a line where both are the same in lower case
pub named : (name : List ℕ) (line : Line) → str_to_ascii_lowercase line.0 ≡ str_to_ascii_lowercase name → is_named name line ≡ true
named name line same = (bytes_decides (str_to_ascii_lowercase line.0) (str_to_ascii_lowercase name)).1 same

pub not_named : (name : List ℕ) (line : Line) → ¬ (str_to_ascii_lowercase line.0 ≡ str_to_ascii_lowercase name) → is_named name line ≡ false
not_named name line other = by_test (is_named name line) refl
  where
    by_test : (t : Bool) → is_named name line ≡ t → t ≡ false
    by_test true h = absurd (other ((bytes_decides (str_to_ascii_lowercase line.0) (str_to_ascii_lowercase name)).0 h))
    by_test false h = refl

-- what is kept of values
record AreKept (one : Option (List ℕ)) (others : Bool) (values : List (List ℕ)) : Type 0 where
  pub first : one ≡ first_of values
  pub repeated : others ≡ nat_lt 1 (length values)

kept_more : (vs : List (List ℕ)) (v : List ℕ) → AreKept (option_or (first_of vs) (Some v)) (is_some (first_of vs)) (vs ++ v ∷ [])
kept_more [] v = record { first = refl; repeated = refl }
kept_more (w ∷ vs) v = record { first = refl; repeated = more (vs ++ v ∷ []) (some vs) }
  where
    some : (vs : List (List ℕ)) → 0 < length (vs ++ v ∷ [])
    some [] = omega arith
    some (w ∷ vs) = omega arith

    more : (us : List (List ℕ)) → 0 < length us → true ≡ nat_lt 1 (length (w ∷ us))
    more us h = grind (arith, nat_tests)

same_or : {V : Type 0} (text : V → List ℕ) (first : Option V) (value : V) → option_map text (option_or first (Some value)) ≡ option_or (option_map text first) (Some (text value))
same_or text None value = refl
same_or text (Some first) value = refl

same_some : {X Y : Type 0} (f : X → Y) (o : Option X) → is_some o ≡ is_some (option_map f o)
same_some f None = refl
same_some f (Some x) = refl

pub kept_with : {H V : Type 0} (name : List ℕ) (read : H → Line) (text : V → List ℕ) (lines : List H) (i : ℕ) (d : H) (first first' : Option V) (repeated : Bool) (value : V) →
    i < length lines → is_named name (read (get_or lines i d)) ≡ true → option_map text first ≡ first_of (values name (map read (take i lines)))
    → text value ≡ (read (get_or lines i d)).1 → first' ≡ option_or first (Some value) → repeated ≡ is_some first →
    (option_map text first' ≡ first_of (values name (map read (take (i + 1) lines)))) × (repeated ≡ nat_lt 1 (length (values name (map read (take (i + 1) lines)))))
kept_with name read text lines i d first first' repeated value within named kept is_value is_first is_repeated =
    let line = read (get_or lines i d) in
    let vs = values name (map read (take i lines)) in
    let all = values_more name read lines i d true within named in
    let more = kept_more vs line.1 in (
      ap (option_map text) is_first ∙ same_or text first value ∙ (λ k. option_or (kept k) (Some (is_value k))) ∙ more.first ∙ ap first_of (sym all),
      is_repeated ∙ same_some text first ∙ ap is_some kept ∙ more.repeated ∙ ap (λ us. nat_lt 1 (length us)) (sym all),
    )

pub kept_without : {H V : Type 0} (name : List ℕ) (read : H → Line) (text : V → List ℕ) (lines : List H) (i : ℕ) (d : H) (first first' : Option V) (repeated repeated' : Bool) →
    i < length lines → is_named name (read (get_or lines i d)) ≡ false → option_map text first ≡ first_of (values name (map read (take i lines)))
    → repeated ≡ nat_lt 1 (length (values name (map read (take i lines)))) → first' ≡ first → repeated' ≡ repeated →
    (option_map text first' ≡ first_of (values name (map read (take (i + 1) lines)))) × (repeated' ≡ nat_lt 1 (length (values name (map read (take (i + 1) lines)))))
kept_without name read text lines i d first first' repeated repeated' within named kept was is_first is_repeated =
    let vs = values name (map read (take i lines)) in
    let all = values_more name read lines i d false within named ∙ append-nil vs in (
      ap (option_map text) is_first ∙ kept ∙ ap first_of (sym all),
      is_repeated ∙ was ∙ ap (λ us. nat_lt 1 (length us)) (sym all),
    )

-- the first value that is kept lies where values lie
pub first_within : {V : Type 0} (P : V → Type 0) (first : Option V) (value : V) → IfSome first P → P value → IfSome (option_or first (Some value)) P
first_within P None value was is = is
first_within P (Some first) value was is = was

pub false_true : {t : Bool} → t ≡ false → t ≡ true → ⊥
false_true f t = cc

-- a test that is true just where two texts are the same
pub same_test : (t : Bool) (xs ys : List ℕ) → (t ≡ true → xs ≡ ys) → (xs ≡ ys → t ≡ true) → t ≡ bytes_eq xs ys
same_test true xs ys same own = sym ((bytes_decides xs ys).1 (same refl))
same_test false xs ys same own = by_test (bytes_eq xs ys) refl
  where
    by_test : (u : Bool) → bytes_eq xs ys ≡ u → false ≡ bytes_eq xs ys
    by_test true h = own ((bytes_decides xs ys).0 h) ∙ sym h
    by_test false h = sym h
