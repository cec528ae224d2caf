-- What is found at the places of a key.
use Rattle.std.proofs.Common.{◌≡◌, ℕ, zero, suc, ◌+◌, ◌<◌, ◌≤◌, Bool, true, false, not, ◌&&◌, List, [], ◌∷◌, map, length, slice_index, get_or, Some, None, sym, refl, ap, ◌∙◌, subst, inl, inr, arith, add-one}
use Rattle.std.specs.List.{find, list_any}
use Rattle.std.specs.List.Sorted.{IsStrictlyIncreasing}
use Rattle.std.proofs.lemmas.Bool.{cases_lt, false_from_ne_true, and_parts}
use Rattle.std.proofs.lemmas.Slice.Eq.{bytes_eq-Decides}
use Rattle.std.specs.Str.{bytes_eq}
use Rattle.std.proofs.lemmas.Grind.{get_or_default_zero}
use Rattle.std.proofs.lemmas.List.{get_or-map, length-map, get_or_default}
use Rattle.std.proofs.lemmas.List.Folds.{list_any_at, list_any_none}
use Rattle.std.proofs.lemmas.List.Recursion.{found_at, found_nowhere}
use Rattle.request_rows.specs.Rows.{visible}
use Rattle.request_rows.specs.declared.row.AskedRow.{AskedRow}
use Rattle.request_rows.specs.declared.row.OpenedRow.{OpenedRow}
use Rattle.ledger_rules.specs.Order.{KeyTexts, key_at, one_text}
use Rattle.request_rows.specs.Indexed.{ArePlacesOf}

-- a test that passes just the rows of a key that are shown
pub record Tests {X : Type 0} (key_of : X → KeyTexts) (key : KeyTexts) (shown test : X → Bool) : Type 0 where
  pub is_of_key : (x : X) → test x ≡ true → key_of x ≡ key
  pub is_shown : (x : X) → key_of x ≡ key → test x ≡ shown x

-- none of the first j rows of the key is shown
abbrev pub NoneShown : {X : Type 0} → (X → Bool) → List X → List ℕ → ℕ → Type 0
NoneShown {X} shown rows places j = (i : ℕ) (d : X) → i < j → shown (get_or rows (slice_index places i) d) ≡ false

pub rises : (xs : List ℕ) → IsStrictlyIncreasing xs → (i j : ℕ) → i ≤ j → j < length xs → slice_index xs i ≤ slice_index xs j
rises xs up i zero less within = let e : i ≡ zero = omega arith in subst (λ m. slice_index xs m ≤ slice_index xs zero) (sym e) (omega arith)
rises xs up i (suc n) less within =
    let last : slice_index xs n < slice_index xs (suc n) =
    subst (λ m. slice_index xs n < slice_index xs m) (add-one n) (up n (omega arith)) in
    elim (cases_lt n i) [
      | inl lower ↦ let e : i ≡ suc n = omega arith in subst (λ m. slice_index xs m ≤ slice_index xs (suc n)) (sym e) (omega arith)
      | inr upper ↦ let more = rises xs up i n upper (omega arith) in omega (arith, more, last)
    ]

-- a row that passes the test stands behind the first j of its key
pub passes_behind : {X : Type 0} (key_of : X → KeyTexts) (key : KeyTexts) (shown test : X → Bool) → Tests key_of key shown test
    → (rows : List X) (places : List ℕ) → ArePlacesOf (map key_of rows) key places → (j : ℕ) → NoneShown shown rows places j
    → (k : ℕ) (d : X) → k < length rows → test (get_or rows k d) ≡ true
    → (m : ℕ) × (j ≤ m) × (m < length places) × (slice_index places m ≡ k)
passes_behind key_of key shown test tests rows places a j none k d within passes =
    let size = length-map rows key_of in
    let same = tests.is_of_key (get_or rows k d) passes in
    let there = a.complete k (omega (arith, size)) (get_or-map key_of rows k d (one_text []) within ∙ same) in
    let m = there.0 in
    let read : slice_index places m ≡ k = sym (get_or_default_zero places m k there.1) ∙ there.2 in (
      m,
      elim (cases_lt m j) [
        | inl lower ↦
            let hidden = none m d lower in
            let wrong : true ≡ false =
            sym passes ∙ tests.is_shown (get_or rows k d) same ∙ ap (λ p. shown (get_or rows p d)) (sym read) ∙ hidden in
            absurd (cc)
        | inr upper ↦ upper
      ],
      there.1,
      read,
    )

pub found_first : {X : Type 0} (key_of : X → KeyTexts) (key : KeyTexts) (shown test : X → Bool) → Tests key_of key shown test
    → (rows : List X) (places : List ℕ) → ArePlacesOf (map key_of rows) key places → (j : ℕ) → NoneShown shown rows places j
    → (p : ℕ) (d : X) → j < length places → p ≡ slice_index places j → shown (get_or rows p d) ≡ true
    → (p < length rows) × (test (get_or rows p d) ≡ true) × ((k : ℕ) → k < p → test (get_or rows k d) ≡ false)
found_first key_of key shown test tests rows places a j none p d within read shows =
    let size = length-map rows key_of in
    let sound = a.sound j 0 within in
    let below : p < length rows = omega (arith, size, read, sound.0) in
    let of_key : key_of (get_or rows p d) ≡ key =
    sym (get_or-map key_of rows p d (one_text []) below) ∙ ap (key_at (map key_of rows)) read ∙ sound.1 in (
      below,
      tests.is_shown (get_or rows p d) of_key ∙ shows,
      λ k lower. false_from_ne_true (test (get_or rows k d)) (λ passes.
          let behind = passes_behind key_of key shown test tests rows places a j none k d (omega arith) passes in
          let more = rises places a.ascends j behind.0 behind.1 behind.2 in
          let back = behind.3 in
          absurd (omega (arith, more, back, read))),
    )

pub passes_nowhere : {X : Type 0} (key_of : X → KeyTexts) (key : KeyTexts) (shown test : X → Bool) → Tests key_of key shown test
    → (rows : List X) (places : List ℕ) → ArePlacesOf (map key_of rows) key places → (j : ℕ) → NoneShown shown rows places j → length places ≤ j
    → (k : ℕ) (d : X) → k < length rows → test (get_or rows k d) ≡ false
passes_nowhere key_of key shown test tests rows places a j none all k d within =
    false_from_ne_true (test (get_or rows k d)) (λ passes.
    let behind = passes_behind key_of key shown test tests rows places a j none k d within passes in
    absurd (omega (arith, behind.1, behind.2, all)))

pub is_found : {X : Type 0} (key_of : X → KeyTexts) (key : KeyTexts) (shown test : X → Bool) → Tests key_of key shown test
    → (rows : List X) (places : List ℕ) → ArePlacesOf (map key_of rows) key places → (j : ℕ) → NoneShown shown rows places j
    → j < length places → (row : X) → row ≡ get_or rows (slice_index places j) row → shown row ≡ true
    → find test rows ≡ Some row
is_found key_of key shown test tests rows places a j none within row read shows =
    let p = slice_index places j in
    let first = found_first key_of key shown test tests rows places a j none p row within refl (ap shown (sym read) ∙ shows) in
    found_at (find test) test Some None refl (λ _ _. refl) rows p row first.0 first.2 first.1 ∙ ap Some (sym read)

pub is_nowhere : {X : Type 0} (key_of : X → KeyTexts) (key : KeyTexts) (shown test : X → Bool) → Tests key_of key shown test
    → (rows : List X) (places : List ℕ) → ArePlacesOf (map key_of rows) key places → (j : ℕ) → NoneShown shown rows places j → length places ≤ j
    → find test rows ≡ None
is_nowhere key_of key shown test tests [] places a j none all = refl
is_nowhere key_of key shown test tests (x ∷ xs) places a j none all =
    found_nowhere (find test) test Some None refl (λ _ _. refl) (x ∷ xs) x
    (λ k within. passes_nowhere key_of key shown test tests (x ∷ xs) places a j none all k x within)

pub is_any : {X : Type 0} (key_of : X → KeyTexts) (key : KeyTexts) (shown test : X → Bool) → Tests key_of key shown test
    → (rows : List X) (places : List ℕ) → ArePlacesOf (map key_of rows) key places → (j : ℕ) → NoneShown shown rows places j
    → j < length places → (row : X) → row ≡ get_or rows (slice_index places j) row → shown row ≡ true
    → list_any test rows ≡ true
is_any key_of key shown test tests rows places a j none within row read shows =
    let p = slice_index places j in
    let first = found_first key_of key shown test tests rows places a j none p row within refl (ap shown (sym read) ∙ shows) in
    list_any_at test rows p row first.0 first.1

pub is_none : {X : Type 0} (key_of : X → KeyTexts) (key : KeyTexts) (shown test : X → Bool) → Tests key_of key shown test
    → (rows : List X) (places : List ℕ) → ArePlacesOf (map key_of rows) key places → (j : ℕ) → NoneShown shown rows places j → length places ≤ j
    → list_any test rows ≡ false
is_none key_of key shown test tests rows places a j none all =
    list_any_none test rows (λ k d within. passes_nowhere key_of key shown test tests rows places a j none all k d within)

-- one more that is not shown
pub none_more : {X : Type 0} (key_of : X → KeyTexts) (key : KeyTexts) (shown : X → Bool)
    → (rows : List X) (places : List ℕ) → ArePlacesOf (map key_of rows) key places → (j : ℕ) → NoneShown shown rows places j
    → j < length places → (row : X) → row ≡ get_or rows (slice_index places j) row → shown row ≡ false
    → NoneShown shown rows places (j + 1)
none_more key_of key shown rows places a j none within row read hidden i d less =
    elim (cases_lt i j) [
      | inl lower ↦ none i d lower
      | inr upper ↦
          let same : i ≡ j = omega arith in
          let size = length-map rows key_of in
          let sound = a.sound j 0 within in
          ap (λ m. shown (get_or rows (slice_index places m) d)) same
          ∙ ap shown (get_or_default rows (slice_index places j) d row (omega (arith, size, sound.0)))
          ∙ ap shown (sym read) ∙ hidden
    ]

-- the tests of the look-ups
pub asked_tests : (request : List ℕ) (now horizon : ℕ)
    → Tests {X = AskedRow} (λ row. one_text row.request) (one_text request) (λ row. visible row.until now horizon)
    (λ row. bytes_eq row.request request && visible row.until now horizon)
asked_tests request now horizon =
    record {
      is_of_key = λ row passes.
          ap one_text ((bytes_eq-Decides row.request request).0 (and_parts (bytes_eq row.request request) (visible row.until now horizon) passes).0);
      is_shown = λ row same. ap (λ b. b && visible row.until now horizon) ((bytes_eq-Decides row.request request).1 (ap (λ (k : KeyTexts). k.first) same));
    }

pub spent_tests : (request : List ℕ)
    → Tests {X = OpenedRow} (λ row. one_text row.request) (one_text request) (λ _. true) (λ row. bytes_eq row.request request)
spent_tests request =
    record {
      is_of_key = λ row passes. ap one_text ((bytes_eq-Decides row.request request).0 passes);
      is_shown = λ row same. (bytes_eq-Decides row.request request).1 (ap (λ (k : KeyTexts). k.first) same);
    }

pub seen_tests : (issuer assertion : List ℕ) (now horizon : ℕ)
    → Tests {X = OpenedRow} (λ row. record { first = row.issuer; second = row.assertion }) (record { first = issuer; second = assertion })
    (λ row. visible row.assertion_until now horizon)
    (λ row. bytes_eq row.issuer issuer && bytes_eq row.assertion assertion && visible row.assertion_until now horizon)
seen_tests issuer assertion now horizon =
    record {
      is_of_key = λ row passes.
          let both = and_parts (bytes_eq row.issuer issuer && bytes_eq row.assertion assertion) (visible row.assertion_until now horizon) passes in
          let texts = and_parts (bytes_eq row.issuer issuer) (bytes_eq row.assertion assertion) both.0 in
          let first = (bytes_eq-Decides row.issuer issuer).0 texts.0 in
          let second = (bytes_eq-Decides row.assertion assertion).0 texts.1 in
          λ i. record { first = first i; second = second i };
      is_shown = λ row same.
          ap (λ b. b && bytes_eq row.assertion assertion && visible row.assertion_until now horizon)
          ((bytes_eq-Decides row.issuer issuer).1 (ap (λ (k : KeyTexts). k.first) same))
          ∙ ap (λ b. b && visible row.assertion_until now horizon)
          ((bytes_eq-Decides row.assertion assertion).1 (ap (λ (k : KeyTexts). k.second) same));
    }

pub session_tests : (token : List ℕ) (now horizon : ℕ)
    → Tests {X = OpenedRow} (λ row. one_text row.token) (one_text token) (λ row. not row.closed && visible row.until now horizon)
    (λ row. bytes_eq row.token token && not row.closed && visible row.until now horizon)
session_tests token now horizon =
    record {
      is_of_key = λ row passes.
          let both = and_parts (bytes_eq row.token token && not row.closed) (visible row.until now horizon) passes in
          ap one_text ((bytes_eq-Decides row.token token).0 (and_parts (bytes_eq row.token token) (not row.closed) both.0).0);
      is_shown = λ row same.
          ap (λ b. b && not row.closed && visible row.until now horizon)
          ((bytes_eq-Decides row.token token).1 (ap (λ (k : KeyTexts). k.first) same));
    }
