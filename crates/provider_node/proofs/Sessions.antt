-- Rows that are found by a key until a moment, unless they are shut: none that is shut is found.
use Rattle.std.specs.Prelude.{Contains, IsSome, Option, None, Some, filter, slice_get}
use Rattle.std.proofs.Common.{◌≡◌, inl, inr, ℕ, suc, ◌<◌, max, Bool, true, false, cond, ◌&&◌, ◌||◌, not, nat_lt, List}
use Rattle.std.proofs.Common.{[], ◌∷◌, ◌++◌, map, sym, subst, refl, ap, ◌∙◌, arith}
use Rattle.std.specs.List.{find, list_all, list_any}
use Rattle.std.specs.Option.{option_and_then}
use Rattle.std.specs.Str.{bytes_eq}
use Rattle.std.proofs.lemmas.Bool.{and_parts, false≢true, false_from_ne_true, lt-ltb, not-true, or_cases, or_left}
use Rattle.std.proofs.lemmas.Bool.{or_parts, or_right, true≢false}
use Rattle.std.proofs.lemmas.Grind.{common_steps}
use Rattle.std.proofs.lemmas.List.Folds.{list_any-append, list_any_at, list_any_none}
use Rattle.ledger_rules.specs.Texts.{is_among, is_empty}
use Rattle.ledger_rules.proofs.Passing.{any_more, found as any_of_found}
use Rattle.record_ledger.proofs.Words.{other_way, same_text, text_itself}

-- ---- lists

module _ {X : Type 0} where
  -- one is found where one passes, and none where none does
  found_any : (test : X → Bool) (xs : List X) → list_any test xs ≡ true → IsSome (find test xs)
  found_any test [] is = is
  found_any test (x ∷ xs) is = by_test (test x) is (found_any test xs)
    where
      by_test : (b : Bool) → (b || list_any test xs) ≡ true
          → (list_any test xs ≡ true → IsSome (find test xs)) → IsSome (cond b (Some x) (find test xs))
      by_test true is later = refl
      by_test false is later = later is

  found_by : (test : X → Bool) (xs : List X) (x : X) → Contains xs x → test x ≡ true → IsSome (find test xs)
  found_by test xs x (k, less, is) passes = found_any test xs (list_any_at test xs k x less (ap test is ∙ passes))

  none_any : (test : X → Bool) (xs : List X) → find test xs ≡ None → list_any test xs ≡ false
  none_any test xs is = false_from_ne_true
      (list_any test xs) (λ some. false≢true (subst (λ (o : Option X). IsSome o) is (found_any test xs some)))

  any_none : (test : X → Bool) (xs : List X) → list_any test xs ≡ false → find test xs ≡ None
  any_none test xs none = of_case (find test xs) (any_of_found test xs)
    where
      of_case : (o : Option X) → (IsSome o → list_any test xs ≡ true) → o ≡ None
      of_case None some = refl
      of_case (Some x) some = absurd (true≢false (sym (some refl) ∙ none))

  -- nor does one where each that passes passes another test, which none passes
  none_fewer : (test fewer : X → Bool) (xs : List X)
      → ((x : X) → fewer x ≡ true → test x ≡ true) → list_any test xs ≡ false → list_any fewer xs ≡ false
  none_fewer test fewer xs leads none =
      false_from_ne_true (list_any fewer xs) (λ some. true≢false (sym (any_more fewer test xs leads some) ∙ none))

  -- what passes among those that were made of others, or were chosen of them
  any_mapped : {Y : Type 0} (test : Y → Bool) (f : X → Y) (xs : List X)
      → list_any test (map f xs) ≡ list_any (λ x. test (f x)) xs
  any_mapped test f [] = refl
  any_mapped test f (x ∷ xs) = ap (λ (b : Bool). test (f x) || b) (any_mapped test f xs)

  any_chosen : (test chosen : X → Bool) (xs : List X)
      → list_any test (filter chosen xs) ≡ true → list_any test xs ≡ true
  any_chosen test chosen [] is = is
  any_chosen test chosen (x ∷ xs) is = by_choice (chosen x) is (any_chosen test chosen xs)
    where
      by_choice : (b : Bool) → list_any test (cond b (x ∷ filter chosen xs) (filter chosen xs)) ≡ true
          → (list_any test (filter chosen xs) ≡ true → list_any test xs ≡ true) → (test x || list_any test xs) ≡ true
      by_choice true is later = elim (or_cases (test x) (list_any test (filter chosen xs)) is) [
        | inl here ↦ or_left (test x) (list_any test xs) here
        | inr there ↦ or_right (test x) (list_any test xs) (later there)
      ]
      by_choice false is later = or_right (test x) (list_any test xs) (later is)

  -- where an element stands that is found, and that it passes
  pub found_at : (test : X → Bool) (xs : List X) (x : X)
      → find test xs ≡ Some x → (place : ℕ) × (slice_get xs place ≡ Some x) × (test x ≡ true)
  found_at test [] x is = absurd (cc)
  found_at test (y ∷ ys) x is = by_test (test y) refl is (λ later. found_at test ys x later)
    where
      by_test : (b : Bool) → test y ≡ b → cond b (Some y) (find test ys) ≡ Some x
          → (find test ys ≡ Some x → (place : ℕ) × (slice_get ys place ≡ Some x) × (test x ≡ true))
          → (place : ℕ) × (slice_get (y ∷ ys) place ≡ Some x) × (test x ≡ true)
      by_test true here some later = let same : y ≡ x = cc in (0, ap Some same, ap test (sym same) ∙ here)
      by_test false here none later = let rest = later none in (suc rest.0, rest.1, rest.2)

-- where a key is among some, there are some
-- what holds of all holds of one among them
pub all_among : (test : List ℕ → Bool) (texts : List (List ℕ)) (text : List ℕ) → list_all test texts ≡ true
    → is_among text texts ≡ true → test text ≡ true
all_among test [] text all among = absurd (false≢true among)
all_among test (first ∷ others) text all among =
    let both = and_parts (test first) (list_all test others) all in
    elim (or_cases (bytes_eq first text) (is_among text others) among) [
      | inl here ↦ subst (λ (t : List ℕ). test t ≡ true) (same_text first text here) both.0
      | inr there ↦ all_among test others text both.1 there
    ]

pub some_among : (key : List ℕ) (keys : List (List ℕ)) → is_among key keys ≡ true → is_empty keys ≡ true → ⊥
some_among key [] among none = let clash : false ≡ true = among in cc
some_among key (first ∷ others) among none = let clash : false ≡ true = none in cc

-- ---- one row

still_live : (a c f v : Bool) → (a && not (c || f) && v) ≡ true → (a && not c && v) ≡ true
still_live a c f v is = grind (arith, common_steps)

not_shut : (a c f v : Bool) → (a ≡ true → f ≡ false) → (a && not c && v) ≡ true → (a && not (c || f) && v) ≡ true
not_shut a c f v stays is = grind (arith, common_steps)

shut_now : (a c f : Bool) → (a ≡ true → f ≡ true) → (a && not (c || f)) ≡ false
shut_now a c f shuts = grind (arith, common_steps)

-- ---- rows

-- What is said of such rows: the key by which a row is found, whether it is shut, the moment until which it is found,
-- and the row as it is once it is shut, where it was before or is now.
pub record Sessions (S : Type 0) : Type 0 where
  pub key : S → List ℕ
  pub shut : S → Bool
  pub until : S → ℕ
  pub shut_if : Bool → S → S
  pub same_key : (now : Bool) (row : S) → key (shut_if now row) ≡ key row
  pub shut_then : (now : Bool) (row : S) → shut (shut_if now row) ≡ (shut row || now)
  pub same_until : (now : Bool) (row : S) → until (shut_if now row) ≡ until row

-- such rows, of which it is to be seen that being shut changes neither the key nor the moment
abbrev pub sessions_by : {S : Type 0} (key : S → List ℕ) (shut : S → Bool) (until : S → ℕ) (shut_if : Bool → S → S)
    → ((now : Bool) (row : S) → (key (shut_if now row) ≡ key row)
    × (shut (shut_if now row) ≡ (shut row || now)) × (until (shut_if now row) ≡ until row)) → Sessions S
sessions_by key shut until shut_if laws = record {
  key = key;
  shut = shut;
  until = until;
  shut_if = shut_if;
  same_key = λ now row. (laws now row).0;
  shut_then = λ now row. (laws now row).1;
  same_until = λ now row. (laws now row).2;
}

module _ {S : Type 0} (sessions : Sessions S) where
  -- a row is found by its key while it is not shut and has not ended
  abbrev pub lives : (key : List ℕ) (now horizon : ℕ) → S → Bool
  lives key now horizon row =
      bytes_eq (sessions.key row) key && not (sessions.shut row) && nat_lt (max now horizon) (sessions.until row)

  abbrev pub found : List S → (key : List ℕ) (now horizon : ℕ) → Option S
  found rows key now horizon = find (lives key now horizon) rows

  -- there is a row of a key, and one that is not shut
  abbrev pub is_there : List S → List ℕ → Bool
  is_there rows key = list_any (λ row. bytes_eq (sessions.key row) key) rows

  abbrev pub is_open : List S → List ℕ → Bool
  is_open rows key = list_any (λ row. bytes_eq (sessions.key row) key && not (sessions.shut row)) rows

  -- each row of which this holds is shut
  abbrev pub shut_where : (S → Bool) → List S → List S
  shut_where test rows = map (λ row. sessions.shut_if (test row) row) rows

  module _ (rows : List S) (key : List ℕ) where
    module _ (now horizon : ℕ) where
      abbrev live : S → Bool
      live = lives key now horizon

      -- none is found where none is open; nor behind one row more of another key, nor where rows are shut
      pub none_open : is_open rows key ≡ false → found rows key now horizon ≡ None
      none_open shut =
          any_none live rows (none_fewer (λ row. bytes_eq (sessions.key row) key && not (sessions.shut row)) live
          rows (λ row is. (and_parts (bytes_eq (sessions.key row) key && not (sessions.shut row)) _ is).0) shut)

      pub none_more : (row : S) → bytes_eq (sessions.key row) key ≡ false
          → found rows key now horizon ≡ None → found (rows ++ row ∷ []) key now horizon ≡ None
      none_more row other none =
          any_none live (rows ++ row ∷ []) (list_any-append live rows (row ∷ []) ∙ (λ i. none_any live rows
          none i || (other i && not (sessions.shut row) && nat_lt (max now horizon) (sessions.until row) || false)))

      shut_any : (test : S → Bool) → list_any live (shut_where test rows) ≡ list_any (λ row. bytes_eq (sessions.key row)
          key && not (sessions.shut row || test row) && nat_lt (max now horizon) (sessions.until row)) rows
      shut_any test = any_mapped live (λ row. sessions.shut_if (test row) row) rows
          ∙ (λ i. list_any (λ (row : S). bytes_eq (sessions.same_key (test row) row i) key && not (sessions.shut_then
          (test row) row i) && nat_lt (max now horizon) (sessions.same_until (test row) row i)) rows)

      pub none_shut : (test : S → Bool)
          → found rows key now horizon ≡ None → found (shut_where test rows) key now horizon ≡ None
      none_shut test none = any_none live (shut_where test rows) (shut_any test ∙ none_fewer live _ rows (λ row is.
          still_live (bytes_eq (sessions.key row) key) (sessions.shut row) (test row) _ is) (none_any live rows none))

      -- none was found where no row of that key was shut, nor in front of others
      pub none_before : (test : S → Bool) → ((row : S) → bytes_eq (sessions.key row) key ≡ true → test row ≡ false)
          → found (shut_where test rows) key now horizon ≡ None → found rows key now horizon ≡ None
      none_before test stays none = any_none live rows
          (none_fewer _ live rows (λ row is. not_shut (bytes_eq (sessions.key row) key) (sessions.shut row)
          (test row) _ (stays row) is) (sym (shut_any test) ∙ none_any live (shut_where test rows) none))

      pub none_in_front : (more : List S)
          → found (rows ++ more) key now horizon ≡ None → found rows key now horizon ≡ None
      none_in_front more none = any_none live rows (or_parts (list_any live rows)
          (list_any live more) (sym (list_any-append live rows more) ∙ none_any live (rows ++ more) none)).0

      -- what is found depends on the larger of the moment and the horizon alone
      pub at_moment : (other : ℕ)
          → max now horizon ≡ max other horizon → found rows key now horizon ≡ found rows key other horizon
      at_moment other same = ap (λ (m : ℕ). find (λ (row : S).
          bytes_eq (sessions.key row) key && not (sessions.shut row) && nat_lt m (sessions.until row)) rows) same

    -- where rows are shut, there are the same
    pub keys_stay : (test : S → Bool) → is_there (shut_where test rows) key ≡ is_there rows key
    keys_stay test = any_mapped (λ row. bytes_eq (sessions.key row) key) (λ row. sessions.shut_if (test row) row) rows
        ∙ (λ i. list_any (λ (row : S). bytes_eq (sessions.same_key (test row) row i) key) rows)

    shut_all : (test : S → Bool) → ((row : S) → bytes_eq (sessions.key row) key ≡ true → test row ≡ true)
        → is_open (shut_where test rows) key ≡ false
    shut_all test shuts = any_mapped (λ row. bytes_eq (sessions.key row) key && not (sessions.shut row))
        (λ row. sessions.shut_if (test row) row) rows ∙ (λ i. list_any (λ (row : S). bytes_eq (sessions.same_key
        (test row) row i) key && not (sessions.shut_then (test row) row i)) rows) ∙ list_any_none (λ (row : S). bytes_eq
        (sessions.key row) key && not (sessions.shut row || test row)) rows (λ k d inside. shut_now _ _ _ (shuts _))

    pub open_there : is_open rows key ≡ true → is_there rows key ≡ true
    open_there some = any_more (λ row. bytes_eq (sessions.key row) key && not (sessions.shut row)) _ rows
        (λ row is. (and_parts (bytes_eq (sessions.key row) key) (not (sessions.shut row)) is).0) some

    -- a key of rows that were chosen is there
    pub chosen_there : (chosen : S → Bool)
        → is_among key (map sessions.key (filter chosen rows)) ≡ true → is_there rows key ≡ true
    chosen_there chosen is = any_chosen (λ row. bytes_eq (sessions.key row) key) chosen rows
        (sym (any_mapped (λ other. bytes_eq other key) sessions.key (filter chosen rows)) ∙ is)

    -- the rows of a key are shut: there is one, and none that is open
    pub record IsShut : Type 0 where
      pub there : is_there rows key ≡ true
      pub shut : is_open rows key ≡ false

    -- they are where each of them is
    shut_by : (new : List S) (test : S → Bool) → new ≡ shut_where test rows
        → is_there rows key ≡ true → ((row : S) → bytes_eq (sessions.key row) key ≡ true → test row ≡ true)
        → (is_there new key ≡ true) × (is_open new key ≡ false)
    shut_by new test is there shuts = subst (λ (l : List S). (is_there l key ≡ true) × (is_open l key ≡ false))
        (sym is) (keys_stay test ∙ there, shut_all test shuts)

  -- so they are where the rows of some keys are shut, or those of this one
  module _ (old new : List S) (key : List ℕ) where
    pub shut_among : (keys : List (List ℕ)) → new ≡ shut_where (λ row. is_among (sessions.key row) keys) old
        → is_there old key ≡ true → is_among key keys ≡ true → IsShut new key
    shut_among keys is there among =
        let both = shut_by old key new (λ row. is_among (sessions.key row) keys) is there (λ row same.
        subst (λ (text : List ℕ). is_among text keys ≡ true) (sym (same_text (sessions.key row) key same)) among) in
        record { there = both.0; shut = both.1 }

    pub shut_one : new ≡ shut_where (λ row. bytes_eq key (sessions.key row)) old
        → is_there old key ≡ true → IsShut new key
    shut_one is there =
        let both = shut_by old key new
        (λ row. bytes_eq key (sessions.key row)) is there (λ row same. other_way (sessions.key row) key same) in
        record { there = both.0; shut = both.1 }

  module _ (rows : List S) (now horizon : ℕ) where
    -- what is known of a row that is found by a text, where there is one
    pub record IsFound (text : Option (List ℕ)) (row : S) : Type 0 where
      pub named : text ≡ Some (sessions.key row)
      pub place : ℕ
      pub at : slice_get rows place ≡ Some row
      pub unshut : sessions.shut row ≡ false
      pub seen : nat_lt (max now horizon) (sessions.until row) ≡ true
      pub there : is_there rows (sessions.key row) ≡ true
      pub again : found rows (sessions.key row) now horizon ≡ Some row

    pub found_itself : (text : Option (List ℕ)) (row : S)
        → option_and_then (λ key. found rows key now horizon) text ≡ Some row → IsFound text row
    found_itself None row is = absurd (cc)
    found_itself (Some key) row is = let at = found_at (lives key now horizon) rows row is in
        let first = and_parts (bytes_eq (sessions.key row) key && not (sessions.shut row)) _ at.2 in
        let second = and_parts (bytes_eq (sessions.key row) key) (not (sessions.shut row)) first.0 in
        let named : key ≡ sessions.key row = sym (same_text (sessions.key row) key second.0) in
        let again = subst (λ (text : List ℕ). found rows text now horizon ≡ Some row) named is in
        record {
          named = ap Some named;
          place = at.0;
          at = at.1;
          unshut = not-true (sessions.shut row) second.1;
          seen = first.1;
          there = any_more (lives (sessions.key row) now horizon) (λ other. bytes_eq (sessions.key other)
              (sessions.key row)) rows (λ other is. (and_parts (bytes_eq (sessions.key other) (sessions.key row)) _
              (and_parts (bytes_eq (sessions.key other) (sessions.key row) && not (sessions.shut other)) _ is).0).0)
              (any_of_found _ rows (subst (λ (o : Option S). IsSome o) (sym again) refl));
          again = again;
        }

    -- a row that is there, is not shut and has not ended is found
    pub live_found : (row : S) → Contains rows row → sessions.shut row ≡ false
        → now < sessions.until row → horizon < sessions.until row → IsSome (found rows (sessions.key row) now horizon)
    live_found row there unshut less also =
        let later = lt-ltb (max now horizon) (sessions.until row) (omega (arith, less, also)) in
        found_by (lives (sessions.key row) now horizon) rows row there
        (λ i. text_itself (sessions.key row) i && not (unshut i) && later i)
