-- The rows of records, and the one that a record names.
use Rattle.std.proofs.Common.{◌≡◌, ℕ, zero, suc, ◌<◌, ◌≤◌, ◌⊎◌, inl, inr, Bool, true, false, ◌||◌, List, [], ◌∷◌, ◌++◌, length, slice_get, Option, None, Some, bytes_eq, refl, sym, ap, ◌∙◌, subst, arith}
use Rattle.std.specs.List.{list_any}
use Rattle.std.specs.Option.{option_map}
use Rattle.std.proofs.lemmas.Bool.{false≢true, or_parts, or_left, false_from_ne_true}
use Rattle.std.proofs.lemmas.List.Folds.{list_any-append}
use Rattle.ledger_rules.specs.Numbers.{Drawn, has_number, above, are_fresh, NUMBER_END}
use Rattle.record_ledger.specs.Rules.{RecordRules, next_of, AreRecordsAfter}
use Rattle.record_ledger.specs.Compacting.{passes}
use Rattle.record_ledger.specs.Laws.{AreFreshlyDrawn}
use Rattle.record_ledger.specs.Linking.{LinkRules, LinkLaws, is_among, has_id, row_number}
use Rattle.record_ledger.proofs.Words.{same_text, text_itself, other_way}
use Rattle.record_ledger.proofs.Numbers.{one_number, fresh_at, below_above, next_push}

pub only : (b : Bool) → (b || false) ≡ true → b ≡ true
only true is = refl
only false is = absurd (false≢true is)

pub alone : (b : Bool) → b ≡ true → (b || false) ≡ true
alone b is = or_left b false is

pub other_not : (a b : List ℕ) → bytes_eq a b ≡ false → bytes_eq b a ≡ false
other_not a b none = false_from_ne_true (bytes_eq b a) (λ is. false≢true (sym none ∙ other_way b a is))

pub among_one : (id text : List ℕ) → is_among text (id ∷ []) ≡ true → text ≡ id
among_one id text is = sym (same_text id text (only (bytes_eq id text) is))

pub among_itself : (id : List ℕ) → is_among id (id ∷ []) ≡ true
among_itself id = alone (bytes_eq id id) (text_itself id)

-- an item at a place
pub none_at : {X : Type 0} (test : X → Bool) (xs : List X) → list_any test xs ≡ false → (k : ℕ) (x : X) → slice_get xs k ≡ Some x → test x ≡ false
none_at test [] none k x there = absurd (cc)
none_at test (y ∷ xs) none zero x there =
    let same : y ≡ x = cc in
    subst (λ z. test z ≡ false) same (or_parts (test y) (list_any test xs) none).0
none_at test (y ∷ xs) none (suc k) x there = none_at test xs (or_parts (test y) (list_any test xs) none).1 k x there

pub at_front : {X : Type 0} (xs ys : List X) (k : ℕ) (x : X) → slice_get xs k ≡ Some x → slice_get (xs ++ ys) k ≡ Some x
at_front [] ys k x there = absurd (cc)
at_front (y ∷ xs) ys zero x there = there
at_front (y ∷ xs) ys (suc k) x there = at_front xs ys k x there

pub at_last : {X : Type 0} (xs : List X) (x : X) → slice_get (xs ++ x ∷ []) (length xs) ≡ Some x
at_last [] x = refl
at_last (y ∷ xs) x = at_last xs x

pub at_push : {X : Type 0} (xs : List X) (y : X) (k : ℕ) (x : X) → slice_get (xs ++ y ∷ []) k ≡ Some x → (slice_get xs k ≡ Some x) ⊎ ((k ≡ length xs) × (y ≡ x))
at_push [] y zero x there = inr (refl, cc)
at_push [] y (suc k) x there = absurd (cc)
at_push (z ∷ xs) y zero x there = inl there
at_push (z ∷ xs) y (suc k) x there =
    elim (at_push xs y k x there) [ inl before ↦ inl before | inr here ↦ inr (ap suc here.0, here.1) ]

-- what passes is there
pub passes_some : {X : Type 0} (test : X → Bool) (o : Option X) → passes test o ≡ true → (x : X) × (o ≡ Some x) × (test x ≡ true)
passes_some test None is = absurd (false≢true is)
passes_some test (Some x) is = (x, refl, is)

pub some_passes : {X : Type 0} (test : X → Bool) (o : Option X) (x : X) → o ≡ Some x → test x ≡ true → passes test o ≡ true
some_passes test o x there is = ap (passes test) there ∙ is

-- which records have an ID
abbrev with_id : List (List ℕ) → Drawn → Bool
with_id ids d = is_among d.id ids

row_push : (ids : List (List ℕ)) (id : List ℕ) (o : Option Drawn) → passes (with_id (ids ++ id ∷ [])) o ≡ (passes (with_id ids) o || passes (with_id (id ∷ [])) o)
row_push ids id None = refl
row_push ids id (Some d) = list_any-append (λ other. bytes_eq other d.id) ids (id ∷ [])

row_none : (o : Option Drawn) → passes (with_id []) o ≡ false
row_none None = refl
row_none (Some d) = refl

module _ {R : Type 0} (rules : RecordRules R) (link_rules : LinkRules R) where
  pub has_push : (ids : List (List ℕ)) (id : List ℕ) (x : R) → has_id rules link_rules (ids ++ id ∷ []) x ≡ (has_id rules link_rules ids x || has_id rules link_rules (id ∷ []) x)
  has_push ids id x = row_push ids id (link_rules.row x)

  pub has_none : (x : R) → has_id rules link_rules [] x ≡ false
  has_none x = row_none (link_rules.row x)

  -- the ID of a record that has one of some
  pub has_one : (ids : List (List ℕ)) (x : R) → has_id rules link_rules ids x ≡ true → (id : List ℕ) × (is_among id ids ≡ true) × (has_id rules link_rules (id ∷ []) x ≡ true)
  has_one ids x has =
      let at = passes_some (with_id ids) (link_rules.row x) has in
      (at.0.id, at.2, some_passes (with_id (at.0.id ∷ [])) (link_rules.row x) at.0 at.1 (among_itself at.0.id))

  -- the ID and the number of a record that has a row
  pub numbered : (x : R) (n : ℕ) → row_number rules link_rules x ≡ Some n → (d : Drawn) × (link_rules.row x ≡ Some d) × (d.number ≡ n)
  numbered x n is = by_row (link_rules.row x) refl is
    where
      by_row : (o : Option Drawn) → link_rules.row x ≡ o → option_map (λ (d : Drawn). d.number) o ≡ Some n → (d : Drawn) × (link_rules.row x ≡ Some d) × (d.number ≡ n)
      by_row None e is = absurd (cc)
      by_row (Some d) e is = (d, e, cc)

-- the number of a row with an ID
pub record RowFacts {R : Type 0} (rules : RecordRules R) (link_rules : LinkRules R) (least : ℕ) (x : R) (id : List ℕ) : Type 0 where
  pub number : ℕ
  pub is : row_number rules link_rules x ≡ Some number
  pub greater : least ≤ number
  pub below : number < above (rules.drawn x)
  pub small : number < NUMBER_END
  pub begins : has_number number id ≡ true

module _ {R : Type 0} (rules : RecordRules R) (link_rules : LinkRules R) (fresh : AreFreshlyDrawn rules) (laws : LinkLaws rules link_rules) where
  row_facts : (least : ℕ) (x : R) (id : List ℕ) → are_fresh least (rules.drawn x) ≡ true → has_id rules link_rules (id ∷ []) x ≡ true → RowFacts rules link_rules least x id
  row_facts least x id are has =
      let at = passes_some (with_id (id ∷ [])) (link_rules.row x) has in
      let place = laws.drawn x at.0 at.1 in
      let own = fresh_at least (rules.drawn x) place.0 at.0 are place.1 in
      record {
        number = at.0.number;
        is = ap (option_map (λ (d : Drawn). d.number)) at.1;
        greater = own.greater;
        below = below_above (rules.drawn x) place.0 at.0 place.1;
        small = own.small;
        begins = subst (λ t. has_number at.0.number t ≡ true) (among_one id at.0.id at.2) own.begins;
      }

  pub facts_at : (before later : List R) → AreRecordsAfter rules before later → (k : ℕ) (x : R) → slice_get later k ≡ Some x → (id : List ℕ) → has_id rules link_rules (id ∷ []) x ≡ true
      → RowFacts rules link_rules (next_of rules before) x id
  facts_at before [] are k x there id has = absurd (cc)
  facts_at before (r ∷ later) are zero x there id has =
      let same : r ≡ x = cc in
      subst (λ y. RowFacts rules link_rules (next_of rules before) y id) same
      (row_facts (next_of rules before) r id (fresh before r are.0) (subst (λ y. has_id rules link_rules (id ∷ []) y ≡ true) (sym same) has))
  facts_at before (r ∷ later) are (suc k) x there id has =
      let rest = facts_at (before ++ r ∷ []) later are.1 k x there id has in
      let grown = next_push rules before r in
      record {
        number = rest.number;
        is = rest.is;
        greater = omega (arith, rest.greater, grown);
        below = rest.below;
        small = rest.small;
        begins = rest.begins;
      }

  -- a row at the front has a lesser number than one behind it
  pub less_number : (before later : List R) (x : R) → rules.is_record before x ≡ true → AreRecordsAfter rules (before ++ x ∷ []) later
      → (k : ℕ) (y : R) → slice_get later k ≡ Some y → (id : List ℕ) → has_id rules link_rules (id ∷ []) x ≡ true → has_id rules link_rules (id ∷ []) y ≡ true → ⊥
  less_number before later x is are k y there id has has_too =
      let one = row_facts (next_of rules before) x id (fresh before x is) has in
      let other = facts_at (before ++ x ∷ []) later are k y there id has_too in
      let same = one_number one.number other.number id one.small other.small one.begins other.begins in
      let grown = next_push rules before x in
      omega (arith, same, one.below, other.greater, grown)

  -- one record alone has an ID
  pub one_place : (before later : List R) → AreRecordsAfter rules before later → (id : List ℕ) (j k : ℕ) (x y : R)
      → slice_get later j ≡ Some x → slice_get later k ≡ Some y → has_id rules link_rules (id ∷ []) x ≡ true → has_id rules link_rules (id ∷ []) y ≡ true → j ≡ k
  one_place before [] are id j k x y there there_too has has_too = absurd (cc)
  one_place before (r ∷ later) are id zero zero x y there there_too has has_too = refl
  one_place before (r ∷ later) are id zero (suc k) x y there there_too has has_too =
      let same : r ≡ x = cc in
      absurd (less_number before later r are.0 are.1 k y there_too id (subst (λ z. has_id rules link_rules (id ∷ []) z ≡ true) (sym same) has) has_too)
  one_place before (r ∷ later) are id (suc j) zero x y there there_too has has_too =
      let same : r ≡ y = cc in
      absurd (less_number before later r are.0 are.1 j x there id (subst (λ z. has_id rules link_rules (id ∷ []) z ≡ true) (sym same) has_too) has)
  one_place before (r ∷ later) are id (suc j) (suc k) x y there there_too has has_too =
      ap suc (one_place (before ++ r ∷ []) later are.1 id j k x y there there_too has has_too)
