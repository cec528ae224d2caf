-- What is kept of the records of a journal, and what it stands for.
use Rattle.std.proofs.Common.{◌≡◌, ℕ, zero, suc, ◌+◌, ◌<◌, ◌≤◌, ◌⊎◌, inl, inr, ◌==◌, ◌&&◌, Bool, true, false, not, cond, List, [], ◌∷◌, ◌++◌, map, take, length, get_or, slice_index_or, slice_get, Option, None, Some, Ok, refl, sym, ap, ◌∙◌, subst, arith, append_assoc, append-nil}
use Rattle.std.specs.List.{All}
use Rattle.std.specs.Option.{is_some}
use Rattle.std.proofs.lemmas.Bool.{false≢true, eqb-true, and_parts}
use Rattle.std.proofs.lemmas.Bool.Decides.{Decides-eqb}
use Rattle.std.proofs.lemmas.List.{take_more, take_all, length-take-le, map_push}
use Rattle.std.proofs.lemmas.List.Elements.{All-head, All-tail, All-cons}
use Rattle.std.proofs.lemmas.Option.{slice_get_within}
use Rattle.gate_journal.specs.Format.{sizes, end_of}
use Rattle.gate_journal.specs.Journal.{Fits}
use Rattle.ledger_rules.specs.Kept.{IsKeptIn, selected, link_at, is_link, AreWithin, AreOrdered, AreFlagsOf}
use Rattle.record_ledger.specs.declared.links.Links.{Links}
use Rattle.record_ledger.specs.Rules.{StandReady, RecordRules, RowRules, CanPut, records_of, AreRecordsAfter}
use Rattle.record_ledger.specs.Laws.{KeptAreRecords}
use Rattle.record_ledger.specs.Compacting.{passes, names_at, seen_at, AreFlags}
use Rattle.record_ledger.specs.Choosing.{AreStanding}
use Rattle.record_ledger.specs.Linking.{LinkRules, LinkLaws, names_up, names_down, has_id, AreLinks, IsLinked, CanTake}
use Rattle.record_ledger.proofs.Records.{records_of-are, records_of-read, records_of-length, record_at}
use Rattle.record_ledger.proofs.Committing.{sizes_least}
use Rattle.record_ledger.proofs.LinkSteps.{RelatesParts, relates_parts, relates_from}

-- the items whose flags are set
pub selected_map : {X Y : Type 0} (f : X → Y) (flags : List Bool) (xs : List X) → selected flags (map f xs) ≡ map f (selected flags xs)
selected_map f [] xs = refl
selected_map f (flag ∷ flags) [] = refl
selected_map f (true ∷ flags) (x ∷ xs) = ap (λ rest. f x ∷ rest) (selected_map f flags xs)
selected_map f (false ∷ flags) (x ∷ xs) = selected_map f flags xs

one_more : {X : Type 0} (flags : List Bool) (xs : List X) (i : ℕ) (flag : Bool) (x : X) → i < length flags → i < length xs → flag ≡ get_or flags i flag → x ≡ get_or xs i x
    → selected (take (suc i) flags) (take (suc i) xs) ≡ selected (take i flags) (take i xs) ++ cond flag (x ∷ []) []
one_more [] xs i flag x less less_too is is_too = absurd (omega arith)
one_more (f ∷ flags) [] i flag x less less_too is is_too = absurd (omega arith)
one_more (f ∷ flags) (y ∷ xs) zero flag x less less_too is is_too = λ i. cond (sym is i) (sym is_too i ∷ []) []
one_more (true ∷ flags) (y ∷ xs) (suc i) flag x less less_too is is_too =
    ap (λ rest. y ∷ rest) (one_more flags xs i flag x (omega arith) (omega arith) is is_too)
one_more (false ∷ flags) (y ∷ xs) (suc i) flag x less less_too is is_too = one_more flags xs i flag x (omega arith) (omega arith) is is_too

pub selected_more : {X : Type 0} (flags : List Bool) (xs : List X) (i : ℕ) (flag : Bool) (x : X) → i < length flags → i < length xs → flag ≡ get_or flags i flag → x ≡ get_or xs i x
    → selected (take (i + 1) flags) (take (i + 1) xs) ≡ selected (take i flags) (take i xs) ++ cond flag (x ∷ []) []
selected_more flags xs i flag x less less_too is is_too =
    let next : i + 1 ≡ suc i = omega arith in
    ap (λ n. selected (take n flags) (take n xs)) next ∙ one_more flags xs i flag x less less_too is is_too

pub selected_all : {X : Type 0} (flags : List Bool) (xs : List X) (i : ℕ) → length flags ≡ length xs → length xs ≤ i → selected (take i flags) (take i xs) ≡ selected flags xs
selected_all flags xs i long past =
    ap (λ fs. selected fs (take i xs)) (take_all i flags (omega (arith, long))) ∙ ap (selected flags) (take_all i xs past)

selected_each : {X : Type 0} (P : X → Type 0) (flags : List Bool) (xs : List X) → All P xs → All P (selected flags xs)
selected_each P [] xs each = λ k d within. absurd (omega arith)
selected_each P (flag ∷ flags) [] each = each
selected_each P (true ∷ flags) (x ∷ xs) each = All-cons P x (selected flags xs) (All-head P x xs each) (selected_each P flags xs (All-tail P x xs each))
selected_each P (false ∷ flags) (x ∷ xs) each = selected_each P flags xs (All-tail P x xs each)

selected_sizes : (flags : List Bool) (payloads : List (List ℕ)) → sizes (selected flags payloads) ≤ sizes payloads
selected_sizes [] payloads = omega arith
selected_sizes (flag ∷ flags) [] = omega arith
selected_sizes (true ∷ flags) (p ∷ payloads) = let rest = selected_sizes flags payloads in omega (arith, rest)
selected_sizes (false ∷ flags) (p ∷ payloads) = let rest = selected_sizes flags payloads in omega (arith, rest)

-- what is kept of payloads that fit a file fits it
pub kept_fits : (flags : List Bool) (payloads : List (List ℕ)) → Fits payloads → Fits (selected flags payloads)
kept_fits flags payloads fits = record {
  each = selected_each (λ payload. length payload ≤ 1048576) flags payloads fits.each;
  file = omega (arith, fits.file, selected_sizes flags payloads);
}

option_cases : (o : Option ℕ) → (o ≡ None) ⊎ ((x : ℕ) × (o ≡ Some x))
option_cases None = inl refl
option_cases (Some x) = inr (x, refl)

from_link : (links : List (Option ℕ)) (j k : ℕ) → is_link links j k ≡ true → link_at links k ≡ Some j
unfolding is_link
from_link links j k is = elim (option_cases (link_at links k)) [
  | inl none ↦ let not : is_link links j k ≡ false = rw none refl in absurd (false≢true (sym not ∙ is))
  | inr some ↦
      let test : is_link links j k ≡ (some.0 == j) = rw (some.1) refl in
      some.1 ∙ ap Some (eqb-true some.0 j (sym test ∙ is))
]

to_link : (links : List (Option ℕ)) (j k : ℕ) → link_at links k ≡ Some j → is_link links j k ≡ true
unfolding is_link
to_link links j k is = rw is ((Decides-eqb j j).1 refl)

-- two are linked one way or the other
abbrev Linked : (ℕ → ℕ → Bool) → ℕ → ℕ → Type 0
Linked names j k = (names j k ≡ true) ⊎ (names k j ≡ true)

linked_back : (names : ℕ → ℕ → Bool) (j k : ℕ) → Linked names j k → Linked names k j
linked_back names j k (inl is) = inr is
linked_back names j k (inr is) = inl is

kept_in : (seen seen' : ℕ → Bool) (names names' : ℕ → ℕ → Bool) → ((j : ℕ) → seen j ≡ true → seen' j ≡ true) → ((j i : ℕ) → names j i ≡ true → Linked names' j i)
    → (steps k : ℕ) → IsKeptIn seen names steps k → IsKeptIn seen' names' steps k
kept_in seen seen' names names' s n zero k is = s k is
kept_in seen seen' names names' s n (suc steps) k (inl is) = inl (kept_in seen seen' names names' s n steps k is)
kept_in seen seen' names names' s n (suc steps) k (inr (j, inl is, rest)) = inr (j, n j k is, kept_in seen seen' names names' s n steps j rest)
kept_in seen seen' names names' s n (suc steps) k (inr (j, inr is, rest)) = inr (j, linked_back names' k j (n k j is), kept_in seen seen' names names' s n steps j rest)

module _ {R : Type 0} (rules : RecordRules R) where
  pub kept_read : (keeps : KeptAreRecords rules) (now horizon : ℕ) (payloads : List (List ℕ)) (records : List R) (flags : List Bool) → records_of rules 2 payloads ≡ Ok records
      → AreFlags rules now horizon records flags → records_of rules 2 (selected flags payloads) ≡ Ok (selected flags records)
  kept_read keeps now horizon payloads records flags read are =
      let all = records_of-are rules 2 records payloads read in
      let kept = keeps now horizon records (selected flags records) all.0
      (record { flags = flags; long = are.long; each = are.each; are = refl }) in
      records_of-read rules 2 (selected flags records) (selected flags payloads) kept
      (sym (selected_map (rules.found 2) flags payloads) ∙ ap (selected flags) all.1 ∙ selected_map Some flags records)

  -- the record at a place
  pub record ReadAt (records : List R) (i : ℕ) (entry : R) : Type 0 where
    pub is : rules.is_record (take i records) entry ≡ true
    pub more : take (i + 1) records ≡ take i records ++ entry ∷ []

  after_at : (before later : List R) (i : ℕ) (d : R) → AreRecordsAfter rules before later → i < length later → rules.is_record (before ++ take i later) (get_or later i d) ≡ true
  after_at before [] i d are within = absurd (omega arith)
  after_at before (r ∷ later) zero d are within = subst (λ b. rules.is_record b r ≡ true) (sym (append-nil before)) are.0
  after_at before (r ∷ later) (suc i) d are within =
      subst (λ b. rules.is_record b (get_or later i d) ≡ true) (append_assoc before (r ∷ []) (take i later)) (after_at (before ++ r ∷ []) later i d are.1 (omega arith))

  pub read_at : (payloads : List (List ℕ)) (records : List R) → records_of rules 2 payloads ≡ Ok records → (i : ℕ) (payload bytes : List ℕ) (found : Option R) (entry : R)
      → i < length payloads → payload ≡ get_or payloads i payload → bytes ≡ payload → found ≡ rules.found 2 bytes → found ≡ Some entry → ReadAt records i entry
  read_at payloads records read i payload bytes found entry within item same is some =
      let all = records_of-are rules 2 records payloads read in
      let size = records_of-length rules 2 records payloads read in
      let inside : i < length records = omega (arith, within, size) in
      let at = record_at rules 2 records payloads read i payload entry within in
      let both : ◌≡◌ {A = Option R} (Some entry) (Some (get_or records i entry)) = sym some ∙ is ∙ ap (rules.found 2) (same ∙ item) ∙ at in
      let here : entry ≡ get_or records i entry = cc in
      record {
        is = subst (λ r. rules.is_record (take i records) r ≡ true) (sym here) (after_at [] records i entry all.0 inside);
        more = take_more records i entry inside ∙ ap (λ r. take i records ++ r ∷ []) (sym here);
      }

  some_there : (payloads : List (List ℕ)) (records : List R) (i : ℕ) (d : List ℕ) → map (rules.found 2) payloads ≡ map Some records → i < length payloads
      → rules.found 2 (get_or payloads i d) ≡ None → ⊥
  some_there [] records i d same within none = omega arith
  some_there (p ∷ payloads) [] i d same within none = absurd (cc)
  some_there (p ∷ payloads) (r ∷ records) zero d same within none =
      let head : rules.found 2 p ≡ Some r = cc in
      let wrong : ◌≡◌ {A = Option R} None (Some r) = sym none ∙ head in cc
  some_there (p ∷ payloads) (r ∷ records) (suc i) d same within none =
      let rest : map (rules.found 2) payloads ≡ map Some records = cc in
      some_there payloads records i d rest (omega arith) none

  pub never_unread : (payloads : List (List ℕ)) (records : List R) → records_of rules 2 payloads ≡ Ok records → (i : ℕ) (payload bytes : List ℕ) (found : Option R)
      → i < length payloads → payload ≡ get_or payloads i payload → bytes ≡ payload → found ≡ rules.found 2 bytes → found ≡ None → ⊥
  never_unread payloads records read i payload bytes found within item same is none =
      some_there payloads records i payload (records_of-are rules 2 records payloads read).1 within (ap (rules.found 2) (sym (same ∙ item)) ∙ sym is ∙ none)

module _ {R : Type 0} (rules : RecordRules R) (link_rules : LinkRules R) (laws : LinkLaws rules link_rules) where
  pub links_within : (records : List R) (links : List (Option ℕ)) → AreLinks rules link_rules records links → AreWithin links
  links_within records links are k l link = elim (are.are k l link) [
    | inl up ↦
        let p = relates_parts (names_up rules link_rules) records l k up in
        let within = slice_get_within records l p.later p.at_later in
        omega (arith, are.long, within)
    | inr down ↦
        let p = relates_parts (names_down rules link_rules) records k l down in
        let within = slice_get_within records k p.later p.at_later in
        omega (arith, are.long, within, p.less)
  ]

  -- ---- the order of links

  down_of : (y x : R) → names_down rules link_rules y x ≡ true → rules.names y x ≡ true
  down_of y x is = (and_parts (is_some (link_rules.within y)) (rules.names y x) is).1

  -- a record that is itself linked, to one with a row
  record IsWithin (y : R) : Type 0 where
    id : List ℕ
    is : link_rules.within y ≡ Some id

  is_within : (y x : R) → names_down rules link_rules y x ≡ true → IsWithin y
  is_within y x down = by_within (link_rules.within y) refl (and_parts (is_some (link_rules.within y)) (rules.names y x) down).0
    where
      by_within : (o : Option (List ℕ)) → link_rules.within y ≡ o → is_some o ≡ true → IsWithin y
      by_within None none is = absurd (false≢true is)
      by_within (Some id) some is = record { id = id; is = some }

  has_no_row : (y : R) (id : List ℕ) → link_rules.row y ≡ None → has_id rules link_rules (id ∷ []) y ≡ true → ⊥
  has_no_row y id none has =
      let not : has_id rules link_rules (id ∷ []) y ≡ false = rw none refl in
      false≢true (sym not ∙ has)

  -- nothing is itself linked to a record that is itself linked
  down_once : (y x z : R) → names_down rules link_rules y x ≡ true → names_down rules link_rules x z ≡ true → ⊥
  down_once y x z down down_too =
      let first = is_within y x down in
      let second = is_within x z down_too in
      has_no_row x first.id (laws.within_none x second.id second.is) (laws.within_names y x first.id first.is (down_of y x down))

  -- and none that it names is linked to it
  up_or_within : (y x z : R) → names_up rules link_rules y x ≡ true → names_down rules link_rules y z ≡ true → ⊥
  up_or_within y x z up down =
      let not_within = (and_parts (not (is_some (link_rules.within y))) (rules.names y x) up).0 in
      let is = (and_parts (is_some (link_rules.within y)) (rules.names y z) down).0 in
      false≢true (sym (ap not is) ∙ not_within)

  same_at : (records : List R) (k : ℕ) (x y : R) → slice_get records k ≡ Some x → slice_get records k ≡ Some y → x ≡ y
  same_at records k x y at at_too = cc

  -- a link to an earlier record leads from one that is itself linked to one that it names
  down_link : (records : List R) (links : List (Option ℕ)) → AreLinks rules link_rules records links → (k l : ℕ)
      → link_at links k ≡ Some l → l < k → RelatesParts (names_down rules link_rules) records k l
  down_link records links are k l link less = elim (are.are k l link) [
    | inl up ↦ let p = relates_parts (names_up rules link_rules) records l k up in absurd (omega (arith, p.less))
    | inr down ↦ relates_parts (names_down rules link_rules) records k l down
  ]

  pub links_ordered : (records : List R) (links : List (Option ℕ)) → AreLinks rules link_rules records links → AreOrdered links
  links_ordered records links are = record {
    other = λ k l link same. elim (are.are k l link) [
      | inl up ↦ let p = relates_parts (names_up rules link_rules) records l k up in absurd (omega (arith, p.less))
      | inr down ↦ let p = relates_parts (names_down rules link_rules) records k l down in absurd (omega (arith, p.less))
    ];
    start = λ k l j link less link_too.
        let d = down_link records links are k l link less in
        elim (are.are j k link_too) [
          | inl up ↦
              let p = relates_parts (names_up rules link_rules) records k j up in
              let same = same_at records k p.later d.later p.at_later d.at_later in
              up_or_within d.later p.earlier d.earlier (subst (λ y. names_up rules link_rules y p.earlier ≡ true) same p.is) d.is
          | inr down ↦
              let p = relates_parts (names_down rules link_rules) records j k down in
              let same = same_at records k p.earlier d.later p.at_earlier d.at_later in
              down_once p.later d.later d.earlier (subst (λ y. names_down rules link_rules p.later y ≡ true) same p.is) d.is
        ];
    later = λ k l m link less link_too.
        let d = down_link records links are k l link less in
        elim (are.are l m link_too) [
          | inl up ↦ (relates_parts (names_up rules link_rules) records m l up).less
          | inr down ↦
              let p = relates_parts (names_down rules link_rules) records l m down in
              let same = same_at records l p.later d.earlier p.at_later d.at_earlier in
              absurd (down_once d.later d.earlier p.earlier d.is (subst (λ y. names_down rules link_rules y p.earlier ≡ true) same p.is))
        ];
  }

  -- what names the other is linked to it, or the other to it
  up_or_down : (y x : R) → rules.names y x ≡ true → (names_up rules link_rules y x ≡ true) ⊎ (names_down rules link_rules y x ≡ true)
  up_or_down y x is = by_within (is_some (link_rules.within y)) is
    where
      by_within : (b : Bool) → rules.names y x ≡ true → ((not b && rules.names y x) ≡ true) ⊎ ((b && rules.names y x) ≡ true)
      by_within true named = inr named
      by_within false named = inl named

  up_names : (y x : R) → names_up rules link_rules y x ≡ true → rules.names y x ≡ true
  up_names y x is = (and_parts (not (is_some (link_rules.within y))) (rules.names y x) is).1

  link_names : (records : List R) (links : List (Option ℕ)) → AreLinks rules link_rules records links → (j i : ℕ) → is_link links j i ≡ true → Linked (names_at rules records) j i
  link_names records links are j i on = elim (are.are i j (from_link links j i on)) [
    | inl up ↦
        let p = relates_parts (names_up rules link_rules) records j i up in
        inl (relates_from rules.names records j i p.later p.earlier p.less p.at_later p.at_earlier (up_names p.later p.earlier p.is))
    | inr down ↦
        let p = relates_parts (names_down rules link_rules) records i j down in
        inr (relates_from rules.names records i j p.later p.earlier p.less p.at_later p.at_earlier (down_of p.later p.earlier p.is))
  ]

  names_link : (records : List R) (links : List (Option ℕ)) → AreLinks rules link_rules records links → (j i : ℕ) → names_at rules records j i ≡ true → Linked (is_link links) j i
  names_link records links are j i on =
      let p = relates_parts rules.names records j i on in
      elim (up_or_down p.later p.earlier p.is) [
        | inl up ↦ inl (to_link links j i (are.up i j (relates_from (names_up rules link_rules) records j i p.later p.earlier p.less p.at_later p.at_earlier up)))
        | inr down ↦ inr (to_link links i j (are.down j i (relates_from (names_down rules link_rules) records j i p.later p.earlier p.less p.at_later p.at_earlier down)))
      ]

  seen_there : (test : R → Bool) (records : List R) (k : ℕ) → slice_index_or (map test records) k false ≡ passes test (slice_get records k)
  seen_there test [] k = refl
  seen_there test (r ∷ records) zero = refl
  seen_there test (r ∷ records) (suc k) = seen_there test records k

  pub are_flags : (now horizon : ℕ) (records : List R) (links : List (Option ℕ)) (seen flags : List Bool) → AreLinks rules link_rules records links → seen ≡ map (rules.has_visible now horizon) records
      → AreFlagsOf links seen flags → AreFlags rules now horizon records flags
  are_flags now horizon records links seen flags are is of =
      let same : (j : ℕ) → slice_index_or seen j false ≡ seen_at rules now horizon records j =
      λ j. ap (λ s. slice_index_or s j false) is ∙ seen_there (rules.has_visible now horizon) records j in
      record {
        long = of.long ∙ are.long;
        each = λ k within.
            let each = of.each k (omega (arith, within, are.long)) in (
              λ set. let kept = each.0 set in (
                kept.0,
                kept_in (λ j. slice_index_or seen j false) (seen_at rules now horizon records) (is_link links) (names_at rules records)
                    (λ j on. sym (same j) ∙ on) (link_names records links are) kept.0 k kept.1,
              ),
              λ kept. each.1 (
                kept.0,
                kept_in (seen_at rules now horizon records) (λ j. slice_index_or seen j false) (names_at rules records) (is_link links)
                    (λ j on. same j ∙ on) (names_link records links are) kept.0 k kept.1,
              ),
            );
      }

  -- one record more was looked at
  pub seen_more : (test : R → Bool) (records : List R) (i : ℕ) (entry : R) (old new : List Bool) (seen : Bool) → ReadAt rules records i entry
      → new ≡ old ++ seen ∷ [] → seen ≡ test entry → old ≡ map test (take i records) → new ≡ map test (take (i + 1) records)
  seen_more test records i entry old new seen at pushed is before =
      pushed ∙ ap (λ o. o ++ seen ∷ []) before ∙ ap (λ b. map test (take i records) ++ b ∷ []) is ∙ sym (ap (map test) at.more ∙ map_push test (take i records) entry)

  pub linked_more : (records : List R) (i : ℕ) (entry : R) (old new : Links) → ReadAt rules records i entry → IsLinked rules link_rules (take i records) old
      → ((before : List R) → IsLinked rules link_rules before old → rules.is_record before entry ≡ true → IsLinked rules link_rules (before ++ entry ∷ []) new) → IsLinked rules link_rules (take (i + 1) records) new
  linked_more records i entry old new at before step = subst (λ rs. IsLinked rules link_rules rs new) (sym at.more) (step (take i records) before at.is)

  pub can_take : (payloads : List (List ℕ)) (records : List R) (i : ℕ) (entry : R) (links : Links) → records_of rules 2 payloads ≡ Ok records → end_of payloads ≤ 134217728
      → i < length payloads → ReadAt rules records i entry → IsLinked rules link_rules (take i records) links → CanTake rules link_rules links entry
  can_take payloads records i entry links read fit within at linked =
      let size = records_of-length rules 2 records payloads read in
      let least = sizes_least payloads in
      let front = length-take-le i records (omega (arith, size, within)) in
      record { records = take i records; are = linked; is = at.is; few = omega (arith, front, least, fit, within) }

  pub links_few : (payloads : List (List ℕ)) (records : List R) (links : List (Option ℕ)) → records_of rules 2 payloads ≡ Ok records
      → end_of payloads ≤ 134217728 → AreLinks rules link_rules records links → length links < 4294967296
  links_few payloads records links read fit are =
      let size = records_of-length rules 2 records payloads read in
      let least = sizes_least payloads in omega (arith, size, least, fit, are.long)

  pub whole_links : (payloads : List (List ℕ)) (records : List R) (i : ℕ) (links : Links) → records_of rules 2 payloads ≡ Ok records → length payloads ≤ i → IsLinked rules link_rules (take i records) links
      → AreLinks rules link_rules records links.links.items
  whole_links payloads records i links read past are =
      let size = records_of-length rules 2 records payloads read in
      subst (λ rs. AreLinks rules link_rules rs links.links.items) (take_all i records (omega (arith, size, past))) are.linked

  pub whole_seen : (payloads : List (List ℕ)) (records : List R) (i : ℕ) (test : R → Bool) (seen : List Bool) → records_of rules 2 payloads ≡ Ok records → length payloads ≤ i
      → seen ≡ map test (take i records) → seen ≡ map test records
  whole_seen payloads records i test seen read past are =
      let size = records_of-length rules 2 records payloads read in
      are ∙ ap (map test) (take_all i records (omega (arith, size, past)))

module _ {R S : Type 0} (rules : RecordRules R) where
  -- one record more stands there
  pub stands_next : (row_rules : RowRules R S) (payloads : List (List ℕ)) (records : List R) (i : ℕ) (entry : R) (standing ready : S) → records_of rules 2 payloads ≡ Ok records → length payloads < 4294967295
      → i < length payloads → ReadAt rules records i entry → row_rules.stands standing (take i records)
      → ((before : List R) → row_rules.stands standing before → row_rules.stands ready before) → row_rules.has_room ready entry → CanPut rules row_rules ready entry
  stands_next row_rules payloads records i entry standing ready read few within at stands same room =
      let size = records_of-length rules 2 records payloads read in
      let front = length-take-le i records (omega (arith, size, within)) in
      record { records = take i records; stand = same (take i records) stands; few = omega (arith, front, few, within); is = at.is; room = room }

  pub stands_after : (stands : S → List R → Type 0) (records : List R) (i : ℕ) (entry : R) (standing ready new : S) → ReadAt rules records i entry → stands standing (take i records)
      → ((before : List R) → stands standing before → stands ready before) → ((before : List R) → stands ready before → stands new (before ++ entry ∷ [])) → stands new (take (i + 1) records)
  stands_after stands records i entry standing ready new at stand same after = subst (stands new) (sym at.more) (after (take i records) (same (take i records) stand))

  pub stands_all : (stands : S → List R → Type 0) (payloads : List (List ℕ)) (records : List R) (i : ℕ) (standing : S) → records_of rules 2 payloads ≡ Ok records → length payloads ≤ i
      → stands standing (take i records) → AreStanding rules stands payloads standing
  stands_all stands payloads records i standing read past stand =
      let size = records_of-length rules 2 records payloads read in
      record { records = records; are = read; stand = subst (stands standing) (take_all i records (omega (arith, size, past))) stand }

  pub standing_ready : (row_rules : RowRules R S) (payloads : List (List ℕ)) (old new : S) → AreStanding rules row_rules.stands payloads old
      → ((records : List R) → row_rules.stands old records → row_rules.stands new records) → row_rules.is_ready new → AreStanding rules (StandReady row_rules) payloads new
  standing_ready row_rules payloads old new a same ready = record { records = a.records; are = a.are; stand = (same a.records a.stand, ready) }
