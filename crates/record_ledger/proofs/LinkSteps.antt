-- The links of one record more.
use Rattle.std.proofs.Common.{◌≡◌, ◌≢◌, ℕ, zero, suc, ◌+◌, ◌<◌, ◌≤◌, ◌⊎◌, inl, inr, Bool, true, false, ◌||◌, ◌&&◌, nat_lt, cond, List, [], ◌∷◌, ◌++◌, map, length, set, get_or, take, bytes_eq, slice_index, slice_get, Option, None, Some, IfSome, Result, Ok, Err, OnOk, refl, sym, ap, ◌∙◌, subst, arith, append_assoc, append-nil, get_or-set_same, get_or-set_other}
use Rattle.std.specs.Option.{is_some, option_to_list}
use Rattle.std.proofs.lemmas.Bool.{cases_Bool, cases_eq, cases_lt, false≢true, and_parts, and_from, false_from_ne_true, cond-true, cond-false, lt-ltb, ltb-true}
use Rattle.std.proofs.lemmas.List.{length-set, length_push, take_more, take_all, get_or_append_left, get_or_push, get_or_past}
use Rattle.std.proofs.lemmas.List.Folds.{list_any_at}
use Rattle.std.proofs.lemmas.Option.{slice_get_within, slice_get_past}
use Rattle.ledger_rules.specs.Numbers.{Drawn, above, are_fresh, has_number, AreBelow, NUMBER_END, NumbersView}
use Rattle.ledger_rules.specs.Kept.{link_at}
use Rattle.record_ledger.specs.declared.links.Links.{Links}
use Rattle.record_ledger.specs.Rules.{RecordRules, next_of, AreRecords}
use Rattle.record_ledger.specs.Compacting.{passes, relates_at}
use Rattle.record_ledger.specs.Laws.{AreFreshlyDrawn}
use Rattle.record_ledger.specs.Linking.{LinkRules, LinkLaws, is_among, names_up, names_down, has_id, row_number, row_numbers, row_places, AreLinks, AreRows, IsLinked, IsOwnLink, ArePlaced, LinksThem, HasRow, HaveRows}
use Rattle.record_ledger.proofs.Words.{text_itself}
use Rattle.record_ledger.proofs.Records.{AreRecords-push}
use Rattle.record_ledger.proofs.Numbers.{next_cons, fresh_at, below_above}
use Rattle.record_ledger.proofs.LinkRows.{at_front, at_last, at_push, passes_some, some_passes, has_push, has_none, has_one, numbered, one_place, facts_at}

-- one number, or none, in front of others
front : (o : Option ℕ) (number first : ℕ) (numbers places : List ℕ) → o ≡ Some number
    → (0 < length (option_to_list o ++ numbers)) × (slice_index (option_to_list o ++ numbers) 0 ≡ number) × (slice_index (map (λ n. first) (option_to_list o) ++ places) 0 ≡ first)
front None number first numbers places is = absurd (cc)
front (Some m) number first numbers places is = let same : m ≡ number = cc in (omega arith, same, refl)

behind : (o : Option ℕ) (first p : ℕ) (numbers places : List ℕ) → p < length numbers
    → (q : ℕ) × (q < length (option_to_list o ++ numbers)) × (slice_index (option_to_list o ++ numbers) q ≡ slice_index numbers p)
    × (slice_index (map (λ n. first) (option_to_list o) ++ places) q ≡ slice_index places p)
behind None first p numbers places within = (p, within, refl, refl)
behind (Some m) first p numbers places within = (suc p, omega arith, refl, refl)

long_front : (o : Option ℕ) (first : ℕ) (numbers places : List ℕ) → length places ≡ length numbers
    → length (map (λ n. first) (option_to_list o) ++ places) ≡ length (option_to_list o ++ numbers)
long_front None first numbers places long = long
long_front (Some m) first numbers places long = ap suc long

abbrev AreLess : ℕ → List ℕ → Type 0
AreLess bound numbers = (p : ℕ) → p < length numbers → slice_index numbers p < bound

less_front : (o : Option ℕ) (numbers : List ℕ) (bound : ℕ) → ((n : ℕ) → o ≡ Some n → n < bound) → AreLess bound numbers → AreLess bound (option_to_list o ++ numbers)
less_front None numbers bound here less p within = less p within
less_front (Some m) numbers bound here less zero within = here m refl
less_front (Some m) numbers bound here less (suc p) within = less p (omega arith)

place_front : (o : Option ℕ) (first : ℕ) (places : List ℕ) (bound : ℕ) → first < bound → AreLess bound places → AreLess bound (map (λ n. first) (option_to_list o) ++ places)
place_front None first places bound here less p within = less p within
place_front (Some m) first places bound here less zero within = here
place_front (Some m) first places bound here less (suc p) within = less p (omega arith)

or-false : (b : Bool) → (b || false) ≡ b
or-false true = refl
or-false false = refl

if_some : (o : Option ℕ) (P : ℕ → Type 0) → ((n : ℕ) → o ≡ Some n → P n) → IfSome o P
if_some None P each = tt
if_some (Some n) P each = each n refl

pub both_ok : {X E : Type 0} {A B C : Type 0} (result : Result X E) → (A → B → C) → OnOk result A → OnOk result B → OnOk result C
both_ok (Ok x) gives a b = gives a b
both_ok (Err e) gives a b = tt

-- records that are so related
module _ {R : Type 0} (relates : R → R → Bool) where
  pub relates_from : (records : List R) (l i : ℕ) (y x : R) → i < l → slice_get records l ≡ Some y → slice_get records i ≡ Some x → relates y x ≡ true
      → relates_at relates records l i ≡ true
  unfolding relates_at
  relates_from records l i y x less at_l at_i is =
      and_from (nat_lt i l) (passes (λ later. passes (relates later) (slice_get records i)) (slice_get records l)) (lt-ltb i l less)
      (ap (passes (λ later. passes (relates later) (slice_get records i))) at_l ∙ ap (passes (relates y)) at_i ∙ is)

  pub record RelatesParts (records : List R) (l i : ℕ) : Type 0 where
    pub less : i < l
    pub later : R
    pub earlier : R
    pub at_later : slice_get records l ≡ Some later
    pub at_earlier : slice_get records i ≡ Some earlier
    pub is : relates later earlier ≡ true

  pub relates_parts : (records : List R) (l i : ℕ) → relates_at relates records l i ≡ true → RelatesParts records l i
  unfolding relates_at
  relates_parts records l i is =
      let both = and_parts (nat_lt i l) (passes (λ later. passes (relates later) (slice_get records i)) (slice_get records l)) is in
      let y = passes_some (λ later. passes (relates later) (slice_get records i)) (slice_get records l) both.1 in
      let x = passes_some (relates y.0) (slice_get records i) y.2 in
      record { less = ltb-true i l both.0; later = y.0; earlier = x.0; at_later = y.1; at_earlier = x.1; is = x.2 }

  pub more_relates : (records : List R) (r : R) (l i : ℕ) → relates_at relates records l i ≡ true → relates_at relates (records ++ r ∷ []) l i ≡ true
  more_relates records r l i before =
      let p = relates_parts records l i before in
      relates_from (records ++ r ∷ []) l i p.later p.earlier p.less (at_front records (r ∷ []) l p.later p.at_later) (at_front records (r ∷ []) i p.earlier p.at_earlier) p.is

module _ {R : Type 0} (rules : RecordRules R) (link_rules : LinkRules R) where
  -- the numbers and the places of rows
  numbers_push : (records : List R) (r : R) → row_numbers rules link_rules (records ++ r ∷ []) ≡ row_numbers rules link_rules records ++ option_to_list (row_number rules link_rules r)
  numbers_push [] r = append-nil (option_to_list (row_number rules link_rules r))
  numbers_push (x ∷ records) r =
      ap (λ rest. option_to_list (row_number rules link_rules x) ++ rest) (numbers_push records r) ∙ sym (append_assoc (option_to_list (row_number rules link_rules x)) (row_numbers rules link_rules records) (option_to_list (row_number rules link_rules r)))

  places_push : (first : ℕ) (records : List R) (r : R)
      → row_places rules link_rules first (records ++ r ∷ []) ≡ row_places rules link_rules first records ++ map (λ n. first + length records) (option_to_list (row_number rules link_rules r))
  places_push first [] r =
      let same : first ≡ first + 0 = omega arith in
      append-nil (map (λ n. first) (option_to_list (row_number rules link_rules r))) ∙ ap (λ f. map (λ n. f) (option_to_list (row_number rules link_rules r))) same
  places_push first (x ∷ records) r =
      let same : first + 1 + length records ≡ first + length (x ∷ records) = omega arith in
      ap (λ rest. map (λ n. first) (option_to_list (row_number rules link_rules x)) ++ rest)
      (places_push (first + 1) records r ∙ ap (λ f. row_places rules link_rules (first + 1) records ++ map (λ n. f) (option_to_list (row_number rules link_rules r))) same)
      ∙ sym (append_assoc (map (λ n. first) (option_to_list (row_number rules link_rules x))) (row_places rules link_rules (first + 1) records) (map (λ n. first + length (x ∷ records)) (option_to_list (row_number rules link_rules r))))

  places_long : (first : ℕ) (records : List R) → length (row_places rules link_rules first records) ≡ length (row_numbers rules link_rules records)
  places_long first [] = refl
  places_long first (r ∷ records) = long_front (row_number rules link_rules r) first (row_numbers rules link_rules records) (row_places rules link_rules (first + 1) records) (places_long (first + 1) records)

  places_within : (first : ℕ) (records : List R) → AreLess (first + length records) (row_places rules link_rules first records)
  places_within first [] = λ p within. absurd (omega arith)
  places_within first (r ∷ records) =
      place_front (row_number rules link_rules r) first (row_places rules link_rules (first + 1) records) (first + length (r ∷ records)) (omega arith)
      (λ p within. let rest = places_within (first + 1) records p within in omega (arith, rest))

module _ {R : Type 0} (rules : RecordRules R) (link_rules : LinkRules R) (fresh : AreFreshlyDrawn rules) (laws : LinkLaws rules link_rules) where
  row_below : (r : R) (n : ℕ) → row_number rules link_rules r ≡ Some n → n < above (rules.drawn r)
  row_below r n is =
      let d = numbered rules link_rules r n is in
      let place = laws.drawn r d.0 d.1 in
      omega (arith, d.2, below_above (rules.drawn r) place.0 d.0 place.1)

  numbers_below : (records : List R) → AreLess (next_of rules records) (row_numbers rules link_rules records)
  numbers_below [] = λ p within. absurd (omega arith)
  numbers_below (r ∷ records) =
      let joined = next_cons rules r records in
      less_front (row_number rules link_rules r) (row_numbers rules link_rules records) (next_of rules (r ∷ records))
      (λ n is. omega (arith, row_below r n is, joined))
      (λ p within. omega (arith, numbers_below records p within, joined))

  row_least : (least : ℕ) (r : R) → are_fresh least (rules.drawn r) ≡ true → (n : ℕ) → row_number rules link_rules r ≡ Some n → (least ≤ n) × (n < NUMBER_END)
  row_least least r are n is =
      let d = numbered rules link_rules r n is in
      let place = laws.drawn r d.0 d.1 in
      let own = fresh_at least (rules.drawn r) place.0 d.0 are place.1 in
      (omega (arith, d.2, own.greater), omega (arith, d.2, own.small))

  -- the number of one row more is greater than all before it
  pub row_is_next : (records : List R) (r : R) (numbers : List ℕ) → rules.is_record records r ≡ true → numbers ≡ row_numbers rules link_rules records
      → IfSome (row_number rules link_rules r) (λ n. AreBelow n numbers)
  row_is_next records r numbers is same =
      if_some (row_number rules link_rules r) (λ n. AreBelow n numbers)
      (λ n here. subst (AreBelow n) (sym same)
      (λ p within. omega (arith, numbers_below records p within, (row_least (next_of rules records) r (fresh records r is) n here).0)))

  -- and below the end
  pub row_is_small : (records : List R) (r : R) → rules.is_record records r ≡ true → IfSome (row_number rules link_rules r) (λ n. n < NUMBER_END)
  row_is_small records r is = if_some (row_number rules link_rules r) (λ n. n < NUMBER_END) (λ n here. (row_least (next_of rules records) r (fresh records r is) n here).1)

  -- the place of the row of a record
  record RowAt (first : ℕ) (records : List R) (i number : ℕ) : Type 0 where
    p : ℕ
    within : p < length (row_numbers rules link_rules records)
    number_is : slice_index (row_numbers rules link_rules records) p ≡ number
    place_is : slice_index (row_places rules link_rules first records) p ≡ first + i

  row_at : (first : ℕ) (records : List R) (i : ℕ) (x : R) (number : ℕ) → slice_get records i ≡ Some x → row_number rules link_rules x ≡ Some number → RowAt first records i number
  row_at first [] i x number there is = absurd (cc)
  row_at first (r ∷ records) zero x number there is =
      let same : r ≡ x = cc in
      let at = front (row_number rules link_rules r) number first (row_numbers rules link_rules records) (row_places rules link_rules (first + 1) records) (ap (row_number rules link_rules) same ∙ is) in
      record { p = 0; within = at.0; number_is = at.1; place_is = omega (arith, at.2) }
  row_at first (r ∷ records) (suc i) x number there is =
      let rest = row_at (first + 1) records i x number there is in
      let at = behind (row_number rules link_rules r) first rest.p (row_numbers rules link_rules records) (row_places rules link_rules (first + 1) records) rest.within in
      record { p = at.0; within = at.1; number_is = at.2 ∙ rest.number_is; place_is = omega (arith, at.3, rest.place_is) }

  pub placed : (records : List R) (links : Links) → AreRows rules link_rules records links → length records ≤ length links.links.items → ArePlaced links
  placed records links rows enough = record {
    long = ap length rows.places_are ∙ places_long rules link_rules 0 records ∙ sym (ap length rows.numbers_are);
    within = λ p within.
        let size = ap length rows.places_are in
        let less = places_within rules link_rules 0 records p (omega (arith, size, within)) in
        let read = ap (λ ps. slice_index ps p) rows.places_are in
        omega (arith, read, less, enough);
  }

  -- links to one place
  pub links_none : (records : List R) (place : ℕ) (old : List (Option ℕ)) → LinksThem rules link_rules records [] place old old
  links_none records place old = record {
    long = refl;
    each = λ i. sym (cond-false (passes (has_id rules link_rules []) (slice_get records i)) (Some place) (link_at old i) (nothing (slice_get records i)));
  }
    where
      nothing : (o : Option R) → passes (has_id rules link_rules []) o ≡ false
      nothing None = refl
      nothing (Some x) = has_none rules link_rules x

  module _ (records : List R) (are : AreRecords rules records) (ids : List (List ℕ)) (id : List ℕ) (row : HasRow rules link_rules records id) where
    no_more : (i : ℕ) → i ≢ row.place → (o : Option R) → slice_get records i ≡ o → passes (has_id rules link_rules (ids ++ id ∷ [])) o ≡ passes (has_id rules link_rules ids) o
    no_more i other None there = refl
    no_more i other (Some x) there =
        let not_it : has_id rules link_rules (id ∷ []) x ≡ false =
        false_from_ne_true (has_id rules link_rules (id ∷ []) x) (λ has. other (one_place rules link_rules fresh laws [] records are id i row.place x row.row there row.there has row.has)) in
        has_push rules link_rules ids id x ∙ ap (λ b. has_id rules link_rules ids x || b) not_it ∙ or-false (has_id rules link_rules ids x)

    has_it : passes (has_id rules link_rules (ids ++ id ∷ [])) (slice_get records row.place) ≡ true
    has_it =
        some_passes (has_id rules link_rules (ids ++ id ∷ [])) (slice_get records row.place) row.row row.there
        (has_push rules link_rules ids id row.row ∙ ap (λ b. has_id rules link_rules ids row.row || b) row.has ∙ or-true (has_id rules link_rules ids row.row))
      where
        or-true : (b : Bool) → (b || true) ≡ true
        or-true true = refl
        or-true false = refl

    pub links_more : (place : ℕ) (old now new : List (Option ℕ)) → LinksThem rules link_rules records ids place old now → row.place < length now → new ≡ set now row.place (Some place)
        → LinksThem rules link_rules records (ids ++ id ∷ []) place old new
    links_more place old now new before within is = record {
      long = ap length is ∙ length-set now row.place (Some place) ∙ before.long;
      each = λ i. elim (cases_eq i row.place) [
        | inl same ↦ subst (λ k. link_at new k ≡ cond (passes (has_id rules link_rules (ids ++ id ∷ [])) (slice_get records k)) (Some place) (link_at old k)) (sym same)
            (ap (λ ls. link_at ls row.place) is ∙ get_or-set_same now row.place (Some place) None within
            ∙ sym (cond-true (passes (has_id rules link_rules (ids ++ id ∷ [])) (slice_get records row.place)) (Some place) (link_at old row.place) has_it))
        | inr other ↦
            ap (λ ls. link_at ls i) is ∙ get_or-set_other now row.place i (Some place) None other ∙ before.each i
            ∙ ap (λ b. cond b (Some place) (link_at old i)) (sym (no_more i other (slice_get records i) refl))
      ];
    }

  -- a record that has one of the IDs
  has_row : (before : List R) (r : R) → AreRecords rules before → rules.is_record before r ≡ true → (id : List ℕ) → is_among id (link_rules.named r) ≡ true → HasRow rules link_rules before id
  has_row before r are is id among =
      let f = laws.free before r id are is among in
      record { place = f.place; row = f.row; there = f.there; has = f.has }

  -- what a record with one of the IDs is: it is named, and no later one that is linked rules.names it
  pub record IsNamed (before : List R) (r : R) (i : ℕ) (x : R) : Type 0 where
    pub is : names_up rules link_rules r x ≡ true
    pub once : (l : ℕ) (y : R) → i < l → slice_get before l ≡ Some y → names_up rules link_rules y x ≡ false

  pub is_named : (before : List R) (r : R) → AreRecords rules before → rules.is_record before r ≡ true → (i : ℕ) (x : R) → slice_get before i ≡ Some x
      → has_id rules link_rules (link_rules.named r) x ≡ true → IsNamed before r i x
  is_named before r are is i x there has =
      let one = has_one rules link_rules (link_rules.named r) x has in
      let f = laws.free before r one.0 are is one.1 in
      let same = one_place rules link_rules fresh laws [] before are one.0 f.place i f.row x f.there there f.has one.2 in
      let at : slice_get before i ≡ Some f.row = subst (λ p. slice_get before p ≡ Some f.row) same f.there in
      let row : f.row ≡ x = cc in
      record {
        is = subst (λ y. names_up rules link_rules r y ≡ true) row f.named_is;
        once = λ l y less at_l. subst (λ z. names_up rules link_rules y z ≡ false) row (f.free l y (omega (arith, less, same)) at_l);
      }

  within_row : (r : R) → is_some (link_rules.within r) ≡ true → link_rules.row r ≡ None
  within_row r is = by_within (link_rules.within r) refl is
    where
      by_within : (o : Option (List ℕ)) → link_rules.within r ≡ o → is_some o ≡ true → link_rules.row r ≡ None
      by_within None e is = absurd (cc)
      by_within (Some id) e is = laws.within_none r id e

  -- a record that is itself linked is linked to by none
  within_has_none : (ids : List (List ℕ)) (r x : R) → names_down rules link_rules r x ≡ true → has_id rules link_rules ids r ≡ false
  within_has_none ids r x is = ap (passes (λ (d : Drawn). is_among d.id ids)) (within_row r (and_parts (is_some (link_rules.within r)) (rules.names r x) is).0)

  module _ (records : List R) (r : R) (are : AreRecords rules records) (is : rules.is_record records r ≡ true) (old new : List (Option ℕ)) (own : Option ℕ) (before : AreLinks rules link_rules records old)
      (own_is : IsOwnLink rules link_rules records r own) (linked : LinksThem rules link_rules records (link_rules.named r) (length records) (old ++ own ∷ []) new) where
    abbrev hit : ℕ → Bool
    hit i = passes (has_id rules link_rules (link_rules.named r)) (slice_get records i)

    hit_link : (i : ℕ) → hit i ≡ true → link_at new i ≡ Some (length records)
    hit_link i is_hit = linked.each i ∙ cond-true (hit i) (Some (length records)) (link_at (old ++ own ∷ []) i) is_hit

    old_link : (i : ℕ) → i < length records → hit i ≡ false → link_at new i ≡ link_at old i
    old_link i within missed =
        linked.each i ∙ cond-false (hit i) (Some (length records)) (link_at (old ++ own ∷ []) i) missed
        ∙ get_or_append_left old (own ∷ []) None i (omega (arith, within, before.long))

    last_missed : hit (length records) ≡ false
    last_missed = ap (passes (has_id rules link_rules (link_rules.named r))) (slice_get_past records (length records) (omega arith))

    last_link : link_at new (length records) ≡ own
    last_link =
        linked.each (length records) ∙ cond-false (hit (length records)) (Some (length records)) (link_at (old ++ own ∷ []) (length records)) last_missed
        ∙ get_or_push old own None (length records) before.long

    no_link_past : (i l : ℕ) → length records < i → link_at new i ≡ Some l → ⊥
    no_link_past i l past link =
        let none : link_at new i ≡ None = get_or_past new i None (omega (arith, past, linked.long, length_push old own, before.long)) in
        let wrong : ◌≡◌ {A = Option ℕ} None (Some l) = sym none ∙ link in cc

    earlier_link : (i l : ℕ) → i < length records → link_at new i ≡ Some l
        → (relates_at (names_up rules link_rules) (records ++ r ∷ []) l i ≡ true) ⊎ (relates_at (names_down rules link_rules) (records ++ r ∷ []) i l ≡ true)
    earlier_link i l within link = elim (cases_Bool (hit i)) [
      | inl is_hit ↦
          let at = passes_some (has_id rules link_rules (link_rules.named r)) (slice_get records i) is_hit in
          let it = is_named records r are is i at.0 at.1 at.2 in
          let to : Some (length records) ≡ Some l = sym (hit_link i is_hit) ∙ link in
          let same : length records ≡ l = cc in
          inl (subst (λ k. relates_at (names_up rules link_rules) (records ++ r ∷ []) k i ≡ true) same
          (relates_from (names_up rules link_rules) (records ++ r ∷ []) (length records) i r at.0 (slice_get_within records i at.0 at.1) (at_last records r) (at_front records (r ∷ []) i at.0 at.1) it.is))
      | inr missed ↦
          elim (before.are i l (sym (old_link i within missed) ∙ link)) [
            | inl up ↦ inl (more_relates (names_up rules link_rules) records r l i up)
            | inr down ↦ inr (more_relates (names_down rules link_rules) records r i l down)
          ]
    ]

    last_relates : (l : ℕ) → link_at new (length records) ≡ Some l → relates_at (names_down rules link_rules) (records ++ r ∷ []) (length records) l ≡ true
    last_relates l link =
        let at = own_is.is l (sym last_link ∙ link) in
        relates_from (names_down rules link_rules) (records ++ r ∷ []) (length records) l r at.0 (slice_get_within records l at.0 at.1) (at_last records r) (at_front records (r ∷ []) l at.0 at.1) at.2

    link_relates : (i l : ℕ) → link_at new i ≡ Some l → (relates_at (names_up rules link_rules) (records ++ r ∷ []) l i ≡ true) ⊎ (relates_at (names_down rules link_rules) (records ++ r ∷ []) i l ≡ true)
    link_relates i l link = elim (cases_lt i (length records)) [
      | inl within ↦ earlier_link i l within link
      | inr past ↦
          elim (cases_eq i (length records)) [
            | inl same ↦
                subst (λ k. (relates_at (names_up rules link_rules) (records ++ r ∷ []) l k ≡ true) ⊎ (relates_at (names_down rules link_rules) (records ++ r ∷ []) k l ≡ true)) (sym same)
                (inr (last_relates l (ap (link_at new) (sym same) ∙ link)))
            | inr other ↦ absurd (no_link_past i l (omega (arith, past, other)) link)
          ]
    ]

    the_same : (o : Option R) (a b : R) → o ≡ Some a → o ≡ Some b → a ≡ b
    the_same o a b one other = cc

    earlier_stays : (l i : ℕ) (y x : R) → i < l → slice_get records l ≡ Some y → slice_get records i ≡ Some x → names_up rules link_rules y x ≡ true → link_at new i ≡ Some l
    earlier_stays l i y x less at_l at_i named_is =
        let missed : hit i ≡ false =
        false_from_ne_true (hit i) (λ is_hit.
        let at = passes_some (has_id rules link_rules (link_rules.named r)) (slice_get records i) is_hit in
        let same : x ≡ at.0 = the_same (slice_get records i) x at.0 at_i at.1 in
        let it = is_named records r are is i at.0 at.1 at.2 in
        false≢true (sym (it.once l y less at_l) ∙ ap (names_up rules link_rules y) (sym same) ∙ named_is)) in
        old_link i (slice_get_within records i x at_i) missed ∙ before.up i l (relates_from (names_up rules link_rules) records l i y x less at_l at_i named_is)

    up_link : (i l : ℕ) → relates_at (names_up rules link_rules) (records ++ r ∷ []) l i ≡ true → link_at new i ≡ Some l
    up_link i l named_now =
        let p = relates_parts (names_up rules link_rules) (records ++ r ∷ []) l i named_now in
        let less = p.less in
        elim (at_push records r i p.earlier p.at_earlier) [
          | inr last ↦
              let within = slice_get_within (records ++ r ∷ []) l p.later p.at_later in
              let size = length_push records r in
              absurd (omega (arith, last.0, within, size, less))
          | inl at_i ↦
              elim (at_push records r l p.later p.at_later) [
                | inl at_l ↦ earlier_stays l i p.later p.earlier less at_l at_i p.is
                | inr last ↦
                    let now : names_up rules link_rules r p.earlier ≡ true = ap (λ y. names_up rules link_rules y p.earlier) last.1 ∙ p.is in
                    hit_link i (some_passes (has_id rules link_rules (link_rules.named r)) (slice_get records i) p.earlier at_i (laws.named r p.earlier now)) ∙ ap Some (sym last.0)
              ]
        ]

    down_stays : (i l : ℕ) (y x : R) → l < i → slice_get records i ≡ Some y → slice_get records l ≡ Some x → names_down rules link_rules y x ≡ true → link_at new i ≡ Some l
    down_stays i l y x less at_i at_l named_is =
        let missed : hit i ≡ false = ap (passes (has_id rules link_rules (link_rules.named r))) at_i ∙ within_has_none (link_rules.named r) y x named_is in
        old_link i (slice_get_within records i y at_i) missed ∙ before.down i l (relates_from (names_down rules link_rules) records i l y x less at_i at_l named_is)

    down_link : (i l : ℕ) → relates_at (names_down rules link_rules) (records ++ r ∷ []) i l ≡ true → link_at new i ≡ Some l
    down_link i l named_now =
        let p = relates_parts (names_down rules link_rules) (records ++ r ∷ []) i l named_now in
        let less = p.less in
        elim (at_push records r l p.earlier p.at_earlier) [
          | inr last ↦
              let within = slice_get_within (records ++ r ∷ []) i p.later p.at_later in
              let size = length_push records r in
              absurd (omega (arith, last.0, within, size, less))
          | inl at_l ↦
              elim (at_push records r i p.later p.at_later) [
                | inl at_i ↦ down_stays i l p.later p.earlier less at_i at_l p.is
                | inr last ↦
                    let now : names_down rules link_rules r p.earlier ≡ true = ap (λ y. names_down rules link_rules y p.earlier) last.1 ∙ p.is in
                    ap (link_at new) last.0 ∙ last_link ∙ own_is.all l p.earlier at_l now
              ]
        ]

    links_push : AreLinks rules link_rules (records ++ r ∷ []) new
    links_push = record {
      long = linked.long ∙ length_push old own ∙ ap (λ n. n + 1) before.long ∙ sym (length_push records r);
      are = link_relates;
      up = up_link;
      down = down_link;
    }

  -- a record was taken
  pub taken : (records : List R) (r : R) (old new : Links) (items : List (Option ℕ)) (own : Option ℕ) (ids : List (List ℕ)) (place : ℕ)
      → IsLinked rules link_rules records old → rules.is_record records r ≡ true → IsOwnLink rules link_rules records r own → place ≡ length records → ids ≡ link_rules.named r → items ≡ old.links.items ++ own ∷ []
      → LinksThem rules link_rules records ids place items new.links.items → new.numbers.listed ≡ old.numbers.listed ++ option_to_list (row_number rules link_rules r)
      → new.places.items ≡ old.places.items ++ map (λ n. place) (option_to_list (row_number rules link_rules r)) → IsLinked rules link_rules (records ++ r ∷ []) new
  taken records r old new items own ids place before is own_is at these pushed linked numbers places =
      let one = subst (λ t. LinksThem rules link_rules records t place items new.links.items) these linked in
      let two = subst (λ p. LinksThem rules link_rules records (link_rules.named r) p items new.links.items) at one in
      let three = subst (λ t. LinksThem rules link_rules records (link_rules.named r) (length records) t new.links.items) pushed two in
      record {
        rows = record {
          are = AreRecords-push rules records r before.rows.are is;
          numbers_are = numbers ∙ ap (λ ns. ns ++ option_to_list (row_number rules link_rules r)) before.rows.numbers_are ∙ sym (numbers_push rules link_rules records r);
          places_are = places ∙ ap (λ ps. ps ++ map (λ n. place) (option_to_list (row_number rules link_rules r))) before.rows.places_are
              ∙ ap (λ p. row_places rules link_rules 0 records ++ map (λ n. p) (option_to_list (row_number rules link_rules r))) (at ∙ zero_more (length records)) ∙ sym (places_push rules link_rules 0 records r);
        };
        linked = links_push records r before.rows.are is old.links.items new.links.items own before.linked own_is three;
      }
    where
      zero_more : (n : ℕ) → n ≡ 0 + n
      zero_more n = omega arith

  -- the same, step by step: the links made room for, the IDs linked, the row put
  pub taken_so : (records : List R) (r : R) (old mid new : Links) (items : List (Option ℕ)) (own : Option ℕ) (ids : List (List ℕ)) (place : ℕ)
      → IsLinked rules link_rules records old → rules.is_record records r ≡ true → IsOwnLink rules link_rules records r own → place ≡ length old.links.items → ids ≡ link_rules.named r → items ≡ old.links.items ++ own ∷ []
      → (HaveRows rules link_rules records ids → LinksThem rules link_rules records ids place items mid.links.items) → mid.numbers ≡ old.numbers → mid.places ≡ old.places
      → new.links ≡ mid.links → new.numbers.listed ≡ mid.numbers.listed ++ option_to_list (row_number rules link_rules r)
      → new.places.items ≡ mid.places.items ++ map (λ n. place) (option_to_list (row_number rules link_rules r)) → IsLinked rules link_rules (records ++ r ∷ []) new
  taken_so records r old mid new items own ids place before is own_is at these pushed linked same_numbers same_places links numbers places =
      let have : HaveRows rules link_rules records ids = λ id among. has_row records r before.rows.are is id (ap (is_among id) (sym these) ∙ among) in
      taken records r old new items own ids place before is own_is (at ∙ before.linked.long) these pushed
      (subst (λ ls. LinksThem rules link_rules records ids place items ls) (ap (λ v. v.items) (sym links)) (linked have))
      (numbers ∙ ap (λ ns. ns.listed ++ option_to_list (row_number rules link_rules r)) same_numbers)
      (places ∙ ap (λ v. v.items ++ map (λ n. place) (option_to_list (row_number rules link_rules r))) same_places)

  -- where the row of an ID is found
  pub record FoundRow (records : List R) (links : Links) (id : List ℕ) (place : ℕ) : Type 0 where
    pub p : ℕ
    pub within : p < length links.numbers.listed
    pub begins : has_number (slice_index links.numbers.listed p) id ≡ true
    pub place_is : slice_index links.places.items p ≡ place

  pub found_row : (records : List R) (links : Links) (id : List ℕ) → AreRows rules link_rules records links → (row : HasRow rules link_rules records id) → FoundRow records links id row.place
  found_row records links id rows row =
      let facts = facts_at rules link_rules fresh laws [] records rows.are row.place row.row row.there id row.has in
      let at = row_at 0 records row.place row.row facts.number row.there facts.is in
      let size = ap length rows.numbers_are in
      record {
        p = at.p;
        within = omega (arith, size, at.within);
        begins = ap (λ ns. has_number (slice_index ns at.p) id) rows.numbers_are ∙ ap (λ n. has_number n id) at.number_is ∙ facts.begins;
        place_is = ap (λ ps. slice_index ps at.p) rows.places_are ∙ at.place_is ∙ plain row.place;
      }
    where
      plain : (n : ℕ) → 0 + n ≡ n
      plain n = omega arith

  pub placed_same : (old new : Links) → ArePlaced old → new.numbers ≡ old.numbers → new.places ≡ old.places → length new.links.items ≡ length old.links.items → ArePlaced new
  placed_same old new are numbers places long =
      let same_places = ap (λ v. v.items) places in
      let same_numbers = ap (λ (n : NumbersView). n.listed) numbers in
      record {
        long = ap length same_places ∙ are.long ∙ sym (ap length same_numbers);
        within = λ p within.
            let less = are.within p (omega (arith, within, ap length same_places)) in
            let read = ap (λ ps. slice_index ps p) same_places in
            omega (arith, less, read, long);
      }

  -- one ID more was linked
  pub link_one : (records : List R) (old now new : Links) (ids : List (List ℕ)) (i : ℕ) (id text : List ℕ) (place : ℕ)
      → AreRows rules link_rules records old → HaveRows rules link_rules records ids → ArePlaced now → i < length ids → id ≡ get_or ids i id → text ≡ id → now.numbers ≡ old.numbers → now.places ≡ old.places
      → LinksThem rules link_rules records (take i ids) place old.links.items now.links.items
      → ((p : ℕ) → p < length now.numbers.listed → has_number (slice_index now.numbers.listed p) text ≡ true → new.links.items ≡ set now.links.items (slice_index now.places.items p) (Some place))
      → LinksThem rules link_rules records (take (i + 1) ids) place old.links.items new.links.items
  link_one records old now new ids i id text place rows have are_placed within read same numbers places before step =
      let among : is_among id ids ≡ true =
      list_any_at (λ other. bytes_eq other id) ids i id within (ap (λ t. bytes_eq t id) (sym read) ∙ text_itself id) in
      let row = have id among in
      let rows_now : AreRows rules link_rules records now = record {
        are = rows.are;
        numbers_are = ap (λ (n : NumbersView). n.listed) numbers ∙ rows.numbers_are;
        places_are = ap (λ v. v.items) places ∙ rows.places_are;
      } in
      let found = found_row records now id rows_now row in
      let found_within = found.within in
      let inside = are_placed.within found.p (omega (arith, are_placed.long, found_within)) in
      let is = step found.p found.within (ap (λ t. has_number (slice_index now.numbers.listed found.p) t) same ∙ found.begins) in
      let there = is ∙ ap (λ q. set now.links.items q (Some place)) found.place_is in
      let more : take (i + 1) ids ≡ take i ids ++ id ∷ [] = take_more ids i id within ∙ ap (λ t. take i ids ++ t ∷ []) (sym read) in
      subst (λ ts. LinksThem rules link_rules records ts place old.links.items new.links.items) (sym more)
      (links_more records rows.are (take i ids) id row place old.links.items now.links.items new.links.items before (omega (arith, inside, found.place_is)) there)

  pub all_linked : (records : List R) (ids : List (List ℕ)) (i place : ℕ) (old new : List (Option ℕ)) → length ids ≤ i → LinksThem rules link_rules records (take i ids) place old new
      → LinksThem rules link_rules records ids place old new
  all_linked records ids i place old new past are = subst (λ ts. LinksThem rules link_rules records ts place old new) (take_all i ids past) are

  -- no records
  pub none_linked : (links : Links) → links.links.items ≡ [] → links.numbers.listed ≡ [] → links.places.items ≡ [] → IsLinked rules link_rules [] links
  none_linked links none no_numbers no_places = record {
    rows = record { are = tt; numbers_are = no_numbers; places_are = no_places };
    linked = record {
      long = ap length none;
      are = λ i l link. absurd (nothing i l (sym (ap (λ ls. link_at ls i) none) ∙ link));
      up = λ i l named_now. absurd (nowhere (names_up rules link_rules) l i (relates_parts (names_up rules link_rules) [] l i named_now));
      down = λ i l named_now. absurd (nowhere (names_down rules link_rules) i l (relates_parts (names_down rules link_rules) [] i l named_now));
    };
  }
    where
      nothing : (i l : ℕ) → link_at [] i ≡ Some l → ⊥
      nothing i l e = cc

      nowhere : (relates : R → R → Bool) (l i : ℕ) → RelatesParts relates [] l i → ⊥
      nowhere relates l i p = let e = p.at_later in cc

  -- ---- the link of a record that is itself linked

  names_none : (o : Option (List ℕ)) (b : Bool) → o ≡ None → (is_some o && b) ≡ true → ⊥
  names_none None b e is = false≢true is
  names_none (Some id) b e is = cc

  pub own_none : (records : List R) (r : R) → link_rules.within r ≡ None → IsOwnLink rules link_rules records r None
  own_none records r none = record {
    is = λ l link. absurd (cc);
    all = λ l x there named. absurd (names_none (link_rules.within r) (rules.names r x) none named);
  }

  some_within : (o : Option (List ℕ)) (id : List ℕ) → o ≡ Some id → is_some o ≡ true
  some_within None id e = cc
  some_within (Some other) id e = refl

  pub own_found : (records : List R) (r : R) (id : List ℕ) (links : Links) (row place : ℕ) → link_rules.within r ≡ Some id → AreRows rules link_rules records links → rules.is_record records r ≡ true
      → ((k : ℕ) → k < length links.numbers.listed → has_number (slice_index links.numbers.listed k) id ≡ true → ◌≡◌ {A = Option ℕ} (Some row) (Some k))
      → place ≡ get_or links.places.items row place → row < length links.places.items → IsOwnLink rules link_rules records r (Some place)
  own_found records r id links row place some rows is only read within =
      let b = laws.within records r id is some in
      let has_row : HasRow rules link_rules records id = record { place = b.place; row = b.row; there = b.there; has = b.has } in
      let found = found_row records links id rows has_row in
      let at : ◌≡◌ {A = Option ℕ} (Some row) (Some found.p) = only found.p found.within found.begins in
      let same : row ≡ found.p = cc in
      let place_is : place ≡ b.place =
      read ∙ Rattle.std.proofs.lemmas.List.get_or_default links.places.items row place 0 within ∙ ap (slice_index links.places.items) same ∙ found.place_is in
      record {
        is = λ l link.
            let here : place ≡ l = cc in
            let l_is : b.place ≡ l = sym place_is ∙ here in
            (b.row, subst (λ k. slice_get records k ≡ Some b.row) l_is b.there, and_from (is_some (link_rules.within r)) (rules.names r b.row) (some_within (link_rules.within r) id some) b.named_is);
        all = λ l x there named.
            let has = laws.within_names r x id some (and_parts (is_some (link_rules.within r)) (rules.names r x) named).1 in
            ap Some (place_is ∙ one_place rules link_rules fresh laws [] records rows.are id b.place l b.row x b.there there b.has has);
      }

  -- there is a place for its number
  pub own_there : (records : List R) (r : R) (id : List ℕ) (links : Links) → link_rules.within r ≡ Some id → AreRows rules link_rules records links → rules.is_record records r ≡ true
      → ((k : ℕ) → k < length links.numbers.listed → has_number (slice_index links.numbers.listed k) id ≡ true → ◌≡◌ {A = Option ℕ} None (Some k)) → ⊥
  own_there records r id links some rows is only =
      let b = laws.within records r id is some in
      let found = found_row records links id rows (record { place = b.place; row = b.row; there = b.there; has = b.has }) in
      let at : ◌≡◌ {A = Option ℕ} None (Some found.p) = only found.p found.within found.begins in cc
