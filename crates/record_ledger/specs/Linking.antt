-- How a compaction finds which record names which.
use Rattle.std.specs.Prelude.{◌≡◌, ◌⊎◌, ℕ, ◌+◌, ◌<◌, Bool, true, false, not, ◌&&◌, List, [], ◌∷◌, ◌++◌, length, map, slice_index, slice_get, Option, None, Some, if◌then◌else◌}
use Rattle.std.specs.List.{flat_map, list_any}
use Rattle.std.specs.Option.{option_map, is_some, option_to_list}
use Rattle.std.specs.Str.{bytes_eq}
use Rattle.ledger_rules.specs.Numbers.{Drawn}
use Rattle.ledger_rules.specs.Kept.{link_at}
use Rattle.record_ledger.specs.declared.links.Links.{Links}
use Rattle.record_ledger.specs.Rules.{RecordRules, AreRecords}
use Rattle.record_ledger.specs.Compacting.{passes, relates_at}

-- How the rows that records name are found. A record is linked to the later one that names it, but some to the earlier one
-- that they name themselves: so each is linked to one at most.
pub record LinkRules (R : Type 0) : Type 0 where
  -- the number and the ID by which a record's row is found, where it has one
  pub row : R → Option Drawn
  -- the IDs of the rows whose records are linked to the one that names them
  pub named : R → List (List ℕ)
  -- the ID of the row to whose record a record is itself linked
  pub within : R → Option (List ℕ)

-- whether a text is among these
abbrev pub is_among : List ℕ → List (List ℕ) → Bool
is_among text texts = list_any (λ other. bytes_eq other text) texts

-- each number has a place, and each place a link
pub record ArePlaced (links : Links) : Type 0 where
  pub long : length links.places.items ≡ length links.numbers.listed
  pub within : (p : ℕ) → p < length links.places.items → slice_index links.places.items p < length links.links.items

module _ {R : Type 0} (rules : RecordRules R) (link_rules : LinkRules R) where
  -- whether a record has a row with one of these IDs
  abbrev pub has_id : List (List ℕ) → R → Bool
  has_id ids r = passes (λ (d : Drawn). is_among d.id ids) (link_rules.row r)

  -- the number of a record's row, where it has one
  abbrev pub row_number : R → Option ℕ
  row_number r = option_map (λ (d : Drawn). d.number) (link_rules.row r)

  -- whether the first record names the second, which is linked to it, or is itself linked to the second
  abbrev pub names_up : R → R → Bool
  names_up later earlier = not (is_some (link_rules.within later)) && rules.names later earlier

  abbrev pub names_down : R → R → Bool
  names_down later earlier = is_some (link_rules.within later) && rules.names later earlier

  -- the numbers of the rows of records, and the places of these records, counted from that of the first
  abbrev pub row_numbers : List R → List ℕ
  row_numbers records = flat_map (λ r. option_to_list (row_number r)) records

  abbrev pub row_places : ℕ → List R → List ℕ
  row_places first [] = []
  row_places first (r ∷ later) = map (λ n. first) (option_to_list (row_number r)) ++ row_places (first + 1) later

  -- each record is linked so
  pub record AreLinks (records : List R) (links : List (Option ℕ)) : Type 0 where
    pub long : length links ≡ length records
    pub are : (i l : ℕ) → link_at links i ≡ Some l →
        (relates_at names_up records l i ≡ true) ⊎ (relates_at names_down records i l ≡ true)
    pub up : (i l : ℕ) → relates_at names_up records l i ≡ true → link_at links i ≡ Some l
    pub down : (i l : ℕ) → relates_at names_down records i l ≡ true → link_at links i ≡ Some l

  -- the numbers and places of the rows of these records
  pub record AreRows (records : List R) (links : Links) : Type 0 where
    pub are : AreRecords rules records
    pub numbers_are : links.numbers.listed ≡ row_numbers records
    pub places_are : links.places.items ≡ row_places 0 records

  -- these are the links of records of a ledger
  pub record IsLinked (records : List R) (links : Links) : Type 0 where
    pub rows : AreRows records links
    pub linked : AreLinks records links.links.items

  -- 32 bits hold the place of one record more
  pub record CanTake (links : Links) (r : R) : Type 0 where
    pub records : List R
    pub are : IsLinked records links
    pub is : rules.is_record records r ≡ true
    pub few : length records < 4294967295

  -- each record that has one of these IDs is linked to the one at this place, and no other was touched
  pub record LinksThem (records : List R) (ids : List (List ℕ)) (place : ℕ) (old new : List (Option ℕ)) : Type 0 where
    pub long : length new ≡ length old
    pub each : (i : ℕ) → link_at new i ≡ (if passes (has_id ids) (slice_get records i) then Some place else link_at old i)

  -- the place of the record to which a record is itself linked, none for other records
  pub record IsOwnLink (records : List R) (r : R) (link : Option ℕ) : Type 0 where
    pub is : (l : ℕ) → link ≡ Some l → (x : R) × (slice_get records l ≡ Some x) × (names_down r x ≡ true)
    pub all : (l : ℕ) (x : R) → slice_get records l ≡ Some x → names_down r x ≡ true → link ≡ Some l

  -- there is a record that has this ID
  pub record HasRow (records : List R) (id : List ℕ) : Type 0 where
    pub place : ℕ
    pub row : R
    pub there : slice_get records place ≡ Some row
    pub has : has_id (id ∷ []) row ≡ true

  abbrev pub HaveRows : List R → List (List ℕ) → Type 0
  HaveRows records ids = (id : List ℕ) → is_among id ids ≡ true → HasRow records id

  -- the record of an ID that one record more names: no later one names it
  pub record FreeRow (before : List R) (r : R) (id : List ℕ) : Type 0 where
    pub place : ℕ
    pub row : R
    pub there : slice_get before place ≡ Some row
    pub has : has_id (id ∷ []) row ≡ true
    pub named_is : names_up r row ≡ true
    pub free : (l : ℕ) (y : R) → place < l → slice_get before l ≡ Some y → names_up y row ≡ false

  -- the record of an ID to which one record more is itself linked
  pub record NamedRow (before : List R) (r : R) (id : List ℕ) : Type 0 where
    pub place : ℕ
    pub row : R
    pub there : slice_get before place ≡ Some row
    pub has : has_id (id ∷ []) row ≡ true
    pub named_is : rules.names r row ≡ true

  -- What makes the links right.
  pub record LinkLaws : Type 0 where
    -- a record's row is found by an ID that it draws, at this place of its IDs
    pub drawn : (r : R) (d : Drawn) → link_rules.row r ≡ Some d → (k : ℕ) × (slice_get (rules.drawn r) k ≡ Some d)
    -- what is named and linked has one of the IDs, and each of these has a row that is named once, behind records of the
    -- ledger
    pub named : (r x : R) → names_up r x ≡ true → has_id (link_rules.named r) x ≡ true
    pub free : (before : List R) (r : R) (id : List ℕ) → AreRecords rules before → rules.is_record before r ≡ true →
        is_among id (link_rules.named r) ≡ true → FreeRow before r id
    -- A record that is itself linked names the row of that ID alone, and has none that is found: so nothing is linked to
    -- it.
    pub within : (before : List R) (r : R) (id : List ℕ) → rules.is_record before r ≡ true →
        link_rules.within r ≡ Some id → NamedRow before r id
    pub within_names : (r x : R) (id : List ℕ) → link_rules.within r ≡ Some id → rules.names r x ≡ true → has_id (id ∷ []) x ≡ true
    pub within_none : (r : R) (id : List ℕ) → link_rules.within r ≡ Some id → link_rules.row r ≡ None
