-- What the calls make of the table, by what they do to the slab.
use Rattle.std.proofs.Common.{◌≡◌, ◌≢◌, ℕ, ◌+◌, ◌-◌, ◌<◌, ◌≤◌, true, false, inl, inr, List, [], ◌++◌, Option, Some, None, is_some, cond, refl, sym, ap, subst, ◌∙◌, arith}
use Rattle.std.specs.Prelude.{◌↔◌, IsTrue, IfSome, IsSomeAnd}
use Rattle.std.proofs.Math.Dec.{leb}
use Rattle.std.proofs.lemmas.Bool.{cases_lt}
use Rattle.std.proofs.lemmas.Bool.Decides.{leb_tells}
use Rattle.std.specs.Ordering.{nat_cmp}
use Rattle.std.specs.Cmp.{nat_cmp_total}
use Rattle.std.specs.FinMap as map
use Rattle.slab.specs.Slab.{Slab, get, slab_len, ContainsKey, Updates, with_value}
use Rattle.slab.proofs.SlabLemmas.{Updates-with_value}
use Rattle.http_wire.specs.Requests.{Reading, Whole, More, Refused, Reads}
use Rattle.conn_table.specs.declared.progress.Progress.{Progress}
use Rattle.conn_table.specs.declared.progress.Progress.TheVariants as progress
use Rattle.conn_table.specs.declared.progress.Start.TheVariants as start
use Rattle.conn_table.specs.Answers.{progress_of, IsAnswer, IsWholeRequest}
use Rattle.conn_table.specs.Calls.{IsStarted, TakesPiece}
use Rattle.conn_table.specs.Kept.{Kept, table_of, AreDistinct, IsSound}
use Rattle.conn_table.specs.Table.{Table}
use Rattle.conn_table.proofs.Tables.{tied, IsAbsent, holds, get-absent, absent_by, len_table, insert_same, distinct_with, table_with, distinct_without, table_without}

-- ---- a key that was found

-- the slot of this key has a connection of this number
abbrev pub IsFound : Slab Kept → ℕ → ℕ → Type 0
IsFound s key conn = IsSomeAnd (get s key) (λ kept. kept.conn ≡ conn)

pub contains : (s : Slab Kept) (key conn : ℕ) → IsFound s key conn → ContainsKey s key
contains s key conn found = by_slot (get s key) found
  where
    by_slot : (slot : Option Kept) → IsSomeAnd slot (λ kept. kept.conn ≡ conn) → is_some slot ≡ true
    by_slot None found = absurd found
    by_slot (Some kept) found = refl

pub has_number : (s : Slab Kept) (key conn : ℕ) (kept : Kept) → IsFound s key conn → get s key ≡ Some kept → kept.conn ≡ conn
has_number s key conn kept found held = let P : Option Kept → Type 0 = λ slot. IsSomeAnd slot (λ k. k.conn ≡ conn) in subst P held found

-- its bytes are those of the table
pub in_table : (s : Slab Kept) (now : Table) (key conn : ℕ) (kept : Kept) → AreDistinct s → table_of s.slots ≡ now → IsFound s key conn → get s key ≡ Some kept
    → map.get now conn ≡ Some kept.bytes
in_table s now key conn kept distinct view found held =
    ap (λ m. map.get m conn) (sym view) ∙ ap (map.get (table_of s.slots)) (sym (has_number s key conn kept found held)) ∙ holds s key kept distinct held

pub not_in_table : (s : Slab Kept) (now : Table) (conn : ℕ) → table_of s.slots ≡ now → IsAbsent s.slots conn → map.get now conn ≡ None
not_in_table s now conn view absent = ap (λ m. map.get m conn) (sym view) ∙ get-absent s.slots conn absent

-- ---- a connection was started

within : (s : Slab Kept) (now : Table) → IsSound s → table_of s.slots ≡ now → map.len now ≤ 64
within s now sound view = omega (arith, sound.limit, ap map.len view)

-- whether the table is full, by how many the slab holds
pub is_full : (s : Slab Kept) (now : Table) (n : ℕ) → IsSound s → table_of s.slots ≡ now → n ≡ slab_len s → IsTrue (leb 64 n) ↔ (64 ≤ map.len now)
is_full s now n sound view counted =
    let counts = sym (ap map.len view) ∙ len_table s sound.distinct in
    elim (leb_tells 64 n) [
      | inl many ↦ (λ full. omega (arith, many.1, counts), λ full. many.0)
      | inr few ↦ (λ full. absurd (let both = sym full ∙ few.0 in cc), λ full. absurd (omega (arith, few.1, counts)))
    ]

pub has_room : (now : Table) → (64 ≤ map.len now → IsTrue false) → map.len now < 64
has_room now not_full = elim (cases_lt (map.len now) 64) [ inl few ↦ few | inr many ↦ absurd (let full = not_full many in cc) ]

module _ (s old new : Slab Kept) (now : Table) (conn key : ℕ) (kept : Kept) (distinct : AreDistinct s) (view : table_of s.slots ≡ now) (grown : old.slots ≡ s.slots)
    (few : map.len now < 64) (none : map.get now conn ≡ None) (made : kept ≡ record { conn = conn; bytes = [] }) (vacant : get old key ≡ None)
    (updates : Updates old new key (Some kept)) where
  distinct_old : AreDistinct old
  distinct_old = let P : List (Option Kept) → Type 0 = λ slots. AreDistinct (record old { slots = slots }) in subst P (sym grown) distinct

  no_other : (at : ℕ) (other : Kept) → get old at ≡ Some other → other.conn ≡ kept.conn → at ≡ key
  no_other at other there same =
      absurd (absent_by old conn distinct_old (ap (λ slots. map.get (table_of slots) conn) grown ∙ ap (λ m. map.get m conn) view ∙ none) at other there (same ∙ ap (λ k. k.conn) made))

  not_there : (other : Kept) → get old key ≡ Some other → other.conn ≡ kept.conn
  not_there other there = absurd (let both = sym vacant ∙ there in cc)

  distinct_started : AreDistinct new
  distinct_started = distinct_with old new key kept distinct_old updates no_other not_there

  table_started : table_of new.slots ≡ map.insert now conn []
  table_started =
      table_with old new key kept distinct_old updates no_other not_there
      ∙ ap (λ k. map.insert (table_of old.slots) k.conn k.bytes) made
      ∙ ap (λ m. map.insert m conn []) (ap table_of grown ∙ view)

  few_started : map.len (table_of new.slots) ≤ 64
  few_started =
      let more = map.len-insert nat_cmp_total now conn [] ∙ ap (λ o. cond (is_some o) (map.len now) (map.len now + 1)) none in
      omega (arith, more, ap map.len table_started)

  pub sound_started : IsSound new
  sound_started = record { distinct = distinct_started; limit = few_started }

  pub is_taken : IsStarted now conn start.Taken (table_of new.slots)
  is_taken = record {
    full = (λ full. absurd (cc), λ full. absurd (omega (arith, few)));
    taken = λ is. table_started;
    refused = λ other. absurd (other refl);
    limit = few_started;
  }

-- ---- a piece was brought

pub is_unknown : (now : Table) (conn : ℕ) (piece : List ℕ) → map.get now conn ≡ None → TakesPiece now conn piece progress.Unknown now
is_unknown now conn piece none = record {
  unknown = (λ is. none, λ is. refl);
  absent = λ is. refl;
  answered = λ met. let P : Option (List ℕ) → Type 0 = λ o. IfSome o (λ bytes. IsAnswer (bytes ++ piece) progress.Unknown) in subst P (sym none) tt;
  taken = λ met. let P : Option (List ℕ) → Type 0 = λ o. IfSome o (λ bytes. now ≡ map.insert now conn (bytes ++ piece)) in subst P (sym none) tt;
  ready = λ is. absurd (cc);
  unchanged = λ met. refl;
}

is_whole : (bytes : List ℕ) (reading : Reading) → Reads bytes reading → progress.Ready ≡ progress_of reading → IsWholeRequest bytes
is_whole bytes (Whole request) reads is = (request, reads)
is_whole bytes More reads is = absurd (cc)
is_whole bytes (Refused status) reads is = absurd (cc)

get-inserted : (m : Table) (conn : ℕ) (bytes : List ℕ) → map.get (map.insert m conn bytes) conn ≡ Some bytes
get-inserted m conn bytes = map.get-insert nat_cmp_total m conn bytes conn ∙ ap (λ b. cond b (Some bytes) (map.get m conn)) (tied conn conn refl)

module _ (s : Slab Kept) (now : Table) (conn key : ℕ) (piece : List ℕ) (before after : Kept) (answer : Progress) (sound : IsSound s) (view : table_of s.slots ≡ now)
    (found : IsFound s key conn) (held : get s key ≡ Some before) (known : answer ≢ progress.Unknown) (number : after.conn ≡ before.conn)
    (answered : answer ≢ progress.NoMemory → IsAnswer after.bytes answer) (taken : answer ≢ progress.NoMemory → after ≡ record before { bytes = before.bytes ++ piece })
    (unchanged : answer ≡ progress.NoMemory → after ≡ before) where
  here : after.conn ≡ conn
  here = number ∙ has_number s key conn before found held

  only_here : (at : ℕ) (other : Kept) → get s at ≡ Some other → other.conn ≡ after.conn → at ≡ key
  only_here at other there same = sound.distinct at key other before there held (same ∙ number)

  was_here : (other : Kept) → get s key ≡ Some other → other.conn ≡ after.conn
  was_here other there = has_number s key conn other found there ∙ sym here

  written : Updates s (with_value s key after) key (Some after)
  written = Updates-with_value s key after (contains s key conn found)

  distinct_piece : AreDistinct (with_value s key after)
  distinct_piece = distinct_with s (with_value s key after) key after sound.distinct written only_here was_here

  new_table : table_of (with_value s key after).slots ≡ map.insert now conn after.bytes
  new_table =
      table_with s (with_value s key after) key after sound.distinct written only_here was_here
      ∙ ap (λ k. map.insert (table_of s.slots) k after.bytes) here ∙ ap (λ m. map.insert m conn after.bytes) view

  at_conn : map.get now conn ≡ Some before.bytes
  at_conn = in_table s now key conn before sound.distinct view found held

  pub sound_piece : IsSound (with_value s key after)
  sound_piece =
      let same = map.len-insert nat_cmp_total now conn after.bytes ∙ ap (λ o. cond (is_some o) (map.len now) (map.len now + 1)) at_conn in
      record { distinct = distinct_piece; limit = omega (arith, same, ap map.len new_table, within s now sound view) }

  pub takes_piece : TakesPiece now conn piece answer (table_of (with_value s key after).slots)
  takes_piece = record {
    unknown = (λ is. absurd (known is), λ none. absurd (let both = sym none ∙ at_conn in cc));
    absent = λ is. absurd (known is);
    answered = λ met.
        let P : Option (List ℕ) → Type 0 = λ o. IfSome o (λ bytes. IsAnswer (bytes ++ piece) answer) in
        subst P (sym at_conn) (subst (λ bytes. IsAnswer bytes answer) (ap (λ k. k.bytes) (taken met)) (answered met));
    taken = λ met.
        let P : Option (List ℕ) → Type 0 = λ o. IfSome o (λ bytes. table_of (with_value s key after).slots ≡ map.insert now conn (bytes ++ piece)) in
        subst P (sym at_conn) (new_table ∙ ap (λ k. map.insert now conn k.bytes) (taken met));
    ready = λ is.
        let met : answer ≢ progress.NoMemory = λ none. (let both = sym is ∙ none in cc) in
        let P : Option (List ℕ) → Type 0 = λ o. IsSomeAnd o IsWholeRequest in
        let whole = answered met in
        subst P (sym (ap (λ m. map.get m conn) new_table ∙ get-inserted now conn after.bytes)) (is_whole after.bytes whole.0 whole.1 (sym is ∙ whole.2));
    unchanged = λ met. new_table ∙ ap (λ k. map.insert now conn k.bytes) (unchanged met) ∙ insert_same now conn before.bytes at_conn;
  }

-- ---- a connection is let go

pub sound_without : (old new : Slab Kept) (key : ℕ) (kept : Kept) → IsSound old → get old key ≡ Some kept → Updates old new key None → IsSound new
sound_without old new key kept sound held updates =
    let less = map.len-remove nat_cmp_total (table_of old.slots) kept.conn
    ∙ ap (λ o. cond (is_some o) (map.len (table_of old.slots) - 1) (map.len (table_of old.slots))) (holds old key kept sound.distinct held) in
    record {
      distinct = distinct_without old new key kept sound.distinct held updates;
      limit = omega (arith, less, ap map.len (table_without old new key kept sound.distinct held updates), sound.limit);
    }

-- ---- a new table

pub sound_new : (s : Slab Kept) → s.slots ≡ [] → IsSound s
sound_new s empty =
    let P : List (Option Kept) → Type 0 = λ slots. IsSound (record s { slots = slots }) in
    subst P (sym empty) (record { distinct = λ a b one other p q same. absurd (cc); limit = omega (arith, map.len-empty nat_cmp (List ℕ)) })
