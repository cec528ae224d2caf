-- What a file holds.
use Rattle.std.specs.Prelude.{◌==◌, nat_lt, not, ◌&&◌, ◌||◌, slice_index, if◌then◌else◌, Option, None, Some, Result, Ok, Err}
use Rattle.std.proofs.Common.{◌≡◌, ◌≢◌, ◌⊎◌, inl, inr, Bool, true, false, ℕ, ◌-◌, ◌^◌, ◌<◌, ◌≤◌, List, length, take, drop, refl, sym, ◌∙◌, ap, arith}
use Rattle.std.specs.Str.{bytes_eq}
use Rattle.std.proofs.lemmas.Bool.{cases_eq}
use Rattle.std.proofs.lemmas.Bool.Decides.{nat_tests}
use Rattle.std.proofs.lemmas.Slice.Eq.{bytes_eq-Decides}
use Rattle.gate_journal.specs.declared.header.Header.{Header}
use Rattle.gate_journal.specs.Making.{IsHead}
use Rattle.gate_journal.specs.Format.{letters, number_at, header_of, longest_file, longest_payload, payloads_of, Committed, with_payloads, committed_of, file_of}

-- a file that is committed and holds this
pub record IsCommitted (file : List ℕ) (holds : Committed) : Type 0 where
  pub head : IsHead file
  pub commit : slice_index file 0 ≡ 1
  pub version_is : holds.version ≡ slice_index file 32
  pub header_is : holds.header ≡ header_of file
  pub one_of : (holds.version ≡ 1) ⊎ (holds.version ≡ 2)
  pub short : length file ≤ longest_file holds.version
  pub not_last : holds.version ≡ 1 → holds.header.generation ≢ 2 ^ 64 - 1
  pub payloads_are : payloads_of (longest_payload holds.version) file ≡ Ok holds.payloads

abbrev pub Found : Type 0
Found = Result (Option Committed) ℕ

past : (b : Bool) (place : ℕ) (rest : Found) (holds : Option Committed) → (if b then Err place else rest) ≡ Ok holds → (b ≡ false) × (rest ≡ Ok holds)
past true place rest holds is = absurd (cc)
past false place rest holds is = (refl, is)

past_none : (b : Bool) (rest : Found) (holds : Committed) → (if b then Ok None else rest) ≡ Ok (Some holds) → (b ≡ false) × (rest ≡ Ok (Some holds))
past_none true rest holds is = absurd (cc)
past_none false rest holds is = (refl, is)

with_inverse : (file : List ℕ) (result : Result (List (List ℕ)) ℕ) (holds : Committed) → with_payloads file result ≡ Ok (Some holds)
    → (result ≡ Ok holds.payloads) × (holds.version ≡ slice_index file 32) × (holds.header ≡ header_of file)
with_inverse file (Ok payloads) holds is =
    let same : record { version = slice_index file 32; header = header_of file; payloads = payloads } ≡ holds = cc in
    (ap (λ (h : Committed). Ok h.payloads) same, sym (ap (λ (h : Committed). h.version) same), sym (ap (λ (h : Committed). h.header) same))
with_inverse file (Err place) holds is = absurd (cc)

pub length_blank : (file : List ℕ) → length file < 72 → file_of file ≡ Ok None
unfolding file_of
length_blank file short = let is : nat_lt (length file) 72 ≡ true = grind (arith, nat_tests) in rw is refl

letters_test : (file : List ℕ) → take 7 (drop 1 file) ≡ letters → not (bytes_eq (take 7 (drop 1 file)) letters) ≡ false
letters_test file same = let is : bytes_eq (take 7 (drop 1 file)) letters ≡ true = (bytes_eq-Decides _ _).1 same in rw is refl

pub closed_blank : (file : List ℕ) → IsHead file → slice_index file 0 ≢ 1 → file_of file ≡ Ok None
unfolding file_of
closed_blank file head closed =
    let long : nat_lt (length file) 72 ≡ false = let l = head.long in grind (arith, nat_tests) in
    let right = letters_test file head.letters_are in
    let short : nat_lt (longest_file 2) (length file) ≡ false = let l = head.short in grind (arith, nat_tests) in
    let shut : (slice_index file 0 == 1) ≡ false = grind (arith, nat_tests) in
    rw (long, right, short, shut) refl

-- what is left of a file's tests behind each of them
module _ (file : List ℕ) where
  abbrev pub behind_last : Found
  behind_last = with_payloads file (payloads_of (longest_payload (slice_index file 32)) file)

  abbrev pub behind_long : Found
  behind_long = if slice_index file 32 == 1 && number_at file 8 == 2 ^ 64 - 1 then Err 8 else behind_last

  abbrev pub behind_version : Found
  behind_version = if slice_index file 32 == 1 && nat_lt (longest_file 1) (length file) then Err (longest_file 1) else behind_long

  abbrev pub behind_commit : Found
  behind_commit = if not (slice_index file 32 == 1 || slice_index file 32 == 2) then Err 32 else behind_version

  abbrev pub behind_length : Found
  behind_length = if not (slice_index file 0 == 1) then Ok None else behind_commit

  abbrev pub behind_letters : Found
  behind_letters = if nat_lt (longest_file 2) (length file) then Err (longest_file 2) else behind_length

  abbrev pub behind_short : Found
  behind_short = if not (bytes_eq (take 7 (drop 1 file)) letters) then Err 1 else behind_letters

  pub unfolded : file_of file ≡ (if nat_lt (length file) 72 then Ok None else behind_short)
  unfolding file_of committed_of
  unfolded = refl

not_false : (b : Bool) → not b ≡ false → b ≡ true
not_false true is = refl
not_false false is = absurd (cc)

pub committed-inverse : (file : List ℕ) (holds : Committed) → file_of file ≡ Ok (Some holds) → IsCommitted file holds
committed-inverse file holds is =
    let a = past_none (nat_lt (length file) 72) (behind_short file) holds (sym (unfolded file) ∙ is) in
    let b = past (not (bytes_eq (take 7 (drop 1 file)) letters)) 1 (behind_letters file) (Some holds) a.1 in
    let c = past (nat_lt (longest_file 2) (length file)) (longest_file 2) (behind_length file) (Some holds) b.1 in
    let d = past_none (not (slice_index file 0 == 1)) (behind_commit file) holds c.1 in
    let e = past (not (slice_index file 32 == 1 || slice_index file 32 == 2)) 32 (behind_version file) (Some holds) d.1 in
    let f = past (slice_index file 32 == 1 && nat_lt (longest_file 1) (length file)) (longest_file 1) (behind_long file) (Some holds) e.1 in
    let g = past (slice_index file 32 == 1 && number_at file 8 == 2 ^ 64 - 1) 8 (behind_last file) (Some holds) f.1 in
    let parts = with_inverse file (payloads_of (longest_payload (slice_index file 32)) file) holds g.1 in
    let version : holds.version ≡ slice_index file 32 = parts.1 in
    let one_of : (slice_index file 32 == 1 || slice_index file 32 == 2) ≡ true = not_false _ e.0 in
    let long : nat_lt (length file) 72 ≡ false = a.0 in
    let short : nat_lt (longest_file 2) (length file) ≡ false = c.0 in
    let commit : (slice_index file 0 == 1) ≡ true = not_false _ d.0 in
    let not_long : (slice_index file 32 == 1 && nat_lt (longest_file 1) (length file)) ≡ false = f.0 in
    let not_last : (slice_index file 32 == 1 && number_at file 8 == 2 ^ 64 - 1) ≡ false = g.0 in
    let header : number_at file 8 ≡ holds.header.generation = sym (ap (λ (h : Header). h.generation) parts.2) in
    record {
      head = record { long = grind (arith, nat_tests); letters_are = (bytes_eq-Decides _ _).0 (not_false _ b.0); short = grind (arith, nat_tests) };
      commit = grind (arith, nat_tests);
      version_is = version;
      header_is = parts.2;
      one_of = rw version (version_cases (slice_index file 32) one_of);
      short = rw version (length_cases (slice_index file 32) (length file) short not_long);
      not_last = λ first same. last_cases (slice_index file 32) (number_at file 8) not_last (sym version ∙ first) (header ∙ same);
      payloads_are = rw version parts.0;
    }
  where
    version_cases : (v : ℕ) → (v == 1 || v == 2) ≡ true → (v ≡ 1) ⊎ (v ≡ 2)
    version_cases v is = elim (cases_eq v 1) [ inl first ↦ inl first | inr other ↦ inr (grind (arith, nat_tests)) ]

    length_cases : (v n : ℕ) → nat_lt (longest_file 2) n ≡ false → (v == 1 && nat_lt (longest_file 1) n) ≡ false → n ≤ longest_file v
    length_cases v n short not_long = elim (cases_eq v 1) [
      | inl first ↦ rw first (let l : nat_lt (longest_file 1) n ≡ false = rw first at not_long in grind (arith, nat_tests))
      | inr other ↦ let same : (v == 1) ≡ false = grind (arith, nat_tests) in rw same (grind (arith, nat_tests))
    ]

    last_cases : (v g : ℕ) → (v == 1 && g == 2 ^ 64 - 1) ≡ false → v ≡ 1 → g ≢ 2 ^ 64 - 1
    last_cases v g is first same = grind (arith, nat_tests)

pub committed-from : (file : List ℕ) (holds : Committed) → IsCommitted file holds → file_of file ≡ Ok (Some holds)
committed-from file holds is =
    let head = is.head in
    let l = head.long in
    let s = head.short in
    let commit = is.commit in
    let version = is.version_is in
    let last = is.not_last in
    let long : nat_lt (length file) 72 ≡ false = grind (arith, nat_tests) in
    let right = letters_test file head.letters_are in
    let short : nat_lt (longest_file 2) (length file) ≡ false = grind (arith, nat_tests) in
    let open_ : not (slice_index file 0 == 1) ≡ false = grind (arith, nat_tests) in
    let one_of : not (slice_index file 32 == 1 || slice_index file 32 == 2) ≡ false = rw version at (version_test holds.version is.one_of) in
    let not_long : (slice_index file 32 == 1 && nat_lt (longest_file 1) (length file)) ≡ false = rw version at (length_test holds.version (length file) is.short) in
    let header : holds.header.generation ≡ number_at file 8 = ap (λ (h : Header). h.generation) is.header_is in
    let not_last : (slice_index file 32 == 1 && number_at file 8 == 2 ^ 64 - 1) ≡ false = rw (version, header) at (last_test holds.version holds.header.generation is.not_last) in
    let payloads : payloads_of (longest_payload (slice_index file 32)) file ≡ Ok holds.payloads = rw version at is.payloads_are in
    unfolded file ∙ simp (long, right, short, open_, one_of, not_long, not_last, payloads) (ap (λ (h : Committed). Ok (Some h)) (same_committed holds (slice_index file 32) (header_of file) version is.header_is))
  where
    version_test : (v : ℕ) → (v ≡ 1) ⊎ (v ≡ 2) → not (v == 1 || v == 2) ≡ false
    version_test v (inl is) = rw is refl
    version_test v (inr is) = rw is refl

    length_test : (v n : ℕ) → n ≤ longest_file v → (v == 1 && nat_lt (longest_file 1) n) ≡ false
    length_test v n le = elim (cases_eq v 1) [
      | inl first ↦ let l : n ≤ longest_file 1 = rw first at le in grind (arith, nat_tests)
      | inr other ↦ let same : (v == 1) ≡ false = grind (arith, nat_tests) in rw same refl
    ]

    last_test : (v g : ℕ) → (v ≡ 1 → g ≢ 2 ^ 64 - 1) → (v == 1 && g == 2 ^ 64 - 1) ≡ false
    last_test v g is = elim (cases_eq v 1) [
      | inl first ↦ let no = is first in grind (arith, nat_tests)
      | inr other ↦ let same : (v == 1) ≡ false = grind (arith, nat_tests) in rw same refl
    ]

    same_committed : (holds : Committed) (v : ℕ) (h : Header) → holds.version ≡ v → holds.header ≡ h → record { version = v; header = h; payloads = holds.payloads } ≡ holds
    same_committed holds v h is is' = ap (λ (w : ℕ). record { version = w; header = h; payloads = holds.payloads }) (sym is) ∙ ap (λ (g : Header). record { version = holds.version; header = g; payloads = holds.payloads }) (sym is')

none_of : (file : List ℕ) (result : Result (List (List ℕ)) ℕ) → with_payloads file result ≡ Ok None → ⊥
none_of file (Ok payloads) is = cc
none_of file (Err place) is = cc

some_past : (b : Bool) (rest : Found) → (if b then Ok None else rest) ≡ Ok None → (b ≡ true) ⊎ (rest ≡ Ok None)
some_past true rest is = inl refl
some_past false rest is = inr is

-- a file of a header at least that holds nothing is not committed
pub none-inverse : (file : List ℕ) → 72 ≤ length file → file_of file ≡ Ok None → IsHead file × (slice_index file 0 ≢ 1)
none-inverse file long is =
    let l : nat_lt (length file) 72 ≡ false = grind (arith, nat_tests) in
    let opened : behind_short file ≡ Ok None = sym (unfolded file ∙ rw l refl) ∙ is in
    let b = past (not (bytes_eq (take 7 (drop 1 file)) letters)) 1 (behind_letters file) None opened in
    let c = past (nat_lt (longest_file 2) (length file)) (longest_file 2) (behind_length file) None b.1 in
    let short : nat_lt (longest_file 2) (length file) ≡ false = c.0 in (
      record { long = long; letters_are = (bytes_eq-Decides _ _).0 (not_false _ b.0); short = grind (arith, nat_tests) },
      elim (some_past (not (slice_index file 0 == 1)) (behind_commit file) c.1) [
        | inl closed ↦ (λ one. let no : not (slice_index file 0 == 1) ≡ false = grind (arith, nat_tests) in absurd (let e : true ≡ false = sym closed ∙ no in cc))
        | inr more ↦
            let e = past (not (slice_index file 32 == 1 || slice_index file 32 == 2)) 32 (behind_version file) None more in
            let f = past (slice_index file 32 == 1 && nat_lt (longest_file 1) (length file)) (longest_file 1) (behind_long file) None e.1 in
            let g = past (slice_index file 32 == 1 && number_at file 8 == 2 ^ 64 - 1) 8 (behind_last file) None f.1 in
            absurd (none_of file (payloads_of (longest_payload (slice_index file 32)) file) g.1)
      ],
    )
