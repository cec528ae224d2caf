-- How many bytes are kept.
use Rattle.std.proofs.Common.{◌≡◌, ℕ, zero, suc, ◌<◌, ◌≤◌, Bool, true, false, cond, List, [], ◌∷◌, length, get_or, take, drop, Option, None, Some, IfSome, Result, Ok, Err, All, refl, sym, subst, inl, inr, arith}
use Rattle.std.specs.Prelude.{◌==◌, nat_lt}
use Rattle.std.proofs.lemmas.Bool.Decides.{nat_tests}
use Rattle.std.proofs.lemmas.List.{length-drop}
use Rattle.std.proofs.lemmas.List.Sums.{sum_by-le}
use Rattle.http_wire.specs.Heads.{head_end, Parts, parts_of}
use Rattle.http_wire.specs.Requests.{Whole, More, Refused, request_of, sized, ReadsHead, ReadsTo, Reads}
use Rattle.http_wire.specs.Laws.{BytesHaveOneReading}
use Rattle.http_wire.proofs.Deciding.{body_limit}
use Rattle.http_wire.proofs.Extending.{head_end_limit}
use Rattle.conn_table.specs.Events.{bytes_since, contains, kept}
use Rattle.conn_table.specs.Laws.{KeptBytesAreFew, AllKeptBytesAreFew, TablesAreSmall}
use Rattle.conn_table.proofs.Ending.{kept_bytes_are_more}
use Rattle.conn_table.proofs.Lasting.{few_are_kept}
use Rattle.conn_table.proofs.Numbers.{told, same_number}
use Rattle.conn_table.proofs.Serving.{calls_give_completions}

-- ---- the beginning of a request

-- of a body that has begun fewer bytes have come than it has
sized_few : (parts : Parts) (size : Result ℕ ℕ) (behind : List ℕ) → ((n : ℕ) → size ≡ Ok n → n ≤ 1048576) →
    More ≡ sized parts size behind → length behind < 1048576
sized_few parts (Err status) behind limit is = absurd (cc)
sized_few parts (Ok n) behind limit is = by_test (nat_lt (length behind) n) refl is
  where
    by_test : (t : Bool) → t ≡ nat_lt (length behind) n → More ≡ cond t More (Whole (request_of parts (take n behind))) →
        length behind < 1048576
    by_test true e same =
        (let short : length behind < n = grind (arith, nat_tests, e) in
        omega (arith, short, limit n refl))
    by_test false e same = absurd (cc)

head_few : (bytes : List ℕ) (end : ℕ) → end ≤ 16384 → ReadsHead bytes end More → length bytes < 1064960
head_few bytes end limit (inl x) =
    let parts = parts_of x.0 in
    let short = sized_few parts parts.size (drop end bytes) (λ n size. body_limit parts x.0 n refl size) x.2 in
    omega (arith, short, limit, length-drop end bytes)
head_few bytes end limit (inr x) = absurd (let refused = x.1 in cc)

more_is_few : (bytes : List ℕ) → Reads bytes More → length bytes < 1064960
more_is_few bytes is = by_end (head_end bytes) refl is
  where
    by_test : (t : Bool) → t ≡ nat_lt (length bytes) 16384 → More ≡ cond t More (Refused 400) → length bytes < 1064960
    by_test true e same = (let short : length bytes < 16384 = grind (arith, nat_tests, e) in omega (arith, short))
    by_test false e same = absurd (cc)

    by_end : (o : Option ℕ) → o ≡ head_end bytes → ReadsTo o bytes More → length bytes < 1064960
    by_end None e same = by_test (nat_lt (length bytes) 16384) refl same
    by_end (Some end) e same = head_few bytes end (head_end_limit bytes end (sym e)) same

-- ---- each that is kept, and all

pub kept_bytes_are_few : KeptBytesAreFew
kept_bytes_are_few read events conn right held =
    more_is_few (bytes_since conn events) (kept_bytes_are_more read events conn right held)

-- what stands at a place among some is one of them
contains_there : (conns : List ℕ) (k d : ℕ) → k < length conns → contains (get_or conns k d) conns ≡ true
contains_there [] k d within = absurd (omega arith)
contains_there (x ∷ conns) zero d within = rw (same_number x x refl) refl
contains_there (x ∷ conns) (suc k) d within =
    elim (told (x == get_or conns k d)) [
      | inl here ↦ rw here refl
      | inr differs ↦ rw differs (contains_there conns k d (omega arith))
    ]

pub all_kept_bytes_are_few : AllKeptBytesAreFew
all_kept_bytes_are_few read events right =
    let each : All (λ conn. length (bytes_since conn events) ≤ 1064959) (kept read events) =
    λ k d within.
    (let there = contains_there (kept read events) k d within in
    let few = kept_bytes_are_few read events (get_or (kept read events) k d) right there in
    omega (arith, few)) in
    let most = sum_by-le (λ conn. length (bytes_since conn events)) 1064959 (kept read events) each in
    omega (arith, most, few_are_kept read events)

-- ---- the table

pub tables_are_small : BytesHaveOneReading → TablesAreSmall
tables_are_small unique events done table served =
    let (read, right, orderly, is, shows) = calls_give_completions unique events done table served in record {
      count = omega (arith, shows.count, few_are_kept read events);
      bytes = λ conn.
          subst (λ o. IfSome o (λ bytes. length bytes < 1064960)) (sym (shows.bytes conn))
          (shown (contains conn (kept read events)) (bytes_since conn events) (kept_bytes_are_few read events conn right));
    }
  where
    shown : (held : Bool) (bytes : List ℕ) → (held ≡ true → length bytes < 1064960) →
        IfSome (cond held (Some bytes) None) (λ bytes. length bytes < 1064960)
    shown true bytes few = few refl
    shown false bytes few = tt
