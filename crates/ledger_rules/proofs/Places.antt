-- The place at which the number of an ID may stand.
use Rattle.std.proofs.Common.{◌≡◌, ℕ, ◌<◌, ◌≤◌, ◌^◌, inl, inr, true, List, length, slice_index, Some, None, Result, Ok, Err, ap, ◌∙◌, arith}
use Rattle.std.specs.List.Sorted.{IsBinarySearchResult}
use Rattle.std.specs.Ordering.{nat_cmp}
use Rattle.std.specs.Result.{result_ok}
use Rattle.std.proofs.lemmas.Bool.{cases_lt}
use Rattle.std.proofs.lemmas.List.Sorted.{searched}
use Rattle.std.proofs.lemmas.Option.{none-some, same_Some}
use Rattle.ledger_rules.specs.Numbers.{has_number, Ascend, IsPlaceOf}

module _ (numbers : List ℕ) (ascend : Ascend numbers) where
  rising : (j k : ℕ) → j ≤ k → k < length numbers → slice_index numbers j ≤ slice_index numbers k
  rising j k most within = elim (cases_lt j k) [
    | inl less ↦ let less_there = ascend j k less within in omega arith
    | inr least ↦ let same : j ≡ k = omega arith in rw same (omega arith)
  ]

  one_place : (j k : ℕ) → j < length numbers → k < length numbers → slice_index numbers j ≡ slice_index numbers k → j ≡ k
  one_place j k within_j within_k same = elim (cases_lt j k) [
    | inl less ↦ let less_there = ascend j k less within_k in absurd (omega arith)
    | inr least ↦
        elim (cases_lt k j) [
          | inl more ↦ let less_there = ascend k j more within_j in absurd (omega arith)
          | inr most ↦ omega arith
        ]
  ]

module _ (numbers id : List ℕ) (fits : (k : ℕ) → slice_index numbers k < 2 ^ 64) where
  pub no_place : ((n : ℕ) → n < 2 ^ 64 → has_number n id ≡ true → None ≡ Some n) → IsPlaceOf numbers id None
  no_place none = record {
    within = tt;
    only = λ k within is. absurd (none-some (slice_index numbers k) (none (slice_index numbers k) (fits k) is));
  }

  pub found_place : Ascend numbers → (number : ℕ) → ((n : ℕ) → n < 2 ^ 64 → has_number n id ≡ true → Some number ≡ Some n) → (r : Result ℕ ℕ)
      → IsBinarySearchResult (λ n. nat_cmp n number) numbers r → IsPlaceOf numbers id (result_ok r)
  found_place ascend number is (Ok place) found =
      let there = searched numbers number (Ok place) found (rising numbers ascend) in record {
        within = there.0;
        only = λ k within has.
            let same : number ≡ slice_index numbers k = same_Some number (slice_index numbers k) (is (slice_index numbers k) (fits k) has) in
            ap Some (one_place numbers ascend place k there.0 within (there.1 ∙ same));
      }
  found_place ascend number is (Err place) found =
      let there = searched numbers number (Err place) found (rising numbers ascend) in record {
        within = tt;
        only = λ k within has.
            let same : number ≡ slice_index numbers k = same_Some number (slice_index numbers k) (is (slice_index numbers k) (fits k) has) in
            elim (cases_lt k place) [
              | inl less ↦ let below = there.1 k less in absurd (omega arith)
              | inr least ↦ let over = there.2 k least within in absurd (omega arith)
            ];
      }
