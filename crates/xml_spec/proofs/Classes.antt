-- The test of a class of characters says whether the character stands in one of its ranges.
use Rattle.std.proofs.Common.{ℕ, ◌&&◌, [], ◌∷◌, IsTrue, nat_le, inl, inr}
use borrow.Author.Tests.{leb-true, le-leb}
use Rattle.xml_spec.specs.Characters.{Ranges, InRanges, in_ranges}
use Rattle.xml_spec.proofs.Tests.{either_true, both_true, first_true, second_true, and_true}

pub in_ranges-true : (ranges : Ranges) (c : ℕ) → IsTrue (in_ranges ranges c) → InRanges ranges c
in_ranges-true [] c h = absurd (cc)
in_ranges-true (range ∷ ranges) c h =
    elim (either_true (nat_le range.0 c && nat_le c range.1) (in_ranges ranges c) h) [
      | inl here ↦ (let both = both_true (nat_le range.0 c) (nat_le c range.1) here in
          inl (leb-true range.0 c both.0, leb-true c range.1 both.1))
      | inr later ↦ inr (in_ranges-true ranges c later)
    ]

pub true-in_ranges : (ranges : Ranges) (c : ℕ) → InRanges ranges c → IsTrue (in_ranges ranges c)
true-in_ranges [] c h = absurd h
true-in_ranges (range ∷ ranges) c h =
    elim h [
      | inl here ↦ first_true (nat_le range.0 c && nat_le c range.1) (in_ranges ranges c)
          (and_true (nat_le range.0 c) (nat_le c range.1) (le-leb range.0 c here.0) (le-leb c range.1 here.1))
      | inr later ↦ second_true (nat_le range.0 c && nat_le c range.1) (in_ranges ranges c) (true-in_ranges ranges c later)
    ]
