-- Counts of faults. A count is a u64 that never falls, and stays at 2 ^ 64 - 1 once it is there.
use Rattle.std.specs.Prelude.{◌≡◌, ℕ, ◌+◌, ◌-◌, ◌^◌, ◌<◌, ◌≤◌, min, Result, OnErr, OnOk}

-- the count after one more fault
abbrev pub one_more : ℕ → ℕ
one_more count = min (count + 1) (2 ^ 64 - 1)

-- The count rose: it is at least one more than before. A count at 2 ^ 64 - 1 cannot show a further fault, so it counts
-- as risen.
abbrev pub Rose : ℕ → ℕ → Type 0
Rose before now = one_more before ≤ now

-- What a call does to the count of faults: it never falls, rises where the call failed, and else is as it was.
pub record CountsFaults {T E : Type 0} (result : Result T E) (before now : ℕ) : Type 0 where
  pub never_falls : before ≤ now
  pub in_range : now < 2 ^ 64
  pub failed : OnErr result (Rose before now)
  pub kept : OnOk result (now ≡ before)
