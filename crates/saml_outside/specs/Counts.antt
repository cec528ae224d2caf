-- Counts of faults. A count is a u64 that never falls, and stays at 2 ^ 64 - 1 once it is there.
use Rattle.std.specs.Prelude.{ℕ, ◌+◌, ◌-◌, ◌^◌, ◌≤◌, min}

-- the count after one more fault
abbrev pub one_more : ℕ → ℕ
one_more count = min (count + 1) (2 ^ 64 - 1)

-- The count rose: it is at least one more than before. A count at 2 ^ 64 - 1 cannot show a further fault, so it counts
-- as risen: what rose is "before < now, or now ≡ 2 ^ 64 - 1" (the law
-- `a_count_rose_where_it_is_greater_or_at_its_end`).
abbrev pub Rose : ℕ → ℕ → Type 0
Rose before now = one_more before ≤ now
