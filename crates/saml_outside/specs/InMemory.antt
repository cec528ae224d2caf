-- The objects in memory. Each lets one call fail that was chosen before.
use Rattle.std.specs.Prelude.{ℕ, ◌-◌, ◌==◌, List, if◌then◌else◌}
use Rattle.saml_outside.specs.Counts.{one_more}
use Rattle.saml_outside.specs.Files.{File}

-- files in memory
pub record FilesInMemory : Type 0 where
  -- the files, the one that was added last in front
  pub files : List File
  -- the failing call, counted from the next one, which is 1: 0 where no call is to fail
  pub failing : ℕ
  -- the count of faults
  pub faults : ℕ

-- Files in memory after one more call: the failing one is a call nearer, and where it was this one the count rose by
-- one.
abbrev pub after_read : FilesInMemory → FilesInMemory
after_read m = record m {
  failing = m.failing - 1;
  faults = if m.failing == 1 then one_more m.faults else m.faults;
}

-- a sink in memory
pub record SinkInMemory : Type 0 where
  -- all that it took
  pub bytes : List ℕ
  -- the failing call, counted from the next one, which is 1: 0 where no call is to fail
  pub failing : ℕ
  -- the count of faults
  pub faults : ℕ
