-- Moments, in milliseconds since 1970-01-01T00:00:00Z.
use Rattle.std.specs.Prelude.{ℕ}

-- the last millisecond of the year 9999
abbrev pub LAST : ℕ
LAST = 253402300799999

-- how long a request for a login or a logout may be answered
abbrev pub LIFE : ℕ
LIFE = 600000

-- how long an Assertion may be presented
abbrev pub ASSERTION_LIFE : ℕ
ASSERTION_LIFE = 300000
