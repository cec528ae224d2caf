-- The laws of requests and answers.
use Rattle.std.specs.Prelude.{◌≡◌, ◌≢◌, ℕ, ◌<◌, ◌≤◌, ◌⊎◌, List, ◌++◌, length, take, IsTrue}
use Rattle.verdict_codes.specs.declared.codes.Verdict.{Verdict}
use Rattle.verdict_codes.specs.Codes.{number_of}
use Rattle.http_wire.specs.declared.fixed.TheConstants.{FIXED_ROOM}
use Rattle.http_wire.specs.Answers.{is_fixed, fixed, refusal}
use Rattle.http_wire.specs.Requests.{Request, Reading, Whole, More, Reads}
use Rattle.http_wire.specs.Awaiting.{Awaited, IsAwaited}

-- bytes are one thing, however they came
abbrev pub BytesHaveOneReading : Type 0
BytesHaveOneReading = (bytes : List ℕ) (a b : Reading) → Reads bytes a → Reads bytes b → a ≡ b

-- what bytes are once they are not the beginning of a request, they are with any others behind them
abbrev pub MoreBytesChangeNothing : Type 0
MoreBytesChangeNothing = (bytes more : List ℕ) (reading : Reading) → reading ≢ More → Reads bytes reading → Reads (bytes ++ more) reading

-- the first of some bytes are the beginning of a request, or what all of them are
abbrev pub BeginningIsMoreOrTheSame : Type 0
BeginningIsMoreOrTheSame = (bytes more : List ℕ) (a b : Reading) → Reads bytes a → Reads (bytes ++ more) b → (a ≡ More) ⊎ (a ≡ b)

-- a request ends at one place: fewer bytes are the beginning of a request, and with any more bytes it is the same
pub record EndsAt (bytes : List ℕ) (request : Request) (n : ℕ) : Type 0 where
  pub within : n ≤ length bytes
  pub before : (k : ℕ) → k < n → Reads (take k bytes) More
  pub from : (k : ℕ) → n ≤ k → Reads (take k bytes) (Whole request)

abbrev pub WholeRequestEndsAtOnePlace : Type 0
WholeRequestEndsAtOnePlace = (bytes : List ℕ) (request : Request) → Reads bytes (Whole request) → (n : ℕ) × EndsAt bytes request n

-- what is known of bytes is true with any others behind them
abbrev pub WhatIsKnownStaysTrue : Type 0
WhatIsKnownStaysTrue = (awaited : Awaited) (bytes more : List ℕ) → IsAwaited awaited bytes → IsAwaited awaited (bytes ++ more)

-- the number of each verdict has an answer, the one that names the verdict
pub record EachVerdictHasItsAnswer : Type 0 where
  pub answered : (verdict : Verdict) → IsTrue (is_fixed (number_of verdict))
  pub named : (verdict : Verdict) → fixed (number_of verdict) ≡ refusal verdict

-- an answer without a choice has room
abbrev pub FixedAnswersHaveRoom : Type 0
FixedAnswersHaveRoom = (code : ℕ) → IsTrue (is_fixed code) → length (fixed code) ≤ FIXED_ROOM
