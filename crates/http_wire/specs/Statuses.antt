-- The status of an answer: RFC 9112, 4.
use Rattle.std.specs.Prelude.{◌≡◌, ℕ, List, ◌++◌, Option, IsTrue}
use Rattle.std.specs.Option.{option_map_or}
use Rattle.owned_values.specs.declared.attributes.Attribute.{Attribute}
use Rattle.http_wire.specs.Answers.{answer, fixed, is_fixed, status_line, status_of, verdict_of}
use Rattle.http_wire.specs.Clients.{is_answered}
use Rattle.http_wire.specs.Vouched.{vouched_answer}

-- the bytes of an answer begin with the status line of this status
abbrev pub HasStatus : ℕ → List ℕ → Type 0
HasStatus status bytes = (rest : List ℕ) × (bytes ≡ status_line status ++ rest)

-- the status of the answer for the number of a verdict, or for a status that is answered alone
abbrev pub fixed_status : ℕ → ℕ
fixed_status code = option_map_or status_of (verdict_of code) code

pub record EachAnswerHasItsStatus : Type 0 where
  pub full : (status : ℕ) (location cookie : Option (List ℕ)) (body : List ℕ) → HasStatus status (answer status location cookie body)
  pub fixed : (code : ℕ) → IsTrue (is_fixed code) → HasStatus (fixed_status code) (fixed code)
  pub vouched : (name : List ℕ) (attributes : List Attribute) → HasStatus 200 (vouched_answer name attributes)

-- no bytes have two of the statuses that are answered
abbrev pub AnAnswerHasOneStatus : Type 0
AnAnswerHasOneStatus =
    (one other : ℕ) (bytes : List ℕ) → IsTrue (is_answered one) → IsTrue (is_answered other) → HasStatus one bytes → HasStatus other bytes → one ≡ other
