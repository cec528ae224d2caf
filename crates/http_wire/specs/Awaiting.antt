-- What is known of the bytes that a connection has brought so far.
use Rattle.std.specs.Prelude.{◌≡◌, ℕ, ◌+◌, ◌-◌, ◌<◌, ◌≤◌, List, ◌++◌, length, take, Option, None, Some, IsSome, IfSome, IfOk}
use Rattle.http_wire.specs.Heads.{end_of_lines, head_end}
use Rattle.http_wire.specs.Places.{IsReadFrom}
use Rattle.http_wire.specs.declared.head.HeadPlaces.{HeadPlaces}
use Rattle.http_wire.specs.declared.limits.TheConstants.{HEAD_LIMIT}
use Rattle.http_wire.specs.Requests.{Request, Reads, Whole, More}

-- so many bytes were searched for the end of the head; with fewer bytes than are wanted, more are needed; and what was read of
-- the head, where that was done
pub record Awaited : Type 0 where
  pub searched : ℕ
  pub wanted : ℕ
  pub head : Option HeadPlaces

-- the bytes, and what may come behind them, are only the beginning of a request while there are fewer than so many
abbrev pub IsMoreBelow : ℕ → List ℕ → Type 0
IsMoreBelow wanted bytes = (more : List ℕ) → length (bytes ++ more) < wanted → Reads (bytes ++ more) More

-- with so many bytes or more, a head that ended in fewer than so many of them has its body
abbrev pub IsWholeFrom : ℕ → List ℕ → Type 0
IsWholeFrom wanted bytes =
    (more : List ℕ) → wanted ≤ length (bytes ++ more) → IsSome (head_end (take (wanted - 1) (bytes ++ more))) → ¬ (Reads (bytes ++ more) More)

-- what is kept says what is read of the head of the bytes; with its body so many bytes are wanted
pub record IsKept (bytes : List ℕ) (wanted : ℕ) (head : HeadPlaces) : Type 0 where
  pub ended : head_end bytes ≡ Some head.end
  pub read : IsReadFrom (take head.end bytes) head
  pub body : IfOk head.size (λ size. wanted ≡ head.end + size)

-- what is known is true of the bytes
pub record IsAwaited (awaited : Awaited) (bytes : List ℕ) : Type 0 where
  pub brought : awaited.searched ≤ length (take HEAD_LIMIT bytes)
  pub searched : end_of_lines (take awaited.searched bytes) ≡ None
  pub below : IsMoreBelow awaited.wanted bytes
  pub from : IsWholeFrom awaited.wanted bytes
  pub head : IfSome awaited.head (IsKept bytes awaited.wanted)

-- where the bytes are a whole request, what was read of its head is kept
abbrev pub KeepsHead : Awaited → List ℕ → Type 0
KeepsHead awaited bytes = (request : Request) → Reads bytes (Whole request) → IsSome awaited.head
