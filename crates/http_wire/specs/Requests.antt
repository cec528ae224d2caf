-- A request in the bytes that a connection has brought so far: RFC 9112, 2 to 6.
use Rattle.std.specs.Prelude.{◌≡◌, ℕ, ◌⊎◌, List, length, take, drop, nat_lt, Option, None, Some, Result, Ok, Err, if◌then◌else◌}
use Rattle.httparse.specs.Grammar.{RequestHead}
use Rattle.http_wire.specs.declared.method.Method.{Method}
use Rattle.http_wire.specs.declared.limits.TheConstants.{HEAD_LIMIT}
use Rattle.http_wire.specs.declared.status.TheConstants.{BAD_REQUEST}
use Rattle.http_wire.specs.Heads.{head_end, IsHead, Parts, parts_of}

pub record Request : Type 0 where
  pub method : Method
  pub path : List ℕ
  pub cookie : Option (List ℕ)
  pub content_type : Option (List ℕ)
  pub body : List ℕ

-- what bytes are: a whole request, with bytes behind it or without; the beginning of one; or refused with a status
pub data Reading : Type 0 where
  Whole : Request → Reading
  More : Reading
  Refused : ℕ → Reading

abbrev pub request_of : Parts → List ℕ → Request
request_of parts body = record {
  method = parts.method;
  path = parts.path;
  cookie = parts.cookie;
  content_type = parts.content_type;
  body = body;
}

-- a head of this size of the body, and the bytes behind it
abbrev pub sized : Parts → Result ℕ ℕ → List ℕ → Reading
sized parts (Err status) behind = Refused status
sized parts (Ok size) behind = if nat_lt (length behind) size then More else Whole (request_of parts (take size behind))

-- a head and the bytes behind it
abbrev pub reading_behind : Parts → List ℕ → Reading
reading_behind parts behind = sized parts parts.size behind

-- bytes of which the first `end` are a head, or are none
abbrev pub ReadsHead : List ℕ → ℕ → Reading → Type 0
ReadsHead bytes end reading =
    ((head : RequestHead) × IsHead (take end bytes) head × (reading ≡ reading_behind (parts_of head) (drop end bytes)))
    ⊎ (((head : RequestHead) → ¬ (IsHead (take end bytes) head)) × (reading ≡ Refused BAD_REQUEST))

-- bytes whose head ends there, or has not ended so far
abbrev pub ReadsTo : Option ℕ → List ℕ → Reading → Type 0
ReadsTo None bytes reading = reading ≡ (if nat_lt (length bytes) HEAD_LIMIT then More else Refused BAD_REQUEST)
ReadsTo (Some end) bytes reading = ReadsHead bytes end reading

-- what the bytes are
abbrev pub Reads : List ℕ → Reading → Type 0
Reads bytes reading = ReadsTo (head_end bytes) bytes reading
