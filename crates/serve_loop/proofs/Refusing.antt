-- The status of refused bytes has a page.
use Rattle.std.specs.Prelude.{◌≡◌, ℕ, List, [], ◌∷◌, ◌++◌, length, take, drop, codes, nat_lt, true, false, IsTrue}
use Rattle.std.specs.Prelude.{IfSome, Option, None, Some, Result, Ok, Err}
use Rattle.std.specs.FinMap as map
use Rattle.std.specs.Str.Parse.{digits_value}
use Rattle.std.proofs.Common.{refl, subst, sym, cond, inl, inr}
use Rattle.http_wire.specs.declared.method.Method.{Method}
use Rattle.http_wire.specs.declared.method.Method.TheVariants.{Get, Post, Other}
use Rattle.http_wire.specs.declared.limits.TheConstants.{HEAD_LIMIT, BODY_LIMIT}
use Rattle.http_wire.specs.Answers.{is_fixed}
use Rattle.http_wire.specs.Heads.{Parts, parts_of, head_end, method_of, lines_of}
use Rattle.http_wire.specs.Lines.{values, is_length, size_of, size_by, size_unsaid, size_within}
use Rattle.http_wire.specs.Requests.{Reading, Whole, More, Refused, Reads, ReadsTo, request_of, sized}
use Rattle.conn_table.specs.declared.progress.Progress.TheVariants as progress
use Rattle.conn_table.specs.Answers.{progress_of, IsAnswer}
use Rattle.conn_table.specs.Calls.{TakesPiece}
use Rattle.conn_table.specs.Table.{Table}

abbrev HasPage : Result ℕ ℕ → Type 0
HasPage (Ok size) = Unit {0}
HasPage (Err status) = IsTrue (is_fixed status)

within : (size : ℕ) → HasPage (size_within size)
within size = elim (nat_lt BODY_LIMIT size) as (λ b. HasPage (cond b (Err 413) (Ok size))) [ true ↦ refl | false ↦ tt ]

unsaid : (method : Method) → HasPage (size_unsaid method)
unsaid Get = tt
unsaid Post = refl
unsaid Other = tt

by_lengths : (method : Method) (lengths : List (List ℕ)) → HasPage (size_by method lengths)
by_lengths method [] = unsaid method
by_lengths method (value ∷ []) = elim (is_length value) as (λ b. HasPage
    (cond b (size_within (digits_value 10 value)) (Err 400))) [ true ↦ within (digits_value 10 value) | false ↦ refl ]
by_lengths method (value ∷ other ∷ others) = refl

of_size : (method : Method) (codings lengths : List (List ℕ)) → HasPage (size_of method codings lengths)
of_size method [] lengths = by_lengths method lengths
of_size method (coding ∷ codings) lengths = refl

-- where the bytes are refused, the status has a page
abbrev pub IsAnswerable : Reading → Type 0
IsAnswerable (Whole request) = Unit {0}
IsAnswerable More = Unit {0}
IsAnswerable (Refused status) = IsTrue (is_fixed status)

of_sized : (parts : Parts) (size : Result ℕ ℕ) (behind : List ℕ) → HasPage size → IsAnswerable (sized parts size behind)
of_sized parts (Err status) behind page = page
of_sized parts (Ok size) behind page = elim (nat_lt (length behind) size) as
    (λ b. IsAnswerable (cond b More (Whole (request_of parts (take size behind))))) [ true ↦ tt | false ↦ tt ]

to_end : (end : Option ℕ) (bytes : List ℕ) (reading : Reading) → ReadsTo end bytes reading → IsAnswerable reading
to_end None bytes reading is = subst IsAnswerable (sym is) (elim
    (nat_lt (length bytes) HEAD_LIMIT) as (λ b. IsAnswerable (cond b More (Refused 400))) [ true ↦ tt | false ↦ refl ])
to_end (Some end) bytes reading (inl (head, is, reads)) = subst IsAnswerable
    (sym reads) (of_sized (parts_of head) (parts_of head).size (drop end bytes) (of_size (method_of head.method)
    (values (codes "transfer-encoding") (lines_of head)) (values (codes "content-length") (lines_of head))))
to_end (Some end) bytes reading (inr (none, reads)) = subst IsAnswerable (sym reads) refl

pub is_answerable : (bytes : List ℕ) (reading : Reading) → Reads bytes reading → IsAnswerable reading
is_answerable bytes reading reads = to_end (head_end bytes) bytes reading reads

-- the status of an answer to a piece has a page
of_answer : (status : ℕ) (reading : Reading)
    → progress.Refused status ≡ progress_of reading → IsAnswerable reading → IsTrue (is_fixed status)
of_answer status (Whole request) is page = absurd (cc)
of_answer status More is page = absurd (cc)
of_answer status (Refused other) is page = let same : other ≡ status = cc in subst (λ n. IsTrue (is_fixed n)) same page

of_found : (status : ℕ) (piece : List ℕ) (found : Option (List ℕ))
    → (found ≡ None → progress.Refused status ≡ progress.Unknown)
    → IfSome found (λ bytes. IsAnswer (bytes ++ piece) (progress.Refused status)) → IsTrue (is_fixed status)
of_found status piece None absent answer = let e = absent refl in absurd (cc)
of_found status piece (Some bytes) absent answer =
    of_answer status answer.0 answer.2 (is_answerable (bytes ++ piece) answer.0 answer.1)

pub refused_page : (old : Table) (conn : ℕ) (piece : List ℕ) (status : ℕ) (new : Table)
    → TakesPiece old conn piece (progress.Refused status) new → IsTrue (is_fixed status)
refused_page old conn piece status new takes =
    of_found status piece (map.get old conn) (takes.unknown.1) (takes.answered (λ e. cc))
