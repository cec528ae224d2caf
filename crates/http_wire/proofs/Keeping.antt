-- What is kept of a head.
use Rattle.std.proofs.Common.{◌≡◌, ℕ, ◌+◌, ◌<◌, Bool, true, false, cond, nat_lt, List, ◌++◌, length, take, drop, Some, Result, Ok, Err, IfOk, refl, sym, ap, subst, ◌∙◌, arith}
use Rattle.std.specs.Str.{IsUtf8}
use Rattle.std.proofs.lemmas.Bool.Decides.{nat_tests}
use Rattle.std.proofs.lemmas.List.{take-append-le, length-take, length-drop}
use Rattle.httparse.specs.Spans.{span_bytes}
use Rattle.http_wire.specs.declared.head.HeadPlaces.{HeadPlaces}
use Rattle.http_wire.specs.declared.request.HttpRequest.{HttpRequest}
use Rattle.http_wire.specs.declared.request.Found.{Found}
use Rattle.http_wire.specs.declared.request.Found.TheVariants as found
use Rattle.http_wire.specs.Heads.{head_end, Parts}
use Rattle.http_wire.specs.Places.{parts_at, IsReadFrom}
use Rattle.http_wire.specs.Requests.{Request, Whole, More, Refused, request_of, sized, reading_behind, Reads}
use Rattle.http_wire.specs.Views.{reading_view}
use Rattle.http_wire.specs.Awaiting.{Awaited, IsKept, IsAwaited}
use Rattle.http_wire.proofs.Extending.{head_end_within, head_end_append}
use Rattle.http_wire.proofs.Deciding.{reads_one, reads_behind}
use Rattle.http_wire.proofs.Reading.{path_is_text}

-- the path of a head that was read is a text
pub path_at_is_text : (bytes : List ℕ) (places : HeadPlaces) → IsReadFrom bytes places → IsUtf8 (span_bytes bytes places.path)
path_at_is_text bytes places read =
    subst IsUtf8 (sym (ap (λ (p : Parts). p.path) read.says.2)) (path_is_text read.says.0.target read.says.1.target)

-- a head that was read there ends there
pub same_end : (bytes : List ℕ) (e : ℕ) (places : HeadPlaces) → head_end bytes ≡ Some e → IsReadFrom (take e bytes) places → e ≡ places.end
same_end bytes e places ended read = omega (arith, read.end, length-take e bytes, head_end_within bytes e ended)

pub read_there : (bytes : List ℕ) (e : ℕ) (places : HeadPlaces) → head_end bytes ≡ Some e → IsReadFrom (take e bytes) places → IsReadFrom (take places.end bytes) places
read_there bytes e places ended read = subst (λ k. IsReadFrom (take k bytes) places) (same_end bytes e places ended read) read

-- and is kept
pub kept_at : (bytes : List ℕ) (e wanted : ℕ) (places : HeadPlaces) → head_end bytes ≡ Some e → IsReadFrom (take e bytes) places →
    IfOk places.size (λ n. wanted ≡ e + n) → IsKept bytes wanted places
kept_at bytes e wanted places ended read sized =
    let same = same_end bytes e places ended read in record {
      ended = ended ∙ ap Some same;
      read = read_there bytes e places ended read;
      body = subst (λ k. IfOk places.size (λ n. wanted ≡ k + n)) same sized;
    }

-- with its body, or with a size that is refused
pub kept_with_body : (bytes : List ℕ) (e n : ℕ) (places : HeadPlaces) → head_end bytes ≡ Some e → IsReadFrom (take e bytes) places → places.size ≡ Ok n → IsKept bytes (e + n) places
kept_with_body bytes e n places ended read size =
    kept_at bytes e (e + n) places ended read (subst (λ (s : Result ℕ ℕ). IfOk s (λ m. e + n ≡ e + m)) (sym size) refl)

if_refused : (size : Result ℕ ℕ) (P : ℕ → Type 0) → ((n : ℕ) → size ≡ Ok n → ⊥) → IfOk size P
if_refused (Ok n) P refused = absurd (refused n refl)
if_refused (Err status) P refused = tt

pub kept_refused : (a : Awaited) (bytes : List ℕ) (e : ℕ) (places : HeadPlaces) → IsAwaited a bytes → head_end bytes ≡ Some e → IsReadFrom (take e bytes) places →
    ((n : ℕ) → places.size ≡ Ok n → ⊥) → IsAwaited (record { searched = a.searched; wanted = a.wanted; head = Some places }) bytes
kept_refused a bytes e places known ended read refused = record {
  brought = known.brought;
  searched = known.searched;
  below = known.below;
  from = known.from;
  head = kept_at bytes e a.wanted places ended read (if_refused places.size (λ n. a.wanted ≡ e + n) refused);
}

-- bytes that come behind do not change what is kept
pub kept_append : (bytes more : List ℕ) (wanted : ℕ) (places : HeadPlaces) → IsKept bytes wanted places → IsKept (bytes ++ more) wanted places
kept_append bytes more wanted places kept = record {
  ended = head_end_append bytes more places.end kept.ended;
  read = subst (λ xs. IsReadFrom xs places) (sym (take-append-le places.end bytes more (head_end_within bytes places.end kept.ended))) kept.read;
  body = kept.body;
}

-- what is kept says what the bytes are
pub reads_kept : (bytes : List ℕ) (places : HeadPlaces) → head_end bytes ≡ Some places.end → IsReadFrom (take places.end bytes) places →
    Reads bytes (reading_behind (parts_at (take places.end bytes) places) (drop places.end bytes))
reads_kept bytes places ended read =
    let says = read.says in
    subst (λ (parts : Parts). Reads bytes (reading_behind parts (drop places.end bytes))) (sym says.2) (reads_behind bytes places.end says.0 ended says.1)

-- fewer bytes than a body has are wanted
sized_more : (parts : Parts) (size : Result ℕ ℕ) (behind : List ℕ) (wanted e : ℕ) → sized parts size behind ≡ More → IfOk size (λ n. wanted ≡ e + n) → e + length behind < wanted
sized_more parts (Err status) behind wanted e more is = absurd (cc)
sized_more parts (Ok n) behind wanted e more is = by_test (nat_lt (length behind) n) refl more
  where
    by_test : (t : Bool) → t ≡ nat_lt (length behind) n → cond t More (Whole (request_of parts (take n behind))) ≡ More → e + length behind < wanted
    by_test true h same = (let short : length behind < n = grind (arith, nat_tests, h) in omega arith)
    by_test false h same = absurd (cc)

pub kept_more : (bytes : List ℕ) (wanted : ℕ) (places : HeadPlaces) → IsKept bytes wanted places →
    reading_behind (parts_at (take places.end bytes) places) (drop places.end bytes) ≡ More → length bytes < wanted
kept_more bytes wanted places kept more =
    let short = sized_more (parts_at (take places.end bytes) places) places.size (drop places.end bytes) wanted places.end more kept.body in
    omega (arith, short, length-drop places.end bytes, head_end_within bytes places.end kept.ended)

-- bytes that are a whole request are nothing else
pub not_more : (bytes : List ℕ) (request : Request) → Reads bytes More → Reads bytes (Whole request) → ⊥
not_more bytes request is whole = never (reads_one bytes (Whole request) More whole is)
  where
    never : {r : Request} → Whole r ≡ More → ⊥
    never h = cc

pub not_refused : (bytes : List ℕ) (request : Request) (status : ℕ) → Reads bytes (Refused status) → Reads bytes (Whole request) → ⊥
not_refused bytes request status is whole = never (reads_one bytes (Whole request) (Refused status) whole is)
  where
    never : {r : Request} → Whole r ≡ Refused status → ⊥
    never h = cc

-- what is read as a whole request is one
pub not_another : (read : Found) (request : Request) → reading_view read ≡ Whole request → ((x : HttpRequest) → read ≡ found.Whole x → ⊥) → ⊥
not_another (found.Whole x) request same other = other x (λ i. found.Whole x)
not_another found.More request same other = cc
not_another (found.Refused status) request same other = cc
