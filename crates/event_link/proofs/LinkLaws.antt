-- Laws of what is to come to a link.
use Rattle.std.proofs.Common.{◌≡◌, ℕ, ◌<◌, ◌≤◌, List, [], ◌∷◌, ◌++◌, length, take, drop, inl, inr, refl, sym, ◌∙◌, ap, append_assoc, arith}
use Rattle.std.proofs.lemmas.Bool.{cases_lt}
use Rattle.std.proofs.lemmas.List.{append-nil, length-take-le, take-append-drop}
use Rattle.std.proofs.Math.Seq.{take-append_seam}
use Rattle.std.proofs.lemmas.Bool.Decides.{nat_tests}
use Rattle.event_link.specs.declared.arrival.Arrival.{Arrival}
use Rattle.event_link.specs.declared.arrival.Arrival.TheVariants.{Start, Bytes, End, Halt}
use Rattle.event_link.specs.declared.link.LinkEvent.{LinkEvent}
use Rattle.event_link.specs.declared.link.LinkEvent.TheVariants.{Started, Piece, Ended, Stop}
use Rattle.event_link.specs.Links.{Given, IsPut, in_front, next_of}
use Rattle.event_link.specs.InMemory.{GoesWith, HaveBytes, arrival_of}

-- a piece that fits is given whole
pub next_of-whole : (room conn : ℕ) (bytes : List ℕ) (later : List Arrival) → length bytes ≤ room → next_of room (Bytes conn bytes ∷ later) ≡ record { event = Piece conn (length bytes); bytes = bytes; later = later }
next_of-whole room conn bytes later fits = grind (arith, nat_tests)

-- of a longer one the first bytes are given, and the others are still to come
pub next_of-cut : (room conn : ℕ) (bytes : List ℕ) (later : List Arrival) → room < length bytes → next_of room (Bytes conn bytes ∷ later) ≡ record { event = Piece conn room; bytes = take room bytes; later = Bytes conn (drop room bytes) ∷ later }
next_of-cut room conn bytes later long = grind (arith, nat_tests)

-- an event with its bytes has bytes where it is a piece
pub HaveBytes-arrival_of : (event : LinkEvent) (bytes : List ℕ) → GoesWith event bytes → HaveBytes (arrival_of event bytes ∷ [])
HaveBytes-arrival_of (Started conn) bytes goes = tt
HaveBytes-arrival_of (Piece conn n) bytes goes = (omega arith, tt)
HaveBytes-arrival_of (Ended conn) bytes goes = tt
HaveBytes-arrival_of Stop bytes goes = tt

pub HaveBytes-append : (first later : List Arrival) → HaveBytes first → HaveBytes later → HaveBytes (first ++ later)
HaveBytes-append [] later f l = l
HaveBytes-append (Start conn ∷ first) later f l = HaveBytes-append first later f l
HaveBytes-append (Bytes conn bytes ∷ first) later f l = (f.0, HaveBytes-append first later f.1 l)
HaveBytes-append (End conn ∷ first) later f l = HaveBytes-append first later f l
HaveBytes-append (Halt ∷ first) later f l = HaveBytes-append first later f l

-- the bytes of a piece are as many as its event says
pub length-next_of : (room conn n : ℕ) (coming : List Arrival) → (next_of room coming).event ≡ Piece conn n → length (next_of room coming).bytes ≡ n
length-next_of room conn n [] is = absurd (cc)
length-next_of room conn n (Start other ∷ later) is = absurd (cc)
length-next_of room conn n (Bytes other bytes ∷ later) is =
    elim (cases_lt room (length bytes)) [
      | inl long ↦
          let given = next_of-cut room other bytes later long in
          let event : Piece other room ≡ Piece conn n = sym (ap (λ (g : Given). g.event) given) ∙ is in
          let same : room ≡ n = cc in
          ap (λ (g : Given). length g.bytes) given ∙ length-take-le room bytes (omega arith) ∙ same
      | inr fits ↦
          let given = next_of-whole room other bytes later fits in
          let event : Piece other (length bytes) ≡ Piece conn n = sym (ap (λ (g : Given). g.event) given) ∙ is in
          let same : length bytes ≡ n = cc in
          ap (λ (g : Given). length g.bytes) given ∙ same
    ]
length-next_of room conn n (End other ∷ later) is = absurd (cc)
length-next_of room conn n (Halt ∷ later) is = absurd (cc)

-- and lie in front
seam : (n : ℕ) (bytes old : List ℕ) → length bytes ≡ n → take n (bytes ++ old) ≡ bytes
seam n bytes old is = rw (← is) (take-append_seam bytes old)

pub take-in_front : (room conn n : ℕ) (coming : List Arrival) (before : List ℕ) → (next_of room coming).event ≡ Piece conn n → take n (in_front (next_of room coming).bytes before) ≡ (next_of room coming).bytes
take-in_front room conn n coming before is =
    seam n (next_of room coming).bytes (drop (length (next_of room coming).bytes) before) (length-next_of room conn n coming is)

-- no byte of a piece that is cut is lost
pub cut_loses_nothing : (room conn : ℕ) (bytes : List ℕ) (later : List Arrival) → room < length bytes → (rest : List ℕ) × ((next_of room (Bytes conn bytes ∷ later)).later ≡ Bytes conn rest ∷ later) × ((next_of room (Bytes conn bytes ∷ later)).bytes ++ rest ≡ bytes)
cut_loses_nothing room conn bytes later long =
    let given = next_of-cut room conn bytes later long in
    (drop room bytes, ap (λ (g : Given). g.later) given, ap (λ (g : Given). g.bytes ++ drop room bytes) given ∙ take-append-drop room bytes)

-- sendings on one connection add up
pub two_sendings : (conn : ℕ) (a b : List ℕ) (first middle last : ℕ → List ℕ) → IsPut conn a first middle → IsPut conn b middle last → IsPut conn (a ++ b) first last
two_sendings conn a b first middle last one two = record {
  on_it = two.on_it ∙ ap (λ sent. sent ++ b) one.on_it ∙ append_assoc (first conn) a b;
  on_others = λ other apart. two.on_others other apart ∙ one.on_others other apart;
}

pub no_sending : (conn : ℕ) (sent : ℕ → List ℕ) → IsPut conn [] sent sent
no_sending conn sent = record { on_it = sym (append-nil (sent conn)); on_others = λ other apart. refl }
