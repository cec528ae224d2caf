-- The laws of connections.
use Rattle.std.proofs.Common.{ℕ, ◌≤◌, List, [], ◌∷◌, ◌++◌, length, sym, ap, ◌∙◌, inl, inr, arith}
use Rattle.std.specs.Prelude.{nat_lt}
use Rattle.http_wire.specs.Requests.{Reading}
use Rattle.http_wire.specs.Laws.{BytesHaveOneReading, MoreBytesChangeNothing}
use Rattle.conn_table.specs.Answers.{progress_of}
use Rattle.conn_table.specs.Events.{Started, Piece, Ended, History, is_more, taken, kept_on, read_with, kept, IsRight}
use Rattle.conn_table.specs.Laws.{AnswersAreExact, FewAreKept, EventsCompleteOneThing, CutsChangeNothing}
use Rattle.conn_table.proofs.Numbers.{told, length-without-le}
use Rattle.conn_table.proofs.Readings.{alike_all, alike_onward, alike_cut}

pub answers_are_exact : BytesHaveOneReading → AnswersAreExact
answers_are_exact unique bytes answer reading is reads = is.2 ∙ ap progress_of (unique bytes is.0 reading is.1 reads)

length-taken : (conn : ℕ) (conns : List ℕ) → length conns ≤ 64 → length (taken conn conns) ≤ 64
length-taken conn conns few =
    elim (told (nat_lt (length conns) 64)) [
      | inl room ↦ rw room (grind arith)
      | inr full ↦ rw full few
    ]

length-kept_on : (conn : ℕ) (reading : Reading) (conns : List ℕ) → length (kept_on conn reading conns) ≤ length conns
length-kept_on conn reading conns =
    elim (told (is_more reading)) [
      | inl more ↦ rw more (omega arith)
      | inr over ↦ rw over (length-without-le conn conns)
    ]

pub few_are_kept : FewAreKept
few_are_kept read [] = omega arith
few_are_kept read (Started conn ∷ past) = length-taken conn (kept read past) (few_are_kept read past)
few_are_kept read (Piece conn piece ∷ past) = omega (arith, few_are_kept read past, length-kept_on conn (read_with read conn piece past) (kept read past))
few_are_kept read (Ended conn ∷ past) = omega (arith, few_are_kept read past, length-without-le conn (kept read past))

pub events_complete_one_thing : BytesHaveOneReading → EventsCompleteOneThing
events_complete_one_thing unique events read other right right_too =
    let alike = alike_all unique read other events right right_too in (alike.conns, alike.done)

right_past : (read : List ℕ → Reading) (later past : History) → IsRight read (later ++ past) → IsRight read past
right_past read [] past right = right
right_past read (Started conn ∷ later) past right = right_past read later past right
right_past read (Piece conn piece ∷ later) past right = right_past read later past right.0
right_past read (Ended conn ∷ later) past right = right_past read later past right

pub cuts_change_nothing : BytesHaveOneReading → MoreBytesChangeNothing → CutsChangeNothing
cuts_change_nothing unique lasting past later conn front back done joined is is_too =
    let read = is.0 in
    let other = is_too.0 in
    let right = right_past read later (Piece conn back ∷ Piece conn front ∷ past) is.1 in
    let right_too = right_past other later (Piece conn (front ++ back) ∷ past) is_too.1 in
    let before = alike_all unique read other past right.0.0 right_too.0 in
    let here = alike_cut unique read other lasting past conn front back before right.0.1 right.1 right_too.1 in
    let all = alike_onward unique read other later (Piece conn back ∷ Piece conn front ∷ past) (Piece conn (front ++ back) ∷ past) here is.1 is_too.1 in
    is.2 ∙ all.done ∙ sym is_too.2
