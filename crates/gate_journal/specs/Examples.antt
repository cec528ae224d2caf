-- The format at worked examples.
use Rattle.std.specs.Prelude.{◌≡◌, ℕ, List, [], ◌∷◌, ◌++◌, None, Some, Ok, Err, replicate, refl, take, drop}
use Rattle.crash_disk.specs.declared.file_no.FileNo.TheVariants.{Zero, One}
use Rattle.crash_disk.specs.declared.change.Change.TheVariants.{Write, Cut, Sync}
use Rattle.gate_journal.specs.Calls.{appending, clearing, making_first}
use Rattle.gate_journal.specs.Format.{letters, file_of, committed_of, payloads_in, journal, body_of, bodies_of, gate_of, gate_place, end_of}
use Rattle.gate_journal.specs.Journal.{made_anew}
use Rattle.gate_journal.specs.Making.{first_journal}

-- a header of this commit, generation, version and first gate, with horizon 0 and next number 1
abbrev head : ℕ → ℕ → ℕ → ℕ → List ℕ
head commit generation version gate =
    (commit ∷ []) ++ letters ++ replicate 7 0 ++ (generation ∷ []) ++ replicate 8 0 ++ replicate 7 0 ++ (1 ∷ version ∷ []) ++ replicate 37 0 ++ gate ∷ 0 ∷ []

-- an empty journal in file 0
empty : journal (record { zero = head 1 1 2 0; one = [] }) ≡ Ok (Some (record { file = Zero; holds = record { version = 2; header = record { generation = 1; horizon = 0; next = 1 }; payloads = [] } }))
unfolding file_of committed_of payloads_in
empty = refl

-- the record abc behind it: its body, and the gate in front of it
abc : body_of (97 ∷ 98 ∷ 99 ∷ []) ≡ 0 ∷ 0 ∷ 0 ∷ 3 ∷ 97 ∷ 98 ∷ 99 ∷ 0 ∷ []
abc = refl

one_record : journal (record { zero = []; one = head 1 3 1 1 ++ body_of (97 ∷ 98 ∷ 99 ∷ []) })
    ≡ Ok (Some (record { file = One; holds = record { version = 1; header = record { generation = 3; horizon = 0; next = 1 }; payloads = (97 ∷ 98 ∷ 99 ∷ []) ∷ [] } }))
unfolding file_of committed_of payloads_in
one_record = refl

-- a closed gate ends the list, whatever stands behind it
closed : journal (record { zero = head 1 1 2 0 ++ 9 ∷ 9 ∷ []; one = [] }) ≡ journal (record { zero = head 1 1 2 0; one = [] })
unfolding file_of committed_of payloads_in
closed = refl

-- no journal yet: files that are short or not committed
none : (journal (record { zero = []; one = 1 ∷ [] }) ≡ Ok None) × (journal (record { zero = head 0 1 2 0; one = head 2 1 2 1 }) ≡ Ok None)
unfolding file_of committed_of payloads_in
none = (refl, refl)

-- faults: the letters, the version, a record that is cut, two files of one generation
faults : (journal (record { zero = 0 ∷ head 1 1 2 0; one = [] }) ≡ Err (record { file = Zero; place = 1 })) × (journal (record { zero = []; one = head 1 1 3 0 }) ≡ Err (record { file = One; place = 32 }))
    × (journal (record { zero = head 1 1 2 1 ++ 0 ∷ 0 ∷ 0 ∷ 1 ∷ 7 ∷ []; one = [] }) ≡ Err (record { file = Zero; place = 72 })) × (journal (record { zero = head 1 4 2 0; one = head 1 4 1 0 }) ≡ Err (record { file = One; place = 8 }))
unfolding file_of committed_of payloads_in
faults = (refl, refl, refl, refl)

places : (gate_place [] ≡ 70) × (end_of [] ≡ 72) × (gate_place ((97 ∷ 98 ∷ 99 ∷ []) ∷ []) ≡ 79) × (end_of ((97 ∷ 98 ∷ 99 ∷ []) ∷ []) ≡ 80)
places = (refl, refl, refl, refl)

-- two bodies behind an open gate: the gate between them is open, and the last one is closed
bodies : (gate_of [] ≡ 0) × (gate_of ((97 ∷ []) ∷ []) ≡ 1) × (bodies_of ((97 ∷ 98 ∷ 99 ∷ []) ∷ (101 ∷ []) ∷ []) ≡ 0 ∷ 0 ∷ 0 ∷ 3 ∷ 97 ∷ 98 ∷ 99 ∷ 1 ∷ 0 ∷ 0 ∷ 0 ∷ 1 ∷ 101 ∷ 0 ∷ [])
bodies = (refl, refl, refl)

-- a compaction of the first journal
anew : made_anew [] 600000 3 (record { file = Zero; holds = first_journal }) ≡ record { file = One; holds = record { version = 2; header = record { generation = 2; horizon = 600000; next = 3 }; payloads = [] } }
anew = refl

-- the calls that make the first journal in an empty file: they leave the header of `empty`
first_calls : making_first [] ≡ Cut Zero 0 ∷ Sync Zero ∷ Write Zero 0 ((0 ∷ []) ++ drop 1 (take 71 (head 1 1 2 0))) ∷ Sync Zero ∷ Write Zero 71 (0 ∷ []) ∷ Sync Zero ∷ Write Zero 0 (1 ∷ []) ∷ Sync Zero ∷ []
first_calls = refl

-- the four calls of an append: the record abc in the first journal
append_calls : appending (record { file = Zero; holds = first_journal }) (97 ∷ 98 ∷ 99 ∷ []) ≡ Write Zero 72 (0 ∷ 0 ∷ 0 ∷ 3 ∷ 97 ∷ 98 ∷ 99 ∷ 0 ∷ []) ∷ Sync Zero ∷ Write Zero 70 (1 ∷ []) ∷ Sync Zero ∷ []
append_calls = refl

-- a file that holds a journal loses its commit before it is made anew, and one that was not committed is not written for that
clear_calls : (clearing One [] (head 1 1 2 0) ≡ Write One 0 (0 ∷ []) ∷ Sync One ∷ []) × (clearing One [] (head 0 1 2 0) ≡ [])
clear_calls = (refl, refl)
