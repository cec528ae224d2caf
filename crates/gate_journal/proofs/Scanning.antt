-- How the payloads of a file are read, one body after another.
use Rattle.std.specs.Prelude.{slice_index, Ok, Err}
use Rattle.std.proofs.Common.{◌≡◌, ◌≢◌, true, false, ℕ, ◌+◌, ◌-◌, ◌≤◌, List, [], ◌∷◌, ◌++◌, length, take, drop, get_or, refl, sym, ◌∙◌, ap, arith, get_or-drop, length-drop}
use Rattle.std.proofs.lemmas.List.{drop-drop, append-nil, take_rest}
use Rattle.gate_journal.specs.Format.{size_of, payload_of, is_whole, prepend, payloads_of, payloads_from}
use Rattle.gate_journal.proofs.Payloads.{good, bad, shut, whole_long, prefixed, prefixed-push, prefixed-ok}

prefixed-err : (payloads : List (List ℕ)) (place : ℕ) → prefixed payloads (Err place) ≡ Err place
prefixed-err [] place = refl
prefixed-err (p ∷ payloads) place = ap (prepend p) (prefixed-err payloads place)

module _ (longest at gate : ℕ) (file : List ℕ) (found : List (List ℕ)) (read : payloads_of longest file ≡ prefixed found (payloads_from longest at gate (drop at file))) where
  abbrev bodies : List ℕ
  bodies = take (length file - at) (drop at file)

  all_bodies : bodies ≡ drop at file
  all_bodies = take_rest file at

  pub read_end : gate ≢ 1 → payloads_of longest file ≡ Ok found
  read_end closed = read ∙ ap (prefixed found) (shut longest at gate (drop at file) closed) ∙ prefixed-ok found [] ∙ ap Ok (append-nil found)

  pub read_fault : gate ≡ 1 → is_whole longest bodies ≡ false → payloads_of longest file ≡ Err at
  read_fault open_ cut = read ∙ ap (prefixed found) (bad longest at gate (drop at file) open_ (rw all_bodies at cut)) ∙ prefixed-err found at

  -- where the next body is whole
  module _ (size : ℕ) (open_ : gate ≡ 1) (size_is : size ≡ size_of bodies) (whole : is_whole longest bodies ≡ true) where
    size_there : size_of (drop at file) ≡ size
    size_there = ap size_of (sym all_bodies) ∙ sym size_is

    pub body_within : at + size + 5 ≤ length file
    body_within = let long = whole_long longest (drop at file) (rw all_bodies at whole) in let dropped = length-drop at file in omega (arith, size_there)

    pub read_more : payloads_of longest file ≡ prefixed (found ++ take (at + 4 + size - (at + 4)) (drop (at + 4) file) ∷ []) (payloads_from longest (at + 4 + size + 1) (get_or file (at + 4 + size) 0) (drop (at + 4 + size + 1) file))
    read_more =
        let rest = drop at file in
        let payload = take (at + 4 + size - (at + 4)) (drop (at + 4) file) in
        let width : at + 4 + size - (at + 4) ≡ size = omega arith in
        let payload_is : payload_of rest ≡ payload = ap (λ (n : ℕ). take n (drop 4 rest)) size_there ∙ ap (take size) (drop-drop 4 at file) ∙ ap (λ (n : ℕ). take n (drop (at + 4) file)) (sym width) in
        let place : at + (size_of rest + 5) ≡ at + 4 + size + 1 = omega (arith, size_there) in
        let gate_place : at + (size_of rest + 4) ≡ at + 4 + size = omega (arith, size_there) in
        let next : slice_index rest (size_of rest + 4) ≡ get_or file (at + 4 + size) 0 = get_or-drop at file (size_of rest + 4) 0 ∙ ap (λ (k : ℕ). get_or file k 0) gate_place in
        let behind : drop (size_of rest + 5) rest ≡ drop (at + 4 + size + 1) file = drop-drop (size_of rest + 5) at file ∙ ap (λ (k : ℕ). drop k file) place in
        read ∙ ap (prefixed found) (good longest at gate rest open_ (rw all_bodies at whole)
        ∙ ap (λ (p : List ℕ). prepend p (payloads_from longest (at + (size_of rest + 5)) (slice_index rest (size_of rest + 4)) (drop (size_of rest + 5) rest))) payload_is
        ∙ ap (λ (k : ℕ). prepend payload (payloads_from longest k (slice_index rest (size_of rest + 4)) (drop (size_of rest + 5) rest))) place
        ∙ ap (λ (g : ℕ). prepend payload (payloads_from longest (at + 4 + size + 1) g (drop (size_of rest + 5) rest))) next
        ∙ ap (λ (b : List ℕ). prepend payload (payloads_from longest (at + 4 + size + 1) (get_or file (at + 4 + size) 0) b)) behind)
        ∙ sym (prefixed-push found payload (payloads_from longest (at + 4 + size + 1) (get_or file (at + 4 + size) 0) (drop (at + 4 + size + 1) file)))
