-- What bodies behind a gate read as.
use Rattle.std.specs.Prelude.{slice_index, All, Ok}
use Rattle.std.proofs.Common.{◌≡◌, suc, ℕ, ◌+◌, ◌^◌, ◌<◌, ◌≤◌, List, [], ◌∷◌, ◌++◌, length, take, drop, get_or, sym, ◌∙◌, ap, refl, arith, length-append}
use Rattle.std.proofs.lemmas.List.{append_assoc, drop_at, take_at, get_or_at}
use Rattle.std.proofs.lemmas.List.Elements.{All-head, All-tail}
use Rattle.std.proofs.lemmas.Nat.{from_be_bytes-to_be_bytes_4}
use Rattle.gate_journal.specs.Format.{size_of, payload_of, prepend, payloads_from, sizes, gate_of, bodies_of}
use Rattle.gate_journal.proofs.Payloads.{good, shut, whole_from}

pub length-bodies : (payloads : List (List ℕ)) → length (bodies_of payloads) ≡ sizes payloads
length-bodies [] = refl
length-bodies (p ∷ payloads) = omega (arith, length-append p (gate_of payloads ∷ bodies_of payloads), length-bodies payloads)

-- bodies that were written one behind another read as their payloads
pub bodies_read : (longest place : ℕ) (payloads : List (List ℕ)) (rest : List ℕ) → longest < 2 ^ 32 → All (λ p. length p ≤ longest) payloads
    → payloads_from longest place (gate_of payloads) (bodies_of payloads ++ rest) ≡ Ok payloads
bodies_read longest place [] rest small fit = shut longest place 0 rest (λ one. absurd (omega (arith, one)))
bodies_read longest place (p ∷ payloads) rest small fit =
    let bodies = bodies_of (p ∷ payloads) ++ rest in
    let n = length p in
    let le : n ≤ longest = All-head (λ q. length q ≤ longest) p payloads fit in
    let size : size_of bodies ≡ n = from_be_bytes-to_be_bytes_4 n (omega arith) in
    let behind = bodies_of payloads ++ rest in
    let tail = (p ++ gate_of payloads ∷ bodies_of payloads) ++ rest in
    let tail_is : tail ≡ p ++ gate_of payloads ∷ behind = append_assoc p (gate_of payloads ∷ bodies_of payloads) rest in
    let tail_long = ap length tail_is ∙ length-append p (gate_of payloads ∷ behind) in
    let long : length bodies ≡ 4 + (n + (1 + length behind)) = omega (arith, tail_long) in
    let whole = whole_from longest bodies (omega (arith, size)) (omega (arith, size)) in
    let payload_is : payload_of bodies ≡ p = ap (λ (k : ℕ). take k tail) size ∙ ap (take n) tail_is ∙ take_at p (gate_of payloads ∷ behind) n refl in
    let gate : get_or bodies (n + 4) 0 ≡ gate_of payloads =
    (let same : n + 4 ≡ suc (suc (suc (suc n))) = omega arith in rw same (ap (λ (l : List ℕ). get_or l n 0) tail_is ∙ get_or_at p (gate_of payloads) behind 0 n refl)) in
    let gate_is : slice_index bodies (size_of bodies + 4) ≡ gate_of payloads = ap (λ (k : ℕ). get_or bodies (k + 4) 0) size ∙ gate in
    let after : drop (n + 5) bodies ≡ behind =
    (let same : n + 5 ≡ suc (suc (suc (suc (n + 1)))) = omega arith in rw same (ap (drop (n + 1)) (tail_is ∙ append_one p (gate_of payloads) behind) ∙ drop_at (p ++ gate_of payloads ∷ []) behind (n + 1) (length-append p (gate_of payloads ∷ [])))) in
    let after_is : drop (size_of bodies + 5) bodies ≡ behind = ap (λ (k : ℕ). drop (k + 5) bodies) size ∙ after in
    good longest place 1 bodies refl whole
    ∙ ap (λ (q : List ℕ). prepend q (payloads_from longest (place + (size_of bodies + 5)) (slice_index bodies (size_of bodies + 4)) (drop (size_of bodies + 5) bodies))) payload_is
    ∙ ap (λ (g : ℕ). prepend p (payloads_from longest (place + (size_of bodies + 5)) g (drop (size_of bodies + 5) bodies))) gate_is
    ∙ ap (λ (b : List ℕ). prepend p (payloads_from longest (place + (size_of bodies + 5)) (gate_of payloads) b)) after_is
    ∙ ap (prepend p) (bodies_read longest (place + (size_of bodies + 5)) payloads rest small (All-tail (λ q. length q ≤ longest) p payloads fit))
  where
    append_one : (xs : List ℕ) (y : ℕ) (ys : List ℕ) → xs ++ y ∷ ys ≡ (xs ++ y ∷ []) ++ ys
    append_one xs y ys = sym (append_assoc xs (y ∷ []) ys)
