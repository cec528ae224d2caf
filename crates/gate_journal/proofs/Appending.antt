-- What stands in a file while a record is written to it.
use Rattle.std.specs.Prelude.{slice_index, ◌==◌, Ok}
use Rattle.std.specs.Int.{w64, from_be_bytes}
use Rattle.std.proofs.Common.{◌≡◌, ◌≢◌, inl, inr, false, zero, suc, ℕ, ◌+◌, ◌^◌, ◌<◌, ◌≤◌, List, [], ◌∷◌, ◌++◌, length, take, drop, get_or, refl, sym, ◌∙◌, ap, arith, length-take, length-drop, get_or-drop, get_or-take}
use Rattle.std.proofs.lemmas.List.{ext_get_or, drop-drop, append-nil}
use Rattle.std.proofs.lemmas.Bool.{cases_eq}
use Rattle.std.proofs.lemmas.Bool.Decides.{nat_tests}
use Rattle.gate_journal.specs.Format.{number_at, header_of, longest_file, longest_payload, payloads_of, payloads_from, Committed, sizes, end_of, gate_place, body_of}
use Rattle.std.proofs.lemmas.List.Elements.{All-cons, All-nil}
use Rattle.gate_journal.proofs.Bodies.{bodies_read}
use Rattle.gate_journal.proofs.Payloads.{agrees, closed_behind, sizes-within, shut, prefixed, prefixed-ok}
use Rattle.gate_journal.proofs.Files.{IsCommitted}

-- parts of two texts that agree byte for byte
pub part_same : (a b : List ℕ) (at n : ℕ) → at + n ≤ length a → at + n ≤ length b → ((i : ℕ) → at ≤ i → i < at + n → get_or b i 0 ≡ get_or a i 0) → take n (drop at b) ≡ take n (drop at a)
part_same a b at n long long' same =
    let dropped_a = length-drop at a in
    let dropped_b = length-drop at b in
    let taken_a = length-take n (drop at a) in
    let taken_b = length-take n (drop at b) in
    ext_get_or 0 (take n (drop at b)) (take n (drop at a)) (omega arith) (λ i low.
    get_or-take n (drop at b) i 0 (omega arith) ∙ get_or-drop at b i 0 ∙ same (at + i) (omega arith) (omega arith) ∙ sym (get_or-take n (drop at a) i 0 (omega arith) ∙ get_or-drop at a i 0))

pub gate_low : (payloads : List (List ℕ)) → 70 ≤ gate_place payloads
gate_low [] = omega arith
gate_low (p ∷ payloads) = omega arith

pub gate_high : (payloads : List (List ℕ)) → gate_place payloads < end_of payloads
gate_high [] = omega arith
gate_high (p ∷ payloads) = omega arith

pub gate_far : (payloads : List (List ℕ)) → 0 < sizes payloads → gate_place payloads ≡ 71 + sizes payloads
gate_far [] some = absurd (omega arith)
gate_far (p ∷ payloads) some = omega arith

longest_of_all : (version : ℕ) → longest_file version ≤ 134217728
longest_of_all version = elim (cases_eq version 1) [
  | inl first ↦ rw first (omega arith)
  | inr other ↦ let same : (version == 1) ≡ false = grind (arith, nat_tests) in rw same (omega arith)
]

small_longest : (version : ℕ) → longest_payload version < 2 ^ 32
small_longest version = elim (cases_eq version 1) [
  | inl first ↦ rw first (omega arith)
  | inr other ↦ let same : (version == 1) ≡ false = grind (arith, nat_tests) in rw same (omega arith)
]

-- the gate behind the payloads, as the text from the first gate on has it
stream_at : (file : List ℕ) (k : ℕ) → 0 < k → get_or (get_or file 70 0 ∷ drop 72 file) k 0 ≡ get_or file (71 + k) 0
stream_at file zero some = absurd (omega arith)
stream_at file (suc k) some = let same : 72 + k ≡ 71 + suc k = omega arith in get_or-drop 72 file k 0 ∙ ap (λ (i : ℕ). get_or file i 0) same

pub gate_at : (file : List ℕ) (payloads : List (List ℕ)) → get_or (get_or file 70 0 ∷ drop 72 file) (sizes payloads) 0 ≡ get_or file (gate_place payloads) 0
gate_at file [] = refl
gate_at file (p ∷ payloads) =
    let same : 71 + sizes (p ∷ payloads) ≡ gate_place (p ∷ payloads) = omega arith in
    stream_at file (sizes (p ∷ payloads)) (omega arith) ∙ ap (λ (i : ℕ). get_or file i 0) same

module _ (file : List ℕ) (holds : Committed) (is : IsCommitted file holds) where
  abbrev ps : List (List ℕ)
  ps = holds.payloads

  -- the bodies lie in the file
  pub end_within : end_of ps ≤ length file
  end_within =
      let long = is.head.long in
      let dropped = length-drop 72 file in
      omega (arith, sizes-within (longest_payload holds.version) (length (drop 72 file)) 72 (slice_index file 70) (drop 72 file) ps is.payloads_are)

  -- the gate behind them is not open
  pub gate_closed : get_or file (gate_place ps) 0 ≢ 1
  gate_closed same = closed_behind (longest_payload holds.version) (length (drop 72 file)) 72 (slice_index file 70) (drop 72 file) ps is.payloads_are (gate_at file ps ∙ same)

  -- a file that agrees with it in front of the end but at that gate
  module _ (other : List ℕ) (long : end_of ps ≤ length other) (short : length other ≤ longest_file holds.version)
      (same : (i : ℕ) → i < end_of ps → i ≢ gate_place ps → get_or other i 0 ≡ get_or file i 0) where
    low : 70 ≤ gate_place ps
    low = gate_low ps

    front : (at n : ℕ) → at + n ≤ 70 → take n (drop at other) ≡ take n (drop at file)
    front at n le =
        let within = end_within in
        part_same file other at n (omega (arith, within)) (omega arith) (λ i from to. same i (omega arith) (omega (arith, low)))

    byte : (i : ℕ) → i < 70 → get_or other i 0 ≡ get_or file i 0
    byte i le = same i (omega arith) (omega (arith, low))

    header_same : header_of other ≡ header_of file
    header_same =
        ap (λ (b : List ℕ). record { generation = from_be_bytes w64 b; horizon = number_at other 16; next = number_at other 24 }) (front 8 8 (omega arith))
        ∙ ap (λ (b : List ℕ). record { generation = number_at file 8; horizon = from_be_bytes w64 b; next = number_at other 24 }) (front 16 8 (omega arith))
        ∙ ap (λ (b : List ℕ). record { generation = number_at file 8; horizon = number_at file 16; next = from_be_bytes w64 b }) (front 24 8 (omega arith))

    stream : (i : ℕ) → i < sizes ps → get_or (get_or other 70 0 ∷ drop 72 other) i 0 ≡ get_or (get_or file 70 0 ∷ drop 72 file) i 0
    stream zero le = same 70 (omega arith) (λ at. absurd (omega (arith, gate_far ps (omega arith))))
    stream (suc k) le =
        get_or-drop 72 other k 0 ∙ same (72 + k) (omega arith) (λ at. absurd (omega (arith, gate_far ps (omega arith)))) ∙ sym (get_or-drop 72 file k 0)

    -- its payloads are those, and then what stands behind that gate in it
    pub payloads_other : payloads_of (longest_payload holds.version) other ≡ prefixed ps (payloads_from (longest_payload holds.version) (end_of ps) (get_or other (gate_place ps) 0) (drop (end_of ps) other))
    payloads_other =
        let dropped = length-drop 72 other in
        let longest = longest_payload holds.version in
        agrees longest (length (drop 72 file)) 72 (slice_index file 70) (drop 72 file) ps is.payloads_are (slice_index other 70) (drop 72 other) (omega arith) stream
        ∙ ap (λ (g : ℕ). prefixed ps (payloads_from longest (end_of ps) g (drop (sizes ps) (drop 72 other)))) (gate_at other ps)
        ∙ ap (λ (b : List ℕ). prefixed ps (payloads_from longest (end_of ps) (get_or other (gate_place ps) 0) b)) (drop-drop (sizes ps) 72 other)

    pub committed_other : (payloads : List (List ℕ)) → payloads_of (longest_payload holds.version) other ≡ Ok payloads → IsCommitted other (record holds { payloads = payloads })
    committed_other payloads reads = record {
      head = record { long = omega arith; letters_are = front 1 7 (omega arith) ∙ is.head.letters_are; short = omega (arith, longest_of_all holds.version) };
      commit = byte 0 (omega arith) ∙ is.commit;
      version_is = is.version_is ∙ sym (byte 32 (omega arith));
      header_is = is.header_is ∙ sym header_same;
      one_of = is.one_of;
      short = short;
      not_last = is.not_last;
      payloads_are = reads;
    }

    -- where that gate is not open it holds the same
    pub still_holds : get_or other (gate_place ps) 0 ≢ 1 → IsCommitted other holds
    still_holds closed = committed_other ps (payloads_other ∙ ap (prefixed ps) (shut (longest_payload holds.version) (end_of ps) _ (drop (end_of ps) other) closed) ∙ prefixed-ok ps [] ∙ ap Ok (append-nil ps))

    -- where it is open before the body of one payload, it holds that too
    pub holds_more : (payload rest : List ℕ) → get_or other (gate_place ps) 0 ≡ 1 → drop (end_of ps) other ≡ body_of payload ++ rest
        → length payload ≤ longest_payload holds.version → IsCommitted other (record holds { payloads = ps ++ payload ∷ [] })
    holds_more payload rest open_ body le =
        let longest = longest_payload holds.version in
        committed_other (ps ++ payload ∷ []) (payloads_other ∙ ap (prefixed ps) (rw (open_, body) (bodies_read longest (end_of ps) (payload ∷ []) rest (small_longest holds.version) (All-cons (λ p. length p ≤ longest) payload [] le (All-nil (λ p. length p ≤ longest))))) ∙ prefixed-ok ps (payload ∷ []))
