-- Payloads that are still to come.
use Rattle.std.specs.Prelude.{slice_index, is_ok, Some, Result, Ok, Err}
use Rattle.std.proofs.Common.{◌≡◌, ◌≢◌, true, false, ℕ, ◌+◌, ◌-◌, ◌≤◌, List, [], ◌∷◌, length, take, drop, refl, sym, ◌∙◌, ap, arith, length-take, length-drop}
use Rattle.std.proofs.lemmas.Bool.{true≢false}
use Rattle.std.proofs.lemmas.List.{take_rest}
use Rattle.gate_journal.specs.declared.header.Header.{Header}
use Rattle.gate_journal.specs.Format.{size_of, is_whole, prepend, payloads_from, payloads_of, header_of, with_payloads}
use Rattle.gate_journal.specs.Journal.{FitsVersion}
use Rattle.gate_journal.specs.Texts.{sound_payloads, coming, committed}
use Rattle.gate_journal.proofs.Payloads.{good, bad, shut, sizes-within, each-within}

sound-prepend : (payload : List ℕ) (rest : Result (List (List ℕ)) ℕ) → is_ok (prepend payload rest) ≡ true → (sound_payloads (prepend payload rest) ≡ payload ∷ sound_payloads rest) × (is_ok rest ≡ true)
sound-prepend payload (Ok payloads) e = (refl, refl)
sound-prepend payload (Err place) e = absurd (true≢false (sym e))

module _ (longest place gate : ℕ) (bodies : List ℕ) (sound : is_ok (payloads_from longest place gate bodies) ≡ true) where
  -- none, behind a gate that is not open
  pub none_come : gate ≢ 1 → sound_payloads (payloads_from longest place gate bodies) ≡ []
  none_come closed = ap sound_payloads (shut longest place gate bodies closed)

  -- a body that is not whole would be a fault
  pub no_cut : gate ≡ 1 → is_whole longest bodies ≡ false → ⊥
  no_cut open_ cut = true≢false (sym sound ∙ ap is_ok (bad longest place gate bodies open_ cut))

  -- one, and those behind it
  pub one_comes : gate ≡ 1 → is_whole longest bodies ≡ true → (size : ℕ) → size ≡ size_of bodies
      → (sound_payloads (payloads_from longest place gate bodies) ≡ take (4 + size - 4) (drop 4 bodies) ∷ sound_payloads (payloads_from longest (place + (size + 5)) (slice_index bodies (4 + size)) (take (length bodies - (size + 5)) (drop (size + 5) bodies))))
      × (is_ok (payloads_from longest (place + (size + 5)) (slice_index bodies (4 + size)) (take (length bodies - (size + 5)) (drop (size + 5) bodies))) ≡ true)
  one_comes open_ whole size same =
      let behind = payloads_from longest (place + (size + 5)) (slice_index bodies (4 + size)) (take (length bodies - (size + 5)) (drop (size + 5) bodies)) in
      let width : 4 + size - 4 ≡ size_of bodies = omega (arith, same) in
      let gate_place : size_of bodies + 4 ≡ 4 + size = omega (arith, same) in
      let there : payloads_from longest place gate bodies ≡ prepend (take (4 + size - 4) (drop 4 bodies)) behind =
      good longest place gate bodies open_ whole
      ∙ ap (λ (n : ℕ). prepend (take n (drop 4 bodies)) (payloads_from longest (place + (size_of bodies + 5)) (slice_index bodies (size_of bodies + 4)) (drop (size_of bodies + 5) bodies))) (sym width)
      ∙ ap (λ (k : ℕ). prepend (take (4 + size - 4) (drop 4 bodies)) (payloads_from longest (place + (size_of bodies + 5)) (slice_index bodies k) (drop (size_of bodies + 5) bodies))) gate_place
      ∙ ap (λ (k : ℕ). prepend (take (4 + size - 4) (drop 4 bodies)) (payloads_from longest (place + (k + 5)) (slice_index bodies (4 + size)) (drop (k + 5) bodies))) (sym same)
      ∙ ap (λ (rest : List ℕ). prepend (take (4 + size - 4) (drop 4 bodies)) (payloads_from longest (place + (size + 5)) (slice_index bodies (4 + size)) rest)) (sym (take_rest bodies (size + 5))) in
      let parts = sound-prepend (take (4 + size - 4) (drop 4 bodies)) behind (ap is_ok (sym there) ∙ sound) in
      (ap sound_payloads there ∙ parts.0, parts.1)

-- a committed file without a fault
with_sound : (file : List ℕ) (r : Result (List (List ℕ)) ℕ) → is_ok r ≡ true → Ok (Some (record { version = slice_index file 32; header = header_of file; payloads = sound_payloads r })) ≡ with_payloads file r
with_sound file (Ok payloads) e = refl
with_sound file (Err place) e = absurd (true≢false (sym e))

pub text_holds : (longest : ℕ) (file : List ℕ) (header : Header) → is_ok (payloads_of longest file) ≡ true → header ≡ header_of file
    → Ok (Some (committed (slice_index file 32) header (coming longest 72 (slice_index file 70) (take (length file - 72) (drop 72 file))))) ≡ with_payloads file (payloads_of longest file)
text_holds longest file header sound same =
    ap (λ (h : Header). Ok (Some (committed (slice_index file 32) h (coming longest 72 (slice_index file 70) (take (length file - 72) (drop 72 file)))))) same
    ∙ ap (λ (bodies : List ℕ). Ok (Some (committed (slice_index file 32) (header_of file) (coming longest 72 (slice_index file 70) bodies)))) (take_rest file 72)
    ∙ with_sound file (payloads_of longest file) sound

pub sound_text : (longest : ℕ) (file : List ℕ) → is_ok (payloads_of longest file) ≡ true → is_ok (payloads_from longest 72 (slice_index file 70) (take (length file - 72) (drop 72 file))) ≡ true
sound_text longest file sound = ap (λ (bodies : List ℕ). is_ok (payloads_from longest 72 (slice_index file 70) bodies)) (take_rest file 72) ∙ sound

sound_is : (r : Result (List (List ℕ)) ℕ) → is_ok r ≡ true → r ≡ Ok (sound_payloads r)
sound_is (Ok payloads) e = refl
sound_is (Err place) e = absurd (true≢false (sym e))

-- the payloads of a text that is not too long for version 1
pub text_fits : (longest : ℕ) (file : List ℕ) → is_ok (payloads_of longest file) ≡ true → 72 ≤ length file → longest ≤ 524288 → length file ≤ 67108864
    → FitsVersion 1 (sound_payloads (payloads_from longest 72 (slice_index file 70) (take (length file - 72) (drop 72 file))))
text_fits longest file sound long short most =
    let bodies = take (length file - 72) (drop 72 file) in
    let dropped = length-drop 72 file in
    let taken = length-take (length file - 72) (drop 72 file) in
    let gate = slice_index file 70 in
    let found = payloads_from longest 72 gate bodies in
    let is : found ≡ Ok (sound_payloads found) = sound_is found (sound_text longest file sound) in
    record {
      each = each-within longest 524288 (length bodies) 72 gate bodies (sound_payloads found) short is;
      file = omega (arith, sizes-within longest (length bodies) 72 gate bodies (sound_payloads found) is);
    }
