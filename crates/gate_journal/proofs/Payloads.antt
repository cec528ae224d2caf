-- The payloads behind a gate.
use Rattle.std.specs.Prelude.{All, ◌==◌, slice_index, if◌then◌else◌, Result, Ok, Err}
use Rattle.std.proofs.Common.{◌≡◌, ◌≢◌, inl, inr, Bool, true, false, zero, suc, ℕ, ◌+◌, ◌<◌, ◌≤◌, List, [], ◌∷◌, ◌++◌, length, take, drop, get_or, refl, sym, ◌∙◌, ap, arith, length-take, length-drop, get_or-drop, get_or-take}
use Rattle.std.specs.Int.{w32, from_be_bytes}
use Rattle.std.proofs.lemmas.List.{ext_get_or, drop-drop}
use Rattle.std.proofs.lemmas.List.Elements.{All-cons, All-nil}
use Rattle.std.proofs.lemmas.Bool.{cases_Bool, cases_eq, and_parts, and_from, leb-true, le-leb}
use Rattle.std.proofs.lemmas.Bool.Decides.{nat_tests}
use Rattle.gate_journal.specs.Format.{size_of, payload_of, is_whole, prepend, payloads_in, payloads_from, sizes}

module _ (longest : ℕ) where
  -- a whole body has at least its length and its gate
  pub whole_long : (bodies : List ℕ) → is_whole longest bodies ≡ true → size_of bodies + 5 ≤ length bodies
  whole_long bodies whole = leb-true _ _ (and_parts _ _ whole).1

  pub whole_fits : (bodies : List ℕ) → is_whole longest bodies ≡ true → size_of bodies ≤ longest
  whole_fits bodies whole = leb-true _ _ (and_parts _ _ whole).0

  pub whole_from : (bodies : List ℕ) → size_of bodies ≤ longest → size_of bodies + 5 ≤ length bodies → is_whole longest bodies ≡ true
  whole_from bodies fits long = and_from _ _ (le-leb _ _ fits) (le-leb _ _ long)

  pub enough : (m n place gate : ℕ) (bodies : List ℕ) → length bodies ≤ m → length bodies ≤ n → payloads_in m longest place gate bodies ≡ payloads_in n longest place gate bodies
  unfolding payloads_in
  enough zero zero place gate bodies le le' = refl
  enough zero (suc n) place gate bodies le le' =
      elim (cases_Bool (is_whole longest bodies)) [
        | inl whole ↦ absurd (omega (arith, whole_long bodies whole))
        | inr cut ↦ ap (λ (b : Bool). if gate == 1 then (if b then prepend (payload_of bodies) (payloads_in n longest (place + (size_of bodies + 5)) (slice_index bodies (size_of bodies + 4)) (drop (size_of bodies + 5) bodies)) else Err place) else Ok []) (sym cut)
      ]
  enough (suc m) zero place gate bodies le le' =
      elim (cases_Bool (is_whole longest bodies)) [
        | inl whole ↦ absurd (omega (arith, whole_long bodies whole))
        | inr cut ↦ ap (λ (b : Bool). if gate == 1 then (if b then prepend (payload_of bodies) (payloads_in m longest (place + (size_of bodies + 5)) (slice_index bodies (size_of bodies + 4)) (drop (size_of bodies + 5) bodies)) else Err place) else Ok []) cut
      ]
  enough (suc m) (suc n) place gate bodies le le' =
      let short = length-drop (size_of bodies + 5) bodies in
      let rest = enough m n (place + (size_of bodies + 5)) (slice_index bodies (size_of bodies + 4)) (drop (size_of bodies + 5) bodies) (omega arith) (omega arith) in
      ap (λ (r : Result (List (List ℕ)) ℕ). if gate == 1 then (if is_whole longest bodies then prepend (payload_of bodies) r else Err place) else Ok []) rest

  in_shut : (steps place gate : ℕ) (bodies : List ℕ) → gate ≢ 1 → payloads_in steps longest place gate bodies ≡ Ok []
  unfolding payloads_in
  in_shut zero place gate bodies shut = let is : (gate == 1) ≡ false = grind (arith, nat_tests) in rw is refl
  in_shut (suc steps) place gate bodies shut = let is : (gate == 1) ≡ false = grind (arith, nat_tests) in rw is refl

  -- a gate that is not open ends the list
  pub shut : (place gate : ℕ) (bodies : List ℕ) → gate ≢ 1 → payloads_from longest place gate bodies ≡ Ok []
  shut place gate bodies is = in_shut (length bodies) place gate bodies is

  in_bad : (steps place gate : ℕ) (bodies : List ℕ) → gate ≡ 1 → is_whole longest bodies ≡ false → payloads_in steps longest place gate bodies ≡ Err place
  unfolding payloads_in
  in_bad zero place gate bodies is cut = rw is refl
  in_bad (suc steps) place gate bodies is cut = rw (is, cut) refl

  -- an open gate before a body that is not whole
  pub bad : (place gate : ℕ) (bodies : List ℕ) → gate ≡ 1 → is_whole longest bodies ≡ false → payloads_from longest place gate bodies ≡ Err place
  bad place gate bodies is cut = in_bad (length bodies) place gate bodies is cut

  in_good : (steps place gate : ℕ) (bodies : List ℕ) → gate ≡ 1 → is_whole longest bodies ≡ true
      → payloads_in (suc steps) longest place gate bodies ≡ prepend (payload_of bodies) (payloads_in steps longest (place + (size_of bodies + 5)) (slice_index bodies (size_of bodies + 4)) (drop (size_of bodies + 5) bodies))
  unfolding payloads_in
  in_good steps place gate bodies is whole = rw (is, whole) refl

  -- an open gate before a whole body
  pub good : (place gate : ℕ) (bodies : List ℕ) → gate ≡ 1 → is_whole longest bodies ≡ true
      → payloads_from longest place gate bodies ≡ prepend (payload_of bodies) (payloads_from longest (place + (size_of bodies + 5)) (slice_index bodies (size_of bodies + 4)) (drop (size_of bodies + 5) bodies))
  good place gate [] is whole = absurd (omega (arith, whole_long [] whole))
  good place gate (b ∷ rest) is whole =
      let bodies = b ∷ rest in
      let short = length-drop (size_of bodies + 5) bodies in
      in_good (length rest) place gate bodies is whole
      ∙ ap (prepend (payload_of bodies)) (enough (length rest) (length (drop (size_of bodies + 5) bodies)) (place + (size_of bodies + 5)) (slice_index bodies (size_of bodies + 4)) (drop (size_of bodies + 5) bodies) (omega arith) (omega arith))

-- several payloads more in front
abbrev pub prefixed : List (List ℕ) → Result (List (List ℕ)) ℕ → Result (List (List ℕ)) ℕ
prefixed [] result = result
prefixed (payload ∷ payloads) result = prepend payload (prefixed payloads result)

pub prefixed-push : (payloads : List (List ℕ)) (payload : List ℕ) (result : Result (List (List ℕ)) ℕ) → prefixed (payloads ++ payload ∷ []) result ≡ prefixed payloads (prepend payload result)
prefixed-push [] payload result = refl
prefixed-push (p ∷ payloads) payload result = ap (prepend p) (prefixed-push payloads payload result)

pub prefixed-ok : (payloads more : List (List ℕ)) → prefixed payloads (Ok more) ≡ Ok (payloads ++ more)
prefixed-ok [] more = refl
prefixed-ok (p ∷ payloads) more = ap (prepend p) (prefixed-ok payloads more)

prepend-ok : (p : List ℕ) (r : Result (List (List ℕ)) ℕ) (ps : List (List ℕ)) → prepend p r ≡ Ok ps → (qs : List (List ℕ)) × (r ≡ Ok qs) × (ps ≡ p ∷ qs)
prepend-ok p (Ok qs) ps is = (qs, refl, cc)
prepend-ok p (Err place) ps is = absurd (cc)

pub sizes-push : (payloads : List (List ℕ)) (payload : List ℕ) → sizes (payloads ++ payload ∷ []) ≡ sizes payloads + (length payload + 5)
sizes-push [] payload = omega arith
sizes-push (p ∷ payloads) payload = omega (arith, sizes-push payloads payload)

-- the lengths of two texts that agree in their first four bytes
size_agrees : (a b : List ℕ) → 4 ≤ length a → 4 ≤ length b → ((i : ℕ) → i < 4 → get_or b i 0 ≡ get_or a i 0) → size_of b ≡ size_of a
size_agrees a b long long' same =
    let taken_a = length-take 4 a in
    let taken_b = length-take 4 b in
    let first : take 4 b ≡ take 4 a = ext_get_or 0 (take 4 b) (take 4 a) (omega arith) (λ i low. get_or-take 4 b i 0 (omega arith) ∙ same i (omega arith) ∙ sym (get_or-take 4 a i 0 (omega arith))) in
    ap (from_be_bytes w32) first

payload_agrees : (a b : List ℕ) (n : ℕ) → n + 4 ≤ length a → n + 4 ≤ length b → ((i : ℕ) → i < n + 4 → get_or b i 0 ≡ get_or a i 0) → take n (drop 4 b) ≡ take n (drop 4 a)
payload_agrees a b n long long' same =
    let dropped_a = length-drop 4 a in
    let dropped_b = length-drop 4 b in
    let taken_a = length-take n (drop 4 a) in
    let taken_b = length-take n (drop 4 b) in
    ext_get_or 0 (take n (drop 4 b)) (take n (drop 4 a)) (omega arith) (λ i low.
    get_or-take n (drop 4 b) i 0 (omega arith) ∙ get_or-drop 4 b i 0 ∙ same (4 + i) (omega arith) ∙ sym (get_or-take n (drop 4 a) i 0 (omega arith) ∙ get_or-drop 4 a i 0))

length-payload : (longest : ℕ) (bodies : List ℕ) → is_whole longest bodies ≡ true → length (payload_of bodies) ≡ size_of bodies
length-payload longest bodies whole =
    let long = whole_long longest bodies whole in
    let dropped = length-drop 4 bodies in
    let taken = length-take (size_of bodies) (drop 4 bodies) in
    omega arith

-- the gate and the bodies behind the first body
behind : (bodies : List ℕ) (n i : ℕ) → n + 5 ≤ length bodies → get_or (slice_index bodies (n + 4) ∷ drop (n + 5) bodies) i 0 ≡ get_or bodies (n + 4 + i) 0
behind bodies n zero long = let same : n + 4 + 0 ≡ n + 4 = omega arith in rw same refl
behind bodies n (suc i) long = let same : n + 5 + i ≡ n + 4 + suc i = omega arith in get_or-drop (n + 5) bodies i 0 ∙ ap (λ (k : ℕ). get_or bodies k 0) same

at_behind : (gate : ℕ) (bodies : List ℕ) (n i : ℕ) → n + 5 ≤ length bodies → get_or (gate ∷ bodies) (n + 5 + i) 0 ≡ get_or (slice_index bodies (n + 4) ∷ drop (n + 5) bodies) i 0
at_behind gate bodies n i long = let same : n + 5 + i ≡ suc (n + 4 + i) = omega arith in rw same (sym (behind bodies n i long))

-- what one step of the list says
pub data Step (longest steps place gate : ℕ) (bodies : List ℕ) (payloads : List (List ℕ)) : Type 0 where
  ended : gate ≢ 1 → payloads ≡ [] → Step longest steps place gate bodies payloads
  goes_on : (rest : List (List ℕ)) → gate ≡ 1 → is_whole longest bodies ≡ true → payloads ≡ payload_of bodies ∷ rest
      → payloads_in steps longest (place + (size_of bodies + 5)) (slice_index bodies (size_of bodies + 4)) (drop (size_of bodies + 5) bodies) ≡ Ok rest → Step longest steps place gate bodies payloads

module _ (longest : ℕ) where
  no_step : (place gate : ℕ) (bodies : List ℕ) (payloads : List (List ℕ)) → payloads_in 0 longest place gate bodies ≡ Ok payloads → (gate ≢ 1) × (payloads ≡ [])
  unfolding payloads_in
  no_step place gate bodies payloads is = elim (cases_eq gate 1) [
    | inl open_gate ↦ let no : Err place ≡ Ok payloads = rw open_gate at is in absurd (cc)
    | inr closed ↦ let same : (gate == 1) ≡ false = grind (arith, nat_tests) in let none : Ok [] ≡ Ok payloads = rw same at is in (closed, cc)
  ]

  step : (steps place gate : ℕ) (bodies : List ℕ) (payloads : List (List ℕ)) → payloads_in (suc steps) longest place gate bodies ≡ Ok payloads → Step longest steps place gate bodies payloads
  step steps place gate bodies payloads is = elim (cases_eq gate 1) [
    | inl open_gate ↦ elim (cases_Bool (is_whole longest bodies)) [
      | inl whole ↦ let parts = prepend-ok _ _ _ (sym (in_good longest steps place gate bodies open_gate whole) ∙ is) in goes_on parts.0 open_gate whole parts.2 parts.1
      | inr cut ↦ let no : Err place ≡ Ok payloads = sym (in_bad longest (suc steps) place gate bodies open_gate cut) ∙ is in absurd (cc)
    ]
    | inr closed ↦ let none : Ok [] ≡ Ok payloads = sym (in_shut longest (suc steps) place gate bodies closed) ∙ is in ended closed (cc)
  ]

  -- the bodies of all payloads lie whole in the file
  pub sizes-within : (steps place gate : ℕ) (bodies : List ℕ) (payloads : List (List ℕ)) → payloads_in steps longest place gate bodies ≡ Ok payloads → sizes payloads ≤ length bodies
  sizes-within zero place gate bodies payloads is = let none = (no_step place gate bodies payloads is).1 in omega (arith, ap sizes none)
  sizes-within (suc steps) place gate bodies payloads is = elim (step steps place gate bodies payloads is) [
    | ended closed none ↦ omega (arith, ap sizes none)
    | goes_on rest open_gate whole parts later ↦
        let long = whole_long longest bodies whole in
        let dropped = length-drop (size_of bodies + 5) bodies in
        omega (arith, ap sizes parts, length-payload longest bodies whole, sizes-within steps _ _ _ rest later)
  ]

  -- and none of them is too long
  pub each-within : (most steps place gate : ℕ) (bodies : List ℕ) (payloads : List (List ℕ)) → longest ≤ most → payloads_in steps longest place gate bodies ≡ Ok payloads → All (λ p. length p ≤ most) payloads
  each-within most zero place gate bodies payloads le is = let none = (no_step place gate bodies payloads is).1 in rw none (All-nil (λ p. length p ≤ most))
  each-within most (suc steps) place gate bodies payloads le is = elim (step steps place gate bodies payloads is) [
    | ended closed none ↦ rw none (All-nil (λ p. length p ≤ most))
    | goes_on rest open_gate whole parts later ↦
        rw parts (All-cons (λ p. length p ≤ most) (payload_of bodies) rest (omega (arith, length-payload longest bodies whole, whole_fits longest bodies whole)) (each-within most steps _ _ _ rest le later))
  ]

  -- the gate behind the last of them is not open
  pub closed_behind : (steps place gate : ℕ) (bodies : List ℕ) (payloads : List (List ℕ)) → payloads_in steps longest place gate bodies ≡ Ok payloads → get_or (gate ∷ bodies) (sizes payloads) 0 ≢ 1
  closed_behind zero place gate bodies payloads is = let none = no_step place gate bodies payloads is in rw none.1 none.0
  closed_behind (suc steps) place gate bodies payloads is = elim (step steps place gate bodies payloads is) [
    | ended closed none ↦ rw none closed
    | goes_on rest open_gate whole parts later ↦
        let long = whole_long longest bodies whole in
        let sized = length-payload longest bodies whole in
        let later_closed = closed_behind steps _ _ _ rest later in
        rw (parts, sized) (λ same. later_closed (sym (at_behind gate bodies (size_of bodies) (sizes rest) long) ∙ same))
  ]

  -- Two texts whose bytes agree in front of the gate behind these payloads: the second has the same payloads, and then
  -- what stands behind that gate in it.
  pub agrees : (steps place gate : ℕ) (bodies : List ℕ) (payloads : List (List ℕ)) → payloads_in steps longest place gate bodies ≡ Ok payloads
      → (gate' : ℕ) (bodies' : List ℕ) → sizes payloads ≤ length bodies' → ((i : ℕ) → i < sizes payloads → get_or (gate' ∷ bodies') i 0 ≡ get_or (gate ∷ bodies) i 0)
      → payloads_from longest place gate' bodies' ≡ prefixed payloads (payloads_from longest (place + sizes payloads) (get_or (gate' ∷ bodies') (sizes payloads) 0) (drop (sizes payloads) bodies'))
  agrees zero place gate bodies payloads is gate' bodies' long same =
      let none = no_step place gate bodies payloads is in
      rw none.1 (ap (λ (k : ℕ). payloads_from longest k gate' bodies') (omega arith))
  agrees (suc steps) place gate bodies payloads is gate' bodies' long same = elim (step steps place gate bodies payloads is) [
    | ended closed none ↦ rw none (ap (λ (k : ℕ). payloads_from longest k gate' bodies') (omega arith))
    | goes_on rest open_gate whole parts later ↦
        let n = size_of bodies in
        let within = whole_long longest bodies whole in
        let sized : length (payload_of bodies) ≡ n = length-payload longest bodies whole in
        let total : sizes payloads ≡ n + 5 + sizes rest = ap sizes parts ∙ ap (λ (k : ℕ). k + 5 + sizes rest) sized in
        let bytes : (i : ℕ) → i < n + 4 + sizes rest → get_or bodies' i 0 ≡ get_or bodies i 0 = λ i low. same (suc i) (omega arith) in
        let gate_is : gate' ≡ 1 = same 0 (omega arith) ∙ open_gate in
        let size' : size_of bodies' ≡ n = size_agrees bodies bodies' (omega arith) (omega arith) (λ i low. bytes i (omega arith)) in
        let payload' : payload_of bodies' ≡ payload_of bodies = ap (λ (k : ℕ). take k (drop 4 bodies')) size' ∙ payload_agrees bodies bodies' n (omega arith) (omega arith) (λ i low. bytes i (omega arith)) in
        let whole' : is_whole longest bodies' ≡ true = whole_from longest bodies' (omega (arith, whole_fits longest bodies whole)) (omega arith) in
        let first = good longest place gate' bodies' gate_is whole' in
        let moved : payloads_from longest place gate' bodies' ≡ prepend (payload_of bodies) (payloads_from longest (place + (n + 5)) (slice_index bodies' (n + 4)) (drop (n + 5) bodies')) =
        first ∙ ap (λ (k : ℕ). prepend (payload_of bodies') (payloads_from longest (place + (k + 5)) (slice_index bodies' (k + 4)) (drop (k + 5) bodies'))) size'
        ∙ ap (λ (p : List ℕ). prepend p (payloads_from longest (place + (n + 5)) (slice_index bodies' (n + 4)) (drop (n + 5) bodies'))) payload' in
        let dropped = length-drop (n + 5) bodies' in
        let rest_of = agrees steps (place + (n + 5)) (slice_index bodies (n + 4)) (drop (n + 5) bodies) rest later (slice_index bodies' (n + 4)) (drop (n + 5) bodies') (omega arith)
        (λ i low. sym (at_behind gate' bodies' n i (omega arith)) ∙ same (n + 5 + i) (omega arith) ∙ at_behind gate bodies n i within) in
        let places : place + (n + 5) + sizes rest ≡ place + (n + 5 + sizes rest) = omega arith in
        let ends : payloads_from longest (place + (n + 5) + sizes rest) (get_or (slice_index bodies' (n + 4) ∷ drop (n + 5) bodies') (sizes rest) 0) (drop (sizes rest) (drop (n + 5) bodies'))
        ≡ payloads_from longest (place + (n + 5 + sizes rest)) (get_or (gate' ∷ bodies') (n + 5 + sizes rest) 0) (drop (n + 5 + sizes rest) bodies') =
        ap (λ (k : ℕ). payloads_from longest k (get_or (slice_index bodies' (n + 4) ∷ drop (n + 5) bodies') (sizes rest) 0) (drop (sizes rest) (drop (n + 5) bodies'))) places
        ∙ ap (λ (g : ℕ). payloads_from longest (place + (n + 5 + sizes rest)) g (drop (sizes rest) (drop (n + 5) bodies'))) (sym (at_behind gate' bodies' n (sizes rest) (omega arith)))
        ∙ ap (payloads_from longest (place + (n + 5 + sizes rest)) (get_or (gate' ∷ bodies') (n + 5 + sizes rest) 0)) (drop-drop (sizes rest) (n + 5) bodies') in
        rw (total, parts) (moved ∙ ap (prepend (payload_of bodies)) (rest_of ∙ ap (prefixed rest) ends))
  ]

pub sizes-take : (i : ℕ) (payloads : List (List ℕ)) → sizes (take i payloads) ≤ sizes payloads
sizes-take zero payloads = omega arith
sizes-take (suc i) [] = omega arith
sizes-take (suc i) (p ∷ payloads) = omega (arith, sizes-take i payloads)
