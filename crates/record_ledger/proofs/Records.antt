-- What one record more, and a list of payloads, are.
use Rattle.std.proofs.Common.{◌≡◌, ℕ, ◌+◌, ◌<◌, Bool, true, false, List, [], ◌∷◌, ◌++◌, map, length, Option, None, Some, Result, Ok, Err, cond, take, drop, get_or, refl, sym, ap, ◌∙◌, subst, arith}
use Rattle.std.specs.List.{All}
use Rattle.std.proofs.lemmas.List.{append-nil, append_assoc, length_push, take-append-drop, drop_more, length-take-le, get_or-map}
use Rattle.std.proofs.lemmas.List.Elements.{All-head, All-tail}
use Rattle.record_ledger.specs.Rules.{RecordRules, with_next, records_from, records_of, AreRecordsAfter, AreRecords}

module _ {R : Type 0} (rules : RecordRules R) where
  -- What a payload gives behind records.
  abbrev pub record_behind : ℕ → List R → List ℕ → Result (List R) ℕ
  record_behind version records payload = with_next rules records (rules.found version payload) (λ r. Ok (records ++ r ∷ []))

  -- a payload that is a record, and one that is none
  cond_Ok : {X : Type 0} (b : Bool) (found : Result X ℕ) (n : ℕ) (x : X) → cond b found (Err n) ≡ Ok x → (b ≡ true) × (found ≡ Ok x)
  cond_Ok true found n x e = (refl, e)
  cond_Ok false found n x e = absurd (cc)

  next_Ok : (before : List R) (found : Option R) (go_on : R → Result (List R) ℕ) (records : List R)
      → with_next rules before found go_on ≡ Ok records → (r : R) × (found ≡ Some r) × (rules.is_record before r ≡ true) × (go_on r ≡ Ok records)
  next_Ok before None go_on records e = absurd (cc)
  next_Ok before (Some r) go_on records e =
      let both = cond_Ok (rules.is_record before r) (go_on r) (length before) records e in
      (r, refl, both.0, both.1)

  pub next_at : (before : List R) (found : Option R) (go_on : R → Result (List R) ℕ) (r : R)
      → found ≡ Some r → rules.is_record before r ≡ true → with_next rules before found go_on ≡ go_on r
  next_at before found go_on r e is =
      ap (λ o. with_next rules before o go_on) e ∙ ap (λ b. cond b (go_on r) (Err (length before))) is

  pub next_unread : (before : List R) (found : Option R) (go_on : R → Result (List R) ℕ)
      → found ≡ None → with_next rules before found go_on ≡ Err (length before)
  next_unread before found go_on e = ap (λ o. with_next rules before o go_on) e

  pub next_refused : (before : List R) (found : Option R) (go_on : R → Result (List R) ℕ) (r : R)
      → found ≡ Some r → rules.is_record before r ≡ false → with_next rules before found go_on ≡ Err (length before)
  next_refused before found go_on r e is =
      ap (λ o. with_next rules before o go_on) e ∙ ap (λ b. cond b (go_on r) (Err (length before))) is

  -- it makes no difference what comes behind a payload that is none
  cond_Err : {X : Type 0} (b : Bool) (x : X) (other : Result X ℕ) (n m : ℕ) → cond b (Ok x) (Err n) ≡ Err m → cond b other (Err n) ≡ Err n
  cond_Err true x other n m e = absurd (cc)
  cond_Err false x other n m e = refl

  none_goes_on : (before : List R) (found : Option R) (records : R → List R) (go_on : R → Result (List R) ℕ) (n : ℕ)
      → with_next rules before found (λ r. Ok (records r)) ≡ Err n → with_next rules before found go_on ≡ Err (length before)
  none_goes_on before None records go_on n e = refl
  none_goes_on before (Some r) records go_on n e = cond_Err (rules.is_record before r) (records r) (go_on r) (length before) n e

  -- behind payloads that are records the others are read behind these records
  pub records_from-append : (version : ℕ) (before records : List R) (payloads rest : List (List ℕ)) → records_from rules version before payloads ≡ Ok records
      → records_from rules version before (payloads ++ rest) ≡ records_from rules version records rest
  unfolding records_from
  records_from-append version before records [] rest e = let same : before ≡ records = cc in ap (λ rs. records_from rules version rs rest) same
  records_from-append version before records (payload ∷ payloads) rest e =
      let found = next_Ok before (rules.found version payload) (λ r. records_from rules version (before ++ r ∷ []) payloads) records e in
      next_at before (rules.found version payload) (λ r. records_from rules version (before ++ r ∷ []) (payloads ++ rest)) found.0 found.1 found.2
      ∙ records_from-append version (before ++ found.0 ∷ []) records payloads rest found.3

  -- one payload more
  pub records_of-push : (version : ℕ) (records : List R) (payloads : List (List ℕ)) (payload : List ℕ) → records_of rules version payloads ≡ Ok records
      → records_of rules version (payloads ++ payload ∷ []) ≡ record_behind version records payload
  unfolding records_from
  records_of-push version records payloads payload e = records_from-append version [] records payloads (payload ∷ []) e

  pub records_of-record : (version : ℕ) (records : List R) (payloads : List (List ℕ)) (payload : List ℕ) (r : R) → records_of rules version payloads ≡ Ok records
      → rules.found version payload ≡ Some r → rules.is_record records r ≡ true → records_of rules version (payloads ++ payload ∷ []) ≡ Ok (records ++ r ∷ [])
  records_of-record version records payloads payload r e read is =
      records_of-push version records payloads payload e ∙ next_at records (rules.found version payload) (λ s. Ok (records ++ s ∷ [])) r read is

  -- how many there are
  records_from-length : (version : ℕ) (before records : List R) (payloads : List (List ℕ)) → records_from rules version before payloads ≡ Ok records
      → length records ≡ length before + length payloads
  unfolding records_from
  records_from-length version before records [] e = let same : before ≡ records = cc in omega (arith, ap length same)
  records_from-length version before records (payload ∷ payloads) e =
      let found = next_Ok before (rules.found version payload) (λ r. records_from rules version (before ++ r ∷ []) payloads) records e in
      let rest = records_from-length version (before ++ found.0 ∷ []) records payloads found.3 in
      omega (arith, rest, length_push before found.0)

  pub records_of-length : (version : ℕ) (records : List R) (payloads : List (List ℕ)) → records_of rules version payloads ≡ Ok records → length records ≡ length payloads
  records_of-length version records payloads e = let more = records_from-length version [] records payloads e in omega (arith, more)

  -- the first payload that is none
  pub records_of-none : (version : ℕ) (records : List R) (payloads rest : List (List ℕ)) (payload : List ℕ) (n : ℕ) → records_of rules version payloads ≡ Ok records
      → record_behind version records payload ≡ Err n → records_of rules version (payloads ++ payload ∷ rest) ≡ Err (length payloads)
  unfolding records_from
  records_of-none version records payloads rest payload n e none =
      records_from-append version [] records payloads (payload ∷ rest) e
      ∙ none_goes_on records (rules.found version payload) (λ r. records ++ r ∷ []) (λ r. records_from rules version (records ++ r ∷ []) rest) n none
      ∙ ap Err (records_of-length version records payloads e)

  pub records_of-none_at : (version : ℕ) (records : List R) (payloads : List (List ℕ)) (i : ℕ) (d : List ℕ) (n : ℕ) → i < length payloads
      → records_of rules version (take i payloads) ≡ Ok records → record_behind version records (get_or payloads i d) ≡ Err n → records_of rules version payloads ≡ Err i
  records_of-none_at version records payloads i d n within e none =
      let whole : payloads ≡ take i payloads ++ get_or payloads i d ∷ drop (i + 1) payloads =
      sym (take-append-drop i payloads) ∙ ap (λ rest. take i payloads ++ rest) (drop_more payloads i d within) in
      let size = length-take-le i payloads (omega arith) in
      ap (records_of rules version) whole ∙ records_of-none version records (take i payloads) (drop (i + 1) payloads) (get_or payloads i d) n e none ∙ ap Err size

  -- the records that payloads are
  records_from-are : (version : ℕ) (before records : List R) (payloads : List (List ℕ)) → records_from rules version before payloads ≡ Ok records
      → (later : List R) × (records ≡ before ++ later) × AreRecordsAfter rules before later × (map (rules.found version) payloads ≡ map Some later)
  unfolding records_from
  records_from-are version before records [] e =
      let same : before ≡ records = cc in
      ([], sym same ∙ sym (append-nil before), tt, refl)
  records_from-are version before records (payload ∷ payloads) e =
      let found = next_Ok before (rules.found version payload) (λ r. records_from rules version (before ++ r ∷ []) payloads) records e in
      let rest = records_from-are version (before ++ found.0 ∷ []) records payloads found.3 in (
        found.0 ∷ rest.0,
        rest.1 ∙ append_assoc before (found.0 ∷ []) rest.0,
        (found.2, rest.2),
        λ i. found.1 i ∷ rest.3 i,
      )

  pub records_of-are : (version : ℕ) (records : List R) (payloads : List (List ℕ)) → records_of rules version payloads ≡ Ok records
      → AreRecords rules records × (map (rules.found version) payloads ≡ map Some records)
  records_of-are version records payloads e =
      let all = records_from-are version [] records payloads e in
      (subst (AreRecords rules) (sym all.1) all.2, all.3 ∙ ap (map Some) (sym all.1))

  pub record_at : (version : ℕ) (records : List R) (payloads : List (List ℕ)) → records_of rules version payloads ≡ Ok records
      → (k : ℕ) (d : List ℕ) (r : R) → k < length payloads → rules.found version (get_or payloads k d) ≡ Some (get_or records k r)
  record_at version records payloads e k d r within =
      let size = records_of-length version records payloads e in
      sym (get_or-map (rules.found version) payloads k d None within)
      ∙ ap (λ found. get_or found k None) (records_of-are version records payloads e).1
      ∙ get_or-map Some records k r None (omega (arith, size))

  -- records that are read from payloads
  records_from-read : (version : ℕ) (before later : List R) (payloads : List (List ℕ)) → AreRecordsAfter rules before later → map (rules.found version) payloads ≡ map Some later
      → records_from rules version before payloads ≡ Ok (before ++ later)
  unfolding records_from
  records_from-read version before [] [] are e = ap Ok (sym (append-nil before))
  records_from-read version before [] (payload ∷ payloads) are e = absurd (cc)
  records_from-read version before (r ∷ later) [] are e = absurd (cc)
  records_from-read version before (r ∷ later) (payload ∷ payloads) are e =
      let head : rules.found version payload ≡ Some r = cc in
      let rest : map (rules.found version) payloads ≡ map Some later = cc in
      next_at before (rules.found version payload) (λ s. records_from rules version (before ++ s ∷ []) payloads) r head are.0
      ∙ records_from-read version (before ++ r ∷ []) later payloads are.1 rest ∙ ap Ok (append_assoc before (r ∷ []) later)

  pub records_of-read : (version : ℕ) (records : List R) (payloads : List (List ℕ)) → AreRecords rules records → map (rules.found version) payloads ≡ map Some records
      → records_of rules version payloads ≡ Ok records
  records_of-read version records payloads are e = records_from-read version [] records payloads are e

  read_back : (records : List R) → All (λ r. rules.found 2 (rules.bytes 2 r) ≡ Some r) records → map (rules.found 2) (map (rules.bytes 2) records) ≡ map Some records
  read_back [] each = refl
  read_back (r ∷ records) each =
      let head = All-head (λ s. rules.found 2 (rules.bytes 2 s) ≡ Some s) r records each in
      let rest = read_back records (All-tail (λ s. rules.found 2 (rules.bytes 2 s) ≡ Some s) r records each) in
      λ i. head i ∷ rest i

  pub records_of-bytes : (records : List R) → AreRecords rules records → All (λ r. rules.found 2 (rules.bytes 2 r) ≡ Some r) records → records_of rules 2 (map (rules.bytes 2) records) ≡ Ok records
  records_of-bytes records are each = records_of-read 2 records (map (rules.bytes 2) records) are (read_back records each)

  -- one record more
  records_after-push : (before later : List R) (r : R) → AreRecordsAfter rules before later → rules.is_record (before ++ later) r ≡ true → AreRecordsAfter rules before (later ++ r ∷ [])
  records_after-push before [] r are is = (ap (λ rs. rules.is_record rs r) (sym (append-nil before)) ∙ is, tt)
  records_after-push before (s ∷ later) r are is =
      (are.0, records_after-push (before ++ s ∷ []) later r are.1 (ap (λ rs. rules.is_record rs r) (append_assoc before (s ∷ []) later) ∙ is))

  pub AreRecords-push : (records : List R) (r : R) → AreRecords rules records → rules.is_record records r ≡ true → AreRecords rules (records ++ r ∷ [])
  AreRecords-push records r are is = records_after-push [] records r are is

  -- a record is one of the ledger behind those before it
  pub record_there : (front before later : List R) (r : R) → AreRecordsAfter rules front (before ++ r ∷ later) → rules.is_record (front ++ before) r ≡ true
  record_there front [] later r are = subst (λ b. rules.is_record b r ≡ true) (sym (append-nil front)) are.0
  record_there front (x ∷ before) later r are =
      subst (λ b. rules.is_record b r ≡ true) (append_assoc front (x ∷ []) before) (record_there (front ++ x ∷ []) before later r are.1)
