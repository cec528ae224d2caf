-- What is read of the payloads of a journal.
use Rattle.std.proofs.Common.{◌≡◌, ℕ, suc, ◌+◌, ◌<◌, ◌≤◌, Bool, true, false, List, [], ◌∷◌, ◌++◌, map, length, None, Some, Ok, Err, take, get_or, refl, sym, ap, ◌∙◌, subst, arith}
use Rattle.std.specs.List.{All}
use Rattle.std.proofs.Math.Seq.{take-length}
use Rattle.std.proofs.lemmas.List.{take_more, length-take, length-map, map-append}
use Rattle.std.proofs.lemmas.List.Elements.{All-append, All-cons, All-nil, All-head, All-tail}
use Rattle.crash_disk.specs.declared.file_no.FileNo.{FileNo}
use Rattle.gate_journal.specs.Format.{Kept, sizes, end_of}
use Rattle.gate_journal.specs.Journal.{Fits, FitsVersion}
use Rattle.record_ledger.specs.Rules.{RecordRules, RowRules, StandReady, records_from, records_of}
use Rattle.record_ledger.specs.Ledger.{held_of, with_records}
use Rattle.record_ledger.specs.Loading.{CanLoad, IsLoaded, LoadsOne}
use Rattle.record_ledger.specs.Laws.{IsOneByteMore}
use Rattle.record_ledger.proofs.Records.{record_behind, records_of-push, records_of-record, records_of-length, records_of-none_at, next_unread, next_refused}
use Rattle.record_ledger.proofs.Committing.{sizes_least}

-- payloads of version 1 in version 2
module _ {R : Type 0} (rules : RecordRules R) (more : IsOneByteMore rules) where
  pub short_anew : (version : ℕ) (payload : List ℕ) (r : R) → payload ≡ rules.bytes version r → length payload ≤ 1048576 → length (rules.bytes 2 r) < 4294967296
  short_anew version payload r spelled short = omega (arith, more version r, ap length spelled)

  sizes_anew : (records : List R) → sizes (map (rules.bytes 2) records) ≤ sizes (map (rules.bytes 1) records) + length records
  sizes_anew [] = omega arith
  sizes_anew (r ∷ records) = added (length (rules.bytes 2 r)) (length (rules.bytes 1 r)) (sizes (map (rules.bytes 2) records)) (sizes (map (rules.bytes 1) records)) (length records) (more 1 r) (sizes_anew records)
    where
      added : (a b c d n : ℕ) → a ≤ b + 1 → c ≤ d + n → a + 5 + c ≤ b + 5 + d + suc n
      added a b c d n x y = omega arith

  each_anew : (records : List R) → All (λ payload. length payload ≤ 524288) (map (rules.bytes 1) records) → All (λ payload. length payload ≤ 1048576) (map (rules.bytes 2) records)
  each_anew [] each = All-nil (λ payload. length payload ≤ 1048576)
  each_anew (r ∷ records) each =
      All-cons (λ payload. length payload ≤ 1048576) (rules.bytes 2 r) (map (rules.bytes 2) records)
      (within (length (rules.bytes 2 r)) (length (rules.bytes 1 r)) (more 1 r) (All-head (λ payload. length payload ≤ 524288) (rules.bytes 1 r) (map (rules.bytes 1) records) each))
      (each_anew records (All-tail (λ payload. length payload ≤ 524288) (rules.bytes 1 r) (map (rules.bytes 1) records) each))
    where
      within : (a b : ℕ) → a ≤ b + 1 → b ≤ 524288 → a ≤ 1048576
      within a b x y = omega arith

  fit_anew : (records : List R) → FitsVersion 1 (map (rules.bytes 1) records) → Fits (map (rules.bytes 2) records)
  fit_anew records fit =
      let least = sizes_least (map (rules.bytes 1) records) in
      let many = length-map records (rules.bytes 1) in
      record { each = each_anew records fit.each; file = omega (arith, fit.file, least, many, sizes_anew records) }

module _ {R S : Type 0} (rules : RecordRules R) (stands : S → List R → Type 0) where
  -- one payload more that is a record
  pub one_more : (version : ℕ) (payloads : List (List ℕ)) (payload : List ℕ) (r : R) (old new : S) (had have : List (List ℕ)) → IsLoaded rules stands version payloads old had
      → rules.found version payload ≡ Some r → payload ≡ rules.bytes version r → ((records : List R) → stands old records → true ≡ rules.is_record records r)
      → ((records : List R) → stands old records → stands new (records ++ r ∷ []))
      → (version ≡ 1 → have ≡ had ++ rules.bytes 2 r ∷ []) → (version ≡ 1 → rules.found 2 (rules.bytes 2 r) ≡ Some r)
      → IsLoaded rules stands version (payloads ++ payload ∷ []) new have
  one_more version payloads payload r old new had have l read spelled is after anew found = record {
    records = l.records ++ r ∷ [];
    are = records_of-record rules version l.records payloads payload r l.are read (sym (is l.records l.stand));
    stand = after l.records l.stand;
    spelled = ap (λ ps. ps ++ payload ∷ []) l.spelled ∙ ap (λ p. map (rules.bytes version) l.records ++ p ∷ []) spelled ∙ sym (map-append (rules.bytes version) l.records (r ∷ []));
    anew = λ one. anew one ∙ ap (λ ps. ps ++ rules.bytes 2 r ∷ []) (l.anew one) ∙ sym (map-append (rules.bytes 2) l.records (r ∷ []));
    found = λ one. All-append (λ s. rules.found 2 (rules.bytes 2 s) ≡ Some s) l.records (r ∷ []) (l.found one)
        (All-cons (λ s. rules.found 2 (rules.bytes 2 s) ≡ Some s) r [] (found one) (All-nil (λ s. rules.found 2 (rules.bytes 2 s) ≡ Some s)));
  }

  -- one payload more that is none
  pub one_unread : (version : ℕ) (payloads : List (List ℕ)) (payload : List ℕ) (old : S) (had : List (List ℕ)) → IsLoaded rules stands version payloads old had → rules.found version payload ≡ None
      → records_of rules version (payloads ++ payload ∷ []) ≡ Err (length payloads)
  one_unread version payloads payload old had l read =
      records_of-push rules version l.records payloads payload l.are
      ∙ next_unread rules l.records (rules.found version payload) (λ s. Ok (l.records ++ s ∷ [])) read
      ∙ ap Err (records_of-length rules version l.records payloads l.are)

  pub one_refused : (version : ℕ) (payloads : List (List ℕ)) (payload : List ℕ) (r : R) (old : S) (had : List (List ℕ)) → IsLoaded rules stands version payloads old had
      → rules.found version payload ≡ Some r → ((records : List R) → stands old records → false ≡ rules.is_record records r)
      → records_of rules version (payloads ++ payload ∷ []) ≡ Err (length payloads)
  one_refused version payloads payload r old had l read is =
      records_of-push rules version l.records payloads payload l.are
      ∙ next_refused rules l.records (rules.found version payload) (λ s. Ok (l.records ++ s ∷ [])) r read (sym (is l.records l.stand))
      ∙ ap Err (records_of-length rules version l.records payloads l.are)

  -- ---- a list of payloads

  pub none_yet : (version : ℕ) (standing : S) (made : List (List ℕ)) → stands standing [] → made ≡ [] → IsLoaded rules stands version [] standing made
  unfolding records_from
  none_yet version standing made stand none =
      record { records = []; are = refl; stand = stand; spelled = refl; anew = λ _. none; found = λ _. All-nil (λ s. rules.found 2 (rules.bytes 2 s) ≡ Some s) }

  pub can_load : (version i : ℕ) (payloads : List (List ℕ)) (standing : S) (made : List (List ℕ)) → IsLoaded rules stands version (take i payloads) standing made → end_of payloads ≤ 134217728
      → CanLoad rules stands version standing made
  can_load version i payloads standing made l fit =
      record { payloads = take i payloads; loaded = l; few = omega (arith, length-take i payloads, sizes_least payloads, fit) }

  -- one payload more of a list, or the place of the first that is none
  pub loaded_more : (version i : ℕ) (payloads : List (List ℕ)) (d payload : List ℕ) (is : Bool) (old new : S) (had have : List (List ℕ)) → i < length payloads → payload ≡ get_or payloads i d → IsLoaded rules stands version (take i payloads) old had
      → LoadsOne rules stands version (take i payloads) payload is new have → is ≡ true → IsLoaded rules stands version (take (i + 1) payloads) new have
  loaded_more version i payloads d payload is old new had have within at l one same =
      let more : take i payloads ++ payload ∷ [] ≡ take (i + 1) payloads = ap (λ p. take i payloads ++ p ∷ []) at ∙ sym (take_more payloads i d within) in
      subst (λ (ps : List (List ℕ)). IsLoaded rules stands version ps new have) more (subst (λ b. LoadsOne rules stands version (take i payloads) payload b new have) same one)

  pub loaded_all : (version i : ℕ) (payloads : List (List ℕ)) (standing : S) (made : List (List ℕ)) → i ≤ length payloads → length payloads ≤ i → IsLoaded rules stands version (take i payloads) standing made → IsLoaded rules stands version payloads standing made
  loaded_all version i payloads standing made low high l =
      let end : i ≡ length payloads = omega arith in
      subst (λ (ps : List (List ℕ)). IsLoaded rules stands version ps standing made) (ap (λ n. take n payloads) end ∙ take-length payloads) l

  pub loaded_not : (version i : ℕ) (payloads : List (List ℕ)) (d payload : List ℕ) (is : Bool) (old new : S) (had have : List (List ℕ)) → i < length payloads → payload ≡ get_or payloads i d → IsLoaded rules stands version (take i payloads) old had
      → LoadsOne rules stands version (take i payloads) payload is new have → is ≡ false → records_of rules version payloads ≡ Err i
  loaded_not version i payloads d payload is old new had have within at l one same =
      let none : records_of rules version (take i payloads ++ payload ∷ []) ≡ Err (length (take i payloads)) = subst (λ b. LoadsOne rules stands version (take i payloads) payload b new have) same one in
      let behind : record_behind rules version l.records (get_or payloads i d) ≡ Err (length (take i payloads)) =
      ap (record_behind rules version l.records) (sym at) ∙ sym (records_of-push rules version l.records (take i payloads) payload l.are) ∙ none in
      records_of-none_at rules version l.records payloads i d (length (take i payloads)) within l.are behind

  pub foreign_at : (kept : Kept) (version i : ℕ) (payloads : List (List ℕ)) (file : FileNo) (place : ℕ) → version ≡ kept.holds.version → payloads ≡ kept.holds.payloads → records_of rules version payloads ≡ Err i
      → file ≡ kept.file → place ≡ end_of (take i kept.holds.payloads) → held_of rules kept ≡ Err (record { file = file; place = place })
  foreign_at kept version i payloads file place version_same payloads_same none file_same place_same =
      ap (with_records kept) (ap (λ v. records_of rules v kept.holds.payloads) (sym version_same) ∙ ap (records_of rules version) (sym payloads_same) ∙ none)
      ∙ (λ j. Err (record { file = sym file_same j; place = sym place_same j }))

  pub fits_anew : (more : IsOneByteMore rules) (version : ℕ) (payloads : List (List ℕ)) (standing : S) (made : List (List ℕ)) → version ≡ 1 → IsLoaded rules stands version payloads standing made
      → FitsVersion 1 payloads → Fits made
  fits_anew more version payloads standing made one l fit =
      let spelled : payloads ≡ map (rules.bytes 1) l.records = l.spelled ∙ ap (λ v. map (rules.bytes v) l.records) one in
      subst Fits (sym (l.anew one)) (fit_anew rules more l.records (subst (FitsVersion 1) spelled fit))

-- the same, made ready
pub loaded_ready : {R S : Type 0} (rules : RecordRules R) (row_rules : RowRules R S) (version : ℕ) (payloads : List (List ℕ)) (old new : S) (made : List (List ℕ)) → IsLoaded rules row_rules.stands version payloads old made
    → ((records : List R) → row_rules.stands old records → row_rules.stands new records) → row_rules.is_ready new → IsLoaded rules (StandReady row_rules) version payloads new made
loaded_ready rules row_rules version payloads old new made l same ready =
    record { records = l.records; are = l.are; stand = (same l.records l.stand, ready); spelled = l.spelled; anew = l.anew; found = l.found }
