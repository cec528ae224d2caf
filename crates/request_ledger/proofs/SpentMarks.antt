-- The marks of requests that are spent.
use Rattle.std.proofs.Common.{◌≡◌, ◌⊎◌, ℕ, ◌<◌, ◌≤◌, Bool, true, false, not, ◌||◌, List, [], ◌∷◌, ◌++◌, map, length, set, slice_index, slice_index_or, get_or, Some, refl, sym, ap, ◌∙◌, subst, inl, inr, arith, length-set, get_or-set_same, get_or-set_other}
use Rattle.std.specs.List.{list_any}
use Rattle.std.specs.Str.{bytes_eq}
use Rattle.std.proofs.lemmas.Bool.{and_parts, cases_Bool, cases_eq, cases_lt, false_from_ne_true, false≢true, true≢false}
use Rattle.std.proofs.lemmas.List.{get_or_append_left, get_or_push, get_or_default, get_or-map, length_push, length-map, map_push}
use Rattle.std.proofs.lemmas.List.Folds.{list_any-append, list_any_at, list_any_none}
use Rattle.std.proofs.lemmas.Option.{same_Some}
use Rattle.std.proofs.lemmas.Slice.Eq.{bytes_eq-Decides}
use Rattle.ledger_rules.specs.Numbers.{NUMBER_END, has_number, IsPlaceOf}
use Rattle.ledger_records.specs.declared.sp_record.Asked.{Asked}
use Rattle.ledger_records.specs.declared.sp_record.Opened.{Opened}
use Rattle.ledger_records.specs.declared.sp_record.SpRecord.TheVariants as kinds
use Rattle.request_rows.specs.declared.row.AskedRow.{AskedRow}
use Rattle.request_rows.specs.declared.row.OpenedRow.{OpenedRow}
use Rattle.request_rows.specs.Rows.{is_spent}
use Rattle.request_ledger.specs.RowsOf.{SpRows, asked_row, opened_row, is_among, closed_where}
use Rattle.request_ledger.specs.Record.{is_asked, is_next}
use Rattle.request_ledger.specs.Standing.{HaveNumbers, IsAskedAt, AreMarks, AreSpent, id_at}
use Rattle.record_ledger.proofs.Numbers.{one_number}
use Rattle.request_ledger.proofs.StandingRows.{free_of_next}

-- what any row has is what any of their IDs is
pub any_mapped : {X : Type 0} (key : X → List ℕ) (id : List ℕ) (rows : List X) → is_among id (map key rows) ≡ list_any (λ row. bytes_eq (key row) id) rows
any_mapped key id [] = refl
any_mapped key id (x ∷ rows) = ap (λ b. bytes_eq (key x) id || b) (any_mapped key id rows)

or_false : (a : Bool) → (a || (false || false)) ≡ a
or_false true = refl
or_false false = refl

or_last : (a : Bool) → (a || (true || false)) ≡ true
or_last true = refl
or_last false = refl

or_first : (a b : Bool) → a ≡ true → (a || b) ≡ true
or_first true b is = refl
or_first false b is = absurd (false≢true is)

or_rest : (a b : Bool) → a ≡ false → (a || b) ≡ true → b ≡ true
or_rest true b not is = absurd (true≢false not)
or_rest false b not is = is

only_one : (b : Bool) → (b || false) ≡ true → b ≡ true
only_one true is = refl
only_one false is = is

-- an ID whose number is above all of these is not among them
pub fresh_not_among : (next number : ℕ) (numbers : List ℕ) (ids : List (List ℕ)) (id : List ℕ) → HaveNumbers next numbers ids → next ≤ number → number < NUMBER_END
    → has_number number id ≡ true → is_among id ids ≡ false
fresh_not_among next number numbers ids id have least below has =
    list_any_none (λ other. bytes_eq other id) ids (λ k d within. false_from_ne_true (bytes_eq (get_or ids k d) id) (λ passes.
    let same : id_at ids k ≡ id = get_or_default ids k [] d within ∙ (bytes_eq-Decides (get_or ids k d) id).0 passes in
    let less = have.below k (omega (arith, have.long, within)) in
    let there : has_number (slice_index numbers k) id ≡ true = ap (has_number (slice_index numbers k)) (sym same) ∙ have.each k within in
    let one = one_number (slice_index numbers k) number id (omega (arith, less, least, below)) below there has in
    absurd (omega (arith, one, less, least))))

-- one request more that was asked
pub marks_asked : (marks : List Bool) (asked opened : List (List ℕ)) (id : List ℕ) → AreMarks marks asked opened → is_among id asked ≡ false
    → AreMarks (marks ++ false ∷ []) (asked ++ id ∷ []) opened
marks_asked marks asked opened id m new =
    let size = length_push marks false in
    let sizes = length_push asked id in
    record {
      long = omega (arith, size, sizes, m.long);
      each = λ k within. elim (cases_lt k (length asked)) [
        | inl lower ↦
            get_or_append_left marks (false ∷ []) false k (omega (arith, m.long, lower)) ∙ m.each k lower
            ∙ ap (λ i. is_among i opened) (sym (get_or_append_left asked (id ∷ []) [] k lower))
        | inr upper ↦
            let last : length asked ≡ k = omega (arith, sizes, upper, within) in
            let lasts : length marks ≡ k = omega (arith, last, m.long) in
            let unnamed : is_among id opened ≡ false =
            false_from_ne_true (is_among id opened) (λ is. false≢true (sym new ∙ m.named id is)) in
            get_or_push marks false false k lasts ∙ sym unnamed ∙ ap (λ i. is_among i opened) (sym (get_or_push asked id [] k last))
      ];
      named = λ other is. list_any-append (λ i. bytes_eq i other) asked (id ∷ [])
          ∙ or_first (is_among other asked) (is_among other (id ∷ [])) (m.named other is);
    }

-- one session more, for the request at this place alone
pub marks_opened : (marks : List Bool) (asked opened : List (List ℕ)) (id : List ℕ) (place : ℕ) → AreMarks marks asked opened → place < length asked
    → id_at asked place ≡ id → ((k : ℕ) → k < length asked → id_at asked k ≡ id → k ≡ place) → AreMarks (set marks place true) asked (opened ++ id ∷ [])
marks_opened marks asked opened id place m inside at only = record {
  long = length-set marks place true ∙ m.long;
  each = λ k within.
      let more = list_any-append (λ i. bytes_eq i (id_at asked k)) opened (id ∷ []) in
      elim (cases_eq k place) [
        | inl same ↦
            let here : bytes_eq id (id_at asked k) ≡ true = (bytes_eq-Decides id (id_at asked k)).1 (sym (ap (id_at asked) same ∙ at)) in
            ap (λ j. slice_index_or (set marks place true) j false) same
            ∙ get_or-set_same marks place true false (omega (arith, m.long, inside))
            ∙ sym (more ∙ ap (λ b. is_among (id_at asked k) opened || (b || false)) here ∙ or_last (is_among (id_at asked k) opened))
        | inr other ↦
            let elsewhere : bytes_eq id (id_at asked k) ≡ false =
            false_from_ne_true (bytes_eq id (id_at asked k)) (λ is. other (only k within (sym ((bytes_eq-Decides id (id_at asked k)).0 is)))) in
            get_or-set_other marks place k true false other ∙ m.each k within
            ∙ sym (more ∙ ap (λ b. is_among (id_at asked k) opened || (b || false)) elsewhere ∙ or_false (is_among (id_at asked k) opened))
      ];
  named = λ name is.
      elim (cases_eq_bool name is) [
        | inl before ↦ m.named name before
        | inr here ↦ list_any_at (λ i. bytes_eq i name) asked place [] inside (ap (λ i. bytes_eq i name) at ∙ here)
      ];
}
  where
    cases_eq_bool : (name : List ℕ) → is_among name (opened ++ id ∷ []) ≡ true → (is_among name opened ≡ true) ⊎ (bytes_eq id name ≡ true)
    cases_eq_bool name is =
        elim (cases_Bool (is_among name opened)) [
          | inl before ↦ inl before
          | inr not_before ↦
              inr (only_one (bytes_eq id name)
              (or_rest (is_among name opened) (bytes_eq id name || false) not_before (sym (list_any-append (λ i. bytes_eq i name) opened (id ∷ [])) ∙ is)))
        ]

-- sessions keep their requests when they are closed
pub closed_requests : (test : OpenedRow → Bool) (rows : List OpenedRow) → map (λ row. row.request) (closed_where test rows) ≡ map (λ row. row.request) rows
closed_requests test [] = refl
closed_requests test (x ∷ rows) = ap (λ ids. x.request ∷ ids) (closed_requests test rows)

pub spent_closed : (spent : List Bool) (rows : SpRows) (test : OpenedRow → Bool) → AreSpent spent rows
    → AreMarks spent (map (λ row. row.request) rows.asked) (map (λ row. row.request) (closed_where test rows.opened))
spent_closed spent rows test m = subst (AreMarks spent (map (λ row. row.request) rows.asked)) (sym (closed_requests test rows.opened)) m

-- behind one record more
pub spent_asked : (next : ℕ) (numbers : List ℕ) (spent : List Bool) (rows : SpRows) (r : Asked) → HaveNumbers next numbers (map (λ row. row.request) rows.asked)
    → next ≤ r.first → r.first < NUMBER_END → has_number r.first r.request ≡ true → AreSpent spent rows
    → AreSpent (spent ++ false ∷ []) (record rows { asked = rows.asked ++ asked_row r ∷ [] })
spent_asked next numbers spent rows r have least below has m =
    let asked = map (λ (row : AskedRow). row.request) rows.asked in
    let opened = map (λ (row : OpenedRow). row.request) rows.opened in
    subst (λ ids. AreMarks (spent ++ false ∷ []) ids opened) (sym (map_push (λ (row : AskedRow). row.request) rows.asked (asked_row r)))
    (marks_asked spent asked opened r.request m (fresh_not_among next r.first numbers asked r.request have least below has))

pub spent_opened : (spent : List Bool) (rows : SpRows) (r : Opened) (place : ℕ) → IsAskedAt rows.asked r.request place → AreSpent spent rows
    → AreSpent (set spent place true) (record rows { opened = rows.opened ++ opened_row false r ∷ [] })
spent_opened spent rows r place is m =
    let asked = map (λ (row : AskedRow). row.request) rows.asked in
    let opened = map (λ (row : OpenedRow). row.request) rows.opened in
    let size = length-map rows.asked (λ (row : AskedRow). row.request) in
    subst (AreMarks (set spent place true) asked) (sym (map_push (λ (row : OpenedRow). row.request) rows.opened (opened_row false r)))
    (marks_opened spent asked opened r.request place m (omega (arith, size, is.within)) is.request_is (λ k within. is.only k (omega (arith, size, within))))

-- a request whose row is at a place was asked
pub asked_there_is : (rows : SpRows) (request : List ℕ) (place : ℕ) → IsAskedAt rows.asked request place → is_asked rows.asked request ≡ true
asked_there_is rows request place is =
    let asked = map (λ (row : AskedRow). row.request) rows.asked in
    let size = length-map rows.asked (λ (row : AskedRow). row.request) in
    sym (any_mapped (λ (row : AskedRow). row.request) request rows.asked)
    ∙ list_any_at (λ i. bytes_eq i request) asked place [] (omega (arith, size, is.within)) ((bytes_eq-Decides (id_at asked place) request).1 is.request_is)

-- what the mark of a request says
pub marked : (spent : List Bool) (rows : SpRows) (request : List ℕ) (place : ℕ) → IsAskedAt rows.asked request place → AreSpent spent rows
    → (place < length spent) × (slice_index_or spent place false ≡ is_spent rows.opened request)
marked spent rows request place is m =
    let asked = map (λ (row : AskedRow). row.request) rows.asked in
    let opened = map (λ (row : OpenedRow). row.request) rows.opened in
    let size = length-map rows.asked (λ (row : AskedRow). row.request) in
    let inside : place < length asked = omega (arith, size, is.within) in (
      omega (arith, m.long, inside),
      m.each place inside ∙ ap (λ i. is_among i opened) is.request_is ∙ any_mapped (λ (row : OpenedRow). row.request) request rows.opened,
    )

-- the row of a request is found by its number
pub asked_at : (rows : List AskedRow) (next : ℕ) (numbers : List ℕ) → HaveNumbers next numbers (map (λ row. row.request) rows)
    → (request : List ℕ) (p : ℕ) → IsPlaceOf numbers request (Some p) → (row : AskedRow) → row ≡ get_or rows p row → row.request ≡ request → IsAskedAt rows request p
asked_at rows next numbers have request p is row read same =
    let size = length-map rows (λ (r : AskedRow). r.request) in
    let within : p < length rows = omega (arith, is.within, have.long, size) in
    record {
      within = within;
      request_is = get_or-map (λ (r : AskedRow). r.request) rows p row [] within ∙ ap (λ (r : AskedRow). r.request) (sym read) ∙ same;
      only = λ k inside here.
          let there : Some p ≡ Some k = is.only k (omega (arith, have.long, size, inside))
          (ap (has_number (slice_index numbers k)) (sym here) ∙ have.each k (omega (arith, size, inside))) in
          let back : p ≡ k = same_Some p k there in sym back;
    }

-- the request of a session that may come next was asked
pub next_is_asked : (rows : SpRows) (next : ℕ) (r : Opened) → is_next rows next (kinds.Opened r) ≡ true → is_asked rows.asked r.request ≡ true
next_is_asked rows next r is =
    (and_parts (is_asked rows.asked r.request) (not (is_spent rows.opened r.request)) (free_of_next rows next (kinds.Opened r) is)).0
