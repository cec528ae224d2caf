-- A logout that asks all others tells in the end whether each confirmed.
use Rattle.std.specs.Prelude.{Contains, not, slice_get}
use Rattle.std.proofs.Common.{◌≡◌, ℕ, zero, suc, ◌+◌, ◌≤◌, ◌==◌, Bool, true, false, ◌&&◌, ◌||◌, nat_lt, if◌then◌else◌, List, [], ◌∷◌, ◌++◌, length, Option, None, Some, refl, sym, subst, ap, ◌∙◌, arith, append-nil, append_assoc, length-append}
use Rattle.std.proofs.lemmas.Bool.{ltb-false}
use Rattle.std.proofs.lemmas.Bool.Decides.{nat_tests}
use Rattle.std.proofs.lemmas.List.Elements.{Contains-append_right}
use Rattle.http_wire.specs.declared.answer.Answer.TheVariants.{Full}
use Rattle.ledger_records.specs.declared.idp_round.Round.{Round}
use Rattle.ledger_records.specs.declared.idp_round.Told.{Told}
use Rattle.ledger_records.specs.declared.idp_record.IdpRecord.{IdpRecord}
use Rattle.ledger_records.specs.declared.idp_record.IdpRecord.TheVariants as kinds
use Rattle.logout_fanout.specs.declared.round.Next.TheVariants.{Ask, Done}
use Rattle.logout_turns.specs.declared.part.Asker.{Asker}
use Rattle.logout_turns.specs.declared.turns.Turn.{Turn}
use Rattle.round_rows.specs.declared.row.RoundRow.{RoundRow}
use Rattle.round_rows.specs.Rounds as rounds
use Rattle.round_rows.specs.Rounds.{after_answer, answered_if, waits_for}
use Rattle.idp_ledger.specs.Drafts.{told}
use Rattle.idp_rows.specs.Finding.{turn_found}
use Rattle.idp_ledger.specs.Laws.{IsRowOf, RoundsAreCounted}
use Rattle.idp_ledger.specs.Ledger.{Held, next_number}
use Rattle.idp_ledger.specs.Record.{AreRecords}
use Rattle.idp_rows.specs.RoundsOf.{answer_in, answers, answers_after, confirmed_all, is_confirmed, round_after, round_behind, round_row, round_rows}
use Rattle.idp_rows.specs.RowsOf.{rows_of}
use Rattle.idp_rules.specs.declared.config.IdpConfig.{IdpConfig}
use Rattle.idp_server.specs.Messages.{AsksFirst, AsksNext, EndsRound, IsRoundEnd, IsToldAnswer}
use Rattle.idp_server.specs.Outcomes.{Ends, GoesOn, InRound, IsOutcome, RoundsBeginWithTheFirst, RoundsEndAsConfirmed}
use Rattle.idp_server.specs.Rounds.{told_by}
use Rattle.idp_server.specs.Step as steps
use Rattle.idp_server.proofs.Logouts.{HasAnswer, has_answer, the_told}
use Rattle.idp_server.proofs.Signed.{waiting_turn}
use Rattle.idp_server.proofs.Telling.{next_where}
use Rattle.idp_server.proofs.TurnRows.{IsTurnFound, found_texts, turn_is}
use Rattle.idp_server.proofs.Told.{said}
use Rattle.logout_answers.specs.Answers.{is_in_part}

-- ---- where a row of a round is from

further : (x : IdpRecord) (later : List IdpRecord) (row : RoundRow) → IsRowOf later row → IsRowOf (x ∷ later) row
further x later row of =
    record {
      before = x ∷ of.before;
      begun = of.begun;
      later = of.later;
      are =
          ap (λ (rs : List IdpRecord). x ∷ rs) of.are;
      is = of.is;
    }

row_of : (records : List IdpRecord) (k : ℕ) (row : RoundRow) → slice_get (round_rows records) k ≡ Some row
    → IsRowOf records row
row_of [] k row there = absurd (cc)
row_of (kinds.Round r ∷ later) zero row there = let same : round_behind (round_row r) later ≡ row =
    cc in record { before = []; begun = r; later = later; are = refl; is = sym same }
row_of (kinds.Round r ∷ later) (suc k) row there = further (kinds.Round r) later row (row_of later k row there)
row_of (other ∷ later) k row there = further other later row (row_of later k row there)

-- what stays of a round behind records
record Stays (row later : RoundRow) : Type 0 where
  message : later.message ≡ row.message
  asker : later.asker ≡ row.asker
  turns : later.turns ≡ row.turns

stays_if : (b confirmed : Bool) (next : Option (List ℕ)) (row : RoundRow) → Stays row (answered_if b confirmed next row)
stays_if true confirmed next row = record { message = refl; asker = refl; turns = refl }
stays_if false confirmed next row = record { message = refl; asker = refl; turns = refl }

stays : (row : RoundRow) (later : List IdpRecord) → Stays row (round_behind row later)
stays row [] = record { message = refl; asker = refl; turns = refl }
stays row (kinds.Told r ∷ later) =
    let one = stays_if (waits_for r.request row) r.confirmed r.next row in
    let rest = stays (answered_if (waits_for r.request row) r.confirmed r.next row) later in
    record { message = rest.message ∙ one.message; asker = rest.asker ∙ one.asker; turns = rest.turns ∙ one.turns }
stays row (other ∷ later) = stays row later

-- ---- one answer more

behind_push : (row : RoundRow) (later : List IdpRecord) (x : IdpRecord)
    → round_behind row (later ++ x ∷ []) ≡ round_after (round_behind row later) x
behind_push row [] x = refl
behind_push row (y ∷ later) x = behind_push (round_after row y) later x

answers_push : (row : RoundRow) (later : List IdpRecord) (x : IdpRecord)
    → answers_after row (later ++ x ∷ []) ≡ answers_after row later ++ answer_in (round_behind row later) x
answers_push row [] x = append-nil (answer_in row x)
answers_push row (y ∷ later) x =
    ap (λ (ts : List Told). answer_in row y ++ ts) (answers_push (round_after row y) later x)
    ∙ sym (append_assoc (answer_in row y) (answers_after (round_after row y) later)
    (answer_in (round_behind (round_after row y) later) x))

-- the answers of a round behind the one for which it waits
record OneMore (begun : Round) (later : List IdpRecord) (r : Told) (row : RoundRow) : Type 0 where
  of : Contains (answers begun (later ++ kinds.Told r ∷ [])) r
  counted : length (answers begun (later ++ kinds.Told r ∷ [])) ≡ row.told + 1
  behind : round_behind (round_row begun) (later ++ kinds.Told r ∷ []) ≡ after_answer r.confirmed r.next row

one_more : RoundsAreCounted → (begun : Round) (later : List IdpRecord) (r : Told) (row : RoundRow)
    → row ≡ round_behind (round_row begun) later → waits_for r.request row ≡ true
    → OneMore begun later r row
one_more law begun later r row is waits =
    let first = round_row begun in
    let same = answers_push first later (kinds.Told r) in
    let here : answer_in (round_behind first later) (kinds.Told r) ≡ r ∷ [] =
    ap (λ (x : RoundRow). answer_in x (kinds.Told r)) (sym is) ∙ ap (λ (b : Bool). if b then r ∷ [] else []) waits in
    let told_is : row.told ≡ length (answers begun later) = ap (λ (x : RoundRow). x.told) is ∙ (law begun later).told in
    let long =
    ap length same ∙ length-append (answers begun later) (answer_in (round_behind first later) (kinds.Told r))
    ∙ ap (λ (ts : List Told). length (answers begun later) + length ts) here in
    let joined = same ∙ ap (λ (ts : List Told). answers begun later ++ ts) here in
    record {
      of = subst (λ (ts : List Told). Contains ts r) (sym joined)
          (Contains-append_right (answers begun later) (r ∷ []) r (0, omega arith, refl));
      counted = omega (arith, long, told_is);
      behind = behind_push first later (kinds.Told r) ∙ ap (λ (x : RoundRow). round_after x (kinds.Told r)) (sym is)
          ∙ ap (λ (b : Bool). answered_if b r.confirmed r.next row) waits;
    }

-- ---- the end

-- so many confirmed exactly where they are not fewer than the turns
count_says : (told confirmed turns : ℕ) → told + 1 ≡ turns → confirmed ≤ turns
    → nat_lt confirmed turns ≡ not ((told + 1 == turns) && (confirmed == turns))
count_says told confirmed turns all few = grind (arith, nat_tests)

partial_is : (skipped : Bool) (told confirmed turns : ℕ) → told + 1 ≡ turns → confirmed ≤ turns
    → (skipped || nat_lt confirmed turns) ≡ not (not skipped && (told + 1 == turns) && (confirmed == turns))
partial_is true told confirmed turns all few = refl
partial_is false told confirmed turns all few = count_says told confirmed turns all few

confirmed_few : (confirms : Bool) (confirmed told : ℕ) → confirmed ≤ told
    → (if confirms then confirmed + 1 else confirmed) ≤ told + 1
confirmed_few true confirmed told few = omega arith
confirmed_few false confirmed told few = omega arith

no_next : (key : List ℕ) (next now : ℕ) (request : List ℕ) (confirms : Bool) (r : Told) (left : Bool) → left ≡ false
    → told key next now request confirms left ≡ kinds.Told r → r.next ≡ None
no_next key next now request confirms r true none is = absurd (cc)
no_next key next now request confirms r false none is =
    let same = the_told r (told key next now request confirms false) _ is refl in ap (λ (t : Told). t.next) (sym same)

-- the answer to the one that a round waits for
outcome_of : RoundsAreCounted → (setup : IdpConfig) (held : Held) (now : ℕ) (request peer : List ℕ) (confirms : Bool)
    (row : RoundRow) (r : Told) (bytes : List ℕ) → AreRecords held.records
    → turn_found (rows_of held.records).rounds request peer now held.header.horizon ≡ Some row
    → told_by setup held now request confirms row ≡ kinds.Told r
    → IsToldAnswer setup row confirms r now bytes → IsOutcome setup held r now bytes
outcome_of law setup held now request peer confirms row r bytes are waits drafted answer = by_answer answer
  where
    has : HasAnswer now request confirms r
    has = has_answer setup.id_key (next_number held) now request confirms (rounds.is_turn_left row) r drafted

    found : IsTurnFound (rows_of held.records).rounds request peer row
    found = turn_is (rows_of held.records).rounds request peer now held.header.horizon row waits

    of : IsRowOf held.records row
    of = row_of held.records found.place row found.there

    same : Stays (round_row of.begun) (round_behind (round_row of.begun) of.later)
    same = stays (round_row of.begun) of.later

    more : OneMore of.begun of.later r row
    more = one_more law of.begun of.later r row of.is (subst (λ (q : List ℕ). waits_for q row ≡ true)
        (sym has.request_is) found.waits)

    round : InRound held.records r
    round = record { before = of.before; begun = of.begun; later = of.later; are = of.are; of = more.of }

    turns_are : row.turns ≡ of.begun.turns
    turns_are = ap (λ (x : RoundRow). x.turns) of.is ∙ same.turns

    by_answer : IsToldAnswer setup row confirms r now bytes → IsOutcome setup held r now bytes
    by_answer (AsksNext place turn id next there named asks) = by_left (rounds.is_turn_left row) refl
      where
        by_left : (left : Bool) → rounds.is_turn_left row ≡ left → IsOutcome setup held r now bytes
        by_left true left =
            let at : Ask place ≡ Ask (row.told + 1) = sym next ∙ next_where row confirms true left in
            let place_is : place ≡ row.told + 1 = cc in
            GoesOn round turn id
            (subst (λ (k : ℕ). slice_get of.begun.turns k ≡ Some turn) (place_is ∙ sym more.counted)
            (subst (λ (ts : List Turn). slice_get ts place ≡ Some turn) turns_are there)) named asks
        by_left false none = absurd (let clash = sym next ∙ next_where row confirms false none in cc)
    by_answer (EndsRound partial next ends) = by_left (rounds.is_turn_left row) refl
      where
        by_left : (left : Bool) → rounds.is_turn_left row ≡ left → IsOutcome setup held r now bytes
        by_left true left = absurd (let clash = sym next ∙ next_where row confirms true left in cc)
        by_left false none =
            let n = length row.turns in
            let confirmed = if confirms then row.confirmed + 1 else row.confirmed in
            let end : Done partial ≡ Done (row.skipped || nat_lt confirmed n) =
            sym next ∙ next_where row confirms false none in
            let past : n ≤ row.told + 1 = ltb-false (row.told + 1) n none in
            let all : row.told + 1 ≡ n = omega (arith, past, found.within) in
            let few =
            confirmed_few confirms row.confirmed row.told (found_texts held request peer now row are waits).counted in
            let partial_so : partial ≡ (row.skipped || nat_lt confirmed n) = cc in
            let whole : is_confirmed (after_answer confirms r.next row) ≡ confirmed_all of.begun
            (of.later ++ kinds.Told r ∷ []) =
            ap (λ (c : Bool). is_confirmed (after_answer c r.next row)) (sym has.confirms_is)
            ∙ ap is_confirmed (sym more.behind) ∙ (law of.begun (of.later ++ kinds.Told r ∷ [])).confirmed in
            let so : partial ≡ not (confirmed_all of.begun (of.later ++ kinds.Told r ∷ [])) =
            partial_so ∙ partial_is row.skipped row.told confirmed n all (omega (arith, few, all)) ∙ ap not whole in
            Ends round (no_next setup.id_key (next_number held) now request confirms r (rounds.is_turn_left row) none
            drafted)
            (subst (λ (b : Bool). IsRoundEnd setup of.begun.message of.begun.asker b now bytes) so
            (subst (λ (m : List ℕ). IsRoundEnd setup m of.begun.asker partial now bytes)
            (ap (λ (x : RoundRow). x.message) of.is ∙ same.message)
            (subst (λ (a : Option Asker). IsRoundEnd setup row.message a partial now bytes)
            (ap (λ (x : RoundRow). x.asker) of.is ∙ same.asker) ends)))

-- ---- the laws

pub rounds_end_as_confirmed : RoundsAreCounted → RoundsEndAsConfirmed
rounds_end_as_confirmed law setup held request now bytes r are
    (steps.ByTold response peer row other sent to replies waits drafted adding answers full) =
    let same : other ≡ r = cc in
    let spelled : sent ≡ bytes = cc in
    subst (λ (t : Told). IsOutcome setup held t now bytes) same (subst (IsOutcome setup held other now) spelled
    (outcome_of law setup held now response.request peer.peer.entity (not (is_in_part response.outcome)) row other sent
    are
    (waiting_turn setup held now response.request peer.peer.entity row waits) drafted answers))
rounds_end_as_confirmed law setup held request now bytes r are other =
    absurd (let says = (said setup held request now (Full bytes) (Some (kinds.Told r)) other).is in cc)

pub rounds_begin_with_the_first : RoundsBeginWithTheFirst
rounds_begin_with_the_first setup held request now bytes r
    (steps.ByLeavingAll row begun sent to live others drafted adding first full) =
    let same : begun ≡ r = cc in
    let spelled : sent ≡ bytes = cc in
    subst (λ (b : Round). AsksFirst setup b now bytes) same (subst (AsksFirst setup begun now) spelled first)
rounds_begin_with_the_first setup held request now bytes r
    (steps.ByEndingAll asked peer relay begun sent to asks some_end others drafted adding first full) =
    let same : begun ≡ r = cc in
    let spelled : sent ≡ bytes = cc in
    subst (λ (b : Round). AsksFirst setup b now bytes) same (subst (AsksFirst setup begun now) spelled first)
rounds_begin_with_the_first setup held request now bytes r other =
    absurd (let says = (said setup held request now (Full bytes) (Some (kinds.Round r)) other).is in cc)
