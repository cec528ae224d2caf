-- What a record draws, and sessions that are ended one after the other.
use Rattle.std.proofs.Common.{◌≡◌, ℕ, ◌+◌, ◌<◌, ◌≤◌, ◌^◌, Bool, true, false, not, ◌&&◌, ◌||◌, nat_le, nat_lt, List, [], ◌∷◌, ◌++◌, length, take, get_or, Option, None, Some, sym, refl, ap, ◌∙◌, arith}
use Rattle.std.specs.List.{list_all, list_any}
use Rattle.std.specs.Str.{bytes_eq}
use Rattle.std.proofs.lemmas.Bool.{and_parts, leb-true, ltb-true}
use Rattle.std.proofs.lemmas.List.{append-nil, take_more, take_all}
use Rattle.std.proofs.lemmas.List.Folds.{list_any-append}
use Rattle.ledger_records.specs.declared.idp_record.Issued.{Issued}
use Rattle.ledger_records.specs.declared.idp_record.IdpRecord.{IdpRecord}
use Rattle.ledger_records.specs.declared.idp_record.IdpRecord.TheVariants as kinds
use Rattle.ledger_rules.specs.Numbers.{Drawn, above, has_number, are_fresh, is_xml_text}
use Rattle.idp_rows.specs.declared.row.SessionRow.{SessionRow}
use Rattle.idp_rows.specs.RowsOf.{IdpRows, if_pending, session_row, begun, is_among, ended_where}
use Rattle.idp_rows.specs.Record.{LAST, is_free, is_issue_free, drawn, texts, moments, is_next}
use Rattle.idp_rows.specs.Kept.{SessionsView, session_begun}

-- ---- the parts of what makes a record the next one

pub record NextParts (rows : IdpRows) (next : ℕ) (r : IdpRecord) : Type 0 where
  pub free : is_free rows r ≡ true
  pub fresh : are_fresh next (drawn r) ≡ true
  pub texts_are : list_all is_xml_text (texts r) ≡ true
  pub dated : list_all (λ moment. nat_le moment LAST) (moments r) ≡ true

pub next_parts : (rows : IdpRows) (next : ℕ) (r : IdpRecord) → is_next rows next r ≡ true → NextParts rows next r
next_parts rows next r is =
    let dated = and_parts (is_free rows r && are_fresh next (drawn r) && list_all is_xml_text (texts r)) (list_all (λ moment. nat_le moment LAST) (moments r)) is in
    let spelled = and_parts (is_free rows r && are_fresh next (drawn r)) (list_all is_xml_text (texts r)) dated.0 in
    let fresh = and_parts (is_free rows r) (are_fresh next (drawn r)) spelled.0 in
    record { free = fresh.0; fresh = fresh.1; texts_are = spelled.1; dated = dated.1 }

-- a number that is drawn
pub record IsFresh (least number : ℕ) (id : List ℕ) : Type 0 where
  pub least_is : least ≤ number
  pub below : number < 2 ^ 63
  pub has : has_number number id ≡ true

pub first_fresh : (least : ℕ) (d : Drawn) (more : List Drawn) → are_fresh least (d ∷ more) ≡ true → IsFresh least d.number d.id
first_fresh least d more fresh =
    let front = and_parts (nat_le least d.number && nat_lt d.number (2 ^ 63) && has_number d.number d.id) (are_fresh least more) fresh in
    let id = and_parts (nat_le least d.number && nat_lt d.number (2 ^ 63)) (has_number d.number d.id) front.0 in
    let bounds = and_parts (nat_le least d.number) (nat_lt d.number (2 ^ 63)) id.0 in
    record {
      least_is = leb-true least d.number bounds.0;
      below = ltb-true d.number (2 ^ 63) bounds.1;
      has = id.1;
    }

pub later_fresh : (least : ℕ) (d : Drawn) (more : List Drawn) → are_fresh least (d ∷ more) ≡ true → are_fresh least more ≡ true
later_fresh least d more fresh =
    (and_parts (nat_le least d.number && nat_lt d.number (2 ^ 63) && has_number d.number d.id) (are_fresh least more) fresh).1

abbrev pub assertion_of : Issued → Drawn
assertion_of r = record { number = r.first; id = r.assertion }

abbrev pub message_of : Issued → Drawn
message_of r = record { number = r.first + 1; id = r.message }

abbrev pub cookie_of : Issued → Drawn
cookie_of r = record { number = r.first + 2; id = r.cookie }

abbrev pub index_of : Issued → Drawn
index_of r = record { number = r.first + 3; id = r.index }

-- what an Issued draws
pub fresh_assertion : (rows : IdpRows) (next : ℕ) (r : Issued) → is_next rows next (kinds.Issued r) ≡ true → IsFresh next r.first r.assertion
fresh_assertion rows next r is =
    first_fresh next (assertion_of r) (message_of r ∷ if_pending r.pending (cookie_of r ∷ index_of r ∷ [])) (next_parts rows next (kinds.Issued r) is).fresh

pub fresh_message : (rows : IdpRows) (next : ℕ) (r : Issued) → is_next rows next (kinds.Issued r) ≡ true → IsFresh next (r.first + 1) r.message
fresh_message rows next r is =
    first_fresh next (message_of r) (if_pending r.pending (cookie_of r ∷ index_of r ∷ []))
    (later_fresh next (assertion_of r) (message_of r ∷ if_pending r.pending (cookie_of r ∷ index_of r ∷ [])) (next_parts rows next (kinds.Issued r) is).fresh)

fresh_rest : (rows : IdpRows) (next : ℕ) (r : Issued) → is_next rows next (kinds.Issued r) ≡ true → are_fresh next (if_pending r.pending (cookie_of r ∷ index_of r ∷ [])) ≡ true
fresh_rest rows next r is =
    later_fresh next (message_of r) (if_pending r.pending (cookie_of r ∷ index_of r ∷ []))
    (later_fresh next (assertion_of r) (message_of r ∷ if_pending r.pending (cookie_of r ∷ index_of r ∷ [])) (next_parts rows next (kinds.Issued r) is).fresh)

pub fresh_cookie : (rows : IdpRows) (next : ℕ) (r : Issued) (pending : List ℕ) → r.pending ≡ Some pending → is_next rows next (kinds.Issued r) ≡ true → IsFresh next (r.first + 2) r.cookie
fresh_cookie rows next r pending some is =
    first_fresh next (cookie_of r) (index_of r ∷ []) (ap (λ p. are_fresh next (if_pending p (cookie_of r ∷ index_of r ∷ []))) (sym some) ∙ fresh_rest rows next r is)

pub fresh_index : (rows : IdpRows) (next : ℕ) (r : Issued) (pending : List ℕ) → r.pending ≡ Some pending → is_next rows next (kinds.Issued r) ≡ true → IsFresh next (r.first + 3) r.index
fresh_index rows next r pending some is =
    first_fresh next (index_of r) [] (later_fresh next (cookie_of r) (index_of r ∷ [])
    (ap (λ p. are_fresh next (if_pending p (cookie_of r ∷ index_of r ∷ []))) (sym some) ∙ fresh_rest rows next r is))

-- whether a session is begun
pub begun_pending : (r : Issued) (row : SessionRow) → session_begun (kinds.Issued r) ≡ Some row
    → (pending : List ℕ) × (r.pending ≡ Some pending) × (row ≡ session_row false r)
begun_pending r row is = by_pending r.pending refl is
  where
    by_pending : (p : Option (List ℕ)) → r.pending ≡ p → session_begun (kinds.Issued (record r { pending = p })) ≡ Some row
        → (pending : List ℕ) × (r.pending ≡ Some pending) × (row ≡ session_row false r)
    by_pending None e none = absurd (cc)
    by_pending (Some pending) e some = (pending, e, cc)

pub none_begun : (r : Issued) → session_begun (kinds.Issued r) ≡ None → r.pending ≡ None
none_begun r is = by_pending r.pending refl is
  where
    by_pending : (p : Option (List ℕ)) → r.pending ≡ p → session_begun (kinds.Issued (record r { pending = p })) ≡ None → r.pending ≡ None
    by_pending None e none = e
    by_pending (Some pending) e some = absurd (cc)

-- the session of an Issued that begins none is there
or_right : (a b : Bool) → b ≡ true → (a || b) ≡ true
or_right true b is = refl
or_right false b is = is

weaker_test : (t m rest more : Bool) → (t ≡ true → m ≡ true) → (rest ≡ true → more ≡ true) → (t || rest) ≡ true → (m || more) ≡ true
weaker_test true m rest more here later is = ap (λ b. b || more) (here refl)
weaker_test false m rest more here later is = or_right m more (later is)

any_weaker : {X : Type 0} (test more : X → Bool) (xs : List X) → ((x : X) → test x ≡ true → more x ≡ true) → list_any test xs ≡ true → list_any more xs ≡ true
any_weaker test more [] leads is = is
any_weaker test more (x ∷ xs) leads is = weaker_test (test x) (more x) (list_any test xs) (list_any more xs) (leads x) (any_weaker test more xs leads) is

pub session_there : (rows : IdpRows) (next : ℕ) (r : Issued) → r.pending ≡ None → is_next rows next (kinds.Issued r) ≡ true
    → list_any (λ (row : SessionRow). bytes_eq row.cookie r.cookie) rows.sessions ≡ true
session_there rows next r none is =
    any_weaker (λ (row : SessionRow). bytes_eq row.cookie r.cookie && not row.ended) (λ (row : SessionRow). bytes_eq row.cookie r.cookie) rows.sessions
    (λ row passes. (and_parts (bytes_eq row.cookie r.cookie) (not row.ended) passes).0)
    (ap (λ p. is_issue_free rows p r.cookie) (sym none) ∙ (next_parts rows next (kinds.Issued r) is).free)

-- ---- sessions that are ended one after the other

or_assoc : (a b c : Bool) → ((a || b) || c) ≡ (a || (b || c))
or_assoc true b c = refl
or_assoc false b c = refl

or_last : (b : Bool) → (b || false) ≡ b
or_last true = refl
or_last false = refl

among_more : (texts : List (List ℕ)) (text other : List ℕ) → is_among other (texts ++ text ∷ []) ≡ (is_among other texts || bytes_eq text other)
among_more texts text other =
    list_any-append (λ t. bytes_eq t other) texts (text ∷ []) ∙ ap (λ b. is_among other texts || b) (or_last (bytes_eq text other))

ends_more : (rows : List SessionRow) (cookies : List (List ℕ)) (cookie : List ℕ)
    → ended_where (λ row. bytes_eq cookie row.cookie) (ended_where (λ row. is_among row.cookie cookies) rows)
    ≡ ended_where (λ row. is_among row.cookie (cookies ++ cookie ∷ [])) rows
ends_more [] cookies cookie = refl
ends_more (x ∷ xs) cookies cookie =
    let head = or_assoc x.ended (is_among x.cookie cookies) (bytes_eq cookie x.cookie)
    ∙ ap (λ b. x.ended || b) (sym (among_more cookies cookie x.cookie)) in
    let rest = ends_more xs cookies cookie in
    λ i. record x { ended = head i } ∷ rest i

pub ends_nothing : (rows : List SessionRow) → ended_where (λ _. false) rows ≡ rows
ends_nothing [] = refl
ends_nothing (row ∷ rows) = λ i. record row { ended = or_last row.ended i } ∷ ends_nothing rows i

abbrev pub with_ended : (SessionRow → Bool) → SessionsView → SessionsView
with_ended test view = record view { rows = ended_where test view.rows }

pub ended_more : (old now new : SessionsView) (cookies : List (List ℕ)) (i : ℕ) (cookie text : List ℕ) → i < length cookies → cookie ≡ get_or cookies i cookie → text ≡ cookie
    → now ≡ with_ended (λ row. is_among row.cookie (take i cookies)) old → new ≡ with_ended (λ row. bytes_eq text row.cookie) now
    → new ≡ with_ended (λ row. is_among row.cookie (take (i + 1) cookies)) old
ended_more old now new cookies i cookie text within read same before after =
    let more : take (i + 1) cookies ≡ take i cookies ++ cookie ∷ [] =
    take_more cookies i cookie within ∙ ap (λ t. take i cookies ++ t ∷ []) (sym read) in
    after ∙ ap (with_ended (λ row. bytes_eq text row.cookie)) before
    ∙ ap (λ t. with_ended (λ row. bytes_eq t row.cookie) (with_ended (λ row. is_among row.cookie (take i cookies)) old)) same
    ∙ ap (λ rows. record old { rows = rows }) (ends_more old.rows (take i cookies) cookie)
    ∙ ap (λ ts. with_ended (λ row. is_among row.cookie ts) old) (sym more)

pub ended_all : (old now : SessionsView) (cookies : List (List ℕ)) (i : ℕ) → length cookies ≤ i
    → now ≡ with_ended (λ row. is_among row.cookie (take i cookies)) old → now ≡ with_ended (λ row. is_among row.cookie cookies) old
ended_all old now cookies i past before = before ∙ ap (λ ts. with_ended (λ row. is_among row.cookie ts) old) (take_all i cookies past)

-- ---- what an Issued stands for

pub sessions_some : (sessions : List SessionRow) (r : Issued) (row : SessionRow) (pending : List ℕ) → r.pending ≡ Some pending → row ≡ session_row false r
    → sessions ++ row ∷ [] ≡ sessions ++ begun false r
sessions_some sessions r row pending some is =
    ap (λ s. sessions ++ s ∷ []) is ∙ ap (λ p. sessions ++ if_pending p (session_row false r ∷ [])) (sym some)

pub sessions_none : (sessions : List SessionRow) (r : Issued) → r.pending ≡ None → sessions ≡ sessions ++ begun false r
sessions_none sessions r none = sym (append-nil sessions) ∙ ap (λ p. sessions ++ if_pending p (session_row false r ∷ [])) (sym none)

pub above_some : (r : Issued) (pending : List ℕ) → r.pending ≡ Some pending → above (drawn (kinds.Issued r)) ≡ r.first + 4
above_some r pending some =
    ap (λ p. above (assertion_of r ∷ message_of r ∷ if_pending p (cookie_of r ∷ index_of r ∷ []))) some ∙ omega arith

pub above_none : (r : Issued) → r.pending ≡ None → above (drawn (kinds.Issued r)) ≡ r.first + 2
above_none r none = ap (λ p. above (assertion_of r ∷ message_of r ∷ if_pending p (cookie_of r ∷ index_of r ∷ []))) none ∙ omega arith
