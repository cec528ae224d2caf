-- With a session all that was issued in it is kept.
use Rattle.std.proofs.Common.{◌≡◌, ℕ, ◌+◌, ◌<◌, ◌≤◌, Bool, true, false, ◌||◌, ◌&&◌, List, [], ◌∷◌, ◌++◌, Option, None, Some, cond, find, reverse, slice_get, bytes_eq, refl, sym, ap, ◌∙◌, subst, inl, inr, arith, append_assoc}
use Rattle.std.specs.List.{list_any}
use Rattle.std.proofs.lemmas.Bool.{false≢true, true≢false, and_parts, or_cases, or_left, or_parts, false_from_ne_true}
use Rattle.std.specs.Option.{option_or}
use Rattle.std.proofs.lemmas.List.{reverse-append}
use Rattle.std.proofs.lemmas.List.Folds.{list_any-append, find-append}
use Rattle.ledger_records.specs.declared.idp_record.Issued.{Issued}
use Rattle.ledger_records.specs.declared.idp_record.IdpRecord.{IdpRecord}
use Rattle.ledger_records.specs.declared.idp_record.IdpRecord.TheVariants as kinds
use Rattle.ledger_rules.specs.Numbers.{has_number, NUMBER_END}
use Rattle.idp_ledger.specs.Naming.{has_cookie, has_session, issue_names, names}
use Rattle.record_ledger.specs.Marks.{all, kept, KeepsAll}
use Rattle.record_ledger.proofs.Numbers.{one_number, IsFresh, all_fresh}
use Rattle.record_ledger.proofs.Words.{each_weaker, same_text, text_itself}
use Rattle.record_ledger.proofs.KeptMarks.{all_push, any_same}
use Rattle.idp_rows.specs.declared.row.SessionRow.{SessionRow}
use Rattle.idp_rows.specs.declared.row.IssuedRow.{IssuedRow}
use Rattle.idp_rows.specs.Finding.{is_that_peer, has_issued, last_issue, last_peer, peer_of}
use Rattle.idp_rows.specs.RowsOf.{if_pending, issued_row, issued_rows, session_rows, session_row, ends}
use Rattle.idp_ledger.specs.Record.{next_of, is_record, AreRecordsAfter, AreRecords, idp_rules}
use Rattle.idp_rows.specs.Record.{drawn}
use Rattle.idp_ledger.proofs.LawWords.{Each, parts, next_push}
use Rattle.idp_rows.proofs.StandingRows.{above_some, cookie_of, index_of}
use Rattle.record_ledger.proofs.LinkRows.{only, less_number}
use Rattle.idp_ledger.specs.Linking.{idp_links}
use Rattle.idp_ledger.proofs.LinkFree.{began_at, session_has}
use Rattle.idp_ledger.proofs.RuleLaws.{freshly_drawn, link_laws}
use Rattle.idp_ledger.proofs.KeptMarks.{Marked, NamersOf, AreClosed}

-- whether a record is an Issued with this cookie
abbrev pub is_of : List ℕ → IdpRecord → Bool
is_of cookie (kinds.Issued r) = bytes_eq r.cookie cookie
is_of cookie other = false

-- ---- the numbers of cookies

record CookieNumber (cookie : List ℕ) (next : ℕ) : Type 0 where
  number : ℕ
  below : number < next
  small : number < NUMBER_END
  begins : has_number number cookie ≡ true

abbrev AreNumbered : List IdpRecord → Type 0
AreNumbered before = (cookie : List ℕ) → list_any (is_of cookie) before ≡ true → CookieNumber cookie (next_of before)

further : (cookie : List ℕ) (next more : ℕ) → next ≤ more → CookieNumber cookie next → CookieNumber cookie more
further cookie next more le n = record { number = n.number; below = omega (arith, n.below, le); small = n.small; begins = n.begins }

cookie_of_session : (p : Option (List ℕ)) (cookie own : List ℕ) → has_cookie (cookie ∷ []) p own ≡ true → bytes_eq own cookie ≡ true
cookie_of_session None cookie own has = absurd (false≢true has)
cookie_of_session (Some pending) cookie own has =
    let same : cookie ≡ own = same_text cookie own (only (bytes_eq cookie own) has) in
    subst (λ t. bytes_eq own t ≡ true) (sym same) (text_itself own)

session_is_of : (cookie : List ℕ) (x : IdpRecord) → has_session (cookie ∷ []) x ≡ true → is_of cookie x ≡ true
session_is_of cookie (kinds.Issued x) has = cookie_of_session x.pending cookie x.cookie has
session_is_of cookie other has = has

any_at : {X : Type 0} (test : X → Bool) (xs : List X) (k : ℕ) (x : X) → slice_get xs k ≡ Some x → test x ≡ true → list_any test xs ≡ true
any_at test [] k x there is = absurd (cc)
any_at test (y ∷ ys) Rattle.std.proofs.Common.zero x there is =
    let same : y ≡ x = cc in or_left (test y) (list_any test ys) (ap test same ∙ is)
any_at test (y ∷ ys) (Rattle.std.proofs.Common.suc k) x there is = Rattle.std.proofs.lemmas.Bool.or_right (test y) (list_any test ys) (any_at test ys k x there is)

issued_numbered : (before : List IdpRecord) (r : Issued) (p : Option (List ℕ)) → r.pending ≡ p → AreNumbered before → is_record before (kinds.Issued r) ≡ true
    → Each (IsFresh (next_of before)) (if_pending p (cookie_of r ∷ index_of r ∷ [])) → CookieNumber r.cookie (next_of (before ++ kinds.Issued r ∷ []))
issued_numbered before r None e numbered is own =
    let b = began_at before r e is in
    let old = numbered r.cookie (any_at (is_of r.cookie) before b.place b.row b.there (session_is_of r.cookie b.row b.has)) in
    further r.cookie (next_of before) (next_of (before ++ kinds.Issued r ∷ [])) (omega (arith, next_push before (kinds.Issued r))) old
issued_numbered before r (Some pending) e numbered is own = record {
  number = r.first + 2;
  below = omega (arith, next_push before (kinds.Issued r), above_some r pending e);
  small = own.0.small;
  begins = own.0.begins;
}

one_numbered : (before : List IdpRecord) (r : IdpRecord) (cookie : List ℕ) → AreNumbered before → is_record before r ≡ true → is_of cookie r ≡ true
    → CookieNumber cookie (next_of (before ++ r ∷ []))
one_numbered before (kinds.Issued r) cookie numbered is of =
    let fresh = all_fresh (next_of before) (drawn (kinds.Issued r)) (parts before (kinds.Issued r) is).fresh in
    subst (λ c. CookieNumber c (next_of (before ++ kinds.Issued r ∷ []))) (same_text r.cookie cookie of)
    (issued_numbered before r r.pending refl numbered is fresh.1.1)
one_numbered before other cookie numbered is of = absurd (false≢true of)

numbered_push : (before : List IdpRecord) (r : IdpRecord) → AreNumbered before → is_record before r ≡ true → AreNumbered (before ++ r ∷ [])
numbered_push before r numbered is cookie some =
    elim (or_cases (list_any (is_of cookie) before) (is_of cookie r || false) (sym (list_any-append (is_of cookie) before (r ∷ [])) ∙ some)) [
      | inl old ↦ further cookie (next_of before) (next_of (before ++ r ∷ [])) (omega (arith, next_push before r)) (numbered cookie old)
      | inr new ↦ one_numbered before r cookie numbered is (only (is_of cookie r) new)
    ]

none_numbered : AreNumbered []
none_numbered cookie some = absurd (false≢true some)

-- ---- a session that is begun: nothing before has its cookie, and no record behind begins it again

module _ (before : List IdpRecord) (r : Issued) (pending : List ℕ) (e : r.pending ≡ Some pending) (numbered : AreNumbered before) (is : is_record before (kinds.Issued r) ≡ true) where
  own_number : IsFresh (next_of before) (cookie_of r)
  own_number =
      let fresh = all_fresh (next_of before) (drawn (kinds.Issued r)) (parts before (kinds.Issued r) is).fresh in
      (subst (λ p. Each (IsFresh (next_of before)) (if_pending p (cookie_of r ∷ index_of r ∷ []))) e fresh.1.1).0

  none_before : list_any (is_of r.cookie) before ≡ false
  none_before = false_from_ne_true (list_any (is_of r.cookie) before) (λ some.
      let old = numbered r.cookie some in
      let same = one_number old.number (r.first + 2) r.cookie old.small own_number.small old.begins own_number.begins in
      omega (arith, same, old.below, own_number.greater))

  begins_it : has_session (r.cookie ∷ []) (kinds.Issued r) ≡ true
  begins_it = ap (λ p. has_cookie (r.cookie ∷ []) p r.cookie) e ∙ or_left (bytes_eq r.cookie r.cookie) false (text_itself r.cookie)

  none_behind : (later : List IdpRecord) → AreRecordsAfter (before ++ kinds.Issued r ∷ []) later → (k : ℕ) (y : IdpRecord) → slice_get later k ≡ Some y → has_session (r.cookie ∷ []) y ≡ true → ⊥
  none_behind later are k y there has =
      less_number idp_rules idp_links freshly_drawn link_laws before later (kinds.Issued r) is are k y there r.cookie (session_has (r.cookie ∷ []) (kinds.Issued r) begins_it) (session_has (r.cookie ∷ []) y has)

-- what has the cookie behind it names it
later_names : (r x : Issued) (pending : List ℕ) (p : Option (List ℕ)) → r.pending ≡ Some pending → bytes_eq x.cookie r.cookie ≡ true → (has_cookie (r.cookie ∷ []) p x.cookie ≡ true → ⊥)
    → issue_names p x.cookie (kinds.Issued r) ≡ true
later_names r x pending None e same never =
    ap (λ q. has_cookie (x.cookie ∷ []) q r.cookie) e ∙ or_left (bytes_eq x.cookie r.cookie) false same
later_names r x pending (Some other) e same never =
    absurd (never (or_left (bytes_eq r.cookie x.cookie) false (Rattle.record_ledger.proofs.Words.other_way x.cookie r.cookie same)))

of_names : (r : Issued) (pending : List ℕ) (x : IdpRecord) → r.pending ≡ Some pending → is_of r.cookie x ≡ true → (has_session (r.cookie ∷ []) x ≡ true → ⊥) → names x (kinds.Issued r) ≡ true
of_names r pending (kinds.Issued x) e of never = later_names r x pending x.pending e of never
of_names r pending other e of never = absurd (false≢true of)

-- ---- those with the cookie of a session that is kept are kept

each_none : (test : IdpRecord → Bool) (marks : List Marked) → list_any test (all marks) ≡ false → KeepsAll test marks
each_none test [] none = tt
each_none test (m ∷ marks) none =
    let both = or_parts (test m.1) (list_any test (all marks)) none in
    (λ here. absurd (true≢false (sym here ∙ both.0)), each_none test marks both.1)

each_append : (test : IdpRecord → Bool) (xs ys : List Marked) → KeepsAll test xs → KeepsAll test ys → KeepsAll test (xs ++ ys)
each_append test [] ys one other = other
each_append test (x ∷ xs) ys one other = (one.0, each_append test xs ys one.1 other)

keeps_later : (r : Issued) (pending : List ℕ) (later : List Marked) → r.pending ≡ Some pending → NamersOf (true, kinds.Issued r) later
    → ((k : ℕ) (y : IdpRecord) → slice_get (all later) k ≡ Some y → has_session (r.cookie ∷ []) y ≡ true → ⊥) → KeepsAll (is_of r.cookie) later
keeps_later r pending [] e namers never = tt
keeps_later r pending (m ∷ later) e namers never = (
  λ here. namers.0 (of_names r pending m.1 e here (never 0 m.1 refl)),
  keeps_later r pending later e namers.1 (λ k y there. never (Rattle.std.proofs.Common.suc k) y there),
)

begun_keeps : (earlier later : List Marked) (r : Issued) (p : Option (List ℕ)) → r.pending ≡ p → AreNumbered (all earlier) → is_record (all earlier) (kinds.Issued r) ≡ true
    → AreRecordsAfter (all earlier ++ kinds.Issued r ∷ []) (all later) → NamersOf (true, kinds.Issued r) later
    → Each (λ (row : SessionRow). KeepsAll (is_of row.cookie) (earlier ++ (true, kinds.Issued r) ∷ later)) (session_rows (kept later))
    → Each (λ (row : SessionRow). KeepsAll (is_of row.cookie) (earlier ++ (true, kinds.Issued r) ∷ later))
    (if_pending p (session_row (list_any (ends r.cookie) (kept later)) r ∷ []) ++ session_rows (kept later))
begun_keeps earlier later r None e numbered is are namers rest = rest
begun_keeps earlier later r (Some pending) e numbered is are namers rest = (
  each_append (is_of r.cookie) earlier ((true, kinds.Issued r) ∷ later)
      (each_none (is_of r.cookie) earlier (none_before (all earlier) r pending e numbered is))
      (λ here. refl, keeps_later r pending later e namers (none_behind (all earlier) r pending e numbered is (all later) are)),
  rest,
)

-- the marks are those in front and those behind
split : (earlier later : List Marked) (m : Marked) → (earlier ++ m ∷ []) ++ later ≡ earlier ++ m ∷ later
split earlier later m = append_assoc earlier (m ∷ []) later

onward : (earlier later : List Marked) (m : Marked) → AreNumbered (all earlier) → is_record (all earlier) m.1 ≡ true → AreRecordsAfter (all earlier ++ m.1 ∷ []) (all later)
    → (AreNumbered (all (earlier ++ m ∷ [])) → AreRecordsAfter (all (earlier ++ m ∷ [])) (all later)
    → Each (λ (row : SessionRow). KeepsAll (is_of row.cookie) ((earlier ++ m ∷ []) ++ later)) (session_rows (kept later)))
    → Each (λ (row : SessionRow). KeepsAll (is_of row.cookie) (earlier ++ m ∷ later)) (session_rows (kept later))
onward earlier later m numbered is are rest =
    subst (λ ms. Each (λ (row : SessionRow). KeepsAll (is_of row.cookie) ms) (session_rows (kept later))) (split earlier later m)
    (rest (subst AreNumbered (sym (all_push earlier m)) (numbered_push (all earlier) m.1 numbered is)) (subst (λ b. AreRecordsAfter b (all later)) (sym (all_push earlier m)) are))

each_session_keeps : (earlier later : List Marked) → AreNumbered (all earlier) → AreRecordsAfter (all earlier) (all later) → AreClosed later
    → Each (λ (row : SessionRow). KeepsAll (is_of row.cookie) (earlier ++ later)) (session_rows (kept later))
each_session_keeps earlier [] numbered are linked = tt
each_session_keeps earlier ((true, kinds.Issued r) ∷ later) numbered are linked =
    begun_keeps earlier later r r.pending refl numbered are.0 are.1 linked.0
    (onward earlier later (true, kinds.Issued r) numbered are.0 are.1 (λ n a. each_session_keeps (earlier ++ (true, kinds.Issued r) ∷ []) later n a linked.1))
each_session_keeps earlier ((true, kinds.Pending r) ∷ later) numbered are linked =
    onward earlier later (true, kinds.Pending r) numbered are.0 are.1 (λ n a. each_session_keeps (earlier ++ (true, kinds.Pending r) ∷ []) later n a linked.1)
each_session_keeps earlier ((true, kinds.Ended r) ∷ later) numbered are linked =
    onward earlier later (true, kinds.Ended r) numbered are.0 are.1 (λ n a. each_session_keeps (earlier ++ (true, kinds.Ended r) ∷ []) later n a linked.1)
each_session_keeps earlier ((true, kinds.Left r) ∷ later) numbered are linked =
    onward earlier later (true, kinds.Left r) numbered are.0 are.1 (λ n a. each_session_keeps (earlier ++ (true, kinds.Left r) ∷ []) later n a linked.1)
each_session_keeps earlier ((true, kinds.Confirmed r) ∷ later) numbered are linked =
    onward earlier later (true, kinds.Confirmed r) numbered are.0 are.1 (λ n a. each_session_keeps (earlier ++ (true, kinds.Confirmed r) ∷ []) later n a linked.1)
each_session_keeps earlier ((true, kinds.Spoke r) ∷ later) numbered are linked =
    onward earlier later (true, kinds.Spoke r) numbered are.0 are.1 (λ n a. each_session_keeps (earlier ++ (true, kinds.Spoke r) ∷ []) later n a linked.1)
each_session_keeps earlier ((true, kinds.Round r) ∷ later) numbered are linked =
    onward earlier later (true, kinds.Round r) numbered are.0 are.1 (λ n a. each_session_keeps (earlier ++ (true, kinds.Round r) ∷ []) later n a linked.1)
each_session_keeps earlier ((true, kinds.Told r) ∷ later) numbered are linked =
    onward earlier later (true, kinds.Told r) numbered are.0 are.1 (λ n a. each_session_keeps (earlier ++ (true, kinds.Told r) ∷ []) later n a linked.1)
each_session_keeps earlier ((false, kinds.Pending r) ∷ later) numbered are linked =
    onward earlier later (false, kinds.Pending r) numbered are.0 are.1 (λ n a. each_session_keeps (earlier ++ (false, kinds.Pending r) ∷ []) later n a linked.1)
each_session_keeps earlier ((false, kinds.Issued r) ∷ later) numbered are linked =
    onward earlier later (false, kinds.Issued r) numbered are.0 are.1 (λ n a. each_session_keeps (earlier ++ (false, kinds.Issued r) ∷ []) later n a linked.1)
each_session_keeps earlier ((false, kinds.Ended r) ∷ later) numbered are linked =
    onward earlier later (false, kinds.Ended r) numbered are.0 are.1 (λ n a. each_session_keeps (earlier ++ (false, kinds.Ended r) ∷ []) later n a linked.1)
each_session_keeps earlier ((false, kinds.Left r) ∷ later) numbered are linked =
    onward earlier later (false, kinds.Left r) numbered are.0 are.1 (λ n a. each_session_keeps (earlier ++ (false, kinds.Left r) ∷ []) later n a linked.1)
each_session_keeps earlier ((false, kinds.Confirmed r) ∷ later) numbered are linked =
    onward earlier later (false, kinds.Confirmed r) numbered are.0 are.1 (λ n a. each_session_keeps (earlier ++ (false, kinds.Confirmed r) ∷ []) later n a linked.1)
each_session_keeps earlier ((false, kinds.Spoke r) ∷ later) numbered are linked =
    onward earlier later (false, kinds.Spoke r) numbered are.0 are.1 (λ n a. each_session_keeps (earlier ++ (false, kinds.Spoke r) ∷ []) later n a linked.1)
each_session_keeps earlier ((false, kinds.Round r) ∷ later) numbered are linked =
    onward earlier later (false, kinds.Round r) numbered are.0 are.1 (λ n a. each_session_keeps (earlier ++ (false, kinds.Round r) ∷ []) later n a linked.1)
each_session_keeps earlier ((false, kinds.Told r) ∷ later) numbered are linked =
    onward earlier later (false, kinds.Told r) numbered are.0 are.1 (λ n a. each_session_keeps (earlier ++ (false, kinds.Told r) ∷ []) later n a linked.1)

-- ---- so what was issued in it is told alike

abbrev issues_to : Bool → List ℕ → List ℕ → IdpRecord → Bool
issues_to beside cookie peer (kinds.Issued r) = bytes_eq r.cookie cookie && is_that_peer beside peer r.peer
issues_to beside cookie peer other = false

has_issued_any : (beside : Bool) (records : List IdpRecord) (cookie peer : List ℕ) → has_issued beside (issued_rows records) cookie peer ≡ list_any (issues_to beside cookie peer) records
has_issued_any beside [] cookie peer = refl
has_issued_any beside (kinds.Issued r ∷ later) cookie peer =
    ap (λ b. bytes_eq r.cookie cookie && is_that_peer beside peer r.peer || b) (has_issued_any beside later cookie peer)
has_issued_any beside (other ∷ later) cookie peer = has_issued_any beside later cookie peer

to_is_of : (beside : Bool) (cookie peer : List ℕ) (x : IdpRecord) → issues_to beside cookie peer x ≡ true → is_of cookie x ≡ true
to_is_of beside cookie peer (kinds.Issued r) is = (and_parts (bytes_eq r.cookie cookie) (is_that_peer beside peer r.peer) is).0
to_is_of beside cookie peer other is = is

told_alike : (beside : Bool) (cookie peer : List ℕ) (marks : List Marked) → KeepsAll (is_of cookie) marks
    → has_issued beside (issued_rows (kept marks)) cookie peer ≡ has_issued beside (issued_rows (all marks)) cookie peer
told_alike beside cookie peer marks keeps =
    has_issued_any beside (kept marks) cookie peer
    ∙ any_same (issues_to beside cookie peer) marks
    (each_weaker (λ (m : Marked). is_of cookie m.1 ≡ true → m.0 ≡ true) (λ (m : Marked). issues_to beside cookie peer m.1 ≡ true → m.0 ≡ true)
    (λ m keep here. keep (to_is_of beside cookie peer m.1 here)) marks keeps)
    ∙ sym (has_issued_any beside (all marks) cookie peer)

pub issues_alike : (beside : Bool) (peer : List ℕ) (marks : List Marked) → AreRecords (all marks) → AreClosed marks
    → Each (λ (row : SessionRow). has_issued beside (issued_rows (kept marks)) row.cookie peer ≡ has_issued beside (issued_rows (all marks)) row.cookie peer) (session_rows (kept marks))
issues_alike beside peer marks are linked =
    each_weaker (λ (row : SessionRow). KeepsAll (is_of row.cookie) marks)
    (λ (row : SessionRow). has_issued beside (issued_rows (kept marks)) row.cookie peer ≡ has_issued beside (issued_rows (all marks)) row.cookie peer)
    (λ row keeps. told_alike beside row.cookie peer marks keeps) (session_rows (kept marks)) (each_session_keeps [] marks none_numbered are linked)

-- ---- and so is which of these was the last

last_step : (row : IssuedRow) (rows : List IssuedRow) (cookie : List ℕ)
    → last_issue (row ∷ rows) cookie ≡ option_or (last_issue rows cookie) (cond (bytes_eq row.cookie cookie) (Some row) None)
last_step row rows cookie =
    let test : IssuedRow → Bool = λ r. bytes_eq r.cookie cookie in
    ap (find test) (reverse-append (row ∷ []) rows) ∙ find-append test (reverse rows) (row ∷ [])

or_none : {X : Type 0} (o : Option X) → option_or o None ≡ o
or_none None = refl
or_none (Some x) = refl

last_same : (cookie : List ℕ) (marks : List Marked) → KeepsAll (is_of cookie) marks → last_issue (issued_rows (kept marks)) cookie ≡ last_issue (issued_rows (all marks)) cookie
last_same cookie [] keeps = refl
last_same cookie ((true, kinds.Issued r) ∷ marks) keeps =
    last_step (issued_row r) (issued_rows (kept marks)) cookie
    ∙ ap (λ o. option_or o (cond (bytes_eq r.cookie cookie) (Some (issued_row r)) None)) (last_same cookie marks keeps.1)
    ∙ sym (last_step (issued_row r) (issued_rows (all marks)) cookie)
last_same cookie ((false, kinds.Issued r) ∷ marks) keeps =
    let other : bytes_eq r.cookie cookie ≡ false = false_from_ne_true (bytes_eq r.cookie cookie) (λ here. false≢true (keeps.0 here)) in
    last_same cookie marks keeps.1
    ∙ sym (last_step (issued_row r) (issued_rows (all marks)) cookie
    ∙ ap (λ b. option_or (last_issue (issued_rows (all marks)) cookie) (cond b (Some (issued_row r)) None)) other
    ∙ or_none (last_issue (issued_rows (all marks)) cookie))
last_same cookie ((true, kinds.Pending r) ∷ marks) keeps = last_same cookie marks keeps.1
last_same cookie ((true, kinds.Ended r) ∷ marks) keeps = last_same cookie marks keeps.1
last_same cookie ((true, kinds.Left r) ∷ marks) keeps = last_same cookie marks keeps.1
last_same cookie ((true, kinds.Confirmed r) ∷ marks) keeps = last_same cookie marks keeps.1
last_same cookie ((true, kinds.Spoke r) ∷ marks) keeps = last_same cookie marks keeps.1
last_same cookie ((true, kinds.Round r) ∷ marks) keeps = last_same cookie marks keeps.1
last_same cookie ((true, kinds.Told r) ∷ marks) keeps = last_same cookie marks keeps.1
last_same cookie ((false, kinds.Pending r) ∷ marks) keeps = last_same cookie marks keeps.1
last_same cookie ((false, kinds.Ended r) ∷ marks) keeps = last_same cookie marks keeps.1
last_same cookie ((false, kinds.Left r) ∷ marks) keeps = last_same cookie marks keeps.1
last_same cookie ((false, kinds.Confirmed r) ∷ marks) keeps = last_same cookie marks keeps.1
last_same cookie ((false, kinds.Spoke r) ∷ marks) keeps = last_same cookie marks keeps.1
last_same cookie ((false, kinds.Round r) ∷ marks) keeps = last_same cookie marks keeps.1
last_same cookie ((false, kinds.Told r) ∷ marks) keeps = last_same cookie marks keeps.1

pub peers_alike : (marks : List Marked) → AreRecords (all marks) → AreClosed marks
    → Each (λ (row : SessionRow). last_peer (issued_rows (kept marks)) row.cookie ≡ last_peer (issued_rows (all marks)) row.cookie) (session_rows (kept marks))
peers_alike marks are linked =
    each_weaker (λ (row : SessionRow). KeepsAll (is_of row.cookie) marks)
    (λ (row : SessionRow). last_peer (issued_rows (kept marks)) row.cookie ≡ last_peer (issued_rows (all marks)) row.cookie)
    (λ row keeps. ap peer_of (last_same row.cookie marks keeps)) (session_rows (kept marks)) (each_session_keeps [] marks none_numbered are linked)

-- all that was issued in a session that is kept is kept
pub sessions_keep : (marks : List Marked) → AreRecords (all marks) → AreClosed marks
    → Each (λ (row : SessionRow). KeepsAll (is_of row.cookie) marks) (session_rows (kept marks))
sessions_keep marks are linked = each_session_keeps [] marks none_numbered are linked
