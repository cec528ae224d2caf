-- Whom a logout asks, over the ledger before a compaction and behind it; and that the sessions live that a peer asks to
-- end.
use Rattle.std.specs.Prelude.{Contains}
use Rattle.std.proofs.Common.{◌≡◌, ℕ, zero, suc, Bool, true, false, ◌&&◌, not, if◌then◌else◌, List, [], ◌∷◌, map, filter, find, is_some, Option, None, Some, bytes_eq, refl, sym, ap, ◌∙◌, arith}
use Rattle.std.specs.List.{list_all}
use Rattle.std.proofs.lemmas.Bool.{and_parts}
use Rattle.xml_spec.proofs.Tests.{and_true}
use Rattle.logout_fanout.specs.Plan.{firsts_after, skipped, turns}
use Rattle.peer_keys.specs.declared.peers.LogoutPeer.{LogoutPeer}
use Rattle.logout_turns.specs.declared.part.Asker.{Asker}
use Rattle.logout_turns.specs.declared.part.Part.{Part}
use Rattle.protocol_messages.specs.declared.logout.LogoutRequest.{LogoutRequest}
use Rattle.round_rows.specs.declared.row.RoundRow.{RoundRow}
use Rattle.record_ledger.proofs.Words.{text_itself}
use Rattle.idp_rows.specs.declared.row.IssuedRow.{IssuedRow}
use Rattle.idp_rows.specs.declared.row.SessionRow.{SessionRow}
use Rattle.idp_ledger.specs.Drafts.{AreLive}
use Rattle.idp_rows.specs.Finding.{has_issued, is_empty, is_ending, is_listed, part_of, session_found, visible}
use Rattle.idp_ledger.specs.Laws.{AnswerAlike}
use Rattle.idp_ledger.specs.Ledger.{Held}
use Rattle.idp_rows.specs.RowsOf.{is_among, issued_rows, rows_of, session_rows}
use Rattle.idp_rules.specs.declared.config.IdpConfig.{IdpConfig}
use Rattle.idp_server.specs.Rounds.{asks_others, has_some, name_of, parts, round_waiting, skips_for, turns_for}
use Rattle.idp_server.specs.Step.{ending_by}

-- ---- behind a compaction

all_same : (f g : List ℕ → Bool) (texts : List (List ℕ)) → ((text : List ℕ) → f text ≡ g text)
    → list_all f texts ≡ list_all g texts
all_same f g [] each = refl
all_same f g (text ∷ texts) each = λ i. each text i && all_same f g texts each i

abbrev pub LiveIn : Held → (cookies : List (List ℕ)) → (now : ℕ) → Type 0
LiveIn held cookies now = AreLive (rows_of held.records).sessions cookies now held.header.horizon

pub live_still : (now : ℕ) (anew old : Held) (cookies : List (List ℕ)) → AnswerAlike now anew old
    → LiveIn old cookies now → LiveIn anew cookies now
live_still now anew old cookies like live =
    all_same (λ c. is_some (session_found (rows_of anew.records).sessions c now anew.header.horizon))
    (λ c. is_some (session_found (rows_of old.records).sessions c now old.header.horizon)) cookies
    (λ c. ap is_some (like.session c))
    ∙ live

parts_still : (now : ℕ) (anew old : Held) (cookies : List (List ℕ)) → AnswerAlike now anew old → LiveIn old cookies now
    → parts anew cookies ≡ parts old cookies
parts_still now anew old cookies like live = like.parts cookies (live_still now anew old cookies like live)

pub asks_still : (setup : IdpConfig) (now : ℕ) (anew old : Held) (asker : Option Asker) (cookies : List (List ℕ))
    → AnswerAlike now anew old → LiveIn old cookies now
    → asks_others setup anew asker cookies ≡ asks_others setup old asker cookies
asks_still setup now anew old asker cookies like live =
    ap (λ (ps : List Part). setup.fanout && has_some (turns (name_of asker) setup.peers ps))
    (parts_still now anew old cookies like live)

pub turns_still : (setup : IdpConfig) (now : ℕ) (anew old : Held) (asker : Option Asker) (cookies : List (List ℕ))
    → AnswerAlike now anew old → LiveIn old cookies now
    → turns_for setup anew asker cookies ≡ turns_for setup old asker cookies
turns_still setup now anew old asker cookies like live =
    ap (λ (ps : List Part). turns (name_of asker) setup.peers ps) (parts_still now anew old cookies like live)

pub skips_still : (setup : IdpConfig) (now : ℕ) (anew old : Held) (asker : Option Asker) (cookies : List (List ℕ))
    → AnswerAlike now anew old → LiveIn old cookies now
    → skips_for setup anew asker cookies ≡ skips_for setup old asker cookies
skips_still setup now anew old asker cookies like live =
    ap (λ (ps : List Part). skipped (name_of asker) setup.peers ps) (parts_still now anew old cookies like live)

pub waiting_still : (setup : IdpConfig) (now : ℕ) (anew old : Held) (of peer : List ℕ) → AnswerAlike now anew old
    → round_waiting setup anew now of peer ≡ round_waiting setup old now of peer
waiting_still setup now anew old of peer like =
    ap (λ (o : Option RoundRow). if setup.fanout then o else None) (like.turn of peer)

-- ---- sessions that live

pub one_live : (held : Held) (now : ℕ) (cookie : List ℕ) (row : SessionRow)
    → session_found (rows_of held.records).sessions cookie now held.header.horizon ≡ Some row
    → LiveIn held (cookie ∷ []) now
one_live held now cookie row found = ap (λ (o : Option SessionRow). is_some o && true) found

found_of : (test : SessionRow → Bool) (rows : List SessionRow) (row : SessionRow) → Contains rows row → test row ≡ true
    → is_some (find test rows) ≡ true
found_of test [] row there passes = absurd (omega (arith, there.1))
found_of test (x ∷ rows) row (zero, less, is) passes = at_head (test x) (ap test is ∙ passes)
  where
    at_head : (b : Bool) → b ≡ true → is_some (if b then Some x else find test rows) ≡ true
    at_head true e = refl
    at_head false e = absurd (cc)
found_of test (x ∷ rows) row (suc k, less, is) passes =
    behind (test x) (found_of test rows row (k, omega (arith, less), is) passes)
  where
    behind : (b : Bool) → is_some (find test rows) ≡ true → is_some (if b then Some x else find test rows) ≡ true
    behind true some = refl
    behind false some = some

each_chosen : (f : List ℕ → Bool) (e : SessionRow → Bool) (rows : List SessionRow)
    → ((row : SessionRow) → Contains rows row → e row ≡ true → f row.cookie ≡ true)
    → list_all f (map (λ (r : SessionRow). r.cookie) (filter e rows)) ≡ true
each_chosen f e [] each = refl
each_chosen f e (row ∷ rows) each =
    by_test (e row) refl (each_chosen f e rows (λ other there passes. each other
    (suc there.0, omega (arith, there.1), there.2) passes))
  where
    by_test : (b : Bool) → e row ≡ b → list_all f (map (λ (r : SessionRow). r.cookie) (filter e rows)) ≡ true
        → list_all f (map (λ (r : SessionRow). r.cookie) (if b then row ∷ filter e rows else filter e rows)) ≡ true
    by_test true here rest =
        and_true (f row.cookie) (list_all f (map (λ (r : SessionRow). r.cookie) (filter e rows)))
        (each row (0, omega arith, refl) here) rest
    by_test false none rest = rest

and_three : (same ended seen : Bool) → same ≡ true → not ended ≡ true → seen ≡ true → (same && not ended && seen) ≡ true
and_three same ended seen a b c = λ i. a i && b i && c i

-- those that a peer asks to end
pub ending_live : (held : Held) (now : ℕ) (name : List ℕ) (asked : LogoutRequest)
    → LiveIn held (ending_by held now name asked) now
ending_live held now name asked =
    let rows = session_rows held.records in
    let issues = issued_rows held.records in
    let h = held.header.horizon in
    each_chosen (λ c. is_some (session_found rows c now h)) (is_ending now h name asked.name asked.indexes issues) rows
    (λ row there ends.
    let last = has_issued false issues row.cookie name in
    let listed = is_listed asked.indexes row.index in
    let one =
    and_parts (not row.ended && visible row.until now h && bytes_eq row.user asked.name && listed) last ends in
    let two = and_parts (not row.ended && visible row.until now h && bytes_eq row.user asked.name) listed one.0 in
    let three = and_parts (not row.ended && visible row.until now h) (bytes_eq row.user asked.name) two.0 in
    let four = and_parts (not row.ended) (visible row.until now h) three.0 in
    found_of (λ (r : SessionRow). bytes_eq r.cookie row.cookie && not r.ended && visible r.until now h) rows row there
    (and_three (bytes_eq row.cookie row.cookie) row.ended (visible row.until now h) (text_itself row.cookie) four.0
    four.1))

-- ---- who is asked is asked for sessions

none_listed : (issues : List IssuedRow) → filter (λ (row : IssuedRow). is_among row.cookie []) issues ≡ []
none_listed [] = refl
none_listed (row ∷ issues) = none_listed issues

no_turns : (asker : Option (List ℕ)) (peers : List LogoutPeer) → has_some (turns asker peers []) ≡ false
unfolding firsts_after
no_turns asker peers = refl

and_false : (b : Bool) → (b && false) ≡ false
and_false true = refl
and_false false = refl

pub asked_for_some : (setup : IdpConfig) (held : Held) (asker : Option Asker) (cookies : List (List ℕ))
    → asks_others setup held asker cookies ≡ true → is_empty cookies ≡ false
asked_for_some setup held asker [] asks =
    let none : asks_others setup held asker [] ≡ false =
    ap (λ (rows : List IssuedRow). setup.fanout && has_some (turns (name_of asker) setup.peers (map part_of rows)))
    (none_listed (issued_rows held.records))
    ∙ ap (λ (b : Bool). setup.fanout && b) (no_turns (name_of asker) setup.peers) ∙ and_false setup.fanout in
    absurd (let clash = sym none ∙ asks in cc)
asked_for_some setup held asker (cookie ∷ cookies) asks = refl
