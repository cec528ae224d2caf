-- The calls of turns are calls of the table that complete requests.
use Rattle.std.specs.Prelude.{◌≡◌, ◌≢◌, ℕ, List, [], ◌∷◌, ◌++◌, map, None}
use Rattle.std.specs.FinMap as finite
use Rattle.std.specs.Cmp.{nat_cmp_total}
use Rattle.std.proofs.Common.{refl, sym, ap, ◌∙◌, cond, append-nil}
use Rattle.std.proofs.lemmas.Grind.{flat_map-append}
use Rattle.std.proofs.lemmas.List.{map-append}
use Rattle.http_wire.specs.Requests.{Request, Whole, Refused as RefusedReading}
use Rattle.conn_table.specs.declared.progress.Progress.{Progress}
use Rattle.conn_table.specs.declared.progress.Progress.TheVariants as progress
use Rattle.conn_table.specs.declared.progress.Start.{Start}
use Rattle.conn_table.specs.declared.progress.Start.TheVariants as start
use Rattle.conn_table.specs.Calls.{IsStarted, TakesPiece}
use Rattle.conn_table.specs.Events.{Completion, Ended, History, Piece, Started}
use Rattle.conn_table.specs.Laws.{CallsGiveCompletions}
use Rattle.conn_table.specs.Served.{Completes, Served, Gone}
use Rattle.conn_table.specs.Table.{Table}
use Rattle.conn_table.proofs.Tables.{tied}
use Rattle.serve_loop.specs.Laws.{whole_of, whole_requests, RequestsAreCompletions}
use Rattle.serve_loop.specs.Turns.{Asked, Turn, Taken, Full, StarvedStart, Over, Unknown, Waiting, Answered, Refused}
use Rattle.serve_loop.specs.Turns.{StarvedPiece, history_of, asked_by, asked_in, Does, Run}
use Rattle.serve_loop.specs.Worlds.{NodeStep, World}

-- a connection that was let go is not kept
pub get-removed : (m : Table) (conn : ℕ) → finite.get (finite.remove m conn) conn ≡ None
get-removed m conn =
    finite.get-remove nat_cmp_total m conn conn ∙ ap (λ b. cond b None (finite.get m conn)) (tied conn conn refl)

-- a request that was asked, with its connection
abbrev asked_on : {N : Type 0} → Asked N → ℕ × Request
asked_on asked = (asked.conn, asked.request)

abbrev whole_by : Completion → List (ℕ × Request)
whole_by completion = whole_of completion.conn completion.reading

module _ {N : Type 0} (past : List (Turn N)) (old new : Table) (done : List Completion)
    (served : Served (history_of past) done old) (same : map asked_on (asked_in past) ≡ whole_requests done) where
  -- the calls of events behind those of the past, and the requests that they complete
  abbrev Behind : History → List (Asked N) → Type 0
  Behind events asked = (after : List Completion) × Served events after new
      × (map asked_on (asked_in past ++ asked) ≡ whole_requests after)

  none_more : map asked_on (asked_in past ++ []) ≡ whole_requests done
  none_more = ap (map asked_on) (append-nil (asked_in past)) ∙ same

  started : (conn : ℕ) (answer : Start) → IsStarted (finite.remove old conn) conn answer new
      → answer ≢ start.NoMemory → Behind (Started conn ∷ Ended conn ∷ history_of past) []
  started conn answer is some =
      (done, (finite.remove old conn, answer, (old, served, Gone refl), get-removed old conn, is, some), none_more)

  ended : (conn : ℕ) → new ≡ finite.remove old conn → Behind (Ended conn ∷ history_of past) []
  ended conn is = (done, (old, served, Gone is), none_more)

  came : (conn : ℕ) (piece : List ℕ) (answer : Progress) (between : Table) (added : List Completion)
      (asked : List (Asked N)) → TakesPiece old conn piece answer between → Completes between conn answer added new
      → map asked_on asked ≡ whole_requests added → Behind (Piece conn piece ∷ history_of past) asked
  came conn piece answer between added asked takes completes more =
      let joined = map-append asked_on (asked_in past) asked ∙ ap (λ l. l ++ map asked_on asked) same
      ∙ ap (λ l. whole_requests done ++ l) more ∙ sym (flat_map-append whole_by done added) in
      (done ++ added, (old, between, answer, done, added, served, takes, completes, refl), joined)

  one_served : (step : NodeStep N) (turn : Turn N) (given now : World N)
      → Does step old given turn new now → Behind (history_of (turn ∷ past)) (asked_by turn)
  one_served step (Taken conn) given now does = started conn start.Taken does.0 (λ e. absurd (cc))
  one_served step (Full conn) given now does = started conn start.TableFull does.0 (λ e. absurd (cc))
  one_served step (StarvedStart conn) given now does = ended conn (does.0.refused (λ e. absurd (cc)))
  one_served step (Over conn) given now does = ended conn does.0
  one_served step (Unknown conn piece) given now does =
      came conn piece progress.Unknown new [] [] does.0 (refl, refl) refl
  one_served step (Waiting conn piece) given now does =
      came conn piece progress.Waiting new [] [] does.0 (refl, refl) refl
  one_served step (Answered piece one) given now (between, takes, answers) =
      came one.conn piece progress.Ready between (record { conn = one.conn; reading = Whole one.request } ∷ [])
      (one ∷ []) takes (one.request, answers.request, refl, answers.gone) refl
  one_served step (Refused conn piece status) given now (between, takes, lets) = came conn piece (progress.Refused
      status) between (record { conn = conn; reading = RefusedReading status } ∷ []) [] takes (refl, lets.gone) refl
  one_served step (StarvedPiece conn piece) given now (between, takes, lets) =
      ended conn (lets.gone ∙ ap (λ (t : Table). finite.remove t conn) (takes.unchanged refl))

module _ {N : Type 0} (step : NodeStep N) where
  all_served : (first : World N) (turns : List (Turn N)) (kept : Table) (now : World N)
      → Run step first turns kept now → (done : List Completion) × Served (history_of turns) done kept
      × (map asked_on (asked_in turns) ≡ whole_requests done)
  all_served first [] kept now run = ([], (refl, run.0), refl)
  all_served first (turn ∷ past) kept now (old, before, given, did, next, does) =
      let (done, served, same) = all_served first past old before did in
      one_served past old kept done served same step turn given now does

  pub requests_are_completions : CallsGiveCompletions → RequestsAreCompletions step
  requests_are_completions calls first turns kept now run = let served = all_served first turns kept now run in
      let given = calls (history_of turns) served.0 kept served.1 in (served.0, (given.0, given.1, given.3), served.2)
