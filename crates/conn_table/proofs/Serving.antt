-- The calls, event by event.
use Rattle.std.proofs.Common.{◌≡◌, ◌≢◌, ℕ, ◌+◌, ◌-◌, ◌<◌, ◌≤◌, true, false, cond, List, [], ◌∷◌, ◌++◌, length, Option, Some, None, is_some, refl, sym, ap, subst, ◌∙◌, inl, inr, arith, append-nil}
use Rattle.std.specs.Prelude.{◌==◌, IfSome, if◌then◌else◌, nat_lt}
use Rattle.std.specs.Str.{bytes_eq}
use Rattle.std.specs.Ordering.{nat_cmp}
use Rattle.std.specs.Cmp.{nat_cmp_total}
use Rattle.std.specs.FinMap as map
use Rattle.std.proofs.lemmas.Slice.Eq.{bytes_eq-Decides}
use Rattle.std.proofs.lemmas.Bool.{cases_lt}
use Rattle.std.proofs.lemmas.Bool.Decides.{eqb_tells}
use Rattle.http_wire.specs.Requests.{Reading, Whole, More, Refused, Reads}
use Rattle.http_wire.specs.Laws.{BytesHaveOneReading}
use Rattle.conn_table.specs.declared.progress.Progress.{Progress}
use Rattle.conn_table.specs.declared.progress.Progress.TheVariants as progress
use Rattle.conn_table.specs.declared.progress.Start.{Start}
use Rattle.conn_table.specs.declared.progress.Start.TheVariants as start
use Rattle.conn_table.specs.Answers.{progress_of, IsAnswer}
use Rattle.conn_table.specs.Calls.{IsStarted, TakesPiece}
use Rattle.conn_table.specs.Events.{Event, Started, Piece, Ended, History, Completion, bytes_since, is_more, contains, without, completed, read_with, kept, completions, IsRight, IsOrderly}
use Rattle.conn_table.specs.Laws.{CallsGiveCompletions}
use Rattle.conn_table.specs.Served.{Completes, Ends, Gone, NotTaken, Dropped, Served, Shows}
use Rattle.conn_table.specs.Table.{Table}
use Rattle.conn_table.proofs.Numbers.{told, if-true, if-false, same_number, other_number, contains-without, without-absent, Once, once-without, length-without}
use Rattle.conn_table.proofs.Readings.{orderly_too, alike_all, kept_on-absent, completed-absent, completed-more, completed-held}
use Rattle.conn_table.proofs.Tables.{tied, apart, remove_absent}

-- ---- look-ups

pub get-insert : (m : Table) (conn : ℕ) (bytes : List ℕ) (q : ℕ) → map.get (map.insert m conn bytes) q ≡ (if conn == q then Some bytes else map.get m q)
get-insert m conn bytes q =
    map.get-insert nat_cmp_total m conn bytes q ∙ elim (eqb_tells conn q) [
      | inl same ↦ ap (λ b. cond b (Some bytes) (map.get m q)) (tied q conn (sym same.1)) ∙ sym (if-true (conn == q) (Some bytes) (map.get m q) same.0)
      | inr differs ↦
          ap (λ b. cond b (Some bytes) (map.get m q)) (apart q conn (λ e. differs.1 (sym e))) ∙ sym (if-false (conn == q) (Some bytes) (map.get m q) differs.0)
    ]

pub get-remove : (m : Table) (conn q : ℕ) → map.get (map.remove m conn) q ≡ (if conn == q then None else map.get m q)
get-remove m conn q =
    map.get-remove nat_cmp_total m conn q ∙ elim (eqb_tells conn q) [
      | inl same ↦ ap (λ b. cond b None (map.get m q)) (tied q conn (sym same.1)) ∙ sym (if-true (conn == q) None (map.get m q) same.0)
      | inr differs ↦ ap (λ b. cond b None (map.get m q)) (apart q conn (λ e. differs.1 (sym e))) ∙ sym (if-false (conn == q) None (map.get m q) differs.0)
    ]

nothing : (bytes : List ℕ) → None ≡ Some bytes → ⊥
nothing bytes e = cc

-- ---- a table that shows a history

pub record Agrees (read : List ℕ → Reading) (events : History) (table : Table) : Type 0 where
  pub shows : Shows read events table
  pub once : Once (kept read events)

module _ (read : List ℕ → Reading) (past : History) (table : Table) (agrees : Agrees read past table) where
  held_bytes : (conn : ℕ) → contains conn (kept read past) ≡ true → map.get table conn ≡ Some (bytes_since conn past)
  held_bytes conn held = agrees.shows.bytes conn ∙ if-true (contains conn (kept read past)) (Some (bytes_since conn past)) None held

  no_bytes : (conn : ℕ) → contains conn (kept read past) ≡ false → map.get table conn ≡ None
  no_bytes conn absent = agrees.shows.bytes conn ∙ if-false (contains conn (kept read past)) (Some (bytes_since conn past)) None absent

  absent_from : (conn : ℕ) → map.get table conn ≡ None → contains conn (kept read past) ≡ false
  absent_from conn none = elim (told (contains conn (kept read past))) [ inl held ↦ absurd (nothing _ (sym none ∙ held_bytes conn held)) | inr absent ↦ absent ]

  -- a start
  module _ (conn : ℕ) (none : map.get table conn ≡ None) where
    bytes_started : (q : ℕ) → contains q (kept read past) ≡ true → bytes_since q past ≡ bytes_since q (Started conn ∷ past)
    bytes_started q held =
        elim (eqb_tells conn q) [
          | inl same ↦ absurd (nothing (bytes_since q past) (sym none ∙ ap (map.get table) same.1 ∙ held_bytes q held))
          | inr differs ↦ sym (if-false (conn == q) [] (bytes_since q past) differs.0)
        ]

    pub agrees_taken : length (kept read past) < 64 → Agrees read (Started conn ∷ past) (map.insert table conn [])
    agrees_taken few =
        let room : kept read (Started conn ∷ past) ≡ conn ∷ kept read past =
        if-true (nat_lt (length (kept read past)) 64) (conn ∷ kept read past) (kept read past) (grind arith) in
        record {
          shows = record {
            bytes = λ q. get-insert table conn [] q ∙ elim (eqb_tells conn q) [
              | inl same ↦ rw (room, same.0) refl
              | inr differs ↦ rw (room, differs.0) (agrees.shows.bytes q)
            ];
            count = map.len-insert nat_cmp_total table conn [] ∙ ap (λ o. cond (is_some o) (map.len table) (map.len table + 1)) none
                ∙ ap (λ n. n + 1) agrees.shows.count ∙ sym (ap length room ∙ omega arith);
          };
          once = subst Once (sym room) (absent_from conn none, agrees.once);
        }

    pub agrees_full : 64 ≤ length (kept read past) → Agrees read (Started conn ∷ past) table
    agrees_full many =
        let full : kept read (Started conn ∷ past) ≡ kept read past =
        if-false (nat_lt (length (kept read past)) 64) (conn ∷ kept read past) (kept read past) (grind arith) in
        record {
          shows = record {
            bytes = λ q. elim (told (contains q (kept read past))) [
              | inl held ↦
                  held_bytes q held ∙ ap Some (bytes_started q held)
                  ∙ sym (if-true (contains q (kept read (Started conn ∷ past))) (Some (bytes_since q (Started conn ∷ past))) None (ap (contains q) full ∙ held))
              | inr absent ↦
                  no_bytes q absent
                  ∙ sym (if-false (contains q (kept read (Started conn ∷ past))) (Some (bytes_since q (Started conn ∷ past))) None (ap (contains q) full ∙ absent))
            ];
            count = agrees.shows.count ∙ sym (ap length full);
          };
          once = subst Once (sym full) agrees.once;
        }

  -- an end
  count_removed : (conn : ℕ) → map.len (map.remove table conn) ≡ length (without conn (kept read past))
  count_removed conn =
      elim (told (contains conn (kept read past))) [
        | inl held ↦
            map.len-remove nat_cmp_total table conn ∙ ap (λ o. cond (is_some o) (map.len table - 1) (map.len table)) (held_bytes conn held)
            ∙ omega (arith, agrees.shows.count, length-without conn (kept read past) agrees.once held)
        | inr absent ↦
            map.len-remove nat_cmp_total table conn ∙ ap (λ o. cond (is_some o) (map.len table - 1) (map.len table)) (no_bytes conn absent)
            ∙ agrees.shows.count ∙ sym (ap length (without-absent conn (kept read past) absent))
      ]

  -- the connection is let go, and the bytes of the others are as they were
  pub agrees_without : (conn : ℕ) (event : Event) → kept read (event ∷ past) ≡ without conn (kept read past)
      → ((q : ℕ) → conn ≢ q → bytes_since q (event ∷ past) ≡ bytes_since q past) → Agrees read (event ∷ past) (map.remove table conn)
  agrees_without conn event left same = record {
    shows = record {
      bytes = λ q.
          let there : contains q (kept read (event ∷ past)) ≡ (if conn == q then false else contains q (kept read past)) =
          ap (contains q) left ∙ contains-without q conn (kept read past) in
          get-remove table conn q ∙ elim (eqb_tells conn q) [
            | inl here ↦ rw (there, here.0) refl
            | inr differs ↦ rw (there, differs.0, same q differs.1) (agrees.shows.bytes q)
          ];
      count = count_removed conn ∙ sym (ap length left);
    };
    once = subst Once (sym left) (once-without conn (kept read past) agrees.once);
  }

  pub agrees_ended : (conn : ℕ) → Agrees read (Ended conn ∷ past) (map.remove table conn)
  agrees_ended conn = agrees_without conn (Ended conn) refl (λ q differs. if-false (conn == q) [] (bytes_since q past) (other_number conn q differs))

  -- a piece
  bytes_other : (conn : ℕ) (piece : List ℕ) (q : ℕ) → conn ≢ q → bytes_since q (Piece conn piece ∷ past) ≡ bytes_since q past
  bytes_other conn piece q differs = ap (λ xs. bytes_since q past ++ xs) (if-false (conn == q) piece [] (other_number conn q differs)) ∙ append-nil _

  bytes_here : (conn : ℕ) (piece : List ℕ) → bytes_since conn (Piece conn piece ∷ past) ≡ bytes_since conn past ++ piece
  bytes_here conn piece = ap (λ xs. bytes_since conn past ++ xs) (if-true (conn == conn) piece [] (same_number conn conn refl))

  pub agrees_unknown : (conn : ℕ) (piece : List ℕ) → contains conn (kept read past) ≡ false → Agrees read (Piece conn piece ∷ past) table
  agrees_unknown conn piece absent =
      let same : kept read (Piece conn piece ∷ past) ≡ kept read past = kept_on-absent conn (read_with read conn piece past) (kept read past) absent in
      record {
        shows = record {
          bytes = λ q. elim (eqb_tells conn q) [
            | inl here ↦
                no_bytes q (ap (λ n. contains n (kept read past)) (sym here.1) ∙ absent)
                ∙ sym (if-false (contains q (kept read (Piece conn piece ∷ past))) (Some (bytes_since q (Piece conn piece ∷ past))) None
                (ap (contains q) same ∙ ap (λ n. contains n (kept read past)) (sym here.1) ∙ absent))
            | inr differs ↦
                agrees.shows.bytes q ∙ ap (λ xs. if contains q (kept read past) then Some xs else None) (sym (bytes_other conn piece q differs.1))
                ∙ ap (λ conns. if contains q conns then Some (bytes_since q (Piece conn piece ∷ past)) else None) (sym same)
          ];
          count = agrees.shows.count ∙ sym (ap length same);
        };
        once = subst Once (sym same) agrees.once;
      }

  pub agrees_waiting : (conn : ℕ) (piece : List ℕ) → contains conn (kept read past) ≡ true → is_more (read_with read conn piece past) ≡ true
      → Agrees read (Piece conn piece ∷ past) (map.insert table conn (bytes_since conn past ++ piece))
  agrees_waiting conn piece held more =
      let same : kept read (Piece conn piece ∷ past) ≡ kept read past =
      if-true (is_more (read_with read conn piece past)) (kept read past) (without conn (kept read past)) more in
      record {
        shows = record {
          bytes = λ q. get-insert table conn (bytes_since conn past ++ piece) q ∙ elim (eqb_tells conn q) [
            | inl here ↦
                if-true (conn == q) (Some (bytes_since conn past ++ piece)) (map.get table q) here.0
                ∙ ap Some (sym (bytes_here conn piece)) ∙ ap (λ n. Some (bytes_since n (Piece conn piece ∷ past))) here.1
                ∙ sym (if-true (contains q (kept read (Piece conn piece ∷ past))) (Some (bytes_since q (Piece conn piece ∷ past))) None
                (ap (contains q) same ∙ ap (λ n. contains n (kept read past)) (sym here.1) ∙ held))
            | inr differs ↦
                if-false (conn == q) (Some (bytes_since conn past ++ piece)) (map.get table q) differs.0
                ∙ agrees.shows.bytes q ∙ ap (λ xs. if contains q (kept read past) then Some xs else None) (sym (bytes_other conn piece q differs.1))
                ∙ ap (λ conns. if contains q conns then Some (bytes_since q (Piece conn piece ∷ past)) else None) (sym same)
          ];
          count = map.len-insert nat_cmp_total table conn (bytes_since conn past ++ piece)
              ∙ ap (λ o. cond (is_some o) (map.len table) (map.len table + 1)) (held_bytes conn held)
              ∙ agrees.shows.count ∙ sym (ap length same);
        };
        once = subst Once (sym same) agrees.once;
      }

  remove_inserted : (conn : ℕ) (bytes : List ℕ) → map.remove (map.insert table conn bytes) conn ≡ map.remove table conn
  remove_inserted conn bytes = map.same_map nat_cmp_total map.nat_cmp-IsAntisymmetric _ _
      (λ q. get-remove (map.insert table conn bytes) conn q ∙ elim (eqb_tells conn q) [
        | inl same ↦ if-true (conn == q) None (map.get (map.insert table conn bytes) q) same.0 ∙ sym (if-true (conn == q) None (map.get table q) same.0) ∙ sym (get-remove table conn q)
        | inr differs ↦
            if-false (conn == q) None (map.get (map.insert table conn bytes) q) differs.0 ∙ get-insert table conn bytes q
            ∙ if-false (conn == q) (Some bytes) (map.get table q) differs.0 ∙ sym (if-false (conn == q) None (map.get table q) differs.0) ∙ sym (get-remove table conn q)
      ])

  pub agrees_completed : (conn : ℕ) (piece bytes : List ℕ) → is_more (read_with read conn piece past) ≡ false
      → Agrees read (Piece conn piece ∷ past) (map.remove (map.insert table conn bytes) conn)
  agrees_completed conn piece bytes over =
      subst (Agrees read (Piece conn piece ∷ past)) (sym (remove_inserted conn bytes))
      (agrees_without conn (Piece conn piece) (if-false (is_more (read_with read conn piece past)) (kept read past) (without conn (kept read past)) over) (bytes_other conn piece))

-- ---- one more reading

learned : List ℕ → Reading → (List ℕ → Reading) → List ℕ → Reading
learned bytes reading read other = if bytes_eq other bytes then reading else read other

learned_here : (bytes : List ℕ) (reading : Reading) (read : List ℕ → Reading) → learned bytes reading read bytes ≡ reading
unfolding learned
learned_here bytes reading read = if-true (bytes_eq bytes bytes) reading (read bytes) ((bytes_eq-Decides bytes bytes).1 refl)

module _ (unique : BytesHaveOneReading) where
  module _ (bytes : List ℕ) (reading : Reading) (reads : Reads bytes reading) (read : List ℕ → Reading) where
    learned_reads : (other : List ℕ) → Reads other (read other) → Reads other (learned bytes reading read other)
    unfolding learned
    learned_reads other right =
        elim (told (bytes_eq other bytes)) [
          | inl same ↦
              let e : other ≡ bytes = (bytes_eq-Decides other bytes).0 same in
              subst (λ xs. Reads xs (learned bytes reading read other)) (sym e)
              (subst (Reads bytes) (sym (if-true (bytes_eq other bytes) reading (read other) same)) reads)
          | inr differs ↦ subst (Reads other) (sym (if-false (bytes_eq other bytes) reading (read other) differs)) right
        ]

    learned_right : (events : History) → IsRight read events → IsRight (learned bytes reading read) events
    learned_right [] right = tt
    learned_right (Started conn ∷ past) right = learned_right past right
    learned_right (Piece conn piece ∷ past) right =
        let before = learned_right past right.0 in
        let alike = alike_all unique (learned bytes reading read) read past before right.0 in
        (before, λ held. learned_reads (bytes_since conn past ++ piece) (right.1 (ap (contains conn) (sym alike.conns) ∙ held)))
    learned_right (Ended conn ∷ past) right = learned_right past right

  -- ---- event by event

  -- what was completed, and the table, are those of the events
  abbrev IsServed : History → List Completion → Table → Type 0
  IsServed events done table =
      (read : List ℕ → Reading) × IsRight read events × IsOrderly read events × (done ≡ completions read events) × Agrees read events table

  serve_started : (conn : ℕ) (past : History) (done : List Completion) (old table : Table) (answer : Start) → IsServed past done old → map.get old conn ≡ None
      → IsStarted old conn answer table → answer ≢ start.NoMemory → IsServed (Started conn ∷ past) done table
  serve_started conn past done old table start.Taken is none started met =
      elim (cases_lt (length (kept is.0 past)) 64) [
        | inl few ↦ (is.0, is.1, (is.2, absent_from is.0 past old is.4 conn none), is.3, subst (Agrees is.0 (Started conn ∷ past)) (sym (started.taken refl)) (agrees_taken is.0 past old is.4 conn none few))
        | inr many ↦ absurd (let other = started.full.1 (omega (arith, is.4.shows.count)) in cc)
      ]
  serve_started conn past done old table start.TableFull is none started met =
      let same : table ≡ old = started.refused (λ e. cc) in
      (is.0, is.1, (is.2, absent_from is.0 past old is.4 conn none), is.3, subst (Agrees is.0 (Started conn ∷ past)) (sym same) (agrees_full is.0 past old is.4 conn none (omega (arith, started.full.0 refl, is.4.shows.count))))
  serve_started conn past done old table start.NoMemory is none started met = absurd (met refl)

  serve_ended : (conn : ℕ) (past : History) (done : List Completion) (old table : Table) → IsServed past done old → Ends old conn table → IsServed (Ended conn ∷ past) done table
  serve_ended conn past done old table is ends =
      (is.0, is.1, is.2, is.3, subst (Agrees is.0 (Ended conn ∷ past)) (sym (removed ends)) (agrees_ended is.0 past old is.4 conn))
    where
      removed : Ends old conn table → table ≡ map.remove old conn
      removed (Gone same) = same
      removed (NotTaken none started) = started.refused (λ e. cc) ∙ remove_absent old conn none
      removed (Dropped piece between takes same) = same ∙ ap (λ m. map.remove m conn) (takes.unchanged refl)

  serve_unknown : (conn : ℕ) (piece : List ℕ) (past : History) (earlier added : List Completion) (old between table : Table) (answer : Progress) (is : IsServed past earlier old)
      → TakesPiece old conn piece answer between → Completes between conn answer added table → contains conn (kept is.0 past) ≡ false
      → IsServed (Piece conn piece ∷ past) (earlier ++ added) table
  serve_unknown conn piece past earlier added old between table answer is takes completes absent =
      let unknown : answer ≡ progress.Unknown = takes.unknown.1 (no_bytes is.0 past old is.4 conn absent) in
      let nothing_done : (added ≡ []) × (table ≡ between) = subst (λ a. Completes between conn a added table) unknown completes in
      let same : table ≡ old = nothing_done.1 ∙ takes.absent unknown in (
        is.0,
        (is.1, λ held. absurd (let both = sym held ∙ absent in cc)),
        is.2,
        ap (λ done. done ++ added) is.3 ∙ ap (λ more. completions is.0 past ++ more) (nothing_done.0 ∙ sym (completed-absent conn (read_with is.0 conn piece past) (kept is.0 past) absent)),
        subst (Agrees is.0 (Piece conn piece ∷ past)) (sym same) (agrees_unknown is.0 past old is.4 conn piece absent),
      )

  -- a piece of a connection that is kept, of which `read` says what its bytes are
  module _ (conn : ℕ) (piece : List ℕ) (past : History) (earlier : List Completion) (old between : Table) (read : List ℕ → Reading)
      (right : IsRight read past) (orderly : IsOrderly read past) (so_far : earlier ≡ completions read past) (agrees : Agrees read past old)
      (held : contains conn (kept read past) ≡ true) (inserted : between ≡ map.insert old conn (bytes_since conn past ++ piece))
      (reads : Reads (bytes_since conn past ++ piece) (read_with read conn piece past)) where
    added_to : (added : List Completion) → added ≡ completed conn (read_with read conn piece past) (kept read past)
        → earlier ++ added ≡ completions read (Piece conn piece ∷ past)
    added_to added is = ap (λ done. done ++ added) so_far ∙ ap (λ more. completions read past ++ more) is

    let_go : (table : Table) → table ≡ map.remove between conn → is_more (read_with read conn piece past) ≡ false → Agrees read (Piece conn piece ∷ past) table
    let_go table removed over =
        subst (Agrees read (Piece conn piece ∷ past)) (sym (removed ∙ ap (λ m. map.remove m conn) inserted))
        (agrees_completed read past old agrees conn piece (bytes_since conn past ++ piece) over)

    in_between : map.get between conn ≡ Some (bytes_since conn past ++ piece)
    in_between =
        ap (λ m. map.get m conn) inserted ∙ get-insert old conn (bytes_since conn past ++ piece) conn
        ∙ if-true (conn == conn) (Some (bytes_since conn past ++ piece)) (map.get old conn) (same_number conn conn refl)

    serve_read : (reading : Reading) (added : List Completion) (table : Table) → read_with read conn piece past ≡ reading
        → Completes between conn (progress_of reading) added table → IsServed (Piece conn piece ∷ past) (earlier ++ added) table
    serve_read More added table is completes = (
      read,
      (right, λ h. reads),
      orderly,
      added_to added (completes.0 ∙ sym (completed-more conn (read_with read conn piece past) (kept read past) (ap is_more is))),
      subst (Agrees read (Piece conn piece ∷ past)) (sym (completes.1 ∙ inserted)) (agrees_waiting read past old agrees conn piece held (ap is_more is)),
    )
    serve_read (Whole request) added table is completes =
        let P : Option (List ℕ) → Type 0 = λ o. IfSome o (λ bytes. Reads bytes (Whole completes.0)) in
        let same : Whole completes.0 ≡ read_with read conn piece past =
        unique (bytes_since conn past ++ piece) (Whole completes.0) (read_with read conn piece past) (subst P in_between completes.1) reads in (
          read,
          (right, λ h. reads),
          orderly,
          added_to added
              (completes.2 ∙ ap (λ r. record { conn = conn; reading = r } ∷ []) same ∙ sym (completed-held conn (read_with read conn piece past) (kept read past) held (ap is_more is))),
          let_go table completes.3 (ap is_more is),
        )
    serve_read (Refused status) added table is completes = (
      read,
      (right, λ h. reads),
      orderly,
      added_to added
          (completes.0 ∙ ap (λ r. record { conn = conn; reading = r } ∷ []) (sym is) ∙ sym (completed-held conn (read_with read conn piece past) (kept read past) held (ap is_more is))),
      let_go table completes.1 (ap is_more is),
    )

  agrees_alike : (read other : List ℕ → Reading) (past : History) (table : Table) → kept other past ≡ kept read past → Agrees read past table → Agrees other past table
  agrees_alike read other past table same agrees = record {
    shows = record {
      bytes = λ q. agrees.shows.bytes q ∙ ap (λ conns. if contains q conns then Some (bytes_since q past) else None) (sym same);
      count = agrees.shows.count ∙ ap length (sym same);
    };
    once = subst Once (sym same) agrees.once;
  }

  memory_was_there : (old : Table) (conn : ℕ) (answer : Progress) (added : List Completion) (table : Table) → Completes old conn answer added table → answer ≢ progress.NoMemory
  memory_was_there old conn answer added table completes none = let P : Progress → Type 0 = λ a. Completes old conn a added table in subst P none completes

  serve_held : (conn : ℕ) (piece : List ℕ) (past : History) (earlier added : List Completion) (old between table : Table) (answer : Progress) (is : IsServed past earlier old)
      → TakesPiece old conn piece answer between → Completes between conn answer added table → contains conn (kept is.0 past) ≡ true
      → IsServed (Piece conn piece ∷ past) (earlier ++ added) table
  serve_held conn piece past earlier added old between table answer is takes completes held =
      let bytes = bytes_since conn past ++ piece in
      let met = memory_was_there between conn answer added table completes in
      let there = held_bytes is.0 past old is.4 conn held in
      let P : Option (List ℕ) → Type 0 = λ o. IfSome o (λ xs. IsAnswer (xs ++ piece) answer) in
      let Q : Option (List ℕ) → Type 0 = λ o. IfSome o (λ xs. between ≡ map.insert old conn (xs ++ piece)) in
      let answered : IsAnswer bytes answer = subst P there (takes.answered met) in
      let read = learned bytes answered.0 is.0 in
      let right = learned_right bytes answered.0 answered.1 is.0 past is.1 in
      let alike = alike_all unique read is.0 past right is.1 in
      let same : read bytes ≡ answered.0 = learned_here bytes answered.0 is.0 in
      serve_read conn piece past earlier old between read right (orderly_too unique read is.0 past right is.1 is.2) (is.3 ∙ sym alike.done) (agrees_alike is.0 read past old alike.conns is.4)
      (ap (contains conn) alike.conns ∙ held) (subst Q there (takes.taken met)) (subst (Reads bytes) (sym same) answered.1)
      answered.0 added table same (subst (λ a. Completes between conn a added table) answered.2 completes)

  serve_all : (events : History) (done : List Completion) (table : Table) → Served events done table → IsServed events done table
  serve_all [] done table served = (
    λ bytes. More,
    tt,
    tt,
    served.0,
    subst (Agrees (λ bytes. More) []) (sym served.1) (record { shows = record { bytes = λ q. map.get-empty nat_cmp q; count = map.len-empty nat_cmp (List ℕ) }; once = tt }),
  )
  serve_all (Started conn ∷ past) done table served =
      serve_started conn past done served.0 table served.1 (serve_all past done served.0 served.2) served.3 served.4 served.5
  serve_all (Piece conn piece ∷ past) done table served =
      let is = serve_all past served.3 served.0 served.5 in
      subst (λ d. IsServed (Piece conn piece ∷ past) d table) (sym served.8)
      (elim (told (contains conn (kept is.0 past))) [
        | inl held ↦ serve_held conn piece past served.3 served.4 served.0 served.1 table served.2 is served.6 served.7 held
        | inr absent ↦ serve_unknown conn piece past served.3 served.4 served.0 served.1 table served.2 is served.6 served.7 absent
      ])
  serve_all (Ended conn ∷ past) done table served = serve_ended conn past done served.0 table (serve_all past done served.0 served.1) served.2

  pub calls_give_completions : CallsGiveCompletions
  calls_give_completions events done table served = let is = serve_all events done table served in (is.0, is.1, is.2, is.3, is.4.shows)
