-- A connection among others, and alone.
use Rattle.std.proofs.Common.{◌≡◌, ℕ, Bool, true, false, List, [], ◌∷◌, ◌++◌, length, refl, sym, ap, subst, ◌∙◌, inl, inr, append-nil}
use Rattle.std.specs.Prelude.{◌==◌, ◌&&◌, not, if◌then◌else◌, nat_lt}
use Rattle.std.proofs.lemmas.Bool.Decides.{eqb_tells}
use Rattle.std.proofs.lemmas.List.Elements.{filter-append}
use Rattle.http_wire.specs.Requests.{Reading, Reads}
use Rattle.http_wire.specs.Laws.{BytesHaveOneReading}
use Rattle.conn_table.specs.Events.{Started, Piece, Ended, History, bytes_since, is_more, contains, without, taken, kept_on, completed, read_with, kept, completions, IsRight, IsOrderly, own, completions_of}
use Rattle.conn_table.specs.Laws.{EachIsAsAlone, OthersChangeNothing}
use Rattle.conn_table.proofs.Numbers.{told, if-true, if-false, same_number, contains-without}
use Rattle.conn_table.proofs.Readings.{IsRightAt, alike_all, absent_behind}

-- the connection, if it is there, and no other
abbrev alone : Bool → ℕ → List ℕ
alone held conn = if held then conn ∷ [] else []

contains-alone : (held : Bool) (conn : ℕ) → contains conn (alone held conn) ≡ held
contains-alone true conn = rw (same_number conn conn refl) refl
contains-alone false conn = refl

without-alone : (held : Bool) (conn : ℕ) → without conn (alone held conn) ≡ []
without-alone true conn = rw (same_number conn conn refl) refl
without-alone false conn = refl

module _ (read : List ℕ → Reading) (conn : ℕ) where
  -- alone, the connection is kept and completed as among others
  record IsSame (events : History) : Type 0 where
    conns : kept read (own read conn events) ≡ alone (contains conn (kept read events)) conn
    bytes : bytes_since conn (own read conn events) ≡ bytes_since conn events
    done : completions read (own read conn events) ≡ completions_of conn (completions read events)
    right : IsRight read (own read conn events)

  -- ---- the connection's own events

  started_own : (past : History) → IsSame past → contains conn (kept read past) ≡ false → IsSame (Started conn ∷ past)
  started_own past same absent =
      let here = same_number conn conn refl in
      let none : kept read (own read conn past) ≡ [] = same.conns ∙ ap (λ b. alone b conn) absent in
      elim (told (nat_lt (length (kept read past)) 64)) [
        | inl room ↦ record {
          conns = rw (here, room) (ap (taken conn) none ∙ sym (rw here refl));
          bytes = rw (here, room) (if-true (conn == conn) [] (bytes_since conn (own read conn past)) here);
          done = rw (here, room) same.done;
          right = rw (here, room) same.right;
        }
        | inr full ↦ record {
          conns = rw (here, full) (ap (without conn) none ∙ ap (λ b. alone b conn) (sym absent));
          bytes = rw (here, full) (if-true (conn == conn) [] (bytes_since conn (own read conn past)) here);
          done = rw (here, full) same.done;
          right = rw (here, full) same.right;
        }
      ]

  ended_own : (past : History) → IsSame past → IsSame (Ended conn ∷ past)
  ended_own past same =
      let here = same_number conn conn refl in
      record {
        conns = rw here (ap (without conn) same.conns ∙ without-alone (contains conn (kept read past)) conn ∙ sym (ap (λ b. alone b conn) (absent_behind conn (kept read past))));
        bytes = rw here (if-true (conn == conn) [] (bytes_since conn (own read conn past)) here);
        done = rw here same.done;
        right = rw here same.right;
      }

  kept_on-alone : (reading : Reading) (conns : List ℕ) → kept_on conn reading (alone (contains conn conns) conn) ≡ alone (contains conn (kept_on conn reading conns)) conn
  kept_on-alone reading conns =
      elim (told (is_more reading)) [
        | inl more ↦ rw more refl
        | inr over ↦ rw over (without-alone (contains conn conns) conn ∙ sym (ap (λ b. alone b conn) (absent_behind conn conns)))
      ]

  completed-alone : (reading : Reading) (conns : List ℕ) → completed conn reading (alone (contains conn conns) conn) ≡ completed conn reading conns
  completed-alone reading conns =
      ap (λ b. if b && not (is_more reading) then record { conn = conn; reading = reading } ∷ [] else []) (contains-alone (contains conn conns) conn)

  completed-own : (reading : Reading) (conns : List ℕ) → completions_of conn (completed conn reading conns) ≡ completed conn reading conns
  completed-own reading conns =
      elim (told (contains conn conns && not (is_more reading))) [
        | inl holds ↦ rw (holds, same_number conn conn refl) refl
        | inr fails ↦ rw fails refl
      ]

  completed-other : (other : ℕ) (reading : Reading) (conns : List ℕ) → (other == conn) ≡ false → completions_of conn (completed other reading conns) ≡ []
  completed-other other reading conns differs =
      elim (told (contains other conns && not (is_more reading))) [
        | inl holds ↦ rw (holds, differs) refl
        | inr fails ↦ rw fails refl
      ]

  piece_own : (piece : List ℕ) (past : History) → IsSame past → IsRightAt read conn piece past → IsSame (Piece conn piece ∷ past)
  piece_own piece past same right =
      let here = same_number conn conn refl in
      let read_same : read (bytes_since conn (own read conn past) ++ piece) ≡ read_with read conn piece past = ap (λ xs. read (xs ++ piece)) same.bytes in
      record {
        conns = rw here
            (ap (λ r. kept_on conn r (kept read (own read conn past))) read_same ∙ ap (kept_on conn (read_with read conn piece past)) same.conns
            ∙ kept_on-alone (read_with read conn piece past) (kept read past));
        bytes = rw here (ap (λ xs. bytes_since conn (own read conn past) ++ xs) (if-true (conn == conn) piece [] here) ∙ ap (λ xs. xs ++ piece) same.bytes);
        done = rw here
            (ap (λ r. completions read (own read conn past) ++ completed conn r (kept read (own read conn past))) read_same
            ∙ ap (λ conns. completions read (own read conn past) ++ completed conn (read_with read conn piece past) conns) same.conns
            ∙ ap (λ added. completions read (own read conn past) ++ added) (completed-alone (read_with read conn piece past) (kept read past) ∙ sym (completed-own (read_with read conn piece past) (kept read past)))
            ∙ ap (λ done. done ++ completions_of conn (completed conn (read_with read conn piece past) (kept read past))) same.done
            ∙ sym (filter-append (λ c. c.conn == conn) (completions read past) (completed conn (read_with read conn piece past) (kept read past))));
        right = rw here (
          same.right,
          λ held. subst (λ xs. Reads (xs ++ piece) (read (xs ++ piece))) (sym same.bytes)
              (right (sym (contains-alone (contains conn (kept read past)) conn) ∙ ap (contains conn) (sym same.conns) ∙ held)),
        );
      }

  -- ---- the events of another

  module _ (other : ℕ) (differs : (other == conn) ≡ false) (past : History) (same : IsSame past) where
    started_other : IsSame (Started other ∷ past)
    started_other = record {
      conns = rw differs (same.conns ∙ ap (λ b. alone b conn) (elim (told (nat_lt (length (kept read past)) 64)) [
        | inl room ↦ rw (room, differs) refl
        | inr full ↦ rw full refl
      ]));
      bytes = rw differs same.bytes;
      done = rw differs same.done;
      right = rw differs same.right;
    }

    ended_other : IsSame (Ended other ∷ past)
    ended_other = record {
      conns = rw differs (same.conns ∙ ap (λ b. alone b conn)
          (sym (contains-without conn other (kept read past) ∙ if-false (other == conn) false (contains conn (kept read past)) differs)));
      bytes = rw differs same.bytes;
      done = rw differs same.done;
      right = rw differs same.right;
    }

    piece_other : (piece : List ℕ) → IsSame (Piece other piece ∷ past)
    piece_other piece = record {
      conns = rw differs (same.conns ∙ ap (λ b. alone b conn) (elim (told (is_more (read_with read other piece past))) [
        | inl more ↦ rw more refl
        | inr over ↦ rw over (sym (contains-without conn other (kept read past) ∙ if-false (other == conn) false (contains conn (kept read past)) differs))
      ]));
      bytes = rw differs (same.bytes ∙ sym (append-nil (bytes_since conn past)));
      done = rw differs
          (same.done ∙ sym (append-nil _)
          ∙ ap (λ added. completions_of conn (completions read past) ++ added) (sym (completed-other other (read_with read other piece past) (kept read past) differs))
          ∙ sym (filter-append (λ c. c.conn == conn) (completions read past) (completed other (read_with read other piece past) (kept read past))));
      right = rw differs same.right;
    }

  same_all : (events : History) → IsRight read events → IsOrderly read events → IsSame events
  same_all [] right orderly = record { conns = refl; bytes = refl; done = refl; right = tt }
  same_all (Started other ∷ past) right orderly =
      let same = same_all past right orderly.0 in
      elim (eqb_tells other conn) [
        | inl here ↦ subst (λ o. IsSame (Started o ∷ past)) (sym here.1) (started_own past same (ap (λ o. contains o (kept read past)) (sym here.1) ∙ orderly.1))
        | inr differs ↦ started_other other differs.0 past same
      ]
  same_all (Piece other piece ∷ past) right orderly =
      let same = same_all past right.0 orderly in
      elim (eqb_tells other conn) [
        | inl here ↦ subst (λ o. IsSame (Piece o piece ∷ past)) (sym here.1) (piece_own piece past same (subst (λ o. IsRightAt read o piece past) here.1 right.1))
        | inr differs ↦ piece_other other differs.0 past same piece
      ]
  same_all (Ended other ∷ past) right orderly =
      let same = same_all past right orderly in
      elim (eqb_tells other conn) [
        | inl here ↦ subst (λ o. IsSame (Ended o ∷ past)) (sym here.1) (ended_own past same)
        | inr differs ↦ ended_other other differs.0 past same
      ]

pub each_is_as_alone : EachIsAsAlone
each_is_as_alone conn read events right orderly =
    let same = same_all read conn events right orderly in (same.right, sym same.done)

pub others_change_nothing : BytesHaveOneReading → OthersChangeNothing
others_change_nothing unique conn events elsewhere read other right right_too orderly orderly_too same =
    let here = same_all read conn events right orderly in
    let there = same_all other conn elsewhere right_too orderly_too in
    let alike = alike_all unique read other (own other conn elsewhere) (subst (IsRight read) same here.right) there.right in
    sym here.done ∙ ap (completions read) same ∙ alike.done ∙ there.done
