-- A connection that is kept has brought the beginning of a request.
use Rattle.std.proofs.Common.{◌≡◌, ℕ, true, false, List, [], ◌∷◌, ◌++◌, length, refl, sym, ap, subst, ◌∙◌, inl, inr, append-nil}
use Rattle.std.specs.Prelude.{◌==◌, nat_lt}
use Rattle.std.proofs.Math.Seq.{take-append_seam}
use Rattle.std.proofs.lemmas.Bool.{cases_lt}
use Rattle.std.proofs.lemmas.Bool.Decides.{eqb_tells}
use Rattle.http_wire.specs.Requests.{Reading, Whole, More, Reads}
use Rattle.http_wire.specs.Laws.{BytesHaveOneReading, WholeRequestEndsAtOnePlace}
use Rattle.conn_table.specs.Events.{Started, Piece, Ended, History, bytes_since, is_more, contains, without, taken, kept_on, read_with, kept, IsRight}
use Rattle.conn_table.specs.Laws.{KeptBytesAreMore, RequestsEndInTheirPiece}
use Rattle.conn_table.proofs.Numbers.{told, if-true, if-false, not_both, same_number, contains-without}
use Rattle.conn_table.proofs.Readings.{more_is, absent_behind}

no_bytes_are_more : Reads [] More
no_bytes_are_more = refl

module _ (read : List ℕ → Reading) where
  started : (other conn : ℕ) (conns : List ℕ) → (other == conn) ≡ false → contains conn (taken other conns) ≡ contains conn conns
  started other conn conns differs =
      elim (told (nat_lt (length conns) 64)) [
        | inl room ↦ rw (room, differs) refl
        | inr full ↦ rw full refl
      ]

  left : (other conn : ℕ) (conns : List ℕ) → (other == conn) ≡ false → contains conn (without other conns) ≡ contains conn conns
  left other conn conns differs = contains-without conn other conns ∙ if-false (other == conn) false (contains conn conns) differs

  kept_on-other : (other conn : ℕ) (reading : Reading) (conns : List ℕ) → (other == conn) ≡ false → contains conn (kept_on other reading conns) ≡ contains conn conns
  kept_on-other other conn reading conns differs =
      elim (told (is_more reading)) [
        | inl more ↦ rw more refl
        | inr over ↦ rw over (left other conn conns differs)
      ]

  more_here : (conn : ℕ) (piece : List ℕ) (past : History) → IsRight read (Piece conn piece ∷ past) → contains conn (kept read (Piece conn piece ∷ past)) ≡ true
      → Reads (bytes_since conn (Piece conn piece ∷ past)) More
  more_here conn piece past right held =
      subst (λ xs. Reads xs More) (sym (ap (λ xs. bytes_since conn past ++ xs) (if-true (conn == conn) piece [] (same_number conn conn refl))))
      (elim (told (is_more (read_with read conn piece past))) [
        | inl more ↦
            let was : contains conn (kept read past) ≡ true =
            ap (contains conn) (sym (if-true (is_more (read_with read conn piece past)) (kept read past) (without conn (kept read past)) more)) ∙ held in
            subst (Reads (bytes_since conn past ++ piece)) (more_is _ more) (right.1 was)
        | inr over ↦
            absurd (not_both (contains conn (kept read (Piece conn piece ∷ past))) held
            (ap (contains conn) (if-false (is_more (read_with read conn piece past)) (kept read past) (without conn (kept read past)) over) ∙ absent_behind conn (kept read past)))
      ])

  more : (events : History) (conn : ℕ) → IsRight read events → contains conn (kept read events) ≡ true → Reads (bytes_since conn events) More
  more [] conn right held = absurd (cc)
  more (Started other ∷ past) conn right held =
      elim (eqb_tells other conn) [
        | inl here ↦ subst (λ xs. Reads xs More) (sym (if-true (other == conn) [] (bytes_since conn past) here.0)) no_bytes_are_more
        | inr differs ↦
            subst (λ xs. Reads xs More) (sym (if-false (other == conn) [] (bytes_since conn past) differs.0))
            (more past conn right (sym (started other conn (kept read past) differs.0) ∙ held))
      ]
  more (Piece other piece ∷ past) conn right held =
      elim (eqb_tells other conn) [
        | inl here ↦
            subst (λ xs. Reads xs More) (ap (λ o. bytes_since conn (Piece o piece ∷ past)) (sym here.1))
            (more_here conn piece past (subst (λ o. IsRight read (Piece o piece ∷ past)) here.1 right) (ap (λ o. contains conn (kept read (Piece o piece ∷ past))) (sym here.1) ∙ held))
        | inr differs ↦
            subst (λ xs. Reads xs More) (sym (ap (λ xs. bytes_since conn past ++ xs) (if-false (other == conn) piece [] differs.0) ∙ append-nil (bytes_since conn past)))
            (more past conn right.0 (sym (kept_on-other other conn (read_with read other piece past) (kept read past) differs.0) ∙ held))
      ]
  more (Ended other ∷ past) conn right held =
      elim (eqb_tells other conn) [
        | inl here ↦
            absurd (not_both (contains conn (without other (kept read past))) held
            (contains-without conn other (kept read past) ∙ if-true (other == conn) false (contains conn (kept read past)) here.0))
        | inr differs ↦
            subst (λ xs. Reads xs More) (sym (if-false (other == conn) [] (bytes_since conn past) differs.0))
            (more past conn right (sym (left other conn (kept read past) differs.0) ∙ held))
      ]

pub kept_bytes_are_more : KeptBytesAreMore
kept_bytes_are_more read events conn right held = more read events conn right held

pub requests_end_in_their_piece : BytesHaveOneReading → WholeRequestEndsAtOnePlace → RequestsEndInTheirPiece
requests_end_in_their_piece unique ends read past conn piece request right held is =
    let before = bytes_since conn past in
    let end = ends (before ++ piece) request (subst (Reads (before ++ piece)) is (right.1 held)) in
    elim (cases_lt (length before) end.0) [
      | inl behind ↦ (end.0, end.1, behind)
      | inr within ↦
          let whole = subst (λ xs. Reads xs (Whole request)) (take-append_seam before piece) (end.1.from (length before) within) in
          absurd (let both = unique before More (Whole request) (more read past conn right.0 held) whole in cc)
    ]
