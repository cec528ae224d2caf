-- What pieces complete, whoever reads them.
use Rattle.std.proofs.Common.{◌≡◌, ◌≢◌, ℕ, true, false, List, [], ◌∷◌, ◌++◌, refl, sym, ap, subst, ◌∙◌, inl, inr, append_assoc, append-nil}
use Rattle.std.specs.Prelude.{◌==◌, if◌then◌else◌}
use Rattle.http_wire.specs.Requests.{Reading, Whole, More, Refused, Reads}
use Rattle.http_wire.specs.Laws.{BytesHaveOneReading, MoreBytesChangeNothing}
use Rattle.conn_table.specs.Events.{Started, Piece, Ended, History, bytes_since, is_more, contains, without, taken, kept_on, completed, read_with, kept, completions, IsRight, IsOrderly}
use Rattle.conn_table.proofs.Numbers.{told, if-true, if-false, if-same, same_number, contains-without, without-absent}

-- ---- a piece

pub more_is : (reading : Reading) → is_more reading ≡ true → reading ≡ More
more_is More is = refl
more_is (Whole request) is = absurd (cc)
more_is (Refused status) is = absurd (cc)

pub not_more : (reading : Reading) → is_more reading ≡ false → reading ≢ More
not_more More is same = absurd (cc)
not_more (Whole request) is same = absurd (cc)
not_more (Refused status) is same = absurd (cc)

pub kept_on-absent : (conn : ℕ) (reading : Reading) (conns : List ℕ) → contains conn conns ≡ false → kept_on conn reading conns ≡ conns
kept_on-absent conn reading conns absent = if-same (is_more reading) conns (without conn conns) (sym (without-absent conn conns absent)) ∙ without-absent conn conns absent

pub completed-absent : (conn : ℕ) (reading : Reading) (conns : List ℕ) → contains conn conns ≡ false → completed conn reading conns ≡ []
completed-absent conn reading conns absent = rw absent refl

pub completed-more : (conn : ℕ) (reading : Reading) (conns : List ℕ) → is_more reading ≡ true → completed conn reading conns ≡ []
completed-more conn reading conns more =
    elim (told (contains conn conns)) [ inl held ↦ rw (held, more) refl | inr absent ↦ completed-absent conn reading conns absent ]

pub completed-held : (conn : ℕ) (reading : Reading) (conns : List ℕ) → contains conn conns ≡ true → is_more reading ≡ false
    → completed conn reading conns ≡ record { conn = conn; reading = reading } ∷ []
completed-held conn reading conns held whole = rw (held, whole) refl

pub absent_behind : (conn : ℕ) (conns : List ℕ) → contains conn (without conn conns) ≡ false
absent_behind conn conns = contains-without conn conn conns ∙ if-true (conn == conn) false (contains conn conns) (same_number conn conn refl)

-- ---- two histories that keep and complete the same

pub record Alike (read other : List ℕ → Reading) (one two : History) : Type 0 where
  pub conns : kept read one ≡ kept other two
  pub done : completions read one ≡ completions other two
  pub bytes : (conn : ℕ) → bytes_since conn one ≡ bytes_since conn two

-- what is read of a piece of a connection that is kept, is what its bytes are
abbrev pub IsRightAt : (List ℕ → Reading) → ℕ → List ℕ → History → Type 0
IsRightAt read conn piece past = contains conn (kept read past) ≡ true → Reads (bytes_since conn past ++ piece) (read_with read conn piece past)

module _ (unique : BytesHaveOneReading) (read other : List ℕ → Reading) where
  alike_started : (conn : ℕ) (one two : History) → Alike read other one two → Alike read other (Started conn ∷ one) (Started conn ∷ two)
  alike_started conn one two alike = record {
    conns = ap (taken conn) alike.conns;
    done = alike.done;
    bytes = λ q. ap (λ xs. if conn == q then [] else xs) (alike.bytes q);
  }

  alike_ended : (conn : ℕ) (one two : History) → Alike read other one two → Alike read other (Ended conn ∷ one) (Ended conn ∷ two)
  alike_ended conn one two alike = record {
    conns = ap (without conn) alike.conns;
    done = alike.done;
    bytes = λ q. ap (λ xs. if conn == q then [] else xs) (alike.bytes q);
  }

  -- a connection that is kept is read alike
  read_alike : (conn : ℕ) (piece : List ℕ) (one two : History) → Alike read other one two → IsRightAt read conn piece one → IsRightAt other conn piece two
      → contains conn (kept read one) ≡ true → read_with read conn piece one ≡ read_with other conn piece two
  read_alike conn piece one two alike right right_too held =
      unique (bytes_since conn one ++ piece) (read_with read conn piece one) (read_with other conn piece two) (right held)
      (subst (λ xs. Reads (xs ++ piece) (read_with other conn piece two)) (sym (alike.bytes conn)) (right_too (ap (contains conn) (sym alike.conns) ∙ held)))

  alike_piece : (conn : ℕ) (piece : List ℕ) (one two : History) → Alike read other one two → IsRightAt read conn piece one → IsRightAt other conn piece two
      → Alike read other (Piece conn piece ∷ one) (Piece conn piece ∷ two)
  alike_piece conn piece one two alike right right_too = record {
    conns = elim (told (contains conn (kept read one))) [
      | inl held ↦
          ap (λ r. kept_on conn r (kept read one)) (read_alike conn piece one two alike right right_too held)
          ∙ ap (kept_on conn (read_with other conn piece two)) alike.conns
      | inr absent ↦
          kept_on-absent conn (read_with read conn piece one) (kept read one) absent ∙ alike.conns
          ∙ sym (kept_on-absent conn (read_with other conn piece two) (kept other two) (ap (contains conn) (sym alike.conns) ∙ absent))
    ];
    done = elim (told (contains conn (kept read one))) [
      | inl held ↦
          ap (λ r. completions read one ++ completed conn r (kept read one)) (read_alike conn piece one two alike right right_too held)
          ∙ ap (λ conns. completions read one ++ completed conn (read_with other conn piece two) conns) alike.conns
          ∙ ap (λ done. done ++ completed conn (read_with other conn piece two) (kept other two)) alike.done
      | inr absent ↦
          ap (λ added. completions read one ++ added) (completed-absent conn (read_with read conn piece one) (kept read one) absent)
          ∙ ap (λ done. done ++ []) alike.done
          ∙ sym (ap (λ added. completions other two ++ added) (completed-absent conn (read_with other conn piece two) (kept other two) (ap (contains conn) (sym alike.conns) ∙ absent)))
    ];
    bytes = λ q. ap (λ xs. xs ++ (if conn == q then piece else [])) (alike.bytes q);
  }

  pub alike_onward : (later one two : History) → Alike read other one two → IsRight read (later ++ one) → IsRight other (later ++ two)
      → Alike read other (later ++ one) (later ++ two)
  alike_onward [] one two alike right right_too = alike
  alike_onward (Started conn ∷ later) one two alike right right_too =
      alike_started conn (later ++ one) (later ++ two) (alike_onward later one two alike right right_too)
  alike_onward (Piece conn piece ∷ later) one two alike right right_too =
      alike_piece conn piece (later ++ one) (later ++ two) (alike_onward later one two alike right.0 right_too.0) right.1 right_too.1
  alike_onward (Ended conn ∷ later) one two alike right right_too =
      alike_ended conn (later ++ one) (later ++ two) (alike_onward later one two alike right right_too)

  pub alike_all : (events : History) → IsRight read events → IsRight other events → Alike read other events events
  alike_all [] right right_too = record { conns = refl; done = refl; bytes = λ q. refl }
  alike_all (Started conn ∷ past) right right_too = alike_started conn past past (alike_all past right right_too)
  alike_all (Piece conn piece ∷ past) right right_too = alike_piece conn piece past past (alike_all past right.0 right_too.0) right.1 right_too.1
  alike_all (Ended conn ∷ past) right right_too = alike_ended conn past past (alike_all past right right_too)

  -- what is not started while it is kept, for one reader, is not for the other
  pub orderly_too : (events : History) → IsRight read events → IsRight other events → IsOrderly other events → IsOrderly read events
  orderly_too [] right right_too orderly = tt
  orderly_too (Started conn ∷ past) right right_too orderly =
      (orderly_too past right right_too orderly.0, ap (contains conn) (alike_all past right right_too).conns ∙ orderly.1)
  orderly_too (Piece conn piece ∷ past) right right_too orderly = orderly_too past right.0 right_too.0 orderly
  orderly_too (Ended conn ∷ past) right right_too orderly = orderly_too past right right_too orderly

  -- ---- a piece that comes as two

  module _ (lasting : MoreBytesChangeNothing) (past : History) (conn : ℕ) (front back : List ℕ) (alike : Alike read other past past) where
    two : History
    two = Piece conn back ∷ Piece conn front ∷ past

    one : History
    one = Piece conn (front ++ back) ∷ past

    bytes_joined : (q : ℕ) → bytes_since q two ≡ bytes_since q one
    unfolding two one
    bytes_joined q =
        elim (told (conn == q)) [
          | inl same ↦ rw same (append_assoc (bytes_since q past) front back)
          | inr differs ↦ rw differs (append-nil _)
        ]

    bytes_here : (bytes_since conn (Piece conn front ∷ past)) ++ back ≡ bytes_since conn past ++ (front ++ back)
    bytes_here = ap (λ xs. (bytes_since conn past ++ xs) ++ back) (if-true (conn == conn) front [] (same_number conn conn refl)) ∙ append_assoc (bytes_since conn past) front back

    module _ (right_first : IsRightAt read conn front past) (right_second : IsRightAt read conn back (Piece conn front ∷ past))
        (right_whole : IsRightAt other conn (front ++ back) past) where
      absent : contains conn (kept read past) ≡ false → (kept read two ≡ kept other one) × (completions read two ≡ completions other one)
      unfolding two one
      absent none =
          let kept_first : kept read (Piece conn front ∷ past) ≡ kept read past = kept_on-absent conn (read_with read conn front past) (kept read past) none in
          let none_first : contains conn (kept read (Piece conn front ∷ past)) ≡ false = ap (contains conn) kept_first ∙ none in
          let none_other : contains conn (kept other past) ≡ false = ap (contains conn) (sym alike.conns) ∙ none in (
            kept_on-absent conn (read_with read conn back (Piece conn front ∷ past)) (kept read (Piece conn front ∷ past)) none_first
                ∙ kept_first ∙ alike.conns ∙ sym (kept_on-absent conn (read_with other conn (front ++ back) past) (kept other past) none_other),
            ap (λ added. completions read (Piece conn front ∷ past) ++ added) (completed-absent conn (read_with read conn back (Piece conn front ∷ past)) (kept read (Piece conn front ∷ past)) none_first)
                ∙ append-nil _
                ∙ ap (λ added. completions read past ++ added) (completed-absent conn (read_with read conn front past) (kept read past) none)
                ∙ ap (λ done. done ++ []) alike.done
                ∙ sym (ap (λ added. completions other past ++ added) (completed-absent conn (read_with other conn (front ++ back) past) (kept other past) none_other)),
          )

      -- the bytes so far are the beginning of a request
      going_on : contains conn (kept read past) ≡ true → is_more (read_with read conn front past) ≡ true
          → (kept read two ≡ kept other one) × (completions read two ≡ completions other one)
      unfolding two one
      going_on held more =
          let kept_first : kept read (Piece conn front ∷ past) ≡ kept read past = if-true (is_more (read_with read conn front past)) (kept read past) (without conn (kept read past)) more in
          let held_other : contains conn (kept other past) ≡ true = ap (contains conn) (sym alike.conns) ∙ held in
          let same : read_with read conn back (Piece conn front ∷ past) ≡ read_with other conn (front ++ back) past =
          unique (bytes_since conn past ++ (front ++ back)) _ _
          (subst (λ xs. Reads xs (read_with read conn back (Piece conn front ∷ past))) bytes_here (right_second (ap (contains conn) kept_first ∙ held))) (right_whole held_other) in (
            ap (λ conns. kept_on conn (read_with read conn back (Piece conn front ∷ past)) conns) (kept_first ∙ alike.conns)
                ∙ ap (λ r. kept_on conn r (kept other past)) same,
            ap (λ conns. completions read (Piece conn front ∷ past) ++ completed conn (read_with read conn back (Piece conn front ∷ past)) conns) (kept_first ∙ alike.conns)
                ∙ ap (λ r. completions read (Piece conn front ∷ past) ++ completed conn r (kept other past)) same
                ∙ ap (λ done. done ++ completed conn (read_with other conn (front ++ back) past) (kept other past))
                (ap (λ added. completions read past ++ added) (completed-more conn (read_with read conn front past) (kept read past) more) ∙ append-nil _ ∙ alike.done),
          )

      -- they are more than that: what comes behind them changes nothing
      done_already : contains conn (kept read past) ≡ true → is_more (read_with read conn front past) ≡ false
          → (kept read two ≡ kept other one) × (completions read two ≡ completions other one)
      unfolding two one
      done_already held over =
          let kept_first : kept read (Piece conn front ∷ past) ≡ without conn (kept read past) =
          if-false (is_more (read_with read conn front past)) (kept read past) (without conn (kept read past)) over in
          let none_first : contains conn (kept read (Piece conn front ∷ past)) ≡ false = ap (contains conn) kept_first ∙ absent_behind conn (kept read past) in
          let held_other : contains conn (kept other past) ≡ true = ap (contains conn) (sym alike.conns) ∙ held in
          let same : read_with other conn (front ++ back) past ≡ read_with read conn front past =
          unique (bytes_since conn past ++ (front ++ back)) _ _ (right_whole held_other)
          (subst (λ xs. Reads xs (read_with read conn front past)) (append_assoc (bytes_since conn past) front back)
          (lasting (bytes_since conn past ++ front) back (read_with read conn front past) (not_more _ over) (right_first held))) in (
            kept_on-absent conn (read_with read conn back (Piece conn front ∷ past)) (kept read (Piece conn front ∷ past)) none_first ∙ kept_first
                ∙ ap (without conn) alike.conns
                ∙ sym (if-false (is_more (read_with other conn (front ++ back) past)) (kept other past) (without conn (kept other past)) (ap is_more same ∙ over)),
            ap (λ added. completions read (Piece conn front ∷ past) ++ added) (completed-absent conn (read_with read conn back (Piece conn front ∷ past)) (kept read (Piece conn front ∷ past)) none_first)
                ∙ append-nil _
                ∙ ap (λ conns. completions read past ++ completed conn (read_with read conn front past) conns) alike.conns
                ∙ ap (λ r. completions read past ++ completed conn r (kept other past)) (sym same)
                ∙ ap (λ done. done ++ completed conn (read_with other conn (front ++ back) past) (kept other past)) alike.done,
          )

      pub alike_cut : Alike read other (Piece conn back ∷ Piece conn front ∷ past) (Piece conn (front ++ back) ∷ past)
      unfolding two one
      alike_cut =
          let both : (kept read two ≡ kept other one) × (completions read two ≡ completions other one) =
          elim (told (contains conn (kept read past))) [
            | inl held ↦ elim (told (is_more (read_with read conn front past))) [ inl more ↦ going_on held more | inr over ↦ done_already held over ]
            | inr none ↦ absent none
          ] in
          record { conns = both.0; done = both.1; bytes = bytes_joined }
