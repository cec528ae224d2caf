use Rattle.std.proofs.Common.{rules, ◌≡◌, ◌+◌, List, Option, ℕ, [], ◌∷◌, ◌++◌, true, false, drop, sym, ap, ◌∙◌}
use Rattle.std.specs.Prelude.{option_copied}
use Rattle.std.specs.List.{list_any}
use Rattle.std.specs.Str.{bytes_eq}
use Rattle.logout_turns.specs.declared.turns.Turn.{Turn}
use Rattle.logout_fanout.specs.Plan.{can_be_asked, turn_of}
use Rattle.logout_fanout.proofs.Plans.{left_turns, not_asked, has_one, gets_one, none_left}
use Rattle.logout_fanout.proofs.plan.turns_of.Goals as goal
use Rattle.logout_fanout.proofs.plan.turns_of.Goals.{then-can_be_asked+then-not-has_turn+in_ok-copy+in_ok-copy-2+in_ok-indexes_of+in_ok-push, else-can_be_asked, else-can_be_asked-via-then-can_be_asked+else-not-has_turn, else-can_be_asked-via-else-can_be_asked}

pub loop-part-preserved : goal.loop-part-preserved
loop-part-preserved c =
    let asker : Option (List ℕ) = option_copied c.args.asker in
    let peers = c.args.peers.now in
    let all = c.args.parts.now in
    let i = c.loop-part.part-index in
    let part = c.part-item.result in
    let made = c.loop-part.turns in
    let after : List Turn → List Turn = λ (m : List Turn). m ++ left_turns asker peers all m (drop (i + 1) all) in
    c.loop-part.invariant ∙ elim c.if-can_be_asked.branch [
      | then-can_be_asked+then-not-has_turn+in_ok-copy+in_ok-copy-2+in_ok-indexes_of+in_ok-push w ↦
          let now : can_be_asked asker peers part ≡ true = search rules in
          let new : list_any (λ (turn : Turn). bytes_eq turn.peer part.peer) made ≡ false =
          ap (list_any (λ (turn : Turn). bytes_eq turn.peer part.peer)) (sym w.as_slice.ensures) ∙ sym w.has_turn.ensures ∙ w.if-not-has_turn.true in
          let more : c.if-can_be_asked.turns ≡ made ++ turn_of all part ∷ [] =
          w.turns-is ∙ w.in_ok-push.ensures.ok
          ∙ λ j. made ++ record { peer = w.in_ok-copy.ensures j; name = w.in_ok-copy-2.ensures j; indexes = w.in_ok-indexes_of.ensures j } ∷ [] in
          gets_one asker peers all made i part c.loop-part-test.true c.part-item.is now new c.if-can_be_asked.turns more
      | else-can_be_asked w ↦
          ap (λ l. made ++ l) (elim w.else-can_be_asked.branch [
            | else-can_be_asked-via-then-can_be_asked+else-not-has_turn v ↦
                let now : can_be_asked asker peers part ≡ true = search rules in
                let known : list_any (λ (turn : Turn). bytes_eq turn.peer part.peer) made ≡ true =
                ap (list_any (λ (turn : Turn). bytes_eq turn.peer part.peer)) (sym v.as_slice.ensures) ∙ sym v.has_turn.ensures ∙ v.if-not-has_turn.false in
                has_one asker peers all made i part c.loop-part-test.true c.part-item.is now known
            | else-can_be_asked-via-else-can_be_asked v ↦
                let not_now : can_be_asked asker peers part ≡ false = search rules in
                not_asked asker peers all made i part c.loop-part-test.true c.part-item.is not_now
          ]) ∙ ap after (sym w.turns-is)
    ]

pub returns : goal.returns
returns c =
    sym (c.loop-part.invariant
    ∙ none_left (option_copied c.args.asker) c.args.peers.now c.args.parts.now c.loop-part.turns c.loop-part.part-index c.loop-part-test.false)
