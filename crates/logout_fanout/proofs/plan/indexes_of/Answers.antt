use Rattle.std.proofs.Common.{rules, ◌≡◌, ℕ, ◌+◌, List, ◌++◌, true, false, drop, sym, ap, ◌∙◌}
use Rattle.std.specs.Str.{bytes_eq}
use Rattle.logout_fanout.specs.Plan.{is_among, once_after}
use Rattle.logout_fanout.proofs.Plans.{listed, other_part, own_part, known_text, new_text, no_texts, none_listed}
use Rattle.logout_fanout.proofs.plan.indexes_of.Goals as goal
use Rattle.logout_fanout.proofs.plan.indexes_of.Goals.{then-eq+then-not-has+in_ok-found, else-eq, else-eq-via-then-eq+else-not-has, else-eq-via-else-eq}

pub loop-part-preserved : goal.loop-part-preserved
loop-part-preserved c =
    let peer = c.args.peer.now in
    let parts = c.args.parts.now in
    let i = c.loop-part.part-index in
    let part = c.part-item.result in
    let found = c.loop-part.found in
    let after : List (List ℕ) → List (List ℕ) → List (List ℕ) = λ (f : List (List ℕ)) (l : List (List ℕ)). f ++ once_after f l in
    let left = listed peer (drop (i + 1) parts) in
    c.loop-part.invariant ∙ elim c.if-eq.branch [
      | then-eq+then-not-has+in_ok-found w ↦
          let own : bytes_eq part.peer peer ≡ true = search rules in
          let new : is_among part.index found ≡ false = search rules in
          ap (after found) (own_part peer parts i part c.loop-part-test.true c.part-item.is own)
          ∙ new_text found part.index left new
          ∙ ap (λ f. after f left) (sym (w.found-is ∙ w.in_ok-found.ensures))
      | else-eq w ↦
          elim w.else-eq.branch [
            | else-eq-via-then-eq+else-not-has v ↦
                let own : bytes_eq part.peer peer ≡ true = search rules in
                let known : is_among part.index found ≡ true = search rules in
                ap (after found) (own_part peer parts i part c.loop-part-test.true c.part-item.is own)
                ∙ ap (λ l. found ++ l) (known_text found part.index left known)
            | else-eq-via-else-eq v ↦
                let other : bytes_eq part.peer peer ≡ false = search rules in
                ap (after found) (other_part peer parts i part c.loop-part-test.true c.part-item.is other)
          ] ∙ ap (λ f. after f left) (sym w.found-is)
    ]

pub returns : goal.returns
returns c =
    let found = c.loop-part.found in
    c.found-2.view_is
    ∙ sym (c.loop-part.invariant
    ∙ ap (λ l. found ++ once_after found l) (none_listed c.args.peer.now c.args.parts.now c.loop-part.part-index c.loop-part-test.false)
    ∙ no_texts found)
