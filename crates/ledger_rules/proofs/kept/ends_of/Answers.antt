use Rattle.std.proofs.Common.{◌≡◌, suc, ◌-◌, ◌<◌, length, get_or, Some, sym, ap, ◌∙◌, subst, arith}
use Rattle.std.proofs.lemmas.List.{get_or_default}
use Rattle.ledger_rules.specs.Kept.{next_of, along}
use Rattle.ledger_rules.proofs.Links.{next_linked, linked_next}
use Rattle.ledger_rules.proofs.Ends.{more_followed, followed_back, followed_none, all_followed}
use Rattle.ledger_rules.proofs.kept.ends_of.Goals as goal
use Rattle.ledger_rules.proofs.kept.ends_of.Goals.{then-place-next, else-place-next, then-next-place, else-next-place}

pub loop-place-preserved : goal.loop-place-preserved
loop-place-preserved c =
    let links = c.args.links.now in
    let ends = c.loop-place.ends.items in
    let place = c.loop-place.place - 1 in
    let next = c.next_of-next.result in
    let is : next ≡ next_of links place = c.next_of-next.ensures.next in
    let are = c.loop-place.invariant in
    let inside : place < length links = omega arith in
    let least : c.loop-place.place ≡ suc place = omega arith in
    elim c.if-place-next.branch [
      | then-place-next w ↦
          let less = w.if-place-next.true in
          let small = c.next_of-next.ensures.within in
          let end : c.if-place-next.end ≡ get_or ends next 0 =
          w.end-is ∙ w.index.ensures ∙ get_or_default ends next w.index.result.now 0 (omega (arith, are.long)) in
          let led = are.led next (omega arith) small in
          more_followed links ends place inside c.loop-place.place least are c.if-place-next.end
          (subst (λ e. e < length links) (sym end) (are.within next (omega arith) small))
          (suc led.0, end ∙ led.1 ∙ ap (along links led.0) is)
          (λ l link further. end ∙ ap (λ j. get_or ends j 0) (is ∙ next_linked links place l link))
      | else-place-next w ↦
          let not = w.if-place-next.false in
          more_followed links ends place inside c.loop-place.place least are c.if-place-next.end (omega (arith, w.end-is)) (0, w.end-is)
          (λ l link further. absurd (omega (arith, is, next_linked links place l link)))
    ]

pub loop-place-2-preserved : goal.loop-place-2-preserved
loop-place-2-preserved c =
    let links = c.args.links.now in
    let ends = c.loop-place-2.ends.items in
    let place = c.loop-place-2.place in
    let next = c.next_of-next-in-loop-place-2.result in
    let is : next ≡ next_of links place = c.next_of-next-in-loop-place-2.ensures.next in
    let are = c.loop-place-2.invariant in
    let inside : place < length links = omega arith in
    elim c.if-next-place.branch [
      | then-next-place w ↦
          let less = w.if-next-place.true in
          let small = c.next_of-next-in-loop-place-2.ensures.within in
          let link = linked_next links place (λ same. omega (arith, is, same)) ∙ ap Some (sym is) in
          let end = w.index-then-next-place.ensures ∙ get_or_default ends next w.index-then-next-place.result.now 0 (omega (arith, are.long)) in
          rw (w.ends-is, end) (followed_back links ends place inside c.requires.ordered are next link less)
      | else-next-place w ↦
          rw w.ends-is
          (followed_none links ends place inside are
          (λ l link less. absurd (omega (arith, w.if-next-place.false, is, next_linked links place l link))))
    ]

pub returns : goal.returns
returns c = all_followed c.args.links.now c.loop-place-2.ends.items c.loop-place-2.place c.requires.ordered c.loop-place-2.invariant (omega arith)
