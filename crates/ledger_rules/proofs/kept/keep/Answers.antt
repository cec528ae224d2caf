use Rattle.std.proofs.Common.{◌≡◌, ◌<◌, length, get_or, sym, subst, ◌∙◌, arith}
use Rattle.std.proofs.lemmas.List.{get_or_default}
use Rattle.ledger_rules.proofs.Groups.{marks_seen, marks_unseen, marks_flags}
use Rattle.ledger_rules.proofs.kept.keep.Goals as goal
use Rattle.ledger_rules.proofs.kept.keep.Goals.{then-is_seen, else-is_seen}

pub loop-place-preserved : goal.loop-place-preserved
loop-place-preserved c =
    let links = c.args.links.now in
    let seen = c.args.seen.now in
    let ends = c.in_ok-ends.ends.items in
    let place = c.loop-place.place in
    let are = c.in_ok-ends.ensures in
    let same = c.requires.long in
    elim c.if-is_seen.branch [
      | then-is_seen w ↦
          let is : w.index.result.now ≡ get_or ends place 0 =
          w.index.ensures ∙ get_or_default ends place w.index.result.now 0 (omega (arith, are.long)) in
          rw w.groups-is
          (marks_seen links seen ends place c.loop-place.groups.items c.loop-place.invariant w.if-is_seen.true w.index.result.now is
          (subst (λ e. e < length links) (sym is) (are.within place (omega arith))))
      | else-is_seen w ↦
          rw w.groups-is (marks_unseen links seen ends place c.loop-place.groups.items c.loop-place.invariant w.if-is_seen.false)
    ]

pub returns : goal.returns
returns c =
    marks_flags c.args.links.now c.args.seen.now c.in_ok-ends.ends.items c.loop-place.groups.items c.loop-place-2.flags.items
    c.in_ok-ends.ensures c.requires.long c.loop-place-2.invariant.marks c.loop-place-2.invariant.long
    (λ k inside. c.loop-place-2.invariant.each k (omega arith))
