-- One more read puts what it gave behind what lies in front; one that was interrupted gave nothing.
use Rattle.std.proofs.Common.{◌≡◌, ℕ, ◌+◌, ◌-◌, ◌≤◌, List, ◌++◌, rules, length, take, sym, ap, ◌∙◌, subst, le_refl, drop_at, length-take-le}
use Rattle.std.proofs.lemmas.Slice.{take-put_mid_below}
use Rattle.std.specs.Io.KnownBytes.{Consumes}
use Rattle.std.proofs.KnownBytes.{Consumes-trans, Consumes-kept}
use borrow.Rule.Slice.PartMut.{put_mid, post_of}
use lib.Seq.{take-add, take-append-le}
use Rattle.socket_table.proofs.streams.hear.Goals as goal
use Rattle.socket_table.proofs.streams.hear.Goals.{in-Ok, in-Err+else-eq+else-ne}

-- what lies in front of xs, and the first n of ys, which were put behind it
front_grows : (a k n : ℕ) (xs ys : List ℕ) → a ≤ length xs → n ≤ length ys → take a xs ++ take n ys ≡ take (a + n) (put_mid a k xs ys)
front_grows a k n xs ys within fits =
    let behind = drop_at (take a xs) (ys ++ post_of a k xs) a (length-take-le a xs within) in
    ap (λ l. l ++ take n ys) (sym (take-put_mid_below a k xs ys a (le_refl a) within))
    ∙ ap (λ l. take a (put_mid a k xs ys) ++ l) (sym (take-append-le n ys (post_of a k xs) fits) ∙ ap (take n) (sym behind))
    ∙ sym (take-add a n (put_mid a k xs ys))

pub loop-preserved : goal.loop-preserved
loop-preserved g c =
    let from = c.loop.count in
    let xs = c.loop.into in
    let ys = c.read.new.buf in
    let room = length xs - from in
    let read = put_mid from room xs ys in
    let old = g.S.Read.remaining c.args.stream.now in
    let before = g.S.Read.remaining c.loop.stream in
    let after = g.S.Read.remaining c.read.new.self in
    let (within, consumed) = c.loop.invariant in
    elim c.match-read.branch [
      | in-Ok w ↦
          let more = w.in-Ok.more in
          let all = Consumes-trans old before after _ _ consumed w.in-Ok.ensures.bytes.0 in
          let front = front_grows from room more xs ys within w.in-Ok.ensures.bound.0 in
          (search rules, subst (λ k. Consumes old after (take k read)) (sym w.count-is) (subst (Consumes old after) front all))
      | in-Err+else-eq+else-ne w ↦
          let kept = Consumes-kept old before after _ consumed w.in-Err.ensures.bytes in
          let front = sym (take-put_mid_below from room xs ys from (le_refl from) within) in
          (search rules, subst (λ k. Consumes old after (take k read)) (sym w.count-is) (subst (Consumes old after) front kept))
    ]
