-- One more write appends what it took of the rest; one that was interrupted appends nothing.
use Rattle.std.proofs.Common.{◌≡◌, ℕ, ◌+◌, ◌-◌, ◌≤◌, List, ◌++◌, arith, length, take, drop, sym, ap, ◌∙◌, subst, length-drop}
use Rattle.std.proofs.lemmas.List.{take_rest}
use Rattle.std.specs.Io.KnownBytes.{Appends}
use Rattle.std.proofs.KnownBytes.{Appends-trans, Appends-kept}
use lib.Seq.{take-add}
use Rattle.socket_table.proofs.streams.put.Goals as goal
use Rattle.socket_table.proofs.streams.put.Goals.{in-Ok, in-Err+else-eq+else-ne}

-- the part of the piece from `sent` on, as the slice has it
abbrev rest_of : List ℕ → ℕ → List ℕ
rest_of piece sent = take (length piece - sent) (drop sent piece)

front_grows : (piece : List ℕ) (sent n : ℕ) → take sent piece ++ take n (rest_of piece sent) ≡ take (sent + n) piece
front_grows piece sent n = ap (λ l. take sent piece ++ take n l) (take_rest piece sent) ∙ sym (take-add sent n piece)

stays_within : (piece : List ℕ) (sent n : ℕ) → sent ≤ length piece → n ≤ length (rest_of piece sent) → sent + n ≤ length piece
stays_within piece sent n h fits =
    let left : n ≤ length piece - sent = subst (λ k. n ≤ k) (ap length (take_rest piece sent) ∙ length-drop sent piece) fits in
    omega arith

pub loop-preserved : goal.loop-preserved
loop-preserved g c =
    let piece = c.args.bytes.now in
    let old = g.S.Write.contents c.args.stream.now in
    let before = g.S.Write.contents c.loop.stream in
    let after = g.S.Write.contents c.write.new.self in
    let (within, appended) = c.loop.invariant in
    elim c.match-write.branch [
      | in-Ok w ↦
          let n = w.in-Ok.more in
          let more = Appends-trans old before after _ _ appended w.in-Ok.ensures.bytes in (
            subst (λ k. k ≤ length piece) (sym w.count-is) (stays_within piece c.loop.count n within w.in-Ok.ensures.bound),
            subst (λ k. Appends old after (take k piece)) (sym w.count-is) (subst (Appends old after) (front_grows piece c.loop.count n) more),
          )
      | in-Err+else-eq+else-ne w ↦
          let kept = Appends-kept old before after _ appended w.in-Err.ensures.bytes in
          (subst (λ k. k ≤ length piece) (sym w.count-is) within, subst (λ k. Appends old after (take k piece)) (sym w.count-is) kept)
    ]
