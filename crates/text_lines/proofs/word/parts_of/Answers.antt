use Rattle.std.proofs.Common.{◌≡◌, ◌<◌, ◌-◌, ◌+◌, suc, drop, ℕ, List, Some, length, take, get_or, ap, sym, ◌∙◌, arith}
use Rattle.std.proofs.lemmas.Str.{IsCharBoundary-after_ascii}
use Rattle.text_lines.specs.Words.{Parts}
use Rattle.text_lines.proofs.Lining.{cut_parts, whole_part}
use Rattle.text_lines.proofs.word.parts_of.Goals as goal

pub range_from-requires : goal.range_from-requires
range_from-requires c =
    let same = c.as_bytes-byte-items.ensures.value in
    let within : c.loop-i.i < length c.args.line.now = omega (arith, ap length same, c.loop-i-test.true) in
    let space : get_or c.args.line.now c.loop-i.i 0 ≡ 32 = ap (λ xs. get_or xs c.loop-i.i 0) (sym same) ∙ c.if-byte-eq32.true in
    λ some. IsCharBoundary-after_ascii c.args.line.now c.loop-i.i c.utf8.line within (omega (arith, space))

pub returns-then-byte-eq32 : goal.returns-then-byte-eq32
returns-then-byte-eq32 c =
    let same = c.as_bytes-byte-items.ensures.value in
    let within : c.loop-i.i < length c.args.line.now = omega (arith, ap length same, c.loop-i-test.true) in
    let space : get_or c.args.line.now c.loop-i.i 0 ≡ 32 = ap (λ xs. get_or xs c.loop-i.i 0) (sym same) ∙ c.if-byte-eq32.true in
    let front : c.range.result.now ≡ take c.loop-i.i c.args.line.now = c.range.ensures.value ∙ ap (λ n. take n c.args.line.now) (let z : c.loop-i.i - 0 ≡ c.loop-i.i = omega arith in z) in
    let made : List ℕ → List ℕ → Parts = λ xs ys. record { first = xs; rest = Some ys } in
    ap (λ xs. made xs c.range_from.result.now) front
    ∙ ap (λ xs. made (take c.loop-i.i c.args.line.now) xs) c.range_from.ensures.value
    ∙ ap (λ n. made (take c.loop-i.i c.args.line.now) (drop n c.args.line.now)) (let s : c.loop-i.i + 1 ≡ suc c.loop-i.i = omega arith in s)
    ∙ sym (cut_parts c.args.line.now c.loop-i.i within c.loop-i.invariant space)

pub returns : goal.returns
returns c =
    let same = c.as_bytes-byte-items.ensures.value in
    sym (whole_part c.args.line.now (λ k h. c.loop-i.invariant k (omega (arith, ap length same, c.loop-i-test.false))))
