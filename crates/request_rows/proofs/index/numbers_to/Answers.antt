use Rattle.std.proofs.Common.{◌≡◌, ◌+◌, suc, ◌++◌, ◌∷◌, [], ap, sym, ◌∙◌, arith}
use Rattle.std.specs.List.{range_with_len}
use Rattle.request_rows.proofs.Adding.{range_push}
use Rattle.request_rows.proofs.index.numbers_to.Goals as goal

pub loop-number-preserved : goal.loop-number-preserved
loop-number-preserved c =
    let n = c.loop-number.number in
    let next : suc n ≡ n + 1 = omega arith in
    let same : 0 + n ≡ n = omega arith in
    c.in_ok-push.ensures.items ∙ ap (λ ns. ns ++ n ∷ []) c.loop-number.invariant
    ∙ ap (λ m. range_with_len 0 n ++ m ∷ []) (sym same) ∙ sym (range_push 0 n) ∙ ap (range_with_len 0) next
