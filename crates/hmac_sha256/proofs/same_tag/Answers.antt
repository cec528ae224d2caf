use Rattle.std.proofs.Common.{bit_xor, get_or, ap, arith, below_more}
use Rattle.std.proofs.lemmas.Bool.{eq-eqb, eqb-true}
use Rattle.std.proofs.lemmas.List.{ext_get_or}
use Rattle.hmac_sha256.proofs.Bytes.{left_from_or, right_from_or, same_from_xor, or_of_zeros, xor_of_same}
use Rattle.hmac_sha256.proofs.same_tag.Goals as goal

pub loop-i-preserved : goal.loop-i-preserved
loop-i-preserved c =
    let left = get_or c.args.a.now c.loop-i.i 0 in
    let right = get_or c.args.b.now c.loop-i.i 0 in (
      λ none. below_more _ _
          (c.loop-i.invariant.0 (left_from_or c.loop-i.difference (bit_xor left right) none))
          (same_from_xor left right (right_from_or c.loop-i.difference (bit_xor left right) none)),
      λ same.
          or_of_zeros c.loop-i.difference (bit_xor left right)
          (c.loop-i.invariant.1 (λ k h. same k (omega arith)))
          (xor_of_same left right (same c.loop-i.i (omega arith))),
    )

pub returns : goal.returns
returns c = (
  λ t. ext_get_or 0 _ _ (omega arith)
      (λ k h. c.loop-i.invariant.0 (eqb-true _ _ t) k (omega arith)),
  λ e. eq-eqb _ _ (c.loop-i.invariant.1 (λ k h. ap (λ xs. get_or xs k 0) e)),
)
