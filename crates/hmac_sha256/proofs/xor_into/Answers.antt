use Rattle.std.proofs.Common.{arith}
use Rattle.hmac_sha256.proofs.Bytes.{xor_bytes_from_reads}
use Rattle.hmac_sha256.proofs.xor_into.Goals as goal

pub returns : goal.returns
returns c =
    xor_bytes_from_reads 32 _ _ _ c.told-sum c.told-other c.loop-i.invariant.0
    (λ k h. c.loop-i.invariant.1 k (omega arith))
