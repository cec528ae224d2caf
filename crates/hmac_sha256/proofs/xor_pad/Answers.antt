use Rattle.std.proofs.Common.{bit_xor, arith}
use Rattle.hmac_sha256.proofs.Bytes.{map_from_reads}
use Rattle.hmac_sha256.proofs.xor_pad.Goals as goal

pub returns : goal.returns
returns c =
    map_from_reads (λ b. bit_xor b c.args.pad) 64 _ _ c.told-block c.loop-byte.invariant.0
    (λ k h. c.loop-byte.invariant.1 k (omega arith))
