use Rattle.std.proofs.Common.{◌≡◌, map, bit_xor, ap, ◌∙◌, append-nil}
use Rattle.hmac_sha256.specs.Hmac.{inner_key, outer_key}
use Rattle.hmac_sha256.specs.Running.{IsMac}
use Rattle.hmac_sha256.proofs.Mac.new.Goals as goal

pub returns : goal.returns
unfolding IsMac
returns c =
    let inner : c.xor_pad.result ≡ inner_key c.args.key.now =
    c.xor_pad.ensures ∙ ap (map (λ b. bit_xor b 0x36)) c.block_key-block.ensures in
    let outer : c.xor_pad-2.result ≡ outer_key c.args.key.now =
    c.xor_pad-2.ensures ∙ ap (map (λ b. bit_xor b 0x5c)) c.block_key-block.ensures in
    (rw (append-nil, ← inner) c.new_with_prefix.ensures, rw (← outer) c.new_with_prefix-2.ensures)
