use Rattle.std.proofs.Common.{◌≡◌, ap, ◌∙◌, ◌*◌, ◌%◌, ◌^◌}
use Rattle.rand_core.specs.Steps.{stream_of, steps_u32}
use Rattle.rand_core.specs.Stream.{fill_bytes}
use Rattle.rand_chacha.specs.ChaCha.{ChaCha, key_of, next_word}
use Rattle.saml_ids.specs.IdText.{number_of}
use Rattle.saml_ids.proofs.Making.{random_bytes-filled}
use Rattle.saml_ids.proofs.random_of.Goals as goal

pub returns : goal.returns
returns c =
    let start : ChaCha = record { key = key_of c.args.key.now; stream = number_of c.args.kind; word_pos = 16 * c.args.number % 2 ^ 68 } in
    let state : c.set_word_pos.new.self ≡ start = rw (c.set_word_pos.ensures, c.set_stream.ensures, c.from_seed-generator.ensures, c.stream.ensures, c.from.ensures) in
    ap (λ p. p.0) c.fill_bytes.ensures ∙ ap (λ (g : ChaCha). (fill_bytes 20 (stream_of (steps_u32 (next_word 10)) g)).0) state
    ∙ random_bytes-filled c.args.key.now c.args.kind c.args.number c.ranges.number.fits
