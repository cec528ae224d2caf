-- What the definitions say of a few texts.
use Rattle.std.specs.Prelude.{◌≡◌, refl, codes, false, replicate}
use Rattle.std.specs.Int.{w64, to_be_bytes}
use Rattle.hex.specs.Hex.{encode_lower, encode_with}
use Rattle.rand_core.specs.Steps.{u32_at}
use Rattle.rand_chacha.specs.Block.{block_word, double_rounds, column_round, diagonal_round, quarter_round}
use Rattle.saml_ids.specs.Names.{is_lower_hex}
use Rattle.saml_ids.specs.IdText.{id_text, random_bytes}
use Rattle.saml_ids.specs.declared.Kind.TheVariants.{Request}

-- `F` is no lower hex digit
upper_is_no_digit : is_lower_hex 70 ≡ false
upper_is_no_digit = refl

-- 1000 has its leading zeros
thousand : encode_lower (to_be_bytes w64 1000) ≡ codes "00000000000003e8"
unfolding encode_with
thousand = refl

-- the first request under a key of bytes 0x33
first_request : id_text (replicate 32 51) Request 0 ≡ codes "_00000000000000007754de54ddddd532b3e7c6749833becb99ccfe46"
unfolding id_text random_bytes encode_with u32_at block_word double_rounds column_round diagonal_round quarter_round
first_request = refl
