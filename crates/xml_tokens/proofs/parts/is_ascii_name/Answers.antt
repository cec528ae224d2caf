use Rattle.std.proofs.Common.{IsTrue, subst, arith}
use Rattle.xml_spec.specs.Characters.{IsName}
use Rattle.xml_tokens.proofs.AttributeReadings.{ascii_name_of}
use Rattle.xml_tokens.proofs.parts.is_ascii_name.Goals as goal

pub returns-in-len1-up : goal.returns-in-len1-up
returns-in-len1-up c =
    let bytes = c.as_bytes.result.now in
    λ (yes : IsTrue c.is_name_start_byte.result). subst IsName c.as_bytes.ensures.value
    (ascii_name_of bytes c.is_name_start_byte.result (omega arith) c.is_name_start_byte.ensures.ascii c.is_name_start_byte.ensures.starts yes
    (rw c.as_bytes.ensures.value c.requires.passes))
