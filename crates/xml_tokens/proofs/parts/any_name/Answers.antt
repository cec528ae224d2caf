use Rattle.std.proofs.Common.{◌≡◌, true, false}
use Rattle.xml_spec.specs.Characters.{IsName}
use Rattle.xml_tokens.proofs.AttributeReadings.{no_name}
use Rattle.xml_tokens.proofs.parts.any_name.Goals as goal

pub returns-else-is_name : goal.returns-else-is_name
returns-else-is_name c =
    no_name c.args.rest.now c.split_run.result.0.now c.split_run.result.1.now c.split_run.ensures.split c.split_run.ensures.passes c.split_run.ensures.stops
    (λ (n : IsName c.split_run.result.0.now). let yes : c.is_name.result ≡ true = c.is_name.ensures.1 n in let no : c.is_name.result ≡ false = c.if-is_name.false in cc)
