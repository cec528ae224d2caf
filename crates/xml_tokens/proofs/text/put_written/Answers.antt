use Rattle.std.proofs.Common.{string_bytes}
use Rattle.xml_tokens.specs.Texts.{characters_of}
use Rattle.xml_tokens.proofs.Decoding.{on_err}
use Rattle.xml_tokens.proofs.TextParts.{part_put}
use Rattle.xml_tokens.proofs.text.put_written.Goals as goal

pub returns-in_err-put_part-clause-err : goal.returns-in_err-put_part-clause-err
returns-in_err-put_part-clause-err c =
    on_err c.from_residual.result _
    (part_put (characters_of c.args.written.now) (characters_of c.parts.rest.now) (string_bytes c.args.out.now) (string_bytes c.parts.out) _
    (characters_of c.in-Some.behind.now) (string_bytes c.put_part.new.out) c.parts.invariant.put c.in-Some.ensures.means c.in_err-put_part.ensures.err)
