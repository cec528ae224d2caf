use Rattle.xml_tokens.proofs.Decoding.{blank_next, next_of}
use Rattle.xml_tokens.proofs.value.next_character.Goals as goal

pub returns-in-Some : goal.returns-in-Some
returns-in-Some c = blank_next c.args.at.now c.in-Some.behind.now c.in-Some.ensures

pub returns : goal.returns
returns c =
    next_of c.args.at.now c.reference.result c.requires.references c.requires.stops c.in_default.ensures c.reference.ensures
