use Rattle.std.proofs.Common.{[], refl}
use Rattle.xml_tokens.proofs.Adding.{none_added, not_grown}
use Rattle.xml_tokens.proofs.TagReadings.{none_so_far, all_read}
use Rattle.xml_tokens.proofs.tags.attributes.Goals as goal

pub returns-then-begins_close-clause-grows : goal.returns-then-begins_close-clause-grows
returns-then-begins_close-clause-grows c = not_grown c.args.attributes.now.items

pub returns-then-begins_close-clause-reading : goal.returns-then-begins_close-clause-reading
returns-then-begins_close-clause-reading c =
    let whole = c.args.whole.now in
    rw none_added (all_read whole [] whole [] whole (none_so_far whole) refl refl
    (c.begins_close.ensures.white c.if-begins_close.true) (c.begins_close.ensures.name c.if-begins_close.true))
