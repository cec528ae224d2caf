use Rattle.xml_spec.specs.Syntax.{LessThan, GreaterThan, Ampersand, Apostrophe, QuotationMark}
use Rattle.xml_chars.proofs.ReferenceKinds.{entity_read}
use Rattle.xml_chars.proofs.references.entity.Goals as goal

pub returns-then-starts_with : goal.returns-then-starts_with
returns-then-starts_with c = entity_read LessThan c.args.bytes.now c.starts_with.result tt c.starts_with.ensures.value c.if-starts_with.true

pub returns-then-starts_with-2 : goal.returns-then-starts_with-2
returns-then-starts_with-2 c = entity_read GreaterThan c.args.bytes.now c.starts_with-else-starts_with.result tt c.starts_with-else-starts_with.ensures.value c.if-starts_with-2.true

pub returns-then-starts_with-3 : goal.returns-then-starts_with-3
returns-then-starts_with-3 c = entity_read Ampersand c.args.bytes.now c.starts_with-else-starts_with-2.result tt c.starts_with-else-starts_with-2.ensures.value c.if-starts_with-3.true

pub returns-then-starts_with-4 : goal.returns-then-starts_with-4
returns-then-starts_with-4 c = entity_read QuotationMark c.args.bytes.now c.starts_with-else-starts_with-3.result tt c.starts_with-else-starts_with-3.ensures.value c.if-starts_with-4.true

pub returns-then-starts_with-5 : goal.returns-then-starts_with-5
returns-then-starts_with-5 c = entity_read Apostrophe c.args.bytes.now c.starts_with-else-starts_with-4.result tt c.starts_with-else-starts_with-4.ensures.value c.if-starts_with-5.true
