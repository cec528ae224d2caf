use Rattle.std.proofs.Common.{arith}
use Rattle.httparse.specs.Spans.{IsRequestOf}
use Rattle.http_wire.proofs.Reading.{whole_head, of_complete}
use Rattle.http_wire.proofs.head.read_head.Goals as goal

pub returns : goal.returns
returns c =
    let bytes = c.args.bytes.now in
    let headers = c.parse_request.new.headers in
    let head = c.in-Ok-Complete.head in
    let found : IsRequestOf bytes headers head =
    of_complete (IsRequestOf bytes headers) c.in-Ok-Complete.field-0 head c.in-Ok-Complete.field-0-is c.in-Ok-Complete.ensures.complete in
    whole_head bytes headers head found.0 c.places_by.result _ _ found.1
    c.if-head-bytes.false (omega arith) c.in_ok-path.ensures.visible c.places_by.ensures.parts c.of.ensures c.in_ok-path.ensures.path
    c.places_by.ensures.within c.places_by.ensures.end
