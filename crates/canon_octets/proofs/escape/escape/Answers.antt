use Rattle.std.specs.List.{flat_map}
use Rattle.canon_octets.specs.Escapes.{escape_byte}
use Rattle.canon_octets.proofs.Appending.{on_err}
use Rattle.canon_octets.proofs.Underway.{further, broken_off}
use Rattle.canon_octets.proofs.Escaping.{run_first, reference_first}
use Rattle.canon_octets.proofs.escape.escape.Goals as goal

pub pieces-preserved-in-Some-reference : goal.pieces-preserved-in-Some-reference
pieces-preserved-in-Some-reference g c =
    let f = escape_byte c.args.place in
    further g.met.O.Octets.composes c.args.out.now c.pieces.out c.put.new.self c.in-Some-reference.name.now (flat_map f c.in-Some.behind.now) _ _
    (reference_first f c.pieces.rest.now c.in-Some.behind.now c.in-Some-reference.name.now c.in-Some.first.now c.in-Some.ensures.cases.0 c.in-Some-reference.ensures)
    c.pieces.invariant c.in_ok-put.ensures.ok

pub returns-in_err-put-clause-err : goal.returns-in_err-put-clause-err
returns-in_err-put-clause-err g c =
    let f = escape_byte c.args.place in
    on_err c.from_residual.result
    (broken_off g.met.O.Octets.composes c.args.out.now c.pieces.out c.put.new.self c.in-Some-reference.name.now (flat_map f c.in-Some.behind.now) _ _
    (reference_first f c.pieces.rest.now c.in-Some.behind.now c.in-Some-reference.name.now c.in-Some.first.now c.in-Some.ensures.cases.0 c.in-Some-reference.ensures)
    c.pieces.invariant c.in_err-put.ensures.err)

pub pieces-preserved : goal.pieces-preserved
pieces-preserved g c =
    let run = c.split_at.result.0.now in
    let more = c.split_at.result.1.now in
    further g.met.O.Octets.composes c.args.out.now c.pieces.out c.put-in_default-reference.new.self run (flat_map (escape_byte c.args.place) more) _ _
    (run_first c.args.place c.pieces.rest.now c.in-Some.behind.now run more c.in-Some.first.now c.kept_len.result c.in-Some.ensures.cases.0
    c.in_default-reference.ensures c.kept_len.ensures.passes c.split_at.ensures.front c.split_at.ensures.back)
    c.pieces.invariant c.in_ok-put-2.ensures.ok

pub returns-in_err-put-2-clause-err : goal.returns-in_err-put-2-clause-err
returns-in_err-put-2-clause-err g c =
    let run = c.split_at.result.0.now in
    let more = c.split_at.result.1.now in
    on_err c.from_residual-in_err-put-2.result
    (broken_off g.met.O.Octets.composes c.args.out.now c.pieces.out c.put-in_default-reference.new.self run (flat_map (escape_byte c.args.place) more) _ _
    (run_first c.args.place c.pieces.rest.now c.in-Some.behind.now run more c.in-Some.first.now c.kept_len.result c.in-Some.ensures.cases.0
    c.in_default-reference.ensures c.kept_len.ensures.passes c.split_at.ensures.front c.split_at.ensures.back)
    c.pieces.invariant c.in_err-put-2.ensures.err)
