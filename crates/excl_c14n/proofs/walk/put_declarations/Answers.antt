use Rattle.std.proofs.Common.{arith}
use Rattle.canon_octets.proofs.Appending.{on_err}
use Rattle.excl_c14n.proofs.Pairs.{there_at}
use Rattle.excl_c14n.proofs.Tags.{one_more_declared, one_declared_partly, all_declared}
use Rattle.excl_c14n.proofs.walk.put_declarations.Goals as goal

pub namespace_at-requires : goal.namespace_at-requires
namespace_at-requires g c =
    there_at c.args.doc.now.tree c.args.wanted.now c.loop-i.i c.prefix.result.now c.place.result c.requires (omega (arith, c.len-i-end.ensures)) c.place.ensures

pub loop-i-preserved : goal.loop-i-preserved
loop-i-preserved g c =
    one_more_declared c.args.doc.now.tree c.args.wanted.now c.loop-i.i c.prefix.result.now c.place.result c.namespace_at.result.now
    (omega (arith, c.len-i-end.ensures)) c.prefix.ensures c.place.ensures c.namespace_at.ensures
    g.met.O.Octets.composes c.args.out.now c.loop-i.out c.put_declaration.new.out c.loop-i.invariant c.in_ok-put_declaration.ensures.ok

pub returns-in_err-put_declaration-clause-err : goal.returns-in_err-put_declaration-clause-err
returns-in_err-put_declaration-clause-err g c =
    on_err c.from_residual.result
    (one_declared_partly c.args.doc.now.tree c.args.wanted.now c.loop-i.i c.prefix.result.now c.place.result c.namespace_at.result.now
    (omega (arith, c.len-i-end.ensures)) c.prefix.ensures c.place.ensures c.namespace_at.ensures
    g.met.O.Octets.composes c.args.out.now c.loop-i.out c.put_declaration.new.out c.loop-i.invariant c.in_err-put_declaration.ensures.err)

pub returns-clause-ok : goal.returns-clause-ok
returns-clause-ok g c =
    all_declared g.met.O.Octets.composes c.args.doc.now.tree c.args.wanted.now c.loop-i.i c.args.out.now c.loop-i.out
    (omega (arith, c.len-i-end.ensures)) c.loop-i.invariant
