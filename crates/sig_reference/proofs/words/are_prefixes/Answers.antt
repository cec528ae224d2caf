use Rattle.std.proofs.Common.{refl, subst}
use Rattle.sig_reference.specs.Form.{IsPrefix}
use Rattle.sig_reference.proofs.Parting.{all_behind}
use Rattle.sig_reference.proofs.words.are_prefixes.Goals as goal

pub loop-i-preserved : goal.loop-i-preserved
loop-i-preserved c =
    all_behind IsPrefix c.args.words.now c.loop-i.i c.at.result.now c.at.ensures
    (subst IsPrefix c.as_str.ensures (c.if-not-is_prefix.ensures.0 refl)) c.loop-i.invariant
