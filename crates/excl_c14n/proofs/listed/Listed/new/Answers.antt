use Rattle.std.proofs.Common.{ap, ◌∙◌}
use Rattle.xml_spec.specs.Canonical.{listed_prefix}
use Rattle.excl_c14n.proofs.Listing.{one_more_listed}
use Rattle.excl_c14n.proofs.listed.Listed.new.Goals as goal

pub loop-i-preserved : goal.loop-i-preserved
loop-i-preserved c =
    one_more_listed c.args.tokens.now c.loop-i.i c.at.result.now c.prefix_of_token.result.now c.loop-i.prefixes c.declare.new.self
    c.at.ensures (c.prefix_of_token.ensures ∙ ap listed_prefix c.as_str.ensures) c.in_ok-declare.ensures.ok
    c.loop-i.invariant
