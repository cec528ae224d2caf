use Rattle.std.proofs.Common.{true, false, subst}
use Rattle.http_wire.specs.Views.{request_view}
use Rattle.identity_hub.specs.Config.{IsUsable}
use Rattle.identity_hub.proofs.Forms.{asks_below}
use Rattle.identity_hub.proofs.role.HubRole.reply_to.Goals as goal

pub returns-then-passive : goal.returns-then-passive
returns-then-passive c =
    let usable = subst IsUsable c.self.view_is c.self.invariant in
    asks_below true c.args.self.now (request_view c.args.request.now) c.args.now c.in_ok-below.below c.args.asked
    c.the_texts_of_a_request_are_texts.ensures usable.peers c.requires.route c.requires.asked c.in_ok-below.ensures
    c.if-passive.true (c.each_moment_is_told.ensures.one c.args.now c.requires.moment)

pub returns-else-passive : goal.returns-else-passive
returns-else-passive c =
    let usable = subst IsUsable c.self.view_is c.self.invariant in
    asks_below false c.args.self.now (request_view c.args.request.now) c.args.now c.in_ok-below.below c.args.asked
    c.the_texts_of_a_request_are_texts.ensures usable.peers c.requires.route c.requires.asked c.in_ok-below.ensures
    c.if-passive.false (c.each_moment_is_told.ensures.one c.args.now c.requires.moment)
