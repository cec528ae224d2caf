use Rattle.std.specs.Prelude.{IfOk}
use Rattle.std.proofs.Common.{◌≡◌, sym, subst}
use Rattle.http_wire.specs.declared.answer.Answer.TheVariants.{Full}
use Rattle.idp_rules.specs.Config.{IsTextPeer}
use Rattle.idp_rules.specs.declared.config.IdpConfig.{IdpConfig}
use Rattle.idp_server.specs.Replies.{HasResponse, IsEndingPage}
use Rattle.idp_server.proofs.Sessions.{all_at, some_text}
use Rattle.idp_server.proofs.Shown.{ending_page_of}
use Rattle.idp_server.proofs.role.IdpRole.ending_page.Goals as goal

pub ending_answer-requires-clause-address : goal.ending_answer-requires-clause-address
ending_answer-requires-clause-address c =
    some_text c.at.result.now.peer.logout (all_at IsTextPeer c.self.inside.config.peers c.args.peer c.at.result.now
    c.self.invariant.peers c.at.ensures).logout

pub returns : goal.returns
returns c =
    let config = c.self.inside.config in
    let setup_is : config ≡ c.args.self.now = c.self.view_is in
    subst (λ (s : IdpConfig). IfOk c.ending_answer.result
    (λ bytes. IsEndingPage s c.args.peer c.args.relay.now c.args.entry.now c.args.now (Full bytes))) setup_is
    (ending_page_of config c.args.asked.now c.args.peer c.args.relay.now _ c.args.entry.now c.args.now c.at.result.now
    c.first_id.result.now c.as_str.result.now c.as_str-2.result.now
    c.is_partial.result c.ending_answer.result
    (subst (λ (s : IdpConfig). HasResponse s c.args.asked.now c.args.peer c.args.entry.now) (sym setup_is)
    c.requires.shown)
    (record {
      id_is = c.first_id.ensures;
      issuer_is = c.as_str.ensures;
      request_is = c.as_str-2.ensures;
      partial_is = c.is_partial.ensures;
    }) c.chars_if_any.ensures c.at.ensures c.ending_answer.ensures)
