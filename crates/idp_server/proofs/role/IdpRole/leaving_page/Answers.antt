use Rattle.std.specs.Prelude.{IfOk}
use Rattle.std.proofs.Common.{◌≡◌, sym, subst}
use Rattle.http_wire.specs.declared.answer.Answer.TheVariants.{Full}
use Rattle.idp_rules.specs.Config.{IsTextPeer}
use Rattle.idp_rules.specs.declared.config.IdpConfig.{IdpConfig}
use Rattle.idp_server.specs.Replies.{HasRequest, IsLeavingPage}
use Rattle.idp_server.proofs.Sessions.{all_at, some_text}
use Rattle.idp_server.proofs.Shown.{leaving_page_of, left_page_of}
use Rattle.idp_server.proofs.role.IdpRole.leaving_page.Goals as goal

pub returns-in_default : goal.returns-in_default
returns-in_default c =
    let config = c.self.inside.config in
    let setup_is : config ≡ c.args.self.now = c.self.view_is in
    subst (λ (s : IdpConfig). IfOk c.end_answer.result (λ bytes. IsLeavingPage s c.args.user.now c.args.index.now
    c.args.entry.now c.args.now (Full bytes))) setup_is
    (left_page_of config c.args.user.now c.args.index.now c.args.entry.now c.args.now c.peer.result.now
    c.end_answer.result
    (subst (λ (s : IdpConfig). HasRequest s c.args.user.now c.args.index.now c.args.entry.now) (sym setup_is)
    c.requires.shown) c.peer.ensures (sym c.in_default.ensures.place) c.end_answer.ensures)

pub leaving_answer-requires-clause-address : goal.leaving_answer-requires-clause-address
leaving_answer-requires-clause-address c =
    some_text c.at.result.now.peer.logout (all_at IsTextPeer c.self.inside.config.peers c.in-Some.place c.at.result.now
    c.self.invariant.peers c.at.ensures).logout

pub returns : goal.returns
returns c =
    let config = c.self.inside.config in
    let setup_is : config ≡ c.args.self.now = c.self.view_is in
    subst (λ (s : IdpConfig). IfOk c.leaving_answer.result
    (λ bytes. IsLeavingPage s c.args.user.now c.args.index.now c.args.entry.now c.args.now (Full bytes))) setup_is
    (leaving_page_of config c.args.user.now c.args.index.now c.args.entry.now c.args.now c.in-Some.place c.at.result.now
    c.first_id.result.now c.peer.result.now c.as_str.result.now
    c.as_str-2.result.now c.in_ok-indexes.indexes c.leaving_answer.result
    (subst (λ (s : IdpConfig). HasRequest s c.args.user.now c.args.index.now c.args.entry.now) (sym setup_is)
    c.requires.shown)
    (record {
      id_is = c.first_id.ensures;
      goes_is = c.peer.ensures;
      issuer_is = c.as_str.ensures;
      name_is = c.as_str-2.ensures;
      indexes_are = c.in_ok-indexes.ensures;
    }) (sym c.in-Some.ensures.place) c.at.ensures c.leaving_answer.ensures)
