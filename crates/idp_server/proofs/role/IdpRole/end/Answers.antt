use Rattle.std.specs.Prelude.{Some, slice_get}
use Rattle.std.proofs.Common.{◌≡◌, ◌∙◌, List, ℕ, inr, sym, subst, ap}
use Rattle.std.specs.List.{AllByRecursion}
use Rattle.xml_spec.specs.Characters.{IsText}
use Rattle.http_wire.specs.Views.{request_view}
use Rattle.logout_turns.specs.declared.part.Asker.{Asker}
use Rattle.idp_rules.specs.Config.{IsTextPeer, IsUsable}
use Rattle.idp_rules.specs.declared.config.IdpConfig.{IdpConfig}
use Rattle.idp_server.specs.Rounds.{asks_others}
use Rattle.idp_server.specs.Step.{ending_by}
use Rattle.idp_server.proofs.Asking.{asked_for_some, ending_live}
use Rattle.idp_server.proofs.Sessions.{all_at}
use Rattle.idp_server.proofs.Telling.{asks_by}
use Rattle.idp_server.proofs.role.IdpRole.end.Goals as goal

pub returns-in-Some : goal.returns-in-Some
returns-in-Some c =
    let setup = c.args.self.now in
    let held = c.args.ledger.now.held in
    let usable = subst IsUsable c.self.view_is c.self.invariant in
    let name = c.in_ok-name.name in
    let peer = c.at.result.now in
    let asker : Asker = record { peer = name; request = c.args.asked.id; relay = c.args.relay } in
    let there = subst (λ (s : IdpConfig). slice_get s.peers c.args.peer ≡ Some peer) c.self.view_is c.at.ensures in
    let by = rw c.in-Some.is at c.in_ok-reply.ensures in
    let cookies = ending_by held c.args.now name c.args.asked in
    asks_by setup held (request_view c.args.request.now) c.args.now (Some asker) cookies c.in-Some.reply
    (inr (record {
      to = c.requires.route;
      asked = c.args.asked;
      peer = peer;
      relay = c.args.relay;
      asks = record { place = c.args.peer; there = there; obeyed = c.requires.obeyed };
      cookies_are = ap (λ (n : List ℕ). ending_by held c.args.now n c.args.asked) c.in_ok-name.ensures;
      some = asked_for_some setup held (Some asker) cookies by.asks;
      asker_is =
          ap (λ (n : List ℕ). Some (record { peer = n; request = c.args.asked.id; relay = c.args.relay }))
          c.in_ok-name.ensures;
    })) (ending_live held c.args.now name c.args.asked) (
      subst IsText (sym c.in_ok-name.ensures) (all_at IsTextPeer setup.peers c.args.peer peer usable.peers
          there).entity,
      c.what_an_obeyed_form_says.ensures.id _ _ _ _ _ _ c.args.asked c.args.peer c.args.relay c.requires.obeyed,
    ) usable.peers (c.each_moment_is_told.ensures.assertion c.args.now c.args.now c.requires.moment c.requires.moment)
    by

pub returns : goal.returns
returns c =
    let setup = c.args.self.now in
    let held = c.args.ledger.now.held in
    let none = rw c.in_default.is at c.in_ok-reply.ensures in
    let peer = c.at.result.now in
    record {
      to = c.requires.route;
      obeyed = c.requires.obeyed;
      peer = peer;
      there = subst (λ (s : IdpConfig). slice_get s.peers c.args.peer ≡ Some peer) c.self.view_is c.at.ensures;
      name_is = c.in_ok-name.ensures;
      alone =
          ap (λ (n : List ℕ). asks_others setup held (Some
          (record { peer = n; request = c.args.asked.id; relay = c.args.relay }))
          (ending_by held c.args.now c.in_ok-name.name c.args.asked)) (sym c.in_ok-name.ensures) ∙ none;
      id_text =
          c.what_an_obeyed_form_says.ensures.id _ _ _ _ _ _ c.args.asked c.args.peer c.args.relay c.requires.obeyed;
      peers = subst (λ (s : IdpConfig). AllByRecursion IsTextPeer s.peers) c.self.view_is c.self.invariant.peers;
      told = c.each_moment_is_told.ensures.one c.args.now c.requires.moment;
    }
