use Rattle.std.proofs.Common.{ℕ, List, sym, ◌∙◌, ap}
use Rattle.peer_keys.specs.Peers.{place_of}
use Rattle.idp_rules.specs.Views.{IsNoSender, elsewhere, unwanted}
use Rattle.idp_rules.proofs.Deciding.{handed_on, some_peer, peer_read}
use Rattle.idp_rules.proofs.judging.sender_of.Goals as goal

pub returns-in_err-ask-clause-refused : goal.returns-in_err-ask-clause-refused
returns-in_err-ask-clause-refused c =
    let known = sym (c.in-Some.ensures.place ∙ ap (λ (name : List ℕ). place_of name c.args.peers.now) c.as_str.ensures) in
    let peer = some_peer c.args.peers.now c.in-Some.place c.in-Some.ensures.there in
    handed_on (IsNoSender c.args.peers.now c.args.address.now c.args.signed c.args.request.now) c.from_residual.result c.in_err-ask.field-0.0 c.from_residual.ensures.1
    (elsewhere c.in-Some.place peer.0 known peer.1 (sym c.is_destination.ensures ∙ c.in_err-ask.ensures.err.1) c.in_err-ask.ensures.err.0)

pub returns-in_err-ask-2-clause-refused : goal.returns-in_err-ask-2-clause-refused
returns-in_err-ask-2-clause-refused c =
    let known = sym (c.in-Some.ensures.place ∙ ap (λ (name : List ℕ). place_of name c.args.peers.now) c.as_str.ensures) in
    let peer_is = peer_read c.args.peers.now c.in-Some.place c.index-peers-place.result c.in-Some.ensures.there c.index-peers-place.is in
    handed_on (IsNoSender c.args.peers.now c.args.address.now c.args.signed c.args.request.now) c.from_residual-in_err-ask-2.result c.in_err-ask-2.field-0.0
    c.from_residual-in_err-ask-2.ensures.1
    (unwanted c.in-Some.place c.index-peers-place.result known peer_is (sym c.is_destination.ensures ∙ c.in_ok-ask.ensures.ok)
    (sym c.is_wanted_at.ensures ∙ c.in_err-ask-2.ensures.err.1) c.in_err-ask-2.ensures.err.0)

pub returns-clause-ok : goal.returns-clause-ok
returns-clause-ok c = record {
  peer = c.index-peers-place.result;
  known = sym (c.in-Some.ensures.place ∙ ap (λ (name : List ℕ). place_of name c.args.peers.now) c.as_str.ensures);
  peer_is = peer_read c.args.peers.now c.in-Some.place c.index-peers-place.result c.in-Some.ensures.there c.index-peers-place.is;
  destination = sym c.is_destination.ensures ∙ c.in_ok-ask.ensures.ok;
  wanted = sym c.is_wanted_at.ensures ∙ c.in_ok-ask-2.ensures.ok;
}
