use Rattle.std.specs.Prelude.{None, Some}
use Rattle.std.proofs.Common.{◌≡◌, ℕ, List, min, refl, sym, ap, ◌∙◌, arith}
use Rattle.http_wire.specs.Views.{request_view}
use Rattle.saml_time.specs.declared.TheConstants.{LAST}
use Rattle.peer_keys.specs.Peers.{place_of}
use Rattle.hub_ledger.specs.Finding.{routed_row, routed_view}
use Rattle.hub_ledger.specs.RowsOf.{rows_of}
use Rattle.identity_hub.specs.declared.config.HubConfig.{HubConfig}
use Rattle.identity_hub.proofs.Forms.{below_stands, no_peer, no_row, row_there}
use Rattle.identity_hub.proofs.role.HubRole.reply_login.Goals as goal

pub returns-in_default : goal.returns-in_default
returns-in_default c =
    let held = c.args.ledger.now.held in
    let request = request_view c.args.request.now in
    let none : routed_row (rows_of held.records) c.args.accepted.session.request c.args.now held.header.horizon ≡ None =
    ap (λ (id : List ℕ). routed_row (rows_of held.records) id c.args.now held.header.horizon) (sym c.as_str.ensures)
    ∙ sym c.in_default.ensures in
    no_row c.args.self.now held request c.args.now c.args.accepted c.requires.route c.requires.opens none

pub returns-in_default-place_of : goal.returns-in_default-place_of
returns-in_default-place_of c =
    let held = c.args.ledger.now.held in
    let request = request_view c.args.request.now in
    let row = routed_view c.in-Some.row in
    let found : routed_row (rows_of held.records) c.args.accepted.session.request c.args.now held.header.horizon ≡ Some
    row =
    ap (λ (id : List ℕ). routed_row (rows_of held.records) id c.args.now held.header.horizon) (sym c.as_str.ensures)
    ∙ sym c.in-Some.ensures in
    let none : place_of row.below.peer c.args.self.now.peers ≡ None =
    ap (λ (e : List ℕ). place_of e c.args.self.now.peers) (sym c.as_str-2.ensures)
    ∙ ap (λ (s : HubConfig). place_of c.as_str-2.result.now s.peers) (sym c.self.view_is)
    ∙ sym c.in_default-place_of.ensures.place in
    no_peer c.args.self.now held request c.args.now c.args.accepted row c.requires.route c.requires.opens found none

pub returns : goal.returns
returns c =
    let held = c.args.ledger.now.held in
    let row = routed_view c.in-Some.row in
    let found : routed_row (rows_of held.records) c.args.accepted.session.request c.args.now held.header.horizon ≡ Some
    row =
    ap (λ (id : List ℕ). routed_row (rows_of held.records) id c.args.now held.header.horizon) (sym c.as_str.ensures)
    ∙ sym c.in-Some.ensures in
    let known : place_of row.below.peer c.args.self.now.peers ≡ Some c.in-Some-place_of.peer =
    ap (λ (e : List ℕ). place_of e c.args.self.now.peers) (sym c.as_str-2.ensures)
    ∙ ap (λ (s : HubConfig). place_of c.as_str-2.result.now s.peers) (sym c.self.view_is)
    ∙ sym c.in-Some-place_of.ensures.place in
    let there =
    row_there c.self.inside.config c.args.self.now c.in-Some-place_of.peer c.self.view_is
    c.in-Some-place_of.ensures.there in
    record {
      to = c.requires.route;
      opens = c.requires.opens;
      recordable = c.requires.recordable;
      row = row;
      peer = there.0;
      is_for = record { found = found; place = c.in-Some-place_of.peer; known = known; there = there.1 };
      placed = refl;
      texts = below_stands c.what_is_recorded_may_stand.ensures.texts row.below
          (c.the_texts_of_a_routed_request_may_stand.ensures held c.as_str.result.now c.args.now row
          c.holds_records.ensures (sym c.in-Some.ensures));
      told = c.each_moment_is_told.ensures.assertion c.args.now (min LAST c.args.accepted.session.until)
          c.requires.moment (omega arith);
    }
