use Rattle.std.specs.Prelude.{Some}
use Rattle.std.proofs.Common.{◌≡◌, List, ℕ, refl, sym, subst}
use Rattle.http_wire.specs.Views.{request_view}
use Rattle.idp_rows.specs.Finding.{session_found}
use Rattle.idp_rows.specs.RowsOf.{rows_of}
use Rattle.idp_server.proofs.MayStand.{session_stands}
use Rattle.idp_server.proofs.Sessions.{asks_for, used_session}
use Rattle.idp_server.proofs.role.IdpRole.reply_to.Goals as goal

pub returns-in-Some : goal.returns-in-Some
returns-in-Some c =
    let old = c.args.self.now in
    let row = c.in-Some.row.now in
    let request = request_view c.args.request.now in
    let used = used_session c.args.ledger.now.held c.args.asked.force request c.args.now row
    c.holds_records.ensures c.in-Some.ensures in
    let usable = c.has_usable_config.ensures in
    let asks =
    asks_for old request c.in_ok-ask.ask c.args.asked c.the_texts_of_a_request_are_texts.ensures usable.peers
    c.requires.route c.requires.asked c.in_ok-ask.ensures in
    record {
      asked = c.args.asked;
      peer = asks.0;
      asks = asks.1;
      placed = refl;
      row = row;
      used = sym c.in-Some.ensures;
      found =
          subst (λ (cookie : List ℕ). session_found (rows_of c.args.ledger.now.held.records).sessions cookie c.args.now
          c.args.ledger.now.held.header.horizon ≡ Some row)
          (sym c.in_ok-cookie.ensures) used.found;
      texts =
          session_stands c.what_is_recorded_may_stand.ensures.texts c.what_is_recorded_may_stand.ensures.attributes row
          used.texts;
      told = c.each_moment_is_told.ensures.assertion c.args.now row.until c.requires.moment used.texts.until;
    }

pub returns-then-passive : goal.returns-then-passive
returns-then-passive c =
    let old = c.args.self.now in
    let usable = c.has_usable_config.ensures in
    let asks =
    asks_for old (request_view c.args.request.now) c.in_ok-ask.ask c.args.asked
    c.the_texts_of_a_request_are_texts.ensures usable.peers c.requires.route c.requires.asked
    c.in_ok-ask.ensures in
    record {
      asked = c.args.asked;
      peer = asks.0;
      asks = asks.1;
      none = sym c.in_default.ensures;
      passive_is =
          c.if-passive.true;
      told = c.each_moment_is_told.ensures.one c.args.now c.requires.moment;
    }

pub returns-else-passive : goal.returns-else-passive
returns-else-passive c =
    let old = c.args.self.now in
    let usable = c.has_usable_config.ensures in
    let asks =
    asks_for old (request_view c.args.request.now) c.in_ok-ask.ask c.args.asked
    c.the_texts_of_a_request_are_texts.ensures usable.peers c.requires.route c.requires.asked
    c.in_ok-ask.ensures in
    record {
      asked = c.args.asked;
      peer = asks.0;
      asks = asks.1;
      none = sym c.in_default.ensures;
      passive_is =
          c.if-passive.false;
      told = c.each_moment_is_told.ensures.one c.args.now c.requires.moment;
    }
