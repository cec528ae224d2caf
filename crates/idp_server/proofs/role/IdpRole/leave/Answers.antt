use Rattle.std.proofs.Common.{◌∙◌, ℕ, List, [], ◌∷◌, None, false, inl, refl, sym, ap}
use Rattle.http_wire.specs.Views.{request_view}
use Rattle.idp_server.specs.Rounds.{asks_others}
use Rattle.idp_server.proofs.Asking.{one_live}
use Rattle.idp_server.proofs.MayStand.{session_stands}
use Rattle.idp_server.proofs.Sessions.{leaves, used_session}
use Rattle.idp_server.proofs.Telling.{asks_by}
use Rattle.idp_server.proofs.role.IdpRole.leave.Goals as goal

pub returns-in-Some-2-clause-reply : goal.returns-in-Some-2-clause-reply
returns-in-Some-2-clause-reply c =
    let held = c.args.ledger.now.held in
    let request = request_view c.args.request.now in
    let row = c.in-Some.row.now in
    let usable = c.has_usable_config.ensures in
    let used = used_session held false request c.args.now row c.holds_records.ensures c.in-Some.ensures in
    asks_by c.args.self.now held request c.args.now None (row.cookie ∷ []) c.in-Some-2.reply
    (inl (record {
      to = c.requires.route;
      row = row;
      live = sym c.in-Some.ensures;
      cookies_are = refl;
      asker_is =
          refl;
    }))
    (one_live held c.args.now row.cookie row used.found) tt usable.peers
    (c.each_moment_is_told.ensures.assertion c.args.now c.args.now c.requires.moment c.requires.moment)
    (rw c.in-Some-2.is at c.in_ok-reply.ensures)

pub returns-clause-reply : goal.returns-clause-reply
returns-clause-reply c =
    let old = c.args.self.now in
    let held = c.args.ledger.now.held in
    let usable = c.has_usable_config.ensures in
    let none = rw c.in_default-2.is at c.in_ok-reply.ensures in
    let row = c.in-Some.row.now in
    let used =
    used_session held false (request_view c.args.request.now) c.args.now row c.holds_records.ensures
    c.in-Some.ensures in
    leaves old held (request_view c.args.request.now) c.args.now c.in-Some.row.now _ _ _ usable.peers
    c.holds_records.ensures c.requires.route c.in-Some.ensures c.in_ok-copy.ensures c.in_ok-copy-2.ensures
    c.in_ok-copy-3.ensures
    (session_stands c.what_is_recorded_may_stand.ensures.texts c.what_is_recorded_may_stand.ensures.attributes row
    used.texts)
    (c.each_moment_is_told.ensures.assertion c.args.now row.until c.requires.moment used.texts.until)
    (ap (λ (cookie : List ℕ). asks_others old held None (cookie ∷ [])) c.in_ok-copy.ensures ∙ none)
