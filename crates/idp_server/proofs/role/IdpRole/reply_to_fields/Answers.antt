use Rattle.std.specs.Prelude.{None, Some}
use Rattle.std.proofs.Common.{◌≡◌, ℕ, ◌+◌, min, List, [], ◌∷◌, refl, sym, subst, ap, ◌∙◌, arith}
use Rattle.std.specs.List.{AllByRecursion}
use Rattle.xml_spec.specs.Characters.{IsText}
use Rattle.owned_values.specs.declared.attributes.Attribute.{Attribute}
use Rattle.assertion_model.specs.Assertion.{IsStatable}
use Rattle.http_wire.specs.Views.{request_view}
use Rattle.http_wire.specs.declared.answer.Answer.TheVariants.{Fixed}
use Rattle.peer_keys.specs.Peers.{place_of}
use Rattle.user_store.specs.Store.{checked}
use Rattle.saml_time.specs.declared.TheConstants.{LAST}
use Rattle.idp_ledger.specs.Drafts.{SESSION_LIFE}
use Rattle.idp_rows.specs.Finding.{pending_found}
use Rattle.idp_rows.specs.RowsOf.{rows_of}
use Rattle.idp_ledger.proofs.RowTexts.{row_there}
use Rattle.idp_rules.specs.declared.config.IdpConfig.{IdpConfig}
use Rattle.idp_server.specs.Replies.{LogsIn}
use Rattle.idp_server.specs.Step.{Answers}
use Rattle.idp_server.proofs.Fields.{all_statable, are_fields, field_at, no_peer, no_pending, no_user, pending_xml}
use Rattle.idp_server.proofs.MayStand.{pending_stands}
use Rattle.idp_server.proofs.Sessions.{user_texts}
use Rattle.idp_server.proofs.role.IdpRole.reply_to_fields.Goals as goal

pub returns-in_default-clause-refused : goal.returns-in_default-clause-refused
returns-in_default-clause-refused c =
    let request = request_view c.args.request.now in
    let f = are_fields request.body c.args.given.now c.requires.given in
    let id_is =
    c.as_str.ensures ∙ field_at c.args.given.now (f.t.pending ∷ f.t.user ∷ f.t.password ∷ []) 0 c.at-pending.result.now
    f.t.pending f.are refl c.at-pending.ensures in
    no_pending c.args.self.now c.args.ledger.now.held request c.args.now f.t c.requires.route f.posted
    (subst (λ (id : List ℕ). pending_found (rows_of c.args.ledger.now.held.records).pendings id c.args.now
    c.args.ledger.now.held.header.horizon ≡ None) id_is (sym c.in_default.ensures))

pub returns-in_default-place_of-clause-refused : goal.returns-in_default-place_of-clause-refused
returns-in_default-place_of-clause-refused c =
    let n = c.self.inside in
    let request = request_view c.args.request.now in
    let f = are_fields request.body c.args.given.now c.requires.given in
    let id_is =
    c.as_str.ensures ∙ field_at c.args.given.now (f.t.pending ∷ f.t.user ∷ f.t.password ∷ []) 0 c.at-pending.result.now
    f.t.pending f.are refl c.at-pending.ensures in
    subst (λ (s : IdpConfig). Answers s c.args.ledger.now.held request c.args.now (Fixed 45) None) c.self.view_is
    (no_peer n.config c.args.ledger.now.held request c.args.now f.t c.in-Some.row.now c.requires.route f.posted
    (subst (λ (id : List ℕ). pending_found (rows_of c.args.ledger.now.held.records).pendings id c.args.now
    c.args.ledger.now.held.header.horizon ≡ Some c.in-Some.row.now) id_is (sym c.in-Some.ensures))
    (ap (λ (e : List ℕ). place_of e n.config.peers) (sym c.as_str-2.ensures) ∙ sym c.in_default-place_of.ensures.place))

pub returns-in_default-check-clause-refused : goal.returns-in_default-check-clause-refused
returns-in_default-check-clause-refused c =
    let n = c.self.inside in
    let request = request_view c.args.request.now in
    let f = are_fields request.body c.args.given.now c.requires.given in
    let all = f.t.pending ∷ f.t.user ∷ f.t.password ∷ [] in
    let id_is =
    c.as_str.ensures ∙ field_at c.args.given.now all 0 c.at-pending.result.now f.t.pending f.are refl
    c.at-pending.ensures in
    let user_is =
    c.as_str-4.ensures ∙ field_at c.args.given.now all 1 c.at-user.result.now f.t.user f.are refl c.at-user.ensures in
    let password_is =
    c.as_bytes-password.ensures.value ∙ c.as_str-3.ensures
    ∙ field_at c.args.given.now all 2 c.at-password.result.now f.t.password f.are refl c.at-password.ensures in
    subst (λ (s : IdpConfig). Answers s c.args.ledger.now.held request c.args.now (Fixed 46) None) c.self.view_is
    (no_user n.config c.args.ledger.now.held request c.args.now f.t c.in-Some.row.now c.in-Some-place_of.peer
    c.requires.route f.posted
    (subst (λ (id : List ℕ). pending_found (rows_of c.args.ledger.now.held.records).pendings id c.args.now
    c.args.ledger.now.held.header.horizon ≡ Some c.in-Some.row.now) id_is (sym c.in-Some.ensures))
    (ap (λ (e : List ℕ). place_of e n.config.peers) (sym c.as_str-2.ensures) ∙ sym c.in-Some-place_of.ensures.place)
    c.in-Some-place_of.ensures.there
    (ap (λ (u : List ℕ). checked n.config.users u f.t.password) (sym user_is)
    ∙ ap (checked n.config.users c.as_str-4.result.now) (sym password_is) ∙ sym c.in_default-check.ensures))

pub returns-clause-reply : goal.returns-clause-reply
returns-clause-reply c =
    let n = c.self.inside in
    let request = request_view c.args.request.now in
    let f = are_fields request.body c.args.given.now c.requires.given in
    let all = f.t.pending ∷ f.t.user ∷ f.t.password ∷ [] in
    let user_is =
    c.as_str-4.ensures ∙ field_at c.args.given.now all 1 c.at-user.result.now f.t.user f.are refl c.at-user.ensures in
    let password_is =
    c.as_bytes-password.ensures.value ∙ c.as_str-3.ensures
    ∙ field_at c.args.given.now all 2 c.at-password.result.now f.t.password f.are refl c.at-password.ensures in
    let checks =
    ap (λ (u : List ℕ). checked n.config.users u f.t.password) (sym user_is)
    ∙ ap (checked n.config.users c.as_str-4.result.now) (sym password_is) ∙ sym c.in-Some-check.ensures in
    let texts =
    user_texts n.config.users f.t.user f.t.password c.in-Some-check.user.now c.self.invariant.users checks in
    let there = row_there n.config.peers c.in-Some-place_of.peer c.in-Some-place_of.ensures.there in
    subst (λ (s : IdpConfig). LogsIn s c.args.ledger.now.held request c.args.now c.in_ok-copy.field-0
    c.in_ok-copy-2.field-0 c.in_ok-copy-3.field-0 c.in-Some-place_of.peer) c.self.view_is (record {
      to = c.requires.route;
      fields = f.t;
      posted = f.posted;
      same = c.in_ok-copy.ensures ∙ field_at c.args.given.now all 0 c.at-pending.result.now f.t.pending f.are refl
          c.at-pending.ensures;
      row = c.in-Some.row.now;
      found =
          subst (λ (id : List ℕ). pending_found (rows_of c.args.ledger.now.held.records).pendings id c.args.now
          c.args.ledger.now.held.header.horizon ≡ Some c.in-Some.row.now)
          (c.as_str.ensures ∙ sym c.in_ok-copy.ensures) (sym c.in-Some.ensures);
      peer = there.0;
      known =
          ap (λ (e : List ℕ). place_of e n.config.peers) (sym c.as_str-2.ensures)
          ∙ sym c.in-Some-place_of.ensures.place;
      there = there.1;
      who = c.in-Some-check.user.now;
      checks = checks;
      user_is = c.in_ok-copy-2.ensures;
      attributes_are = c.in_ok-copy-3.ensures;
      texts = pending_stands c.what_is_recorded_may_stand.ensures.texts c.in-Some.row.now
          (pending_xml c.args.ledger.now.held c.as_str.result.now c.args.now c.in-Some.row.now c.holds_records.ensures
          (sym c.in-Some.ensures));
      user_text = subst IsText (sym c.in_ok-copy-2.ensures) texts.name;
      stated =
          subst (λ (attributes : List Attribute). AllByRecursion IsStatable attributes) (sym c.in_ok-copy-3.ensures)
          (all_statable c.in-Some-check.user.now.attributes texts.attributes);
      told = c.each_moment_is_told.ensures.assertion c.args.now (min LAST (c.args.now + SESSION_LIFE)) c.requires.moment
          (omega arith);
    })
