use Rattle.std.proofs.Common.{◌≡◌, false, not, refl, ◌&&◌, get_or, sym, ap, ◌∙◌, subst}
use Rattle.std.specs.List.{list_any}
use Rattle.std.specs.Str.{bytes_eq}
use Rattle.std.proofs.lemmas.Bool.{false_from_ne_true, false≢true}
use Rattle.std.proofs.lemmas.List.{get_or_default}
use Rattle.request_rows.specs.declared.row.AskedRow.{AskedRow}
use Rattle.request_rows.specs.Rows.{is_spent}
use Rattle.hub_ledger.specs.Record.{is_routed}
use Rattle.hub_ledger.specs.Standing.{StandingView, IsAskedAt}
use Rattle.hub_ledger.proofs.AsSp.{routed_asked}
use Rattle.hub_ledger.proofs.Places.{AreKept, routed_there, spent_at}
use Rattle.hub_ledger.proofs.standing.HubStanding.is_free_for.Goals as goal

pub returns-then-goes_to : goal.returns-then-goes_to
returns-then-goes_to c =
    let now = c.args.self.now in
    let r = c.args.r.now in
    let place = c.in-Some.place in
    let to = c.index.result.now in
    let kept = subst (λ (v : StandingView). AreKept v.next c.self.inside.numbers.listed c.self.inside.spent.items v.rows) c.self.view_is c.self.invariant in
    let at = subst (λ t. IsAskedAt now.rows.asked t place) c.as_str.ensures c.in-Some.ensures.some in
    let routed = routed_there now.rows.asked now.rows.below kept.3.below r.request place at to
    (c.index.ensures ∙ ap (λ (v : StandingView). get_or v.rows.below place to) c.self.view_is) r refl in
    let mark = spent_at now.next c.self.inside.numbers.listed c.self.inside.spent.items now.rows kept r.request place at in
    let spent : c.index-then-goes_to.result.now ≡ is_spent now.rows.opened r.request =
    c.index-then-goes_to.ensures ∙ get_or_default c.self.inside.spent.items place c.index-then-goes_to.result.now false mark.0 ∙ mark.1 in
    ap not spent ∙ sym (ap (λ b. b && not (is_spent now.rows.opened r.request)) (routed ∙ sym c.goes_to.ensures ∙ c.if-goes_to.true))

pub returns-else-goes_to : goal.returns-else-goes_to
returns-else-goes_to c =
    let now = c.args.self.now in
    let r = c.args.r.now in
    let place = c.in-Some.place in
    let to = c.index.result.now in
    let kept = subst (λ (v : StandingView). AreKept v.next c.self.inside.numbers.listed c.self.inside.spent.items v.rows) c.self.view_is c.self.invariant in
    let at = subst (λ t. IsAskedAt now.rows.asked t place) c.as_str.ensures c.in-Some.ensures.some in
    let routed = routed_there now.rows.asked now.rows.below kept.3.below r.request place at to
    (c.index.ensures ∙ ap (λ (v : StandingView). get_or v.rows.below place to) c.self.view_is) r refl in
    c.if-goes_to.false ∙ sym (ap (λ b. b && not (is_spent now.rows.opened r.request)) (routed ∙ sym c.goes_to.ensures ∙ c.if-goes_to.false))

pub returns-in-None : goal.returns-in-None
returns-in-None c =
    let rows = c.args.self.now.rows in
    let r = c.args.r.now in
    let none = subst (λ t. list_any (λ (row : AskedRow). bytes_eq row.request t) rows.asked ≡ false) c.as_str.ensures c.in-None.ensures.none in
    let routed = false_from_ne_true (is_routed rows.asked rows.below r) (λ is. false≢true (sym none ∙ routed_asked rows.asked rows.below r is)) in
    sym (ap (λ b. b && not (is_spent rows.opened r.request)) routed)
