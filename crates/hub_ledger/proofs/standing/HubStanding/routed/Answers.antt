use Rattle.std.proofs.Common.{◌≡◌, refl, true, false, ◌&&◌, cond, max, find, get_or, length, None, Some, Option, sym, ap, ◌∙◌, subst, arith}
use Rattle.std.specs.Str.{bytes_eq}
use Rattle.std.specs.Option.{option_map}
use Rattle.std.specs.List.{slice_get}
use Rattle.std.proofs.lemmas.Bool.{le-ltb, lt-ltb}
use Rattle.std.proofs.lemmas.List.{get_or_default}
use Rattle.std.proofs.lemmas.Option.{slice_get_read}
use Rattle.request_rows.specs.Rows.{is_spent, visible}
use Rattle.hub_ledger.specs.RowsOf.{Route, routes}
use Rattle.hub_ledger.specs.Finding.{routed_view}
use Rattle.hub_ledger.specs.Standing.{StandingView}
use Rattle.hub_ledger.proofs.Places.{AreKept, either_none, no_route, none_routed, route_found, spent_at, unseen_route}
use Rattle.hub_ledger.proofs.standing.HubStanding.routed.Goals as goal
use Rattle.hub_ledger.proofs.standing.HubStanding.routed.Goals.{then-index-via-then-index, then-index-via-else-index+then-asked-max}

pub returns-in_err-place : goal.returns-in_err-place
returns-in_err-place c =
    let rows = c.args.self.now.rows in
    ap (option_map routed_view) c.from_residual.ensures
    ∙ sym (ap (λ (found : Option Route). cond (is_spent rows.opened c.args.request.now) no_route found)
    (none_routed rows.asked rows.below c.args.request.now c.args.now c.args.horizon c.in_err-place.ensures.none)
    ∙ either_none (is_spent rows.opened c.args.request.now))

pub returns-then-index : goal.returns-then-index
returns-then-index c =
    let now = c.args.self.now in
    let request = c.args.request.now in
    let place = c.in_ok-place.place in
    let row = c.index-asked-place.result in
    let spent = c.self.inside.spent.items in
    let kept = subst (λ (v : StandingView). AreKept v.next c.self.inside.numbers.listed spent v.rows) c.self.view_is c.self.invariant in
    let at = c.in_ok-place.ensures.some in
    let mark = spent_at now.next c.self.inside.numbers.listed spent now.rows kept request place at in
    let is_mark : c.index.result.now ≡ is_spent now.rows.opened request =
    c.index.ensures ∙ get_or_default spent place c.index.result.now false mark.0 ∙ mark.1 in
    let read : row ≡ get_or now.rows.asked place row =
    c.index-asked-place.is ∙ ap (λ rows. get_or rows place row) (c.asked.ensures ∙ ap (λ (v : StandingView). v.rows.asked) c.self.view_is) in
    let there : slice_get now.rows.asked place ≡ Some row = slice_get_read now.rows.asked (length now.rows.asked) place row refl at.within read in
    elim c.then-index.branch [
      | then-index-via-then-index w ↦
          sym (ap (λ b. cond b no_route (find (λ (route : Route). bytes_eq route.asked.request request && visible route.asked.until c.args.now c.args.horizon)
          (routes now.rows.asked now.rows.below))) (sym is_mark ∙ w.if-index.true))
      | then-index-via-else-index+then-asked-max w ↦
          let unseen : visible row.until c.args.now c.args.horizon ≡ false =
          le-ltb (max c.args.now c.args.horizon) row.until (omega (arith, w.max.ensures, w.if-asked-max.true)) in
          sym (ap (λ (found : Option Route). cond (is_spent now.rows.opened request) no_route found)
          (unseen_route now.rows.asked now.rows.below kept.3.below request place at row there c.args.now c.args.horizon unseen)
          ∙ either_none (is_spent now.rows.opened request))
    ]

pub returns : goal.returns
returns c =
    let now = c.args.self.now in
    let request = c.args.request.now in
    let place = c.in_ok-place.place in
    let row = c.index-asked-place.result in
    let to = c.index-2.result.now in
    let spent = c.self.inside.spent.items in
    let kept = subst (λ (v : StandingView). AreKept v.next c.self.inside.numbers.listed spent v.rows) c.self.view_is c.self.invariant in
    let at = c.in_ok-place.ensures.some in
    let mark = spent_at now.next c.self.inside.numbers.listed spent now.rows kept request place at in
    let is_mark : c.index.result.now ≡ is_spent now.rows.opened request =
    c.index.ensures ∙ get_or_default spent place c.index.result.now false mark.0 ∙ mark.1 in
    let read : row ≡ get_or now.rows.asked place row =
    c.index-asked-place.is ∙ ap (λ rows. get_or rows place row) (c.asked.ensures ∙ ap (λ (v : StandingView). v.rows.asked) c.self.view_is) in
    let there : slice_get now.rows.asked place ≡ Some row = slice_get_read now.rows.asked (length now.rows.asked) place row refl at.within read in
    let seen : visible row.until c.args.now c.args.horizon ≡ true =
    lt-ltb (max c.args.now c.args.horizon) row.until (omega (arith, c.max.ensures, c.if-asked-max.false)) in
    let reads : to ≡ get_or now.rows.below place to = c.index-2.ensures ∙ ap (λ (v : StandingView). get_or v.rows.below place to) c.self.view_is in
    let found : Option Route = Some (record { asked = row; below = to }) in
    sym (ap (λ b. cond b no_route (find (λ (route : Route). bytes_eq route.asked.request request && visible route.asked.until c.args.now c.args.horizon)
    (routes now.rows.asked now.rows.below))) (sym is_mark ∙ c.if-index.false)
    ∙ route_found now.rows.asked now.rows.below kept.3.below request place at to reads row there c.args.now c.args.horizon
    ∙ ap (λ b. cond b found None) seen)
