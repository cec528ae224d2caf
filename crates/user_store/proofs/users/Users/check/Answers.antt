use Rattle.std.proofs.Common.{ℕ, true, List, Option, length, get_or, nat_lt, unwrap_or, sym, ap, ◌∙◌}
use Rattle.std.specs.Option.{option_copied}
use Rattle.user_store.specs.declared.user.User.{User}
use Rattle.user_store.specs.Store.{checked}
use Rattle.user_store.proofs.Placing.{nobody_tried, refused_tried, found_user, checked_nobody}
use Rattle.user_store.proofs.users.Users.check.Goals as goal

-- nobody is tried: there are no users
pub returns-in_err-tried : goal.returns-in_err-tried
returns-in_err-tried c =
    let users = c.self.inside.items.items in
    ap option_copied c.from_residual.ensures
    ∙ sym (nobody_tried users c.self.inside.places c.self.invariant c.args.user.now c.args.password.now c.copied-place.result
    (sym c.get.ensures.value ∙ sym c.copied-place.ensures)
    (c.in_err-tried.ensures.lookup.0 ∙ ap (λ n. nat_lt n (length c.deref.result.now)) c.unwrap_or.ensures
    ∙ ap (λ (items : List User). nat_lt (unwrap_or c.copied-place.result 0) (length items)) c.deref.ensures.value))
    ∙ ap (λ users. checked users c.args.user.now c.args.password.now) c.self.view_is

pub returns-then-not-has_password : goal.returns-then-not-has_password
returns-then-not-has_password c =
    let users = c.self.inside.items.items in
    let tried = c.in_ok-tried.tried.now in
    refused_tried users c.self.inside.places c.self.invariant c.args.user.now c.args.password.now c.copied-place.result tried
    (sym c.get.ensures.value ∙ sym c.copied-place.ensures)
    (c.in_ok-tried.ensures.lookup.1 ∙ ap (λ n. get_or c.deref.result.now n tried) c.unwrap_or.ensures
    ∙ ap (λ (items : List User). get_or items (unwrap_or c.copied-place.result 0) tried) c.deref.ensures.value)
    c.if-not-has_password.ensures
    ∙ ap (λ users. checked users c.args.user.now c.args.password.now) c.self.view_is

pub returns-in-Some : goal.returns-in-Some
returns-in-Some c =
    let users = c.self.inside.items.items in
    let tried = c.in_ok-tried.tried.now in
    found_user users c.self.inside.places c.self.invariant c.args.user.now c.args.password.now c.in-Some.field-0 tried
    (sym c.get.ensures.value ∙ sym c.copied-place.ensures ∙ c.in-Some.is)
    (c.in_ok-tried.ensures.lookup.1 ∙ ap (λ n. get_or c.deref.result.now n tried) c.unwrap_or.ensures
    ∙ ap (λ (items : List User). get_or items (unwrap_or c.copied-place.result 0) tried) c.deref.ensures.value
    ∙ ap (λ (place : Option ℕ). get_or users (unwrap_or place 0) tried) c.in-Some.is)
    true c.if-not-has_password.ensures
    ∙ ap (λ users. checked users c.args.user.now c.args.password.now) c.self.view_is

pub returns-in-None : goal.returns-in-None
returns-in-None c =
    sym (checked_nobody c.self.inside.items.items c.self.inside.places c.self.invariant c.args.user.now c.args.password.now
    (sym c.get.ensures.value ∙ sym c.copied-place.ensures ∙ c.in-None.is))
    ∙ ap (λ users. checked users c.args.user.now c.args.password.now) c.self.view_is
