use Rattle.std.proofs.Common.{◌≡◌, List, cond, Some, length, string_bytes, subst, sym, ap, ◌∙◌, arith}
use Rattle.std.specs.BTreeMap.{get_by_text}
use Rattle.std.specs.Str.{bytes_eq}
use Rattle.std.proofs.lemmas.Map.Text.{btree_map_updates_text}
use Rattle.user_store.specs.declared.user.User.{User}
use Rattle.user_store.specs.Places.{IsStore}
use Rattle.user_store.specs.Store.{has_user}
use Rattle.user_store.proofs.Placing.{store_more}
use Rattle.user_store.proofs.users.Users.with_user.Goals as goal

pub invariant_of-result : goal.invariant_of-result
invariant_of-result c =
    let users = c.self.inside.items.items in
    let key = string_bytes c.in_ok-from_str.field-0 in
    let same : key ≡ c.args.user.name = c.in_ok-from_str.ensures.ok ∙ c.as_str-2.ensures in
    let last : c.len-2.result ≡ length users = omega (arith, c.len-2.ensures, c.self.inside.items.ok.0) in
    let fresh = ap (λ (all : List User). has_user all c.args.user.name) c.self.view_is ∙ ap (has_user c.args.self) (sym c.as_str.ensures) ∙ sym c.has.ensures ∙ c.if-has.false in
    subst (λ (all : List User). IsStore all c.insert.new.self) (sym c.in_ok-push.ensures.items)
    (store_more users c.args.user c.self.inside.places c.insert.new.self c.self.invariant c.requires fresh
    (λ name.
    btree_map_updates_text key c.self.inside.places c.insert.new.self _ c.in_ok-insert.ensures.updates name
    ∙ (λ i. cond (bytes_eq (same i) name) (Some (last i)) (get_by_text c.self.inside.places name))))
