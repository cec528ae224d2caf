use Rattle.std.proofs.Common.{◌∷◌, [], ◌++◌, List, Some, subst, sym, ap, ◌∙◌}
use Rattle.owned_values.specs.declared.attributes.Attribute.{Attribute}
use Rattle.user_store.specs.declared.user.User.{User}
use Rattle.user_store.specs.Places.{IsStore}
use Rattle.user_store.specs.Store.{with_attribute}
use Rattle.user_store.proofs.Placing.{last_stated, store_stated}
use Rattle.user_store.proofs.users.Users.with_attribute.Goals as goal

pub invariant_of-result : goal.invariant_of-result
invariant_of-result c =
    let front = c.pop.new.self.items in
    let user = c.in-Some.user in
    subst (λ (users : List User). IsStore users c.self.inside.places)
    (sym (c.in_ok-push-2.ensures.items ∙ ap (λ (attributes : List Attribute). front ++ record user { attributes = attributes } ∷ []) c.in_ok-push.ensures.ok))
    (store_stated c.args.attribute front user c.self.inside.places (subst (λ (users : List User). IsStore users c.self.inside.places) c.in-Some.ensures.items c.self.invariant))

pub returns : goal.returns
returns c =
    let front = c.pop.new.self.items in
    let user = c.in-Some.user in
    ap Some (c.in_ok-push-2.ensures.items ∙ ap (λ (attributes : List Attribute). front ++ record user { attributes = attributes } ∷ []) c.in_ok-push.ensures.ok)
    ∙ sym (last_stated c.args.attribute front user) ∙ ap (with_attribute c.args.attribute) (sym c.in-Some.ensures.items ∙ c.self.view_is)
