use Rattle.std.proofs.Common.{ap, ◌∙◌}
use Rattle.user_store.specs.Store.{has_user}
use Rattle.user_store.proofs.Placing.{store_has}
use Rattle.user_store.proofs.users.Users.has.Goals as goal

pub returns : goal.returns
returns c =
    c.contains_key.ensures ∙ store_has c.self.inside.items.items c.self.inside.places c.self.invariant c.args.name.now
    ∙ ap (λ users. has_user users c.args.name.now) c.self.view_is
