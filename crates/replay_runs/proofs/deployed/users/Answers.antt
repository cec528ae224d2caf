use Rattle.std.proofs.Common.{◌≡◌, ℕ, List, Ok, subst}
use Rattle.user_store.specs.Store.{users}
use Rattle.replay_runs.specs.Deployed.{users_text}
use Rattle.replay_runs.proofs.deployed.users.Goals as goal

pub returns-in-Ok : goal.returns-in-Ok
returns-in-Ok c =
    let is : c.as_bytes.result.now ≡ users_text = c.as_bytes.ensures.value in
    subst (λ (text : List ℕ). users text ≡ Ok c.in-Ok.users) is c.in-Ok.ensures
