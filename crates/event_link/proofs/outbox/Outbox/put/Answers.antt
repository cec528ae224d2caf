use Rattle.std.specs.BTreeMap.{is_at}
use Rattle.std.specs.Map.{set_value}
use Rattle.std.specs.Ordering.{nat_cmp}
use Rattle.std.proofs.Common.{◌≡◌, List, ℕ, sym, ◌∙◌, ap}
use Rattle.std.proofs.lemmas.Map.Steps.{set_value_same}
use Rattle.std.proofs.lemmas.Result.{on_err_weaker}
use Rattle.event_link.proofs.outbox.Outbox.put.Goals as goal

pub returns-in-Some-clause-err : goal.returns-in-Some-clause-err
returns-in-Some-clause-err c =
    on_err_weaker c.push.result
    (λ (same : c.push.new.self ≡ c.in-Some.sent.now).
    (c.get_mut.follows.holds c.push.new.self).0
    ∙ ap (λ (bytes : List ℕ). set_value (is_at (nat_cmp c.args.conn)) c.self.inside.sent.entries bytes) same
    ∙ set_value_same (is_at (nat_cmp c.args.conn)) c.self.inside.sent.entries c.in-Some.sent.now (sym c.in-Some.ensures.value)
    ∙ c.self.view_is)
    c.push.ensures.err
