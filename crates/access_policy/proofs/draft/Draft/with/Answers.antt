use Rattle.std.proofs.Common.{string_bytes, sym, ap, ◌∙◌}
use Rattle.std.specs.BTreeSet.{contains_text}
use Rattle.std.proofs.lemmas.Map.Text.{btree_set_updates_text}
use Rattle.access_policy.specs.Rules.{has_rule}
use Rattle.access_policy.proofs.Spelling.{one_more_rule}
use Rattle.access_policy.proofs.draft.Draft.with.Goals as goal

pub invariant_of-result : goal.invariant_of-result
invariant_of-result c = λ name.
    let key = string_bytes c.in_ok-from_str.field-0 in
    btree_set_updates_text key c.self.inside.names c.insert.new.self _ c.in_ok-insert.ensures.updates name
    ∙ one_more_rule c.self.inside.rules.items c.args.rule key name (contains_text c.self.inside.names name) (c.in_ok-from_str.ensures.ok ∙ c.as_str.ensures) (c.self.invariant name)
    ∙ ap (λ rules. has_rule rules name) (sym c.in_ok-push.ensures.items)
