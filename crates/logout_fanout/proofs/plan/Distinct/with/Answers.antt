use Rattle.std.proofs.Common.{string_bytes, [], ◌∷◌, ◌++◌, sym, ap, ◌∙◌}
use Rattle.std.specs.BTreeSet.{contains_text}
use Rattle.std.proofs.lemmas.Map.Text.{btree_set_updates_text}
use Rattle.logout_fanout.specs.Plan.{is_among}
use Rattle.logout_fanout.proofs.Plans.{one_more_text}
use Rattle.logout_fanout.proofs.plan.Distinct.with.Goals as goal

pub invariant_of-result : goal.invariant_of-result
invariant_of-result c = λ name.
    let key = string_bytes c.in_ok-from_str.field-0 in
    btree_set_updates_text key c.self.inside.seen c.insert.new.self _ c.in_ok-insert.ensures.updates name
    ∙ one_more_text c.self.inside.texts c.args.text.now key name (contains_text c.self.inside.seen name) (c.in_ok-from_str.ensures.ok ∙ c.as_str.ensures) (c.self.invariant name)
    ∙ ap (is_among name) (sym (c.in_ok-push.ensures.ok ∙ ap (λ t. c.self.inside.texts ++ t ∷ []) c.in_ok-copy.ensures))
