use Rattle.std.proofs.Common.{rules, of_calls, ap, subst, ◌∙◌}
use Rattle.std.specs.Ordering.{is_lt}
use Rattle.std.specs.List.{range_with_len}
use Rattle.std.specs.List.Sorted.{IsPermutation}
use Rattle.std.proofs.lemmas.Fn.{always_returns_same}
use Rattle.std.proofs.lemmas.List.Sorted.{ranks_by}
use Rattle.ledger_rules.specs.Order.{key_at, place_order}
use Rattle.request_rows.specs.Order.{keys_of}
use Rattle.request_rows.proofs.Orders.{both_total}
use Rattle.request_rows.proofs.Sorting.{sorted_order}
use Rattle.request_rows.proofs.index.Index.of.Goals as goal

pub returns : goal.returns
returns c =
    let keys = keys_of c.args.by c.args.lists.now.asked.items c.args.lists.now.opened.items in
    let all = c.in_ok-places.ensures ∙ ap (range_with_len 0) c.count.ensures in
    sorted_order keys c.sort_unstable_by.new.self.items
    (subst (λ ps. IsPermutation ps c.sort_unstable_by.new.self.items) all c.sort_unstable_by.ensures.permutation)
    (c.sort_unstable_by.ensures.sorted (λ p q. is_lt (place_order keys p q)) (ranks_by both_total (λ p. (key_at keys p, p)))
    (always_returns_same _ _ _ (λ a r f' k. search (rules, of_calls))))
