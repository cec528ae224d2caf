use Rattle.std.proofs.Common.{◌<◌, length, slice_index, sym, ◌∙◌, ap, arith}
use Rattle.std.specs.Ordering.{is_lt}
use Rattle.request_rows.specs.Order.{keys_of}
use Rattle.request_rows.specs.Indexed.{key_texts, entry_order}
use Rattle.request_rows.proofs.Orders.{before_more, behind_more, order_found, less_from_is_lt}
use Rattle.request_rows.proofs.index.Index.rank.Goals as goal

pub loop-low-preserved-then-is_lt : goal.loop-low-preserved-then-is_lt
loop-low-preserved-then-is_lt c =
    let keys = keys_of c.args.by c.args.lists.now.asked.items c.args.lists.now.opened.items in
    let places = c.args.self.now.places.items in
    let middle = c.next_probe-middle.result in
    let within : c.next_probe-middle.result < length c.args.self.now.places.items = omega arith in
    let found = order_found keys places middle c.index.result.now (key_texts c.key_at.result) (key_texts c.args.key) c.args.place
    c.compare.result c.cmp.result c.then-order.result within c.index.ensures c.key_at.ensures c.compare.ensures c.cmp.ensures c.then-order.ensures in
    let less = less_from_is_lt (entry_order keys (slice_index places middle) (key_texts c.args.key) c.args.place) (ap is_lt (sym found) ∙ sym c.is_lt.ensures ∙ c.if-is_lt.true) in
    (omega arith, omega arith, before_more keys places c.requires (key_texts c.args.key) c.args.place middle within less, c.loop-low.invariant.3, omega arith)

pub loop-low-preserved : goal.loop-low-preserved
loop-low-preserved c =
    let keys = keys_of c.args.by c.args.lists.now.asked.items c.args.lists.now.opened.items in
    let places = c.args.self.now.places.items in
    let middle = c.next_probe-middle.result in
    let within : c.next_probe-middle.result < length c.args.self.now.places.items = omega arith in
    let found = order_found keys places middle c.index.result.now (key_texts c.key_at.result) (key_texts c.args.key) c.args.place
    c.compare.result c.cmp.result c.then-order.result within c.index.ensures c.key_at.ensures c.compare.ensures c.cmp.ensures c.then-order.ensures in (
      omega arith,
      omega arith,
      c.loop-low.invariant.2,
      behind_more keys places c.requires (key_texts c.args.key) c.args.place middle (ap is_lt (sym found) ∙ sym c.is_lt.ensures ∙ c.if-is_lt.false),
      omega arith,
    )
