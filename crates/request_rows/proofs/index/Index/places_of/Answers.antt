use Rattle.std.proofs.Common.{◌≡◌, ◌-◌, length, subst, sym, take, drop, arith}
use Rattle.request_rows.specs.Order.{keys_of}
use Rattle.request_rows.specs.Indexed.{key_texts, IsRank, ArePlacesOf}
use Rattle.request_rows.proofs.Places.{ranks_ascend, places_between}
use Rattle.request_rows.proofs.index.Index.places_of.Goals as goal

pub slice_bounds-result-count : goal.slice_bounds-result-count
slice_bounds-result-count c =
    let keys = keys_of c.args.by c.args.lists.now.asked.items c.args.lists.now.opened.items in
    let places = c.args.self.now.places.items in
    let all : c.len.result ≡ length c.args.self.now.places.items = omega arith in
    ranks_ascend keys places c.requires (key_texts c.args.key) c.rank-first.result c.rank-end.result c.rank-first.ensures
    (subst (λ n. IsRank keys places (key_texts c.args.key) n c.rank-end.result) all c.rank-end.ensures)

pub slice_bounds-result-start : goal.slice_bounds-result-start
slice_bounds-result-start c = slice_bounds-result-count c

pub returns : goal.returns
returns c =
    let keys = keys_of c.args.by c.args.lists.now.asked.items c.args.lists.now.opened.items in
    let places = c.args.self.now.places.items in
    let all : c.len.result ≡ length c.args.self.now.places.items = omega arith in
    subst (λ xs. ArePlacesOf keys (key_texts c.args.key) (take (c.rank-end.result - c.rank-first.result) (drop c.rank-first.result xs)))
    (sym c.as_slice.ensures.value)
    (places_between keys places c.requires (key_texts c.args.key) c.rank-first.result c.rank-end.result c.rank-first.ensures
    (subst (λ n. IsRank keys places (key_texts c.args.key) n c.rank-end.result) all c.rank-end.ensures))
