use Rattle.std.proofs.Common.{◌≡◌, List, ℕ, length, string_bytes, sym, ap, ◌∙◌, subst, arith, rules}
use Rattle.std.proofs.lemmas.List.{length-map, length-set}
use Rattle.element_names.specs.Tables.{IsIndexed}
use Rattle.element_names.proofs.Ranking.{left_behind, in_table, one_more, all_ranked}
use Rattle.element_names.proofs.table.Table.ranks.Goals as goal

pub loop-number-init : goal.loop-number-init
loop-number-init c =
    let count : length c.in_ok-ranks.ranks.items ≡ length c.self.inside.texts.items = search rules in
    record {
      left = search rules;
      within = omega arith;
      count = count ∙ sym (length-map c.self.inside.texts.items string_bytes) ∙ ap length c.self.view_is;
      written = λ p n less. absurd (omega arith);
    }

pub index_mut-requires : goal.index_mut-requires
index_mut-requires c =
    let m = c.self.inside.numbers in
    let indexed = subst (λ (table : List (List ℕ)). IsIndexed table m) c.self.view_is c.self.invariant in
    let inside =
    in_table m c.values-number-items.ensures.ordered c.args.self.now indexed c.into_iter-number-iterator.result
    (c.into_iter-number-iterator.ensures.into_iter_gives ∙ c.values-number-items.ensures.rest) c.loop-number.number-iterator c.next.new.self c.loop-number.rank
    c.in-Some.number.now c.loop-number.invariant.left c.in-Some.ensures.steps in
    omega (arith, c.loop-number.invariant.count)

pub overflow_add-rank : goal.overflow_add-rank
overflow_add-rank c =
    let behind =
    left_behind c.into_iter-number-iterator.result c.loop-number.number-iterator c.next.new.self c.loop-number.rank c.in-Some.number.now c.loop-number.invariant.left
    c.in-Some.ensures.steps in
    let fits = c.values-number-items.ensures.fits in
    let same = ap length (c.into_iter-number-iterator.ensures.into_iter_gives ∙ c.values-number-items.ensures.rest) in
    omega (arith, length-map c.self.inside.numbers.entries (λ e. e.1))

pub loop-number-preserved : goal.loop-number-preserved
loop-number-preserved c =
    let m = c.self.inside.numbers in
    let indexed = subst (λ (table : List (List ℕ)). IsIndexed table m) c.self.view_is c.self.invariant in
    let behind =
    left_behind c.into_iter-number-iterator.result c.loop-number.number-iterator c.next.new.self c.loop-number.rank c.in-Some.number.now c.loop-number.invariant.left
    c.in-Some.ensures.steps in
    record {
      left = behind.0;
      within = omega arith;
      count = length-set c.loop-number.ranks.items c.in-Some.number.now c.loop-number.rank ∙ c.loop-number.invariant.count;
      written =
          one_more m c.values-number-items.ensures.ordered c.args.self.now indexed c.into_iter-number-iterator.result
          (c.into_iter-number-iterator.ensures.into_iter_gives ∙ c.values-number-items.ensures.rest) c.loop-number.number-iterator c.next.new.self
          c.loop-number.ranks.items c.loop-number.rank c.in-Some.number.now c.loop-number.invariant.left c.in-Some.ensures.steps
          c.loop-number.invariant.count c.loop-number.invariant.written;
    }

pub returns : goal.returns
returns c =
    let m = c.self.inside.numbers in
    let indexed = subst (λ (table : List (List ℕ)). IsIndexed table m) c.self.view_is c.self.invariant in
    all_ranked m c.values-number-items.ensures.ordered c.args.self.now indexed c.into_iter-number-iterator.result c.loop-number.number-iterator
    c.loop-number.ranks.items c.loop-number.rank (c.into_iter-number-iterator.ensures.into_iter_gives ∙ c.values-number-items.ensures.rest)
    c.loop-number.invariant.left c.in-None.ensures.steps.0 c.loop-number.invariant.count c.loop-number.invariant.written
