use Rattle.std.proofs.Common.{◌∙◌, ◌++◌, length, map, subst, sym, ap, arith}
use Rattle.std.specs.Prelude.{IfSome}
use Rattle.std.proofs.lemmas.List.{length_push}
use Rattle.ledger_rules.specs.Numbers.{AreBelow}
use Rattle.record_ledger.proofs.LinkSteps.{placed, row_is_next, row_is_small, taken_so, both_ok}
use Rattle.record_ledger.proofs.links.Links.take.Goals as goal
use Rattle.std.specs.Option.{option_to_list}

pub row_number-number-requires : goal.row_number-number-requires
row_number-number-requires g c = row_is_small g.S.Standing.rules g.S.Standing.link_rules c.laws_hold.ensures.fresh c.laws_hold.ensures.links c.requires.records c.args.entry.now c.requires.is

pub own_link-own-requires : goal.own_link-own-requires
own_link-own-requires g c =
    placed g.S.Standing.rules g.S.Standing.link_rules c.laws_hold.ensures.fresh c.laws_hold.ensures.links c.requires.records c.args.self.now c.requires.are.rows (omega (arith, c.requires.are.linked.long))

pub link_all-requires : goal.link_all-requires
link_all-requires g c =
    let rows = c.requires.are.rows in
    placed g.S.Standing.rules g.S.Standing.link_rules c.laws_hold.ensures.fresh c.laws_hold.ensures.links c.requires.records _ (record { are = rows.are; numbers_are = rows.numbers_are; places_are = rows.places_are })
    (omega (arith, ap length c.in_ok-push.ensures.items, length_push c.args.self.now.links.items c.own_link-own.result, c.requires.are.linked.long))

pub put_row-requires : goal.put_row-requires
put_row-requires g c =
    subst (λ o. IfSome o (λ n. AreBelow n c.link_all.new.self.numbers.listed)) (sym c.row_number-number.ensures)
    (row_is_next g.S.Standing.rules g.S.Standing.link_rules c.laws_hold.ensures.fresh c.laws_hold.ensures.links c.requires.records c.args.entry.now c.link_all.new.self.numbers.listed c.requires.is (ap (λ n. n.listed) c.link_all.ensures.numbers ∙ c.requires.are.rows.numbers_are))

pub returns : goal.returns
returns g c =
    both_ok c.put_row.result (λ numbers places. λ records before is.
    taken_so g.S.Standing.rules g.S.Standing.link_rules c.laws_hold.ensures.fresh c.laws_hold.ensures.links records c.args.entry.now c.args.self.now c.link_all.new.self c.put_row.new.self c.push.new.self.items c.own_link-own.result c.named.result.now c.len-place.result
    before is (c.own_link-own.ensures records before.rows is) (c.len-place.ensures ∙ c.args.self.now.links.ok.0) c.named.ensures c.in_ok-push.ensures.items
    (λ have. c.link_all.ensures.links records (record { are = before.rows.are; numbers_are = before.rows.numbers_are; places_are = before.rows.places_are }) have)
    c.link_all.ensures.numbers c.link_all.ensures.places c.put_row.ensures.links
    (numbers ∙ ap (λ o. c.link_all.new.self.numbers.listed ++ option_to_list o) c.row_number-number.ensures)
    (places ∙ ap (λ o. c.link_all.new.self.places.items ++ map (λ n. c.len-place.result) (option_to_list o)) c.row_number-number.ensures))
    c.put_row.ensures.numbers c.put_row.ensures.places
