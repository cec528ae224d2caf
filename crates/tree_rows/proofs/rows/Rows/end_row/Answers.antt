use Rattle.std.proofs.Common.{◌≡◌, ◌<◌, List, length, map, get_or, sym, ◌∙◌, ap, arith}
use Rattle.std.specs.Prelude.{slice_set}
use Rattle.std.proofs.lemmas.List.{map-set, length-map, get_or-map}
use Rattle.tree_rows.specs.Rows.{end_at}
use Rattle.tree_rows.specs.Views.{RowsView}
use Rattle.tree_rows.specs.Kept.{row_view}
use Rattle.tree_rows.specs.declared.node.Link.{Link}
use Rattle.tree_rows.specs.declared.rows.Row.{Row}
use Rattle.tree_rows.proofs.Ending.{end_at_view}
use Rattle.tree_rows.proofs.rows.Rows.end_row.Goals as goal

pub returns-clause-rows : goal.returns-clause-rows
returns-clause-rows c =
    let list = c.self.inside.attributes.items in
    let kept = c.self.inside.rows.items in
    let seen : map (row_view list) kept ≡ c.args.self.now.rows = ap (λ (v : RowsView). v.rows) c.self.view_is in
    let there : c.args.k < length kept = omega (arith, length-map kept (row_view list), ap length seen, c.requires) in
    map-set (row_view list) kept c.args.k _
    ∙ sym (end_at_view (row_view list) c.args.place c.args.k kept c.index_mut-row.result.now there c.index_mut-row.ensures.value)
    ∙ ap (end_at c.args.place c.args.k) seen

pub returns-clause-links : goal.returns-clause-links
returns-clause-links c = λ link.
    let list = c.self.inside.attributes.items in
    let kept = c.self.inside.rows.items in
    let row = c.index_mut-row.result.now in
    let own : Row → Link = λ r. r.place.link in
    let seen : map (row_view list) kept ≡ c.args.self.now.rows = ap (λ (v : RowsView). v.rows) c.self.view_is in
    let links : map own kept ≡ c.args.self.now.links = ap (λ (v : RowsView). v.links) c.self.view_is in
    let there : c.args.k < length kept = omega (arith, length-map kept (row_view list), ap length seen, c.requires) in
    let parent : row.place.link.parent ≡ (get_or c.args.self.now.links c.args.k link).parent =
    ap (λ (r : Row). r.place.link.parent) c.index_mut-row.ensures.value
    ∙ sym (ap (λ (l : Link). l.parent) (ap (λ (ls : List Link). get_or ls c.args.k link) (sym links) ∙ get_or-map own kept c.args.k row link there)) in
    let end : c.len-end.result ≡ length c.args.self.now.rows =
    omega (arith, c.len-end.ensures, c.self.inside.rows.ok.0, length-map kept (row_view list), ap length seen) in
    map-set own kept c.args.k _
    ∙ (λ i. slice_set (links i) c.args.k (let l : Link = record { parent = parent i; end = end i } in l))
