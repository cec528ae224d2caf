use Rattle.std.specs.Prelude.{IfSome}
use Rattle.std.proofs.Common.{◌∙◌, ◌<◌, true, false, get_or, length, refl, ap, sym, subst}
use Rattle.std.specs.Str.{bytes_eq}
use Rattle.std.proofs.lemmas.Option.{slice_get_read}
use Rattle.idp_rows.specs.Kept.{IssuesView, ArePrevious}
use Rattle.idp_rows.proofs.IssueLaws.{GoesBack, after, that_peer, goes_start, goes_end, goes_found, goes_on, previous_less}
use Rattle.idp_rows.proofs.issues.Issues.has_issued.Goals as goal

pub loop-next-init : goal.loop-next-init
loop-next-init c = record {
  within = c.requires;
  back = λ cookie is. goes_start c.args.beside c.args.self.now.rows cookie c.args.peer.now c.args.last is;
}

pub returns-then-is_peer-beside : goal.returns-then-is_peer-beside
returns-then-is_peer-beside c cookie is =
    let rows = c.args.self.now.rows in
    let row = c.index.result.now in
    let p = c.in-Some.place in
    let back = subst (λ n. GoesBack c.args.beside rows cookie c.args.peer.now n) c.in-Some.is (c.loop-next.invariant.back cookie is) in
    let within : p < length rows = subst (λ n. IfSome n (λ q. q < length rows)) c.in-Some.is c.loop-next.invariant.within in
    let there = slice_get_read rows (length rows) p row refl within (c.index.ensures ∙ ap (λ (v : IssuesView). get_or v.rows p row) c.self.view_is) in
    let peer = c.eq-is_peer.ensures ∙ ap (λ t. bytes_eq t c.args.peer.now) c.as_str.ensures in
    sym (goes_found c.args.beside rows cookie c.args.peer.now p back row there (that_peer c.args.beside c.args.peer.now row.peer c.eq-is_peer.result true peer c.if-is_peer-beside.true))

pub loop-next-smaller : goal.loop-next-smaller
loop-next-smaller c =
    let rows = c.self.inside.rows.items in
    let row = c.index.result.now in
    let p = c.in-Some.place in
    let within : p < length rows = subst (λ (v : IssuesView). p < length v.rows) (sym c.self.view_is) (subst (λ n. IfSome n (λ q. q < length c.args.self.now.rows)) c.in-Some.is c.loop-next.invariant.within) in
    let there = slice_get_read rows (length rows) p row refl within c.index.ensures in
    let less = (previous_less rows c.self.inside.previous.items c.self.invariant p row there c.index-next.result.now c.index-next.ensures).0 in
    subst (λ n. after c.index-next.result.now < after n) (sym c.in-Some.is) less

pub loop-next-preserved : goal.loop-next-preserved
loop-next-preserved c =
    let inside = c.self.inside.rows.items in
    let rows = c.args.self.now.rows in
    let row = c.index.result.now in
    let p = c.in-Some.place in
    let same = ap (λ (v : IssuesView). v.rows) c.self.view_is in
    let within : p < length rows = subst (λ n. IfSome n (λ q. q < length rows)) c.in-Some.is c.loop-next.invariant.within in
    let there = slice_get_read rows (length rows) p row refl within (c.index.ensures ∙ ap (λ rs. get_or rs p row) same) in
    let are = subst (λ rs. ArePrevious rs c.self.inside.previous.items) same c.self.invariant in
    let peer = c.eq-is_peer.ensures ∙ ap (λ t. bytes_eq t c.args.peer.now) c.as_str.ensures in
    let other = that_peer c.args.beside c.args.peer.now row.peer c.eq-is_peer.result false peer c.if-is_peer-beside.false in
    record {
      within = (previous_less rows c.self.inside.previous.items are p row there c.index-next.result.now c.index-next.ensures).1;
      back = λ cookie is.
          let back = subst (λ n. GoesBack c.args.beside rows cookie c.args.peer.now n) c.in-Some.is (c.loop-next.invariant.back cookie is) in
          goes_on c.args.beside rows cookie c.args.peer.now p back row there c.self.inside.previous.items are c.index-next.result.now c.index-next.ensures other;
    }

pub returns : goal.returns
returns c cookie is =
    sym (goes_end c.args.beside c.args.self.now.rows cookie c.args.peer.now
    (subst (λ n. GoesBack c.args.beside c.args.self.now.rows cookie c.args.peer.now n) c.in_default.is (c.loop-next.invariant.back cookie is)))
