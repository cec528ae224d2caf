use Rattle.std.proofs.Common.{◌≡◌, Option, IfSome, Bor, List, map, ℕ, false, subst, sym, ◌∙◌, arith}
use Rattle.xml_spec.specs.Canonical.{listed_prefix}
use Rattle.excl_c14n.specs.Levels.{is_among}
use Rattle.excl_c14n.specs.Pairs.{prefixes_in}
use Rattle.excl_c14n.proofs.Declaring.{found_passed, found_more, placed_more}
use Rattle.excl_c14n.proofs.Ordered.{attribute_there}
use Rattle.excl_c14n.proofs.Speaking.{declaration_speaks}
use Rattle.excl_c14n.proofs.walk.Walk.add_declared.Goals as goal
use Rattle.excl_c14n.proofs.walk.Walk.add_declared.Goals.{then-has+in_ok-add, else-has}

pub loop-i-preserved-in_default : goal.loop-i-preserved-in_default
loop-i-preserved-in_default c =
    let tree = c.args.self.now.doc.now.tree in
    let there = attribute_there tree c.args.n.0 c.attr_count-i-end.result c.loop-i.i c.loop-i.invariant.counted (omega arith) in
    record {
      counted = c.loop-i.invariant.counted;
      found =
          found_passed c.args.self.now.listed tree c.args.n.0 c.loop-i.i c.declared.result (prefixes_in c.args.found.now) (prefixes_in c.loop-i.found)
          there c.declared.ensures (subst (λ (o : Option (Bor (List ℕ))). IfSome o (λ p. is_among p.now (map listed_prefix c.args.self.now.listed) ≡ false)) (sym c.in_default.is) tt) c.loop-i.invariant.found;
      placed = c.loop-i.invariant.placed;
    }

pub loop-i-preserved : goal.loop-i-preserved
loop-i-preserved c =
    let listed = c.args.self.now.listed in
    let tree = c.args.self.now.doc.now.tree in
    let start = c.args.found.now in
    let there = attribute_there tree c.args.n.0 c.attr_count-i-end.result c.loop-i.i c.loop-i.invariant.counted (omega arith) in
    elim c.if-has.branch [
      | then-has+in_ok-add w ↦
          (let too = sym c.has.ensures ∙ w.if-has.true in
          rw w.found-is
          (record {
            counted = c.loop-i.invariant.counted;
            found =
                found_more listed tree c.args.n.0 c.loop-i.i c.declared.result c.in-Some.prefix (prefixes_in start) (prefixes_in c.loop-i.found)
                (prefixes_in w.add.new.self) there c.declared.ensures c.in-Some.is too w.in_ok-add.ensures.among c.loop-i.invariant.found;
            placed =
                placed_more listed tree c.args.n c.loop-i.i c.declared.result c.in-Some.prefix start c.loop-i.found w.add.new.self there c.declared.ensures
                c.in-Some.is too (declaration_speaks tree c.args.n c.loop-i.i c.declared.result c.in-Some.prefix c.requires.names there c.declared.ensures c.in-Some.is)
                (w.in_ok-add.ensures.placed tree) c.loop-i.invariant.found c.loop-i.invariant.placed;
          }))
      | else-has w ↦
          rw w.found-is
          (record {
            counted = c.loop-i.invariant.counted;
            found =
                found_passed listed tree c.args.n.0 c.loop-i.i c.declared.result (prefixes_in start) (prefixes_in c.loop-i.found)
                there c.declared.ensures
                (subst (λ (o : Option (Bor (List ℕ))). IfSome o (λ p. is_among p.now (map listed_prefix listed) ≡ false)) (sym c.in-Some.is) (sym c.has.ensures ∙ w.if-has.false))
                c.loop-i.invariant.found;
            placed = c.loop-i.invariant.placed;
          })
    ]
