use Rattle.std.proofs.Common.{◌≡◌, ◌+◌, ◌-◌, ◌/◌, sym, ap, subst, ◌∙◌, arith, slice_index_or, true, false}
use Rattle.std.specs.Ordering.{is_le}
use Rattle.xml_spec.specs.Canonical.{expanded_order}
use Rattle.excl_c14n.specs.Shown.{expanded_of}
use Rattle.excl_c14n.proofs.Placing.{all_above, at_any}
use Rattle.excl_c14n.proofs.order.place_of.Goals as goal

pub compare-requires-clause-other : goal.compare-requires-clause-other
compare-requires-clause-other c = c.requires.places _ _ (omega arith)

pub loop-low-preserved-then-is_le : goal.loop-low-preserved-then-is_le
loop-low-preserved-then-is_le c =
    let middle = c.loop-low.low + (c.loop-low.high - c.loop-low.low) / 2 in
    record {
      between = omega arith;
      within = omega arith;
      above = c.loop-low.invariant.above;
      place =
          λ d h. at_any (λ kept. is_le (expanded_order (expanded_of c.args.doc.now.tree c.args.name) (expanded_of c.args.doc.now.tree kept)) ≡ true) c.args.names.now middle _ d h
          (ap is_le (sym c.compare.ensures) ∙ sym c.is_le.ensures ∙ c.if-is_le.true);
    }

pub loop-low-preserved : goal.loop-low-preserved
loop-low-preserved c =
    let middle = c.loop-low.low + (c.loop-low.high - c.loop-low.low) / 2 in
    record {
      between = omega arith;
      within = c.loop-low.invariant.within;
      above =
          λ k d h. all_above c.args.doc.now.tree c.args.name c.args.names.now middle c.requires.order (omega arith)
          (λ e. at_any (λ kept. is_le (expanded_order (expanded_of c.args.doc.now.tree c.args.name) (expanded_of c.args.doc.now.tree kept)) ≡ false) c.args.names.now middle _ e (omega arith)
          (ap is_le (sym c.compare.ensures) ∙ sym c.is_le.ensures ∙ c.if-is_le.false))
          k d (omega arith);
      place = c.loop-low.invariant.place;
    }

pub returns-clause-place : goal.returns-clause-place
returns-clause-place c d h =
    let met : c.loop-low.high ≡ c.loop-low.low = omega arith in
    subst (λ k. is_le (expanded_order (expanded_of c.args.doc.now.tree c.args.name) (expanded_of c.args.doc.now.tree (slice_index_or c.args.names.now k d))) ≡ true) met
    (c.loop-low.invariant.place d (omega arith))
