use Rattle.std.proofs.Common.{◌+◌, ◌-◌, ◌≡◌, ℕ, length, take, drop, arith, subst, length-drop}
use Rattle.std.proofs.lemmas.List.{take_all}
use Rattle.xml_spec.specs.Bytes.{AllPass}
use Rattle.byte_runs.proofs.Joining.{joined}
use Rattle.byte_runs.proofs.run_len.Goals as goal

pub blocks-2-preserved : goal.blocks-2-preserved
blocks-2-preserved g c =
    let at = c.blocks-2.at in
    let test = g.C.ByteClass.contains c.args.class.now in
    let bytes = c.args.bytes.now in
    let block : at + 32 - at ≡ 32 = omega arith in
    record {
      within = omega arith;
      passes =
          joined test bytes at 32 c.blocks-2.invariant.passes
          (subst (λ (n : ℕ). AllPass test (take n (drop at bytes))) block (c.are_in.ensures c.if-are_in.true));
    }

pub returns-clause-passes : goal.returns-clause-passes
returns-clause-passes g c =
    let at = c.blocks-2.at in
    let test = g.C.ByteClass.contains c.args.class.now in
    let bytes = c.args.bytes.now in
    let n = c.short_len.result in
    let rest : take (length bytes - at) (drop at bytes) ≡ drop at bytes = take_all (length bytes - at) (drop at bytes) (omega (arith, length-drop at bytes)) in
    joined test bytes at n c.blocks-2.invariant.passes (rw rest at c.short_len.ensures.passes)
