use Rattle.std.proofs.Common.{◌≡◌, ◌++◌, List, ℕ, ap, ◌∙◌, append_assoc}
use Rattle.std.specs.Prelude.{codes}
use Rattle.canon_octets.proofs.Appending.{first_err, last_ok, last_err}
use Rattle.canon_octets.proofs.tags.put_instruction.Goals as goal

parts : (target shown space value tail all : List ℕ) → shown ≡ target → codes "<?" ++ (target ++ (space ++ (value ++ tail))) ≡ all →
    (codes "<?" ++ (shown ++ space)) ++ (value ++ tail) ≡ all
parts target shown space value tail all is whole =
    ap (λ xs. codes "<?" ++ xs) (append_assoc shown space (value ++ tail)) ∙ ap (λ xs. codes "<?" ++ (xs ++ (space ++ (value ++ tail)))) is ∙ whole

pub returns-in_err-put_three-clause-err : goal.returns-in_err-put_three-clause-err
returns-in_err-put_three-clause-err g c =
    first_err g.met.O.Octets.composes c.from_residual.result c.args.out.now c.put_three.new.out (codes "<?" ++ (c.as_bytes.result.now ++ c.space_before-space.result.now))
    (c.args.value.now ++ codes "?>") _
    (parts c.args.target.now c.as_bytes.result.now c.space_before-space.result.now c.args.value.now (codes "?>") _ c.as_bytes.ensures.value
    (c.space_before-space.ensures c.args.target.now)) c.in_err-put_three.ensures.err

pub returns-clause-ok : goal.returns-clause-ok
returns-clause-ok g c =
    last_ok g.met.O.Octets.composes c.put_two.result c.args.out.now c.put_three.new.out c.put_two.new.out (codes "<?" ++ (c.as_bytes.result.now ++ c.space_before-space.result.now))
    (c.as_bytes-2.result.now ++ codes "?>") _
    (ap (λ xs. (codes "<?" ++ (c.as_bytes.result.now ++ c.space_before-space.result.now)) ++ (xs ++ codes "?>")) c.as_bytes-2.ensures.value
    ∙ parts c.args.target.now c.as_bytes.result.now c.space_before-space.result.now c.args.value.now (codes "?>") _ c.as_bytes.ensures.value
    (c.space_before-space.ensures c.args.target.now)) c.in_ok-put_three.ensures.ok c.put_two.ensures.ok

pub returns-clause-err : goal.returns-clause-err
returns-clause-err g c =
    last_err g.met.O.Octets.composes c.put_two.result c.args.out.now c.put_three.new.out c.put_two.new.out (codes "<?" ++ (c.as_bytes.result.now ++ c.space_before-space.result.now))
    (c.as_bytes-2.result.now ++ codes "?>") _
    (ap (λ xs. (codes "<?" ++ (c.as_bytes.result.now ++ c.space_before-space.result.now)) ++ (xs ++ codes "?>")) c.as_bytes-2.ensures.value
    ∙ parts c.args.target.now c.as_bytes.result.now c.space_before-space.result.now c.args.value.now (codes "?>") _ c.as_bytes.ensures.value
    (c.space_before-space.ensures c.args.target.now)) c.in_ok-put_three.ensures.ok c.put_two.ensures.err
