use Rattle.std.specs.Prelude.{is_ok}
use Rattle.std.proofs.Common.{◌≡◌, ◌+◌, ◌-◌, ◌++◌, [], ◌∷◌, true, length, take, drop, arith, rules, refl, ap}
use Rattle.gate_journal.specs.Format.{size_of, is_whole}
use Rattle.gate_journal.proofs.Scanning.{read_end, read_fault, read_more, body_within}
use Rattle.gate_journal.proofs.texts.walk.Goals as goal

pub loop-gate-init : goal.loop-gate-init
loop-gate-init c = record { within = search rules; read = ([], refl) }

pub returns-in_default : goal.returns-in_default
returns-in_default c =
    let read = c.loop-gate.invariant.read in
    read_fault c.args.longest c.loop-gate.at c.loop-gate.gate c.args.file.now read.0 read.1 c.loop-gate-test.true (search rules)

pub loop-gate-preserved : goal.loop-gate-preserved
loop-gate-preserved c =
    let at = c.loop-gate.at in
    let file = c.args.file.now in
    let size = c.in-Some.size in
    let bodies = take (length file - at) (drop at file) in
    let size_is : size ≡ size_of bodies = search rules in
    let whole : is_whole c.args.longest bodies ≡ true = search rules in
    let read = c.loop-gate.invariant.read in
    let more = read_more c.args.longest at c.loop-gate.gate file read.0 read.1 size c.loop-gate-test.true size_is whole in
    let fits = body_within c.args.longest at c.loop-gate.gate file read.0 read.1 size c.loop-gate-test.true size_is whole in
    record { within = omega (arith, fits); read = (read.0 ++ take (at + 4 + size - (at + 4)) (drop (at + 4) file) ∷ [], more) }

pub returns : goal.returns
returns c =
    let read = c.loop-gate.invariant.read in
    ap is_ok (read_end c.args.longest c.loop-gate.at c.loop-gate.gate c.args.file.now read.0 read.1 c.loop-gate-test.false)
