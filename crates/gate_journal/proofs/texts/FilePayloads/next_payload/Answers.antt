use Rattle.std.proofs.Common.{◌≡◌, ◌+◌, ◌-◌, true, false, refl, sym, ap, ◌∙◌, rules, arith, length, drop, length-take, length-drop}
use Rattle.gate_journal.specs.Format.{is_whole, size_of}
use Rattle.gate_journal.specs.Texts.{Coming}
use Rattle.gate_journal.proofs.Coming.{none_come, no_cut, one_comes}
use Rattle.gate_journal.proofs.Payloads.{whole_long}
use Rattle.gate_journal.proofs.texts.FilePayloads.next_payload.Goals as goal

pub returns-then-self-ne-OPEN-clause-payload : goal.returns-then-self-ne-OPEN-clause-payload
returns-then-self-ne-OPEN-clause-payload c =
    let s = c.self.inside in
    (ap (λ (v : Coming). v.payloads) (sym c.self.view_is) ∙ none_come s.longest s.place s.gate s.bodies.now c.self.invariant.0 c.if-self-ne-OPEN.true, refl)

pub returns-in_err-size-clause-payload : goal.returns-in_err-size-clause-payload
returns-in_err-size-clause-payload c =
    let s = c.self.inside in
    let cut : is_whole s.longest s.bodies.now ≡ false = search rules in
    absurd (no_cut s.longest s.place s.gate s.bodies.now c.self.invariant.0 (search rules) cut)

pub invariant_of-self : goal.invariant_of-self
invariant_of-self c =
    let s = c.self.inside in
    let whole : is_whole s.longest s.bodies.now ≡ true = search rules in
    let same : c.in_ok-size.size ≡ size_of s.bodies.now = search rules in
    let one = one_comes s.longest s.place s.gate s.bodies.now c.self.invariant.0 (search rules) whole c.in_ok-size.size same in
    let long = whole_long s.longest s.bodies.now whole in
    let within = length-drop (c.in_ok-size.size + 5) s.bodies.now in
    let taken = length-take (length s.bodies.now - (c.in_ok-size.size + 5)) (drop (c.in_ok-size.size + 5) s.bodies.now) in
    (one.1, omega (arith, same, long, within, taken, c.self.invariant.1), c.self.invariant.2)

pub returns-clause-payload : goal.returns-clause-payload
returns-clause-payload c =
    let s = c.self.inside in
    let whole : is_whole s.longest s.bodies.now ≡ true = search rules in
    let same : c.in_ok-size.size ≡ size_of s.bodies.now = search rules in
    let one = one_comes s.longest s.place s.gate s.bodies.now c.self.invariant.0 (search rules) whole c.in_ok-size.size same in
    ap (λ (v : Coming). v.payloads) (sym c.self.view_is) ∙ one.0
