use Rattle.std.proofs.Common.{◌≡◌, ◌-◌}
use Rattle.ledger_records.specs.Reading.{turn_at, many_at}
use Rattle.ledger_records.proofs.Loop.{with_front}
use Rattle.ledger_records.proofs.reading.Fields.some_turns.Given as goal

abbrev pub invariant-loop : goal.invariant-loop
invariant-loop l = with_front l.turns (many_at turn_at (l.count - l.counter) l.self.rest.now) ≡ many_at turn_at l.count l.initial.self.rest.now
