-- Worlds of a service whose clock does not tell: a turn that is done by a clock is done without one.
use Rattle.std.specs.Prelude.{None}
use Rattle.std.proofs.Common.{ℕ, List, refl, ap}
use Rattle.conn_table.specs.Table.{Table}
use Rattle.http_wire.specs.Answers.{fixed}
use Rattle.serve_loop.specs.Turns.{Answered, Asked, Asks, Does, Full, LetsGo, Over, Refused, StarvedPiece, StarvedStart, Taken, Turn, Unknown, Waiting}
use Rattle.serve_loop.specs.Worlds.{NodeStep, OnlySends, World}
use Rattle.schedule_replay.specs.Hosts.{Host, world_of}

abbrev pub unclocked : {N : Type 0} → World N → World N
unclocked w = record w { clock = None }

-- the world of a node in a replay
abbrev pub still : {N : Type 0} → Host N → World N
still host = unclocked (world_of 0 host)

module _ {N : Type 0} where
  sends_unclocked : (conn : ℕ) (bytes : List ℕ) (w later : World N) → OnlySends conn bytes w later
      → OnlySends conn bytes (unclocked w) (unclocked later)
  sends_unclocked conn bytes w later sends =
      record { out = sends.out; same = ap (λ (x : World N). unclocked x) sends.same }

  lets_unclocked : (conn code : ℕ) (old new : Table) (w later : World N) → LetsGo conn code old w new later
      → LetsGo conn code old (unclocked w) new (unclocked later)
  lets_unclocked conn code old new w later lets =
      record { sends = sends_unclocked conn (fixed code) w later lets.sends; gone = lets.gone }

  module _ (step : NodeStep N) where
    asks_unclocked : (asked : Asked N) (w later : World N) → Asks step asked w later
        → Asks step asked (unclocked w) (unclocked later)
    asks_unclocked asked w later asks = record {
      node = asks.node;
      disk = asks.disk;
      moment = record { moment = tt; limit = asks.moment.limit; later = refl };
      time = asks.time;
      disk_faults = asks.disk_faults;
      answers = asks.answers;
      link = asks.link;
      send_faults = asks.send_faults;
    }

    pub does_unclocked : (old new : Table) (w later : World N) (turn : Turn N) → Does step old w turn new later
        → Does step old (unclocked w) turn new (unclocked later)
    does_unclocked old new w later (Taken conn) does = (does.0, ap (λ (x : World N). unclocked x) does.1)
    does_unclocked old new w later (Full conn) does = (does.0, sends_unclocked conn (fixed 503) w later does.1)
    does_unclocked old new w later (StarvedStart conn) does = (does.0, sends_unclocked conn (fixed 52) w later does.1)
    does_unclocked old new w later (Over conn) does = (does.0, ap (λ (x : World N). unclocked x) does.1)
    does_unclocked old new w later (Unknown conn piece) does = (does.0, ap (λ (x : World N). unclocked x) does.1)
    does_unclocked old new w later (Waiting conn piece) does = (does.0, ap (λ (x : World N). unclocked x) does.1)
    does_unclocked old new w later (Answered piece asked) (between, takes, answers) = (
      between,
      takes,
      record {
        request = answers.request;
        told = unclocked answers.told;
        asks = asks_unclocked asked w answers.told answers.asks;
        sends = sends_unclocked asked.conn _ answers.told later answers.sends;
        gone = answers.gone;
      },
    )
    does_unclocked old new w later (Refused conn piece status) (between, takes, lets) =
        (between, takes, lets_unclocked conn status between new w later lets)
    does_unclocked old new w later (StarvedPiece conn piece) (between, takes, lets) =
        (between, takes, lets_unclocked conn 52 between new w later lets)
