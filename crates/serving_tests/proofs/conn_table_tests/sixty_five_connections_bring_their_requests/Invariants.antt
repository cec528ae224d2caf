use Rattle.std.proofs.Common.{◌≡◌, ℕ, ◌≤◌, None}
use Rattle.std.specs.FinMap as map
use Rattle.serving_tests.proofs.conn_table_tests.sixty_five_connections_bring_their_requests.Given as goal

-- no connection from here on was started
abbrev pub invariant-loop-conn : goal.invariant-loop-conn
invariant-loop-conn g l = (q : ℕ) → l.conn ≤ q → map.get l.conns q ≡ None
