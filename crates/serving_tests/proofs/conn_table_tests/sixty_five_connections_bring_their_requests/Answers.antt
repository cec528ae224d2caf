use Rattle.std.proofs.Common.{◌≡◌, ℕ, ◌+◌, ◌≤◌, [], Some, None, ap, ◌∙◌, arith}
use Rattle.std.specs.Ordering.{nat_cmp}
use Rattle.std.specs.FinMap as map
use Rattle.conn_table.specs.declared.progress.Start.{Start}
use Rattle.conn_table.specs.declared.progress.Start.TheVariants as start
use Rattle.conn_table.specs.Calls.{IsStarted}
use Rattle.conn_table.specs.Table.{Table}
use Rattle.conn_table.proofs.Numbers.{if-false, other_number}
use Rattle.conn_table.proofs.Serving.{get-insert}
use Rattle.serving_tests.proofs.conn_table_tests.sixty_five_connections_bring_their_requests.Goals as goal

none_later : (old new : Table) (conn : ℕ) (answer : Start) → IsStarted old conn answer new → ((q : ℕ) → conn ≤ q → map.get old q ≡ None)
    → (q : ℕ) → conn + 1 ≤ q → map.get new q ≡ None
none_later old new conn start.Taken is none q later =
    ap (λ m. map.get m q) (is.taken (λ i. start.Taken)) ∙ get-insert old conn [] q
    ∙ if-false _ (Some []) (map.get old q) (other_number conn q (omega arith)) ∙ none q (omega arith)
none_later old new conn start.TableFull is none q later = ap (λ m. map.get m q) (is.refused (λ e. cc)) ∙ none q (omega arith)
none_later old new conn start.NoMemory is none q later = ap (λ m. map.get m q) (is.refused (λ e. cc)) ∙ none q (omega arith)

pub loop-conn-init : goal.loop-conn-init
loop-conn-init g c = λ q from. ap (λ m. map.get m q) c.in_ok-conns.ensures ∙ map.get-empty nat_cmp q

pub loop-conn-preserved : goal.loop-conn-preserved
loop-conn-preserved g c = none_later _ _ _ c.started.result c.started.ensures c.loop-conn.invariant
