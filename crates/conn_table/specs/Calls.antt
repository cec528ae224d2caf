-- What the calls make of the table.
use Rattle.std.specs.Prelude.{◌≡◌, ◌≢◌, ℕ, ◌≤◌, ◌↔◌, List, [], ◌++◌, None, IfSome, IsSomeAnd}
use Rattle.std.specs.FinMap as map
use Rattle.conn_table.specs.declared.progress.Progress.{Progress}
use Rattle.conn_table.specs.declared.progress.Progress.TheVariants.{Ready, Unknown, NoMemory}
use Rattle.conn_table.specs.declared.progress.Start.{Start}
use Rattle.conn_table.specs.declared.progress.Start.TheVariants as start
use Rattle.conn_table.specs.declared.limits.TheConstants.{CONNECTION_LIMIT}
use Rattle.conn_table.specs.Answers.{IsAnswer, IsWholeRequest}
use Rattle.conn_table.specs.Table.{Table}

-- a connection was started, and this was answered: the table was full, or the connection is kept with no bytes, or nothing
-- changed
pub record IsStarted (old : Table) (conn : ℕ) (answer : Start) (new : Table) : Type 0 where
  pub full : (answer ≡ start.TableFull) ↔ (CONNECTION_LIMIT ≤ map.len old)
  pub taken : answer ≡ start.Taken → new ≡ map.insert old conn []
  pub refused : answer ≢ start.Taken → new ≡ old
  pub limit : map.len new ≤ CONNECTION_LIMIT

-- a connection has brought a piece, and this was answered: it is not kept, or the piece is behind its bytes and the answer is
-- that of all of them, or there was no memory and nothing changed
pub record TakesPiece (old : Table) (conn : ℕ) (piece : List ℕ) (answer : Progress) (new : Table) : Type 0 where
  pub unknown : (answer ≡ Unknown) ↔ (map.get old conn ≡ None)
  pub absent : answer ≡ Unknown → new ≡ old
  pub answered : answer ≢ NoMemory → IfSome (map.get old conn) (λ bytes. IsAnswer (bytes ++ piece) answer)
  pub taken : answer ≢ NoMemory → IfSome (map.get old conn) (λ bytes. new ≡ map.insert old conn (bytes ++ piece))
  pub ready : answer ≡ Ready → IsSomeAnd (map.get new conn) IsWholeRequest
  pub unchanged : answer ≡ NoMemory → new ≡ old
