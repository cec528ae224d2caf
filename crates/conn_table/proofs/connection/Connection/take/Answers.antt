use Rattle.std.proofs.Common.{◌≡◌, ◌++◌, sym, subst, ◌∙◌}
use Rattle.http_wire.specs.Awaiting.{IsAwaited}
use Rattle.http_wire.specs.Requests.{Reads}
use Rattle.http_wire.specs.Views.{reading_view}
use Rattle.conn_table.proofs.Found.{brought}
use Rattle.conn_table.proofs.connection.Connection.take.Goals as goal

pub look-requires : goal.look-requires
look-requires c =
    let same : c.as_slice.result.now ≡ c.self.inside.buffer.items ++ c.args.piece.now =
    c.as_slice.ensures.value ∙ brought _ c.self.inside.buffer.items _ c.args.piece.now c.extend.ensures.items (sym c.is_err.ensures.value ∙ c.if-is_err.false) in
    subst (λ xs. IsAwaited c.self.inside.awaited xs) (sym same)
    (c.what_is_known_stays_true.ensures c.self.inside.awaited c.self.inside.buffer.items c.args.piece.now c.self.invariant.known)

pub returns-clause-answer : goal.returns-clause-answer
returns-clause-answer c = λ met.
    (reading_view c.look.result, subst (λ xs. Reads xs (reading_view c.look.result)) c.as_slice.ensures.value c.look.ensures.reading, c.progress_of.ensures)
