use Rattle.std.proofs.Common.{◌≡◌, sym, ap, subst, ◌∙◌}
use Rattle.http_wire.specs.Awaiting.{IsAwaited, KeepsHead}
use Rattle.http_wire.specs.Requests.{Reads, Whole}
use Rattle.http_wire.specs.Views.{request_view}
use Rattle.conn_table.specs.Answers.{IsWholeRequest}
use Rattle.conn_table.proofs.connection.Connection.request.Goals as goal

pub request-requires-clause-known : goal.request-requires-clause-known
request-requires-clause-known c = subst (IsAwaited c.self.inside.awaited) (sym c.as_slice.ensures.value) c.self.invariant.known

pub request-requires-clause-kept : goal.request-requires-clause-kept
request-requires-clause-kept c = subst (KeepsHead c.self.inside.awaited) (sym c.as_slice.ensures.value) c.self.invariant.kept

pub request-requires-clause-whole : goal.request-requires-clause-whole
request-requires-clause-whole c =
    let same : c.args.self.now.bytes ≡ c.as_slice.result.now = ap (λ k. k.bytes) (sym c.self.view_is) ∙ sym c.as_slice.ensures.value in
    subst IsWholeRequest same c.requires

pub returns : goal.returns
returns c =
    let same : c.as_slice.result.now ≡ c.args.self.now.bytes = c.as_slice.ensures.value ∙ ap (λ k. k.bytes) c.self.view_is in
    subst (λ xs. Reads xs (Whole (request_view c.request.result))) same c.request.ensures
