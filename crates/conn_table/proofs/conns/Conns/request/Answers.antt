use Rattle.std.proofs.Common.{Option, List, ℕ, sym, subst}
use Rattle.std.specs.Prelude.{IsSomeAnd, IfSome}
use Rattle.http_wire.specs.Requests.{Reads, Whole}
use Rattle.http_wire.specs.Views.{request_view}
use Rattle.conn_table.specs.Answers.{IsWholeRequest}
use Rattle.conn_table.proofs.Steps.{contains, in_table, not_in_table}
use Rattle.conn_table.proofs.conns.Conns.request.Goals as goal

pub unreachable-requires : goal.unreachable-requires
unreachable-requires c =
    let P : Option (List ℕ) → Type 0 = λ o. IsSomeAnd o IsWholeRequest in
    subst P (not_in_table c.self.inside.connections c.args.self.now c.args.conn c.self.view_is c.in_default.ensures.absent) c.requires

pub index-requires : goal.index-requires
index-requires c = contains c.self.inside.connections c.in-Some.key c.args.conn c.in-Some.ensures.found

pub request-requires : goal.request-requires
request-requires c =
    let P : Option (List ℕ) → Type 0 = λ o. IsSomeAnd o IsWholeRequest in
    subst P (in_table c.self.inside.connections c.args.self.now c.in-Some.key c.args.conn c.index.result.now c.self.invariant.distinct c.self.view_is c.in-Some.ensures.found c.index.ensures)
    c.requires

pub returns : goal.returns
returns c =
    let P : Option (List ℕ) → Type 0 = λ o. IfSome o (λ bytes. Reads bytes (Whole (request_view c.request.result))) in
    subst P
    (sym (in_table c.self.inside.connections c.args.self.now c.in-Some.key c.args.conn c.index.result.now c.self.invariant.distinct c.self.view_is c.in-Some.ensures.found c.index.ensures))
    c.request.ensures
