use Rattle.std.proofs.Common.{◌≡◌, Option, Some, IfSome, sym, subst, ap, ◌∙◌}
use Rattle.http_wire.specs.declared.head.HeadPlaces.{HeadPlaces}
use Rattle.http_wire.specs.Awaiting.{Awaited, IsKept}
use Rattle.http_wire.specs.Requests.{Whole}
use Rattle.http_wire.proofs.Deciding.{reads_one}
use Rattle.http_wire.proofs.Keeping.{not_another, reads_kept}
use Rattle.http_wire.proofs.request.Awaited.request.Goals as goal

pub unreachable-requires-in_default-found_at : goal.unreachable-requires-in_default-found_at
unreachable-requires-in_default-found_at c =
    let buffer = c.args.buffer.now in
    let head = c.in-Some.head in
    let whole = c.requires.whole in
    let same : c.args.self.now.head ≡ Some head = sym (ap (λ (a : Awaited). a.head) c.self.view_is) ∙ c.in-Some.is in
    let kept : IsKept buffer c.args.self.now.wanted head = subst (λ (o : Option HeadPlaces). IfSome o (IsKept buffer c.args.self.now.wanted)) same c.requires.known.head in
    not_another c.found_at.result whole.0 (c.found_at.ensures ∙ reads_one buffer _ (Whole whole.0) (reads_kept buffer head kept.ended kept.read) whole.1) c.in_default-found_at.not-Whole
