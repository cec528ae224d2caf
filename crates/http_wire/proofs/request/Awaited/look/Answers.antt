use Rattle.std.proofs.Common.{◌≡◌, ◌<◌, length, Option, Some, IfSome, sym, subst, ap, ◌∙◌, arith}
use Rattle.http_wire.specs.declared.head.HeadPlaces.{HeadPlaces}
use Rattle.http_wire.specs.Awaiting.{Awaited, IsKept}
use Rattle.http_wire.specs.Requests.{More}
use Rattle.http_wire.proofs.Deciding.{still_more, just_wanted, reads_one}
use Rattle.http_wire.proofs.Keeping.{kept_more, not_more, reads_kept}
use Rattle.http_wire.proofs.request.Awaited.look.Goals as goal

pub returns-then-buffer-self-clause-reading : goal.returns-then-buffer-self-clause-reading
returns-then-buffer-self-clause-reading c = still_more c.args.self.now c.args.buffer.now c.requires (let wanted = ap (λ (a : Awaited). a.wanted) c.self.view_is in omega arith)

pub returns-then-buffer-self-clause-kept : goal.returns-then-buffer-self-clause-kept
returns-then-buffer-self-clause-kept c = λ request whole.
    absurd (not_more c.args.buffer.now request (still_more c.args.self.now c.args.buffer.now c.requires (let wanted = ap (λ (a : Awaited). a.wanted) c.self.view_is in omega arith)) whole)

pub returns-then-buffer-self-clause-exact : goal.returns-then-buffer-self-clause-exact
returns-then-buffer-self-clause-exact c = λ is came. just_wanted c.args.self.now c.args.buffer.now c.requires (let wanted = ap (λ (a : Awaited). a.wanted) c.self.view_is in omega arith) came

pub returns-in-Some-clause-exact : goal.returns-in-Some-clause-exact
returns-in-Some-clause-exact c = λ is came.
    (let buffer = c.args.buffer.now in
    let head = c.in-Some.head in
    let same : c.args.self.now.head ≡ Some head = sym (ap (λ (a : Awaited). a.head) c.self.view_is) ∙ c.in-Some.is in
    let kept : IsKept buffer c.args.self.now.wanted head = subst (λ (o : Option HeadPlaces). IfSome o (IsKept buffer c.args.self.now.wanted)) same c.requires.head in
    let short : length buffer < c.args.self.now.wanted =
    kept_more buffer c.args.self.now.wanted head kept (reads_one buffer _ More (reads_kept buffer head kept.ended kept.read) is) in
    just_wanted c.args.self.now buffer c.requires short came)

pub returns-in-None-clause-exact : goal.returns-in-None-clause-exact
returns-in-None-clause-exact c = λ is came.
    just_wanted c.look_for_head.new.self c.args.buffer.now c.look_for_head.ensures.awaited
    (c.look_for_head.ensures.more (reads_one c.args.buffer.now _ More c.look_for_head.ensures.reading is)) came
