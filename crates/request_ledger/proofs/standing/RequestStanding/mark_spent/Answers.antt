use Rattle.std.proofs.Common.{◌≡◌, ◌∙◌, false, sym, subst}
use Rattle.std.proofs.lemmas.Bool.{true≢false}
use Rattle.request_ledger.specs.Record.{is_asked}
use Rattle.request_ledger.specs.Standing.{IsAskedAt}
use Rattle.request_ledger.proofs.SpentMarks.{spent_opened, next_is_asked}
use Rattle.request_ledger.proofs.standing.RequestStanding.mark_spent.Goals as goal

pub returns-in-Some : goal.returns-in-Some
returns-in-Some c =
    let rows = c.args.self.now.rows in
    let is = subst (λ request. IsAskedAt rows.asked request c.in-Some.place) c.as_str.ensures c.in-Some.ensures.some in
    spent_opened c.args.spent.now.items rows c.args.r.now c.in-Some.place is c.requires.spent

pub returns-in_default : goal.returns-in_default
returns-in_default c =
    let rows = c.args.self.now.rows in
    let none = subst (λ request. is_asked rows.asked request ≡ false) c.as_str.ensures c.in_default.ensures.none in
    absurd (true≢false (sym (next_is_asked rows c.args.self.now.next c.args.r.now c.requires.is) ∙ none))
