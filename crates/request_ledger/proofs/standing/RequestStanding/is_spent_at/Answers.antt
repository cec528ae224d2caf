use Rattle.std.proofs.Common.{◌∙◌, false, subst}
use Rattle.std.proofs.lemmas.List.{get_or_default}
use Rattle.request_ledger.specs.Standing.{KnowsSpent}
use Rattle.request_ledger.proofs.SpentMarks.{marked}
use Rattle.request_ledger.proofs.standing.RequestStanding.is_spent_at.Goals as goal

pub returns-in-Some : goal.returns-in-Some
returns-in-Some c =
    let mark = marked c.in-Some.spent.items c.args.self.now.rows c.args.request.now c.args.place c.requires.at (subst (KnowsSpent c.args.self.now) c.in-Some.is c.requires.knows) in
    c.index.ensures ∙ get_or_default c.in-Some.spent.items c.args.place c.index.result.now false mark.0 ∙ mark.1
