use Rattle.std.proofs.Common.{◌≡◌, ◌∙◌, not, ◌&&◌, nat_eq, Option, None, Some, sym, ap, subst}
use Rattle.round_rows.specs.declared.row.RoundRow.{RoundRow}
use Rattle.round_rows.specs.Kept.{IsRoundOf}
use Rattle.idp_rows.specs.Kept.{StandingView}
use Rattle.idp_rows.specs.Record.{has_its_next, is_answer_free}
use Rattle.idp_rows.proofs.RoundFound.{answer_free, fits_in}
use Rattle.idp_rows.proofs.kept.KeptRows.is_answer_free.Goals as goal
use Rattle.idp_rows.proofs.kept.KeptRows.is_answer_free.Goals.{After-waiting}

-- what is found decides
decided : (c : After-waiting) (found : Option RoundRow) → IsRoundOf c.self.inside.rounds.rows c.as_str.result.now found
    → is_answer_free c.args.self.now.rows.rounds c.args.r.now ≡ fits_in c.args.r.now found
decided c found is =
    ap (λ (v : StandingView). is_answer_free v.rows.rounds c.args.r.now) (sym c.self.view_is)
    ∙ answer_free c.self.inside.rounds.rows c.args.r.now found (subst (λ q. IsRoundOf c.self.inside.rounds.rows q found) c.as_str.ensures is)

pub returns-in-Some-next : goal.returns-in-Some-next
returns-in-Some-next c =
    c.is_turn_left.ensures
    ∙ sym (decided (goal.at.returns-in-Some-next c).After-waiting (Some c.in-Some.row.now) c.in-Some.ensures.round
    ∙ ap (has_its_next (Rattle.round_rows.specs.Rounds.is_turn_left c.in-Some.row.now) c.args.r.now.first) c.in-Some-next.is)

pub returns-then-not-is_turn_left : goal.returns-then-not-is_turn_left
returns-then-not-is_turn_left c =
    let left = Rattle.round_rows.specs.Rounds.is_turn_left c.in-Some.row.now in
    let at = (goal.at.returns-then-not-is_turn_left c).After-waiting in
    sym (decided at (Some c.in-Some.row.now) c.in-Some.ensures.round
    ∙ ap (has_its_next left c.args.r.now.first) c.in-None-next.is
    ∙ ap (λ b. not b && nat_eq c.args.r.now.first 0) (sym c.if-not-is_turn_left.ensures))

pub returns-else-not-is_turn_left : goal.returns-else-not-is_turn_left
returns-else-not-is_turn_left c =
    let left = Rattle.round_rows.specs.Rounds.is_turn_left c.in-Some.row.now in
    let at = (goal.at.returns-else-not-is_turn_left c).After-waiting in
    ap not c.if-not-is_turn_left.false
    ∙ sym (decided at (Some c.in-Some.row.now) c.in-Some.ensures.round
    ∙ ap (has_its_next left c.args.r.now.first) c.in-None-next.is
    ∙ ap (λ b. not b && nat_eq c.args.r.now.first 0) (sym c.if-not-is_turn_left.ensures))

pub returns-in-None : goal.returns-in-None
returns-in-None c = sym (decided (goal.at.returns-in-None c).After-waiting None c.in-None.ensures.round)
