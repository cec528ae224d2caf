use Rattle.std.proofs.Common.{◌≡◌, ◌∙◌, false, refl, ap, sym, subst, arith}
use Rattle.request_rows.specs.Kept.{KeptView}
use Rattle.request_ledger.specs.Record.{is_waiting}
use Rattle.request_ledger.specs.Standing.{IsWaitingAt}
use Rattle.request_ledger.proofs.StandingRows.{confirms_nothing}
use Rattle.request_ledger.proofs.StandingKept.{kept_confirmed, rows_confirmed}
use Rattle.request_ledger.proofs.standing.RequestStanding.put_confirmed.Goals as goal

pub invariant_of-self : goal.invariant_of-self
invariant_of-self c =
    kept_confirmed c.self.inside.next c.self.inside.asked.listed c.self.inside.opened.listed c.self.inside.left.listed c.self.inside.rows.rows c.self.invariant c.in-Some.place c.confirm.new.self.rows (ap (λ (k : KeptView). k.rows) c.confirm.ensures)

pub returns-in-Some : goal.returns-in-Some
returns-in-Some c =
    let old = c.args.self.now.rows in
    let next = ap (λ v. v.next) c.self.view_is in
    let is = subst (λ request. IsWaitingAt old.left request c.in-Some.place) c.as_str.ensures c.in-Some.ensures.some in
    record {
      rows = rows_confirmed c.self.inside.rows.rows c.confirm.new.self.rows old (ap (λ v. v.rows) c.self.view_is) c.in-Some.place (ap (λ (k : KeptView). k.rows) c.confirm.ensures) c.args.r.request is;
      indexed = ap (λ (k : KeptView). k.is_indexed) c.confirm.ensures ∙ ap (λ v. v.is_indexed) c.self.view_is;
      next = omega (arith, next);
    }

pub returns : goal.returns
returns c =
    let old = c.args.self.now.rows in
    let none = subst (λ request. is_waiting old.left request ≡ false) c.as_str.ensures c.in_default.ensures.none in
    record {
      rows = ap (λ left. record old { left = left }) (sym (confirms_nothing old.left c.args.r.request none));
      indexed = refl;
      next = omega arith;
    }
