use Rattle.std.specs.Prelude.{nat_le, if◌then◌else◌, OnOk, decimal}
use Rattle.std.proofs.Common.{◌≡◌, ◌++◌, true, List, ℕ, ap, ◌∙◌, subst, sym, arith}
use Rattle.std.proofs.lemmas.Bool.{le-leb}
use Rattle.saml_time.specs.declared.TheConstants.{LAST}
use Rattle.saml_time.specs.Instant.{print}
use Rattle.record_lines.specs.Instants.{instant, instant_at}
use Rattle.record_lines.proofs.Instants.{written_instant}
use Rattle.record_lines.proofs.moments.put_moment.Goals as goal

pub returns : goal.returns
returns c =
    let ms = c.args.moment in
    let low : nat_le ms LAST ≡ true = le-leb ms LAST (omega (arith, c.if-moment-gt-LAST.false)) in
    let is : print (instant_at ms) ≡ instant ms = ap (λ b. if b then print (instant_at ms) else decimal ms) (sym low) in
    subst (λ (text : List ℕ). OnOk c.push.result (c.push.new.self ≡ c.args.line.now ++ text)) (written_instant c.put_instant.new.out ms c.put_instant.ensures.told ∙ is) c.push.ensures.ok
