use Rattle.std.proofs.Common.{◌≡◌, true, false, codes, ◌∙◌, ap}
use Rattle.std.specs.Str.{bytes_eq}
use Rattle.xml_tokens.specs.Heads.{IsVersion}
use Rattle.xml_tokens.proofs.HeadReadings.{unset_no_version, other_no_version}
use Rattle.xml_tokens.proofs.settings.version.Goals as goal

pub returns-in_err-value : goal.returns-in_err-value
returns-in_err-value c = rw c.from_residual.ensures (unset_no_version c.args.rest.now c.in_err-value.ensures)

pub returns-else-eq : goal.returns-else-eq
returns-else-eq c =
    other_no_version c.args.rest.now c.in_ok-value.value.now c.in_ok-value.behind.now c.in_ok-value.ensures
    (λ (e : IsVersion c.in_ok-value.value.now). let clash : false ≡ true = c.if-eq.ensures ∙ ap (λ v. bytes_eq v (codes "1.0")) e in cc)
