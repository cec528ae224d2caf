use Rattle.std.proofs.Common.{◌∷◌, [], refl}
use Rattle.xml_spec.specs.Ascii.{quotation_mark}
use Rattle.xml_spec.specs.Canonical.{escape_value}
use Rattle.canon_octets.proofs.Appending.{first_err, last_err}
use Rattle.canon_octets.proofs.tags.put_value.Goals as goal

pub returns-in_err-escape_value-clause-err : goal.returns-in_err-escape_value-clause-err
returns-in_err-escape_value-clause-err g c =
    first_err g.met.O.Octets.composes c.from_residual.result c.args.out.now c.escape_value.new.out (escape_value c.args.value.now) (quotation_mark ∷ []) _ refl
    c.in_err-escape_value.ensures.err

pub returns-clause-err : goal.returns-clause-err
returns-clause-err g c =
    last_err g.met.O.Octets.composes c.put.result c.args.out.now c.escape_value.new.out c.put.new.self (escape_value c.args.value.now) (quotation_mark ∷ []) _ refl
    c.in_ok-escape_value.ensures.ok c.put.ensures.err
