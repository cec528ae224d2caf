use Rattle.std.proofs.Common.{◌∷◌, ◌++◌, [], refl}
use Rattle.std.specs.Prelude.{codes}
use Rattle.xml_spec.specs.Ascii.{quotation_mark}
use Rattle.xml_spec.specs.Canonical.{escape_value}
use Rattle.canon_octets.proofs.Appending.{first_err, last_ok, last_err}
use Rattle.canon_octets.proofs.tags.put_quoted.Goals as goal

pub returns-in_err-put-clause-err : goal.returns-in_err-put-clause-err
returns-in_err-put-clause-err g c =
    first_err g.met.O.Octets.composes c.from_residual.result c.args.out.now c.put.new.self (codes "=\"") (escape_value c.args.value.now ++ quotation_mark ∷ []) _ refl
    c.in_err-put.ensures.err

pub returns-clause-ok : goal.returns-clause-ok
returns-clause-ok g c =
    last_ok g.met.O.Octets.composes c.put_value.result c.args.out.now c.put.new.self c.put_value.new.out (codes "=\"") (escape_value c.args.value.now ++ quotation_mark ∷ [])
    _ refl c.in_ok-put.ensures.ok c.put_value.ensures.ok

pub returns-clause-err : goal.returns-clause-err
returns-clause-err g c =
    last_err g.met.O.Octets.composes c.put_value.result c.args.out.now c.put.new.self c.put_value.new.out (codes "=\"") (escape_value c.args.value.now ++ quotation_mark ∷ [])
    _ refl c.in_ok-put.ensures.ok c.put_value.ensures.err
