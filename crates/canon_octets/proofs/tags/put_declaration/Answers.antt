use Rattle.std.proofs.Common.{◌≡◌, ◌++◌, ◌∷◌, [], List, ℕ, sym, append_assoc}
use Rattle.std.specs.Prelude.{codes}
use Rattle.xml_spec.specs.Ascii.{quotation_mark, space_character}
use Rattle.xml_spec.specs.Canonical.{escape_value, declaration_name, print_binding}
use Rattle.canon_octets.proofs.Appending.{first_err, last_ok, last_err}
use Rattle.canon_octets.proofs.tags.put_declaration.Goals as goal

parts : (prefix namespace : List ℕ) → (space_character ∷ declaration_name prefix) ++ (codes "=\"" ++ (escape_value namespace ++ quotation_mark ∷ []))
    ≡ print_binding (record { prefix = prefix; namespace = namespace })
parts prefix namespace = sym (append_assoc (space_character ∷ declaration_name prefix) (codes "=\"" ++ escape_value namespace) (quotation_mark ∷ []))

pub returns-in_err-put_declared-clause-err : goal.returns-in_err-put_declared-clause-err
returns-in_err-put_declared-clause-err g c =
    first_err g.met.O.Octets.composes c.from_residual.result c.args.out.now c.put_declared.new.out (space_character ∷ declaration_name c.args.prefix.now)
    (codes "=\"" ++ (escape_value c.args.namespace.now ++ quotation_mark ∷ [])) _ (parts c.args.prefix.now c.args.namespace.now) c.in_err-put_declared.ensures.err

pub returns-clause-ok : goal.returns-clause-ok
returns-clause-ok g c =
    last_ok g.met.O.Octets.composes c.put_quoted.result c.args.out.now c.put_declared.new.out c.put_quoted.new.out (space_character ∷ declaration_name c.args.prefix.now)
    (codes "=\"" ++ (escape_value c.args.namespace.now ++ quotation_mark ∷ [])) _ (parts c.args.prefix.now c.args.namespace.now) c.in_ok-put_declared.ensures.ok c.put_quoted.ensures.ok

pub returns-clause-err : goal.returns-clause-err
returns-clause-err g c =
    last_err g.met.O.Octets.composes c.put_quoted.result c.args.out.now c.put_declared.new.out c.put_quoted.new.out (space_character ∷ declaration_name c.args.prefix.now)
    (codes "=\"" ++ (escape_value c.args.namespace.now ++ quotation_mark ∷ [])) _ (parts c.args.prefix.now c.args.namespace.now) c.in_ok-put_declared.ensures.ok c.put_quoted.ensures.err
