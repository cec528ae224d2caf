use Rattle.std.proofs.Common.{◌≡◌, ◌++◌, ◌∷◌, [], List, ℕ, sym, ap, ◌∙◌, append_assoc}
use Rattle.std.specs.Prelude.{codes}
use Rattle.xml_spec.specs.Ascii.{quotation_mark}
use Rattle.xml_spec.specs.Canonical.{escape_value, print_attribute}
use Rattle.canon_octets.specs.Names.{joined_name}
use Rattle.canon_octets.proofs.Appending.{first_err, middle_err, last_ok, last_err}
use Rattle.canon_octets.proofs.tags.put_attribute.Goals as goal

parts : (name value : List ℕ) → codes " " ++ (name ++ (codes "=\"" ++ (escape_value value ++ quotation_mark ∷ []))) ≡ print_attribute name value
parts name value = ap (λ xs. codes " " ++ xs) (sym (append_assoc name (codes "=\"" ++ escape_value value) (quotation_mark ∷ [])))

parts_left : (name value : List ℕ) → (codes " " ++ name) ++ (codes "=\"" ++ (escape_value value ++ quotation_mark ∷ [])) ≡ print_attribute name value
parts_left name value = parts name value

parts_together : (name value : List ℕ) → (codes " " ++ (name ++ codes "=\"")) ++ (escape_value value ++ quotation_mark ∷ []) ≡ print_attribute name value
parts_together name value = ap (λ xs. codes " " ++ xs) (append_assoc name (codes "=\"") (escape_value value ++ quotation_mark ∷ [])) ∙ parts name value

pub returns-in_err-put_three-clause-err : goal.returns-in_err-put_three-clause-err
returns-in_err-put_three-clause-err g c =
    let value = c.args.value.now in
    first_err g.met.O.Octets.composes c.from_residual.result c.args.out.now c.put_three.new.out (codes " " ++ (c.in-Some.written.now ++ codes "=\""))
    (escape_value value ++ quotation_mark ∷ []) _ (parts_together c.in-Some.written.now value ∙ ap (λ name. print_attribute name value) c.in-Some.ensures)
    c.in_err-put_three.ensures.err

pub returns-in-Some-clause-ok : goal.returns-in-Some-clause-ok
returns-in-Some-clause-ok g c =
    let value = c.args.value.now in
    last_ok g.met.O.Octets.composes c.put_value.result c.args.out.now c.put_three.new.out c.put_value.new.out (codes " " ++ (c.in-Some.written.now ++ codes "=\""))
    (escape_value value ++ quotation_mark ∷ []) _ (parts_together c.in-Some.written.now value ∙ ap (λ name. print_attribute name value) c.in-Some.ensures)
    c.in_ok-put_three.ensures.ok c.put_value.ensures.ok

pub returns-in-Some-clause-err : goal.returns-in-Some-clause-err
returns-in-Some-clause-err g c =
    let value = c.args.value.now in
    last_err g.met.O.Octets.composes c.put_value.result c.args.out.now c.put_three.new.out c.put_value.new.out (codes " " ++ (c.in-Some.written.now ++ codes "=\""))
    (escape_value value ++ quotation_mark ∷ []) _ (parts_together c.in-Some.written.now value ∙ ap (λ name. print_attribute name value) c.in-Some.ensures)
    c.in_ok-put_three.ensures.ok c.put_value.ensures.err

pub returns-in_err-put-clause-err : goal.returns-in_err-put-clause-err
returns-in_err-put-clause-err g c =
    let name = joined_name c.args.name.prefix.now c.args.name.local.now in
    first_err g.met.O.Octets.composes c.from_residual-in_err-put.result c.args.out.now c.put.new.self (codes " ")
    (name ++ (codes "=\"" ++ (escape_value c.args.value.now ++ quotation_mark ∷ []))) _ (parts name c.args.value.now) c.in_err-put.ensures.err

pub returns-in_err-put_name-clause-err : goal.returns-in_err-put_name-clause-err
returns-in_err-put_name-clause-err g c =
    let name = joined_name c.args.name.prefix.now c.args.name.local.now in
    middle_err g.met.O.Octets.composes c.from_residual-in_err-put_name.result c.args.out.now c.put.new.self c.put_name.new.out (codes " ")
    name (codes "=\"" ++ (escape_value c.args.value.now ++ quotation_mark ∷ [])) _ (parts name c.args.value.now) c.in_ok-put.ensures.ok c.in_err-put_name.ensures.err

pub returns-clause-ok : goal.returns-clause-ok
returns-clause-ok g c =
    let name = joined_name c.args.name.prefix.now c.args.name.local.now in
    last_ok g.met.O.Octets.composes c.put_quoted.result c.args.out.now c.put_name.new.out c.put_quoted.new.out (codes " " ++ name)
    (codes "=\"" ++ (escape_value c.args.value.now ++ quotation_mark ∷ [])) _ (parts_left name c.args.value.now)
    (g.met.O.Octets.composes.joined _ _ _ (codes " ") name c.in_ok-put.ensures.ok c.in_ok-put_name.ensures.ok) c.put_quoted.ensures.ok

pub returns-clause-err : goal.returns-clause-err
returns-clause-err g c =
    let name = joined_name c.args.name.prefix.now c.args.name.local.now in
    last_err g.met.O.Octets.composes c.put_quoted.result c.args.out.now c.put_name.new.out c.put_quoted.new.out (codes " " ++ name)
    (codes "=\"" ++ (escape_value c.args.value.now ++ quotation_mark ∷ [])) _ (parts_left name c.args.value.now)
    (g.met.O.Octets.composes.joined _ _ _ (codes " ") name c.in_ok-put.ensures.ok c.in_ok-put_name.ensures.ok) c.put_quoted.ensures.err
