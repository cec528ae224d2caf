use Rattle.std.proofs.Common.{◌++◌, ap, ◌∙◌}
use Rattle.std.proofs.lemmas.Result.{on_ok_weaker, on_err_weaker}
use Rattle.xml_spec.specs.Canonical.{print_attribute}
use Rattle.saml_tree.specs.NodeNames.{attribute_at}
use Rattle.canon_octets.specs.Names.{joined_name}
use Rattle.canon_octets.specs.Places.{AppendsPart}
use Rattle.canon_octets.proofs.Appending.{on_err, no_part}
use Rattle.excl_c14n.proofs.Named.{if_some_weaker}
use Rattle.excl_c14n.proofs.Tags.{if_some_named, if_some_each}
use Rattle.excl_c14n.proofs.walk.Walk.put_attribute.Goals as goal

pub returns-in_err-put_attr-clause-err : goal.returns-in_err-put_attr-clause-err
returns-in_err-put_attr-clause-err g c =
    on_err c.from_residual.result (if_some_each (attribute_at c.args.self.now.doc.now.tree c.args.n.0 c.args.i)
    (λ a. no_part g.met.O.Octets.composes c.args.out.now (print_attribute a.name a.value)))

pub returns-clause-ok : goal.returns-clause-ok
returns-clause-ok g c =
    let o = attribute_at c.args.self.now.doc.now.tree c.args.n.0 c.args.i in
    on_ok_weaker c.put_attribute.result
    (if_some_named o (λ name value. g.O.Octets.appends c.args.out.now c.put_attribute.new.out (print_attribute name value))
    (joined_name c.attribute_name-name.result.prefix.now c.attribute_name-name.result.local.now) c.as_str.result.now c.attribute_name-name.ensures
    (if_some_weaker o (λ a put. c.as_str.ensures.value ∙ put ∙ ap (λ xs. xs ++ a.value) c.clear.ensures.bytes) c.in_ok-put_attr.ensures.ok))
    c.put_attribute.ensures.ok

pub returns-clause-err : goal.returns-clause-err
returns-clause-err g c =
    let o = attribute_at c.args.self.now.doc.now.tree c.args.n.0 c.args.i in
    on_err_weaker c.put_attribute.result
    (if_some_named o (λ name value. AppendsPart g.O.Octets.appends c.args.out.now c.put_attribute.new.out (print_attribute name value))
    (joined_name c.attribute_name-name.result.prefix.now c.attribute_name-name.result.local.now) c.as_str.result.now c.attribute_name-name.ensures
    (if_some_weaker o (λ a put. c.as_str.ensures.value ∙ put ∙ ap (λ xs. xs ++ a.value) c.clear.ensures.bytes) c.in_ok-put_attr.ensures.ok))
    c.put_attribute.ensures.err
