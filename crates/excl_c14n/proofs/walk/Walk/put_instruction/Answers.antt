use Rattle.std.proofs.Common.{List, ℕ, ◌++◌, ap, ◌∙◌, subst}
use Rattle.std.proofs.lemmas.Result.{on_ok_weaker, on_err_weaker}
use Rattle.xml_spec.specs.Numbering.{from_node}
use Rattle.xml_spec.specs.Names.{outermost}
use Rattle.xml_spec.specs.Canonical.{scope_at, print_instruction}
use Rattle.saml_tree.specs.Views.{name_view}
use Rattle.saml_tree.specs.Documents.{text_of}
use Rattle.saml_tree.specs.Elements.{name_in}
use Rattle.canon_octets.specs.Places.{AppendsPart}
use Rattle.canon_octets.proofs.Appending.{on_err, no_part}
use Rattle.excl_c14n.proofs.Named.{if_some_weaker}
use Rattle.excl_c14n.proofs.Tags.{if_some_text, if_some_each}
use Rattle.excl_c14n.proofs.Written.{text_there, name_there, target_shown}
use Rattle.excl_c14n.proofs.walk.Walk.put_instruction.Goals as goal

pub put_text-requires : goal.put_text-requires
put_text-requires g c = text_there (from_node c.args.self.now.doc.now.tree c.args.n.0) c.requires

pub name-requires : goal.name-requires
name-requires g c = name_there (from_node c.args.self.now.doc.now.tree c.args.n.0) c.requires

pub returns-in_err-put_text-clause-err : goal.returns-in_err-put_text-clause-err
returns-in_err-put_text-clause-err g c =
    on_err c.from_residual.result (if_some_each (text_of (from_node c.args.self.now.doc.now.tree c.args.n.0))
    (λ text. no_part g.met.O.Octets.composes c.args.out.now (print_instruction (name_in (from_node c.args.self.now.doc.now.tree c.args.n.0)) text)))

pub returns-clause-ok : goal.returns-clause-ok
returns-clause-ok g c =
    let nodes = from_node c.args.self.now.doc.now.tree c.args.n.0 in
    let o = text_of nodes in
    on_ok_weaker c.put_instruction.result
    (λ put. if_some_text o (λ text. g.O.Octets.appends c.args.out.now c.put_instruction.new.out (print_instruction (name_in nodes) text)) c.as_str.result.now
    (if_some_weaker o (λ text is. c.as_str.ensures.value ∙ is ∙ ap (λ xs. xs ++ text) c.clear.ensures.bytes) c.in_ok-put_text.ensures.ok)
    (subst (λ (target : List ℕ). g.O.Octets.appends c.args.out.now c.put_instruction.new.out (print_instruction target c.as_str.result.now))
    (target_shown (scope_at outermost c.args.self.now.doc.now.tree c.args.n.0) nodes (name_view c.name.result) c.requires c.name.ensures) put))
    c.put_instruction.ensures.ok

pub returns-clause-err : goal.returns-clause-err
returns-clause-err g c =
    let nodes = from_node c.args.self.now.doc.now.tree c.args.n.0 in
    let o = text_of nodes in
    on_err_weaker c.put_instruction.result
    (λ put. if_some_text o (λ text. AppendsPart g.O.Octets.appends c.args.out.now c.put_instruction.new.out (print_instruction (name_in nodes) text)) c.as_str.result.now
    (if_some_weaker o (λ text is. c.as_str.ensures.value ∙ is ∙ ap (λ xs. xs ++ text) c.clear.ensures.bytes) c.in_ok-put_text.ensures.ok)
    (subst (λ (target : List ℕ). AppendsPart g.O.Octets.appends c.args.out.now c.put_instruction.new.out (print_instruction target c.as_str.result.now))
    (target_shown (scope_at outermost c.args.self.now.doc.now.tree c.args.n.0) nodes (name_view c.name.result) c.requires c.name.ensures) put))
    c.put_instruction.ensures.err
