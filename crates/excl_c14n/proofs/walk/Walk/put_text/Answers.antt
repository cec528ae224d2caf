use Rattle.std.proofs.Common.{◌++◌, ap, ◌∙◌}
use Rattle.std.proofs.lemmas.Result.{on_ok_weaker, on_err_weaker}
use Rattle.xml_spec.specs.Numbering.{from_node}
use Rattle.xml_spec.specs.Canonical.{escape_text}
use Rattle.saml_tree.specs.Documents.{text_of}
use Rattle.canon_octets.specs.Places.{AppendsPart}
use Rattle.canon_octets.proofs.Appending.{on_err, no_part}
use Rattle.excl_c14n.proofs.Named.{if_some_weaker}
use Rattle.excl_c14n.proofs.Tags.{if_some_text, if_some_each}
use Rattle.excl_c14n.proofs.walk.Walk.put_text.Goals as goal

pub returns-in_err-put_text-clause-err : goal.returns-in_err-put_text-clause-err
returns-in_err-put_text-clause-err g c =
    on_err c.from_residual.result (if_some_each (text_of (from_node c.args.self.now.doc.now.tree c.args.n.0))
    (λ text. no_part g.met.O.Octets.composes c.args.out.now (escape_text text)))

pub returns-clause-ok : goal.returns-clause-ok
returns-clause-ok g c =
    let o = text_of (from_node c.args.self.now.doc.now.tree c.args.n.0) in
    on_ok_weaker c.escape_text.result
    (if_some_text o (λ text. g.O.Octets.appends c.args.out.now c.escape_text.new.out (escape_text text)) c.as_str.result.now
    (if_some_weaker o (λ text put. c.as_str.ensures.value ∙ put ∙ ap (λ xs. xs ++ text) c.clear.ensures.bytes) c.in_ok-put_text.ensures.ok))
    c.escape_text.ensures.ok

pub returns-clause-err : goal.returns-clause-err
returns-clause-err g c =
    let o = text_of (from_node c.args.self.now.doc.now.tree c.args.n.0) in
    on_err_weaker c.escape_text.result
    (if_some_text o (λ text. AppendsPart g.O.Octets.appends c.args.out.now c.escape_text.new.out (escape_text text)) c.as_str.result.now
    (if_some_weaker o (λ text put. c.as_str.ensures.value ∙ put ∙ ap (λ xs. xs ++ text) c.clear.ensures.bytes) c.in_ok-put_text.ensures.ok))
    c.escape_text.ensures.err
