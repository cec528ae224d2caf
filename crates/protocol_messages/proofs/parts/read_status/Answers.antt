use Rattle.std.proofs.Common.{◌≡◌, Option, None, Some, IfOk, IfErr, sym, ◌∙◌, subst}
use Rattle.std.proofs.lemmas.Result.{err_from_is_err_and}
use Rattle.tree_read.specs.Faults.{IsShapeFault}
use Rattle.protocol_messages.specs.Messages.{status_of, status_in_code}
use Rattle.protocol_messages.specs.declared.parts.Status.{Status}
use Rattle.protocol_messages.proofs.Statuses.{status_in_element}
use Rattle.protocol_messages.proofs.parts.read_status.Goals as goal

pub returns-in_err-code-clause-other : goal.returns-in_err-code-clause-other
returns-in_err-code-clause-other c =
    let p = err_from_is_err_and c.from_residual-in_err-code.result c.from_residual-in_err-code.ensures.1 in
    rw (p.1, p.2) (status_in_element c.args.at.doc.now c.in_ok-status.status.doc.now c.args.at.node.0 c.in_ok-status.status.node.0 _ _
    c.in_ok-status.ensures.there c.samlp.ensures c.samlp-2.ensures c.in_ok-status.ensures.found None c.in_err-code.ensures.other)

pub returns-clause-ok : goal.returns-clause-ok
returns-clause-ok c =
    let at = c.args.at in
    let code = c.in_ok-code.code in
    let found = status_in_element at.doc.now c.in_ok-status.status.doc.now at.node.0 c.in_ok-status.status.node.0 _ _
    c.in_ok-status.ensures.there c.samlp.ensures c.samlp-2.ensures c.in_ok-status.ensures.found (Some code.node.0) c.in_ok-code.ensures.found in
    let same = c.in_ok-code.ensures.there ∙ c.in_ok-status.ensures.there in
    let said : status_in_code code.doc.now.tree code.node.0 ≡ status_of at.doc.now.tree at.node.0 =
    (λ i. status_in_code (same i).tree code.node.0) ∙ sym found in
    subst (λ (o : Option Status). IfOk c.read_code.result (λ status. o ≡ Some status)) said c.read_code.ensures.ok

pub returns-clause-other : goal.returns-clause-other
returns-clause-other c =
    let at = c.args.at in
    let code = c.in_ok-code.code in
    let found = status_in_element at.doc.now c.in_ok-status.status.doc.now at.node.0 c.in_ok-status.status.node.0 _ _
    c.in_ok-status.ensures.there c.samlp.ensures c.samlp-2.ensures c.in_ok-status.ensures.found (Some code.node.0) c.in_ok-code.ensures.found in
    let same = c.in_ok-code.ensures.there ∙ c.in_ok-status.ensures.there in
    let said : status_in_code code.doc.now.tree code.node.0 ≡ status_of at.doc.now.tree at.node.0 =
    (λ i. status_in_code (same i).tree code.node.0) ∙ sym found in
    subst (λ (o : Option Status). IfErr c.read_code.result (λ fault. IsShapeFault fault (o ≡ None))) said c.read_code.ensures.other
