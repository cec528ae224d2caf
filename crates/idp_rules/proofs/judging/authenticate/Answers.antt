use Rattle.std.proofs.Common.{ℕ, List, sym, ◌∙◌, subst}
use Rattle.sig_reference.specs.Signature.{IsUnvouched}
use Rattle.idp_rules.specs.Views.{IsForged}
use Rattle.idp_rules.proofs.Deciding.{handed_on}
use Rattle.idp_rules.proofs.judging.authenticate.Goals as goal

pub returns-in_err-verify-clause-refused : goal.returns-in_err-verify-clause-refused
returns-in_err-verify-clause-refused c =
    handed_on (IsForged c.args.peer.now c.args.root.doc.now.tree) c.from_residual.result c.in_err-verify.field-0.0 c.from_residual.ensures.1
    (record {
      signed = sym c.requires.signed ∙ c.if-signed.true;
      unvouched =
          subst (λ (n : ℕ). IsUnvouched c.args.peer.now.key_in c.args.root.doc.now.tree n c.in_err-verify.field-0.0) c.requires.top
          (subst (λ (key : List ℕ). IsUnvouched key c.args.root.doc.now.tree c.args.root.node.0 c.in_err-verify.field-0.0) c.as_slice.ensures c.in_err-verify.ensures.err);
    })
