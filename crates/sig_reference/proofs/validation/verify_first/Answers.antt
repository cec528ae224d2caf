use Rattle.std.proofs.Common.{refl, sym, subst}
use Rattle.sig_reference.specs.Views.{parts_of}
use Rattle.sig_reference.specs.Vouching.{IsVouchedFirstWith}
use Rattle.sig_reference.proofs.Standing.{first_below, vouched_first_with}
use Rattle.sig_reference.proofs.validation.verify_first.Goals as goal

pub validate-requires-clause-below : goal.validate-requires-clause-below
validate-requires-clause-below c =
    first_below c.args.doc.now.tree c.args.node.0 (parts_of c.in_ok-signature.signature) c.in_ok-signature.ensures.ok

pub of-requires-clause-vouched : goal.of-requires-clause-vouched
of-requires-clause-vouched c = vouched_first_with c.args.key.now _ (record {
  parts = parts_of c.in_ok-signature.signature;
  vouches = record { single = c.root.ensures.spelled.single; form = c.in_ok-signature.ensures.ok; reference = c.in_ok-validate.ensures.ok.reference; tag = c.in_ok-validate.ensures.ok.tag; digest = c.in_ok-validate.ensures.ok.digest };
  signature = refl;
})

pub returns-clause-vouched : goal.returns-clause-vouched
returns-clause-vouched c = subst (IsVouchedFirstWith c.args.key.now) (sym c.of.ensures) (record {
  parts = parts_of c.in_ok-signature.signature;
  vouches = record { single = c.root.ensures.spelled.single; form = c.in_ok-signature.ensures.ok; reference = c.in_ok-validate.ensures.ok.reference; tag = c.in_ok-validate.ensures.ok.tag; digest = c.in_ok-validate.ensures.ok.digest };
  signature = refl;
})
