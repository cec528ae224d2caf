use Rattle.std.proofs.Common.{ℕ, List, ◌∷◌, Option, sym, subst}
use Rattle.std.specs.Option.{option_map, option_to_list}
use Rattle.std.specs.Borrow.{Bor}
use Rattle.std.proofs.lemmas.Result.{err_from_is_err_and}
use Rattle.sig_reference.specs.Signature.{IsUnvouched}
use Rattle.logout_profile.specs.Keys.{IsVouched, IsNotVouched}
use Rattle.logout_profile.proofs.RootKeys.{by_first, by_second, not_by_first, not_by_second}
use Rattle.logout_profile.proofs.vouching.ask_vouched.Goals as goal

-- the keys behind the first
abbrev others : Option (Bor (List ℕ)) → List (List ℕ)
others second = option_to_list (option_map {T = Bor (List ℕ)} {U = List ℕ} (λ other. other.now) second)

pub returns-in_default-clause-ok : goal.returns-in_default-clause-ok
returns-in_default-clause-ok c =
    by_first c.args.root.doc.now c.args.root.node.0 c.requires c.args.key.now (others c.args.second) c.in_default.field-0 c.in_default.ensures.vouched
    c.in_default.ensures.place

pub returns-in_ok-verify-in-Some-clause-ok : goal.returns-in_ok-verify-in-Some-clause-ok
returns-in_ok-verify-in-Some-clause-ok c =
    let v = by_second c.args.root.doc.now c.args.root.node.0 c.requires c.args.key.now c.in-Some.other.now c.in_ok-verify-in-Some.field-0
    (subst (IsUnvouched c.args.key.now c.args.root.doc.now.tree c.args.root.node.0) c.in-TagDiffers.is c.in-Err.ensures.err)
    c.in_ok-verify-in-Some.ensures.vouched c.in_ok-verify-in-Some.ensures.place in
    subst (λ (second : Option (Bor (List ℕ))). (key : List ℕ) × IsVouched (c.args.key.now ∷ others second) c.args.root.doc.now.tree key) (sym c.in-Some.is) v

pub returns-in_err-verify-in-Some-clause-err : goal.returns-in_err-verify-in-Some-clause-err
returns-in_err-verify-in-Some-clause-err c =
    let p = err_from_is_err_and c.from_residual.result c.from_residual.ensures.1 in
    let fault = c.in_err-verify-in-Some.field-0.0 in
    let u = not_by_second c.args.root.doc.now c.args.root.node.0 c.requires c.args.key.now c.in-Some.other.now fault
    (subst (IsUnvouched c.args.key.now c.args.root.doc.now.tree c.args.root.node.0) c.in-TagDiffers.is c.in-Err.ensures.err)
    c.in_err-verify-in-Some.ensures.err in
    rw (p.1, p.2) (subst (λ (second : Option (Bor (List ℕ))). IsNotVouched (c.args.key.now ∷ others second) c.args.root.doc.now.tree fault) (sym c.in-Some.is) u)

pub returns-in_default-fault : goal.returns-in_default-fault
returns-in_default-fault c = record {
  ok = tt;
  err =
      not_by_first c.args.root.doc.now c.args.root.node.0 c.requires c.args.key.now (others c.args.second) c.in-Err.fault c.in_default-fault.not-TagDiffers
      c.in-Err.ensures.err;
}
