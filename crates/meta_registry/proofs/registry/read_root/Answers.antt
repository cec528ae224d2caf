use Rattle.std.proofs.Common.{◌≡◌, Some, map, refl, sym, ap, ◌∙◌, subst}
use Rattle.std.specs.Prelude.{IsSome}
use Rattle.saml_tree.specs.Documents.{DocumentView}
use Rattle.sig_reference.specs.Signature.{IsFirstUnvouched}
use Rattle.meta_registry.specs.Aggregate.{valid_until, descriptors, entry_of}
use Rattle.meta_registry.specs.Faults.{of_signature, IsNoRegistry}
use Rattle.meta_registry.proofs.Reading.{registry_of, not_vouched, from_error}
use Rattle.meta_registry.proofs.registry.read_root.Goals as goal

pub returns-in_err-vouched-clause-refused : goal.returns-in_err-vouched-clause-refused
returns-in_err-vouched-clause-refused c =
    let key = c.args.key.now in
    let tree = c.args.doc.now.tree in
    let fault = c.in_err-vouched.field-0.0 in
    let until : valid_until tree 0 ≡ Some c.in-Some.valid_until =
    ap (λ n. valid_until tree n) (sym c.root.ensures.number) ∙ sym c.in_ok-valid_until.ensures ∙ c.in-Some.is in
    let unvouched : IsFirstUnvouched key tree 0 fault =
    subst (λ n. IsFirstUnvouched key tree n fault) c.root.ensures.number c.in_err-vouched.ensures.err in
    from_error c.from_residual-in_err-vouched.result (of_signature fault) (IsNoRegistry key tree 0) c.from_residual-in_err-vouched.ensures.1
    (not_vouched key tree 0 fault (subst IsSome (sym until) refl) unvouched)

pub returns-clause-ok : goal.returns-clause-ok
returns-clause-ok c =
    let tree = c.args.doc.now.tree in
    let until : valid_until tree 0 ≡ Some c.in-Some.valid_until =
    ap (λ n. valid_until tree n) (sym c.root.ensures.number) ∙ sym c.in_ok-valid_until.ensures ∙ c.in-Some.is in
    let place = c.in_ok-vouched.ensures.place in
    let document : c.at.result.doc.now ≡ c.args.doc.now = c.at.ensures.document ∙ place.0 in
    let node : c.at.result.node.0 ≡ 0 = c.at.ensures.node ∙ place.1 ∙ c.root.ensures.number in
    registry_of c.args.key.now c.in_ok-vouched.vouched tree 0 (record { valid_until = c.in-Some.valid_until; entries = c.in_ok-entries.entries.items })
    c.in_ok-vouched.ensures.vouched (ap (λ (d : DocumentView). d.tree) place.0) (place.1 ∙ c.root.ensures.number) until
    (c.in_ok-entries.ensures.entries ∙ (λ i. map (entry_of (document i).tree) (descriptors (document i).tree (node i))))
