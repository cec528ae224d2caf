use Rattle.std.proofs.Common.{ℕ, List, subst}
use Rattle.std.specs.Option.{option_map}
use Rattle.std.specs.Borrow.{Bor}
use Rattle.saml_tree.specs.Documents as documents
use Rattle.fault_verdicts.specs.Judging.{judged_of, IsJudged}
use Rattle.fault_verdicts.specs.Verdicts.{of_document}
use Rattle.logout_profile.specs.Verdict.{IsRefused}
use Rattle.logout_profile.proofs.Deciding.{handed_on, not_spelled}
use Rattle.logout_profile.proofs.judging.judge_logout_with.Goals as goal

pub returns-in_err-doc-clause-refused : goal.returns-in_err-doc-clause-refused
returns-in_err-doc-clause-refused c =
    let second = option_map {T = Bor (List ℕ)} {U = List ℕ} (λ key. key.now) c.args.second in
    let posted = c.in_ok-field.field-0 in
    handed_on (IsJudged (IsRefused c.args.peers.now second c.args.address.now c.args.skew c.args.now c.args.body.now))
    c.from_residual-in_err-doc.result (judged_of (of_document c.in_err-doc.field-0.0)) c.from_residual-in_err-doc.ensures.1
    (not_spelled c.args.peers.now second c.args.address.now c.args.skew c.args.now c.args.body.now posted.field posted.relay posted.message
    c.in_err-doc.field-0.0 c.in_ok-field.ensures.posts
    (subst (λ (text : List ℕ). documents.IsRefused text c.in_err-doc.field-0.0) c.as_slice.ensures c.in_err-doc.ensures.refused))
