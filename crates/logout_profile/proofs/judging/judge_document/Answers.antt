use Rattle.std.proofs.Common.{◌≡◌, ℕ, List, Option, None, ◌∷◌, get_or, ◌∙◌, sym, subst}
use Rattle.std.specs.Option.{option_map, option_to_list}
use Rattle.std.specs.Borrow.{Bor}
use Rattle.fault_verdicts.specs.Judging.{judged_of, IsJudged}
use Rattle.fault_verdicts.specs.Verdicts.{of_signature}
use Rattle.fault_verdicts.specs.declared.judged.Judged.{Judged}
use Rattle.fault_verdicts.specs.declared.judged.Judged.TheVariants.{Code}
use Rattle.peer_keys.specs.Peers.{place_of}
use Rattle.peer_keys.specs.declared.peers.LogoutPeer.{LogoutPeer}
use Rattle.post_binding.specs.declared.posted.Field.{Field}
use Rattle.logout_profile.specs.Carrying.{issuer_of, Posts}
use Rattle.logout_profile.specs.Keys.{IsVouched, IsNotVouched}
use Rattle.logout_profile.specs.Verdict.{IsRefused}
use Rattle.logout_profile.proofs.Deciding.{handed_on, peer_at, not_message, not_known, not_vouched, not_meant, obeyed}
use Rattle.logout_profile.proofs.judging.judge_document.Goals as goal

-- the second key, where there is one
abbrev other_key : Option (Bor (List ℕ)) → Option (List ℕ)
other_key second = option_map {T = Bor (List ℕ)} {U = List ℕ} (λ key. key.now) second

-- whatever form was posted, its refusal is right
abbrev IsRightFor : List LogoutPeer → Option (List ℕ) → List ℕ → ℕ → ℕ → Field → List ℕ → Option (List ℕ) → Judged → Type 0
IsRightFor peers second address skew now field text relay judged =
    (body : List ℕ) → Posts body field text relay → IsJudged (IsRefused peers second address skew now body) judged

pub returns-in_err-message-clause-refused : goal.returns-in_err-message-clause-refused
returns-in_err-message-clause-refused c =
    let second = other_key c.args.second in
    handed_on (IsRightFor c.args.peers.now second c.args.address.now c.args.skew c.args.now c.args.field c.args.doc.now.text c.args.relay)
    c.from_residual.result c.in_err-message.field-0.0 c.from_residual.ensures.1
    (λ body posted. not_message c.args.peers.now second c.args.address.now c.args.skew c.args.now body c.args.field c.args.relay c.args.doc.now posted
    c.requires.spelled c.root.result.0 c.in_err-message.field-0.0 c.root.ensures.number c.in_err-message.ensures.other)

pub returns-in_default-clause-refused : goal.returns-in_default-clause-refused
returns-in_default-clause-refused c = λ body posted.
    let name = c.as_str.ensures ∙ c.issuer.ensures in
    let none : place_of c.as_str.result.now c.args.peers.now ≡ None = sym c.in_default.ensures.place in
    not_known c.args.peers.now (other_key c.args.second) c.args.address.now c.args.skew c.args.now body c.args.field c.args.relay c.args.doc.now posted
    c.requires.spelled c.root.result.0 c.in_ok-message.message c.root.ensures.number c.in_ok-message.ensures.ok
    (subst (λ (text : List ℕ). place_of text c.args.peers.now ≡ None) name none)

pub returns-in_err-ask_vouched-clause-refused : goal.returns-in_err-ask_vouched-clause-refused
returns-in_err-ask_vouched-clause-refused c =
    let second = other_key c.args.second in
    let peer = get_or c.args.peers.now c.in-Some.place c.index-peers-place.result in
    handed_on (IsRightFor c.args.peers.now second c.args.address.now c.args.skew c.args.now c.args.field c.args.doc.now.text c.args.relay)
    c.from_residual-in_err-ask_vouched.result (judged_of (of_signature c.in_err-ask_vouched.field-0.0)) c.from_residual-in_err-ask_vouched.ensures.1
    (λ body posted. not_vouched c.args.peers.now second c.args.address.now c.args.skew c.args.now body c.args.field c.args.relay c.args.doc.now posted
    c.requires.spelled c.root.result.0 c.in_ok-message.message c.root.ensures.number c.in_ok-message.ensures.ok c.in-Some.place peer
    (peer_at c.args.peers.now (issuer_of c.in_ok-message.message) c.as_str.result.now c.in-Some.place c.index-peers-place.result (c.as_str.ensures ∙ c.issuer.ensures)
    c.in-Some.ensures.place c.in-Some.ensures.there)
    c.in_err-ask_vouched.field-0.0
    (subst (λ (key : List ℕ). IsNotVouched (key ∷ option_to_list second) c.args.doc.now.tree c.in_err-ask_vouched.field-0.0) c.as_slice.ensures
    c.in_err-ask_vouched.ensures.err))

pub returns-in_err-ask_meant-clause-refused : goal.returns-in_err-ask_meant-clause-refused
returns-in_err-ask_meant-clause-refused c =
    let second = other_key c.args.second in
    let peer = get_or c.args.peers.now c.in-Some.place c.index-peers-place.result in
    let vouched = c.in_ok-ask_vouched.ensures.ok in
    handed_on (IsRightFor c.args.peers.now second c.args.address.now c.args.skew c.args.now c.args.field c.args.doc.now.text c.args.relay)
    c.from_residual-in_err-ask_meant.result (Code c.in_err-ask_meant.field-0.0) c.from_residual-in_err-ask_meant.ensures.1
    (λ body posted. not_meant c.args.peers.now second c.args.address.now c.args.skew c.args.now body c.args.field c.args.relay c.args.doc.now posted
    c.requires.spelled c.root.result.0 c.in_ok-message.message c.root.ensures.number c.in_ok-message.ensures.ok c.in-Some.place peer
    (peer_at c.args.peers.now (issuer_of c.in_ok-message.message) c.as_str.result.now c.in-Some.place c.index-peers-place.result (c.as_str.ensures ∙ c.issuer.ensures)
    c.in-Some.ensures.place c.in-Some.ensures.there)
    vouched.0
    (subst (λ (key : List ℕ). IsVouched (key ∷ option_to_list second) c.args.doc.now.tree vouched.0) c.as_slice.ensures vouched.1)
    c.in_err-ask_meant.field-0.0 c.in_err-ask_meant.ensures.err)

pub returns-clause-accepted : goal.returns-clause-accepted
returns-clause-accepted c = λ body posted.
    let second = other_key c.args.second in
    let peer = get_or c.args.peers.now c.in-Some.place c.index-peers-place.result in
    let vouched = c.in_ok-ask_vouched.ensures.ok in
    obeyed c.args.peers.now second c.args.address.now c.args.skew c.args.now body c.args.field c.args.relay c.args.doc.now posted
    c.requires.spelled c.root.result.0 c.in_ok-message.message c.root.ensures.number c.in_ok-message.ensures.ok c.in-Some.place peer
    (peer_at c.args.peers.now (issuer_of c.in_ok-message.message) c.as_str.result.now c.in-Some.place c.index-peers-place.result (c.as_str.ensures ∙ c.issuer.ensures)
    c.in-Some.ensures.place c.in-Some.ensures.there)
    vouched.0
    (subst (λ (key : List ℕ). IsVouched (key ∷ option_to_list second) c.args.doc.now.tree vouched.0) c.as_slice.ensures vouched.1)
    c.into_logout.result c.in_ok-ask_meant.ensures.ok c.into_logout.ensures
