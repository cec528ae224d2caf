use Rattle.std.proofs.Common.{◌≡◌, codes, Some, ap, ◌∙◌, inl, inr}
use Rattle.xml_spec.specs.Content.{content}
use Rattle.saml_names.specs.Names.{saml}
use Rattle.tree_read.specs.Children.{children}
use Rattle.element_make.specs.Made.{tree_of, written}
use Rattle.sig_reference.specs.Placing.{filled, place_in}
use Rattle.sig_reference.specs.Signing.{signed}
use Rattle.assertion_model.specs.Contents.{first}
use Rattle.assertion_model.specs.Login as logins
use Rattle.assertion_model.specs.Parts.{login_at}
use Rattle.idp_answers.specs.Answers.{signs_assertion}
use Rattle.idp_answers.proofs.Held.{issued_holds, held_signed, held_unsigned, which}
use Rattle.idp_answers.proofs.Signable.{assertion_signable}
use Rattle.idp_answers.proofs.laws.an_issued_login_is_read.Goals as goal

pub returns : goal.returns
returns c mode key login message consumer now sent tree can issued is spells single =
    let made = issued.assertion in
    let holds = issued_holds mode key login message consumer now sent issued in
    let p = place_in sent holds.around in
    let one : tree ≡ tree_of sent = c.no_bytes_spell_two_trees.ensures (written sent) tree (tree_of sent) spells (c.a_made_element_spells_its_tree.ensures.spells sent is) in
    let signable = assertion_signable login made can.id issued.of_login in
    let said = c.a_made_assertion_is_read.ensures.content login made issued.of_login can in
    let read : login_at tree p ≡ Some login = elim (which (signs_assertion mode)) [
      | inl signs ↦
          let kids : sent.kids ≡ filled holds.around (signed key made) = holds.holds ∙ ap (filled holds.around) (held_signed mode key made signs) in
          let read = c.what_is_signed_says_the_same.ensures.inside key holds.around sent made tree kids is signable spells in
          ap (λ o. logins.login (content tree p o)) (c.the_signature_of_the_form_is_left_out.ensures tree p read.0 read.1)
          ∙ ap logins.login read.2 ∙ said
      | inr bare ↦
          let kids : sent.kids ≡ filled holds.around made = holds.holds ∙ ap (filled holds.around) (held_unsigned mode key made bare) in
          let same = c.what_is_put_inside_says_the_same.ensures in
          ap (λ ns. logins.login (content tree p (first ns))) (same.unsigned holds.around sent made tree kids is spells signable.unsigned)
          ∙ ap logins.login (same.content holds.around sent made tree kids is spells) ∙ said
    ] in
    (p, ap (λ t. children t 0 (saml (codes "Assertion"))) one ∙ holds.one, read)
