use Rattle.std.proofs.Common.{◌≡◌, codes, ap, ◌∙◌}
use Rattle.saml_names.specs.Names.{saml}
use Rattle.tree_read.specs.Children.{children}
use Rattle.element_make.specs.Made.{tree_of, written}
use Rattle.sig_reference.specs.Placing.{filled, place_in}
use Rattle.sig_reference.specs.Signing.{signed}
use Rattle.idp_answers.proofs.Held.{issued_holds, held_signed}
use Rattle.idp_answers.proofs.Signable.{assertion_signable}
use Rattle.idp_answers.proofs.laws.a_signed_assertion_is_vouched_for.Goals as goal

pub returns : goal.returns
returns c mode key login message consumer now sent tree signs named issued is short spells single =
    let made = issued.assertion in
    let holds = issued_holds mode key login message consumer now sent issued in
    let kids : sent.kids ≡ filled holds.around (signed key made) = holds.holds ∙ ap (filled holds.around) (held_signed mode key made signs) in
    let one : tree ≡ tree_of sent = c.no_bytes_spell_two_trees.ensures (written sent) tree (tree_of sent) spells (c.a_made_element_spells_its_tree.ensures.spells sent is) in
    let vouched = c.what_is_signed_inside_is_vouched_for.ensures key holds.around sent made tree kids is
    (assertion_signable login made named issued.of_login)
    (c.what_a_document_holds_can_be_checked.ensures.inside key holds.around sent made kids is short) spells single in (
      place_in sent holds.around,
      ap (λ t. children t 0 (saml (codes "Assertion"))) one ∙ holds.one,
      vouched.0,
      vouched.1,
      vouched.2,
    )
