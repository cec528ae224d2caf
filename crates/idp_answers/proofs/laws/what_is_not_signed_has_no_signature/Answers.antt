use Rattle.std.proofs.Common.{◌≡◌, codes, ap, ◌∙◌}
use Rattle.saml_names.specs.Names.{saml, ds}
use Rattle.tree_read.specs.Children.{children}
use Rattle.element_make.specs.Made.{tree_of, written}
use Rattle.sig_reference.specs.Placing.{filled, place_in}
use Rattle.idp_answers.proofs.Held.{issued_holds, issued_unsigned, held_unsigned, same_one}
use Rattle.idp_answers.proofs.Signable.{assertion_unsigned}
use Rattle.idp_answers.proofs.laws.what_is_not_signed_has_no_signature.Goals as goal

pub returns-clause-response : goal.returns-clause-response
returns-clause-response c mode key login message consumer now sent tree bare issued is spells =
    let one : tree ≡ tree_of sent = c.no_bytes_spell_two_trees.ensures (written sent) tree (tree_of sent) spells (c.a_made_element_spells_its_tree.ensures.spells sent is) in
    ap (λ t. children t 0 (ds (codes "Signature"))) one ∙ issued_unsigned mode key login message consumer now sent issued bare

pub returns-clause-assertion : goal.returns-clause-assertion
returns-clause-assertion c mode key login message consumer now sent tree p bare issued is spells there =
    let made = issued.assertion in
    let holds = issued_holds mode key login message consumer now sent issued in
    let one : tree ≡ tree_of sent = c.no_bytes_spell_two_trees.ensures (written sent) tree (tree_of sent) spells (c.a_made_element_spells_its_tree.ensures.spells sent is) in
    let kids : sent.kids ≡ filled holds.around made = holds.holds ∙ ap (filled holds.around) (held_unsigned mode key made bare) in
    let place : p ≡ place_in sent holds.around = same_one there (ap (λ t. children t 0 (saml (codes "Assertion"))) one ∙ holds.one) in
    ap (λ n. children tree n (ds (codes "Signature"))) place
    ∙ c.what_is_put_inside_says_the_same.ensures.unsigned holds.around sent made tree kids is spells (assertion_unsigned login made issued.of_login)
