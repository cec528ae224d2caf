use Rattle.std.proofs.Common.{◌≡◌, cond, Some, sym, ap, ◌∙◌, subst}
use Rattle.xml_spec.specs.Tree.{Nodes}
use Rattle.saml_names.specs.Uris.{partial_logout}
use Rattle.element_make.specs.Made.{tree_of, written}
use Rattle.tree_read.specs.Texts.{trimmed}
use Rattle.protocol_messages.specs.declared.logout.Outcome.TheVariants as outcomes
use Rattle.protocol_messages.specs.Messages.{IsLogoutResponse}
use Rattle.protocol_messages.specs.Making.{logged_out, failed, succeeded}
use Rattle.protocol_messages.proofs.Reading.{logged_out_read}
use Rattle.protocol_messages.proofs.laws.a_made_logout_response_is_read.Goals as goal

pub returns : goal.returns
returns c id issuer destination request partial issued made tree some short is can spells =
    let same : tree ≡ tree_of (logged_out id issuer destination request (cond partial (failed partial_logout) succeeded) is.instant) =
    c.no_bytes_spell_two_trees.ensures (written made) tree (tree_of made) spells (c.a_made_element_spells_its_tree.ensures.spells made can) ∙ ap tree_of is.is in
    subst (λ (t : Nodes). IsLogoutResponse t 0 (record { id = id; issuer = trimmed issuer; destination = Some destination; request = request; outcome = cond partial outcomes.Partial outcomes.Success }))
    (sym same) (logged_out_read id issuer destination request is.instant issued some short is.told partial)
