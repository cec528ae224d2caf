use Rattle.std.proofs.Common.{◌≡◌, false, Some, sym, ap, ◌∙◌, subst}
use Rattle.xml_spec.specs.Tree.{Nodes}
use Rattle.element_make.specs.Made.{tree_of, written}
use Rattle.tree_read.specs.Texts.{trimmed}
use Rattle.protocol_messages.specs.Messages.{IsAuthnRequest}
use Rattle.protocol_messages.specs.Making.{authn_request}
use Rattle.protocol_messages.proofs.Reading.{authn_read}
use Rattle.protocol_messages.proofs.laws.a_made_authn_request_is_read.Goals as goal

pub returns : goal.returns
returns c id issuer destination consumer issued made tree some short is can spells =
    let same : tree ≡ tree_of (authn_request id issuer destination consumer is.instant) =
    c.no_bytes_spell_two_trees.ensures (written made) tree (tree_of made) spells (c.a_made_element_spells_its_tree.ensures.spells made can) ∙ ap tree_of is.is in
    subst (λ (t : Nodes). IsAuthnRequest t 0 (record { id = id; issuer = trimmed issuer; destination = Some destination; consumer = Some consumer; other_binding = false; force = false; passive = false; issued = issued }))
    (sym same) (authn_read id issuer destination consumer is.instant issued some short is.told)
