use Rattle.std.proofs.Common.{◌≡◌, Some, sym, ap, ◌∙◌, subst}
use Rattle.xml_spec.specs.Tree.{Nodes}
use Rattle.element_make.specs.Made.{tree_of, written}
use Rattle.tree_read.specs.Texts.{trimmed}
use Rattle.protocol_messages.specs.Messages.{IsLogoutRequest}
use Rattle.protocol_messages.specs.Making.{logout_request, request_end}
use Rattle.protocol_messages.proofs.Reading.{request_read}
use Rattle.protocol_messages.proofs.laws.a_made_logout_request_is_read.Goals as goal

pub returns : goal.returns
returns c id issuer destination name indexes issued made tree some short is can spells =
    let same : tree ≡ tree_of (logout_request id issuer destination name indexes is.instant is.until) =
    c.no_bytes_spell_two_trees.ensures (written made) tree (tree_of made) spells (c.a_made_element_spells_its_tree.ensures.spells made can) ∙ ap tree_of is.is in
    subst (λ (t : Nodes). IsLogoutRequest t 0 (record { id = id; issuer = trimmed issuer; destination = Some destination; until = Some (request_end issued); name = name; indexes = indexes }))
    (sym same) (request_read id issuer destination name indexes is.instant is.until issued (request_end issued) some short is.told is.ended)
