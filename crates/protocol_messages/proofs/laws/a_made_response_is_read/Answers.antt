use Rattle.std.proofs.Common.{◌≡◌, ℕ, true, false, [], ◌∷◌, Some, None, sym, ap, ◌∙◌, subst}
use Rattle.xml_spec.specs.Tree.{Nodes}
use Rattle.element_make.specs.Made.{tree_of, written}
use Rattle.tree_read.specs.Texts.{trimmed}
use Rattle.protocol_messages.specs.Messages.{IsResponse}
use Rattle.protocol_messages.specs.Making.{response, assertion_made}
use Rattle.protocol_messages.proofs.Reading.{response_read, refusal_read}
use Rattle.protocol_messages.proofs.laws.a_made_response_is_read.Goals as goal

pub returns-clause-answered : goal.returns-clause-answered
returns-clause-answered c id issuer destination request attributes kids issued made tree some short is can spells =
    let same : tree ≡ tree_of (response id issuer destination request (Some (assertion_made attributes kids)) is.instant) =
    c.no_bytes_spell_two_trees.ensures (written made) tree (tree_of made) spells (c.a_made_element_spells_its_tree.ensures.spells made can) ∙ ap tree_of is.is in
    subst (λ (t : Nodes). (n : ℕ) × IsResponse t 0 (record { id = id; issuer = Some (trimmed issuer); destination = Some destination; request = Some request; success = true; has_signature = false; assertions = n ∷ [] }))
    (sym same) (response_read id issuer destination request is.instant issued some short is.told attributes kids)

pub returns-clause-refused : goal.returns-clause-refused
returns-clause-refused c id issuer destination request issued made tree some short is can spells =
    let same : tree ≡ tree_of (response id issuer destination request None is.instant) =
    c.no_bytes_spell_two_trees.ensures (written made) tree (tree_of made) spells (c.a_made_element_spells_its_tree.ensures.spells made can) ∙ ap tree_of is.is in
    subst (λ (t : Nodes). IsResponse t 0 (record { id = id; issuer = Some (trimmed issuer); destination = Some destination; request = Some request; success = false; has_signature = false; assertions = [] }))
    (sym same) (refusal_read id issuer destination request is.instant issued some short is.told)
