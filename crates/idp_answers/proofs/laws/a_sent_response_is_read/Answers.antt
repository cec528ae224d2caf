use Rattle.std.proofs.Common.{◌≡◌, ℕ, true, [], ◌∷◌, Some, sym, subst}
use Rattle.xml_spec.specs.Tree.{Nodes}
use Rattle.tree_read.specs.Texts.{trimmed}
use Rattle.element_make.specs.Made.{tree_of, written}
use Rattle.protocol_messages.specs.Messages.{IsResponse}
use Rattle.idp_answers.specs.Answers.{signs_response}
use Rattle.idp_answers.proofs.ReadBack.{issued_read}
use Rattle.idp_answers.proofs.laws.a_sent_response_is_read.Goals as goal

pub returns : goal.returns
returns c mode key login message consumer now sent tree some_id short issued is spells =
    let one : tree ≡ tree_of sent = c.no_bytes_spell_two_trees.ensures (written sent) tree (tree_of sent) spells (c.a_made_element_spells_its_tree.ensures.spells sent is) in
    let read = issued_read mode key login message consumer now sent some_id short issued in
    subst (λ (t : Nodes). (p : ℕ) × IsResponse t 0 (record { id = message; issuer = Some (trimmed login.issuer); destination = Some consumer; request = Some login.request; success = true; has_signature = signs_response mode; assertions = p ∷ [] }))
    (sym one) (read.assertion, read.is)
