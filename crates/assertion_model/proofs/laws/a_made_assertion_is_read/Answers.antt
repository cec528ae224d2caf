use Rattle.std.proofs.Common.{ap, ◌∙◌}
use Rattle.element_make.specs.Made.{tree_of, written}
use Rattle.assertion_model.specs.Parts.{login_at}
use Rattle.assertion_model.proofs.ReadBack.{content_said, login_made, can_be_signed, login_signed}
use Rattle.assertion_model.proofs.laws.a_made_assertion_is_read.Goals as goal

pub returns-clause-content : goal.returns-clause-content
returns-clause-content c = content_said

pub returns-clause-written : goal.returns-clause-written
returns-clause-written c = λ l made tree is can parts spells.
    ap (λ nodes. login_at nodes 0)
    (c.no_bytes_spell_two_trees.ensures (written made) tree (tree_of made) spells (c.a_made_element_spells_its_tree.ensures.spells made parts))
    ∙ login_made l made is can

pub returns-clause-signed : goal.returns-clause-signed
returns-clause-signed c = λ key l made tree is can parts spells single.
    let read = c.what_is_signed_says_the_same.ensures.alone key made tree parts (can_be_signed l made is can) spells in
    login_signed l made tree is can read.0 read.1 read.2
