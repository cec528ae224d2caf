use Rattle.logout_profile.proofs.Obeyed.{asked_at, asked_at_first, asked_id_text, replied_at_first}
use Rattle.logout_profile.proofs.laws.what_an_obeyed_form_says.Goals as goal

pub returns-clause-id : goal.returns-clause-id
returns-clause-id c = asked_id_text c.a_spelled_tree_is_writable.ensures

pub returns-clause-at : goal.returns-clause-at
returns-clause-at c = asked_at

pub returns-clause-asks : goal.returns-clause-asks
returns-clause-asks c = asked_at_first

pub returns-clause-replies : goal.returns-clause-replies
returns-clause-replies c = replied_at_first
