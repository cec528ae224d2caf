use Rattle.hub_runs.proofs.Asking.{each_leaves}
use Rattle.hub_runs.proofs.laws.each_request_leaves_it_to_the_one_above.Goals as goal

pub returns : goal.returns
returns c = each_leaves c.a_made_element_spells_its_tree.ensures.spells c.no_bytes_spell_two_trees.ensures
