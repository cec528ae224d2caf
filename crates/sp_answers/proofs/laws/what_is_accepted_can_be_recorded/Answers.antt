use Rattle.sp_answers.proofs.SessionKeys.{its_key}
use Rattle.sp_answers.proofs.SessionTexts.{recordable}
use Rattle.sp_answers.proofs.laws.what_is_accepted_can_be_recorded.Goals as goal

pub returns : goal.returns
returns c config rows horizon now body accepted opening =
    recordable c.a_spelled_tree_is_writable.ensures c.the_texts_of_a_login_are_texts.ensures config rows horizon now body accepted opening
    (its_key config rows horizon now body accepted opening)
