use Rattle.std.proofs.Common.{sym, subst}
use Rattle.xml_spec.specs.Characters.{IsText}
use Rattle.sp_answers.proofs.Texts.{letter_text}
use Rattle.provider_tests.proofs.sp_answers_tests.config.Goals as goal

pub returns : goal.returns
returns c = record {
  entity = subst IsText (sym c.in_ok-of.ensures) letter_text;
  base = subst IsText (sym c.in_ok-of-2.ensures) letter_text;
  service = subst IsText (sym c.in_ok-of-5.ensures) letter_text;
}
