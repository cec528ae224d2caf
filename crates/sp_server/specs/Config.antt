-- With which config a provider can be started.
use Rattle.std.specs.Prelude.{◌≤◌, IfSome}
use Rattle.xml_spec.specs.Characters.{IsText}
use Rattle.sp_rules.specs.declared.config.SpConfig.{SpConfig}
use Rattle.saml_time.specs.declared.TheConstants.{GREATEST_SKEW}
use Rattle.sp_answers.specs.Answers.{HoldsTexts}

-- A config with which a provider can be started: its texts and the addresses of the identity provider hold characters
-- that a document may hold, and the difference of the clocks and the times of its keys are in order.
pub record IsUsable (config : SpConfig) : Type 0 where
  pub texts : HoldsTexts config
  pub skew : config.skew ≤ GREATEST_SKEW
  pub times : IfSome config.next_in (λ next. next.from ≤ next.until)
  pub logout : IfSome config.idp.logout IsText
