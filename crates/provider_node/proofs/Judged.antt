-- What is answered where a request is refused.
use Rattle.fault_verdicts.specs.Judging.{IsJudged}
use Rattle.fault_verdicts.specs.declared.judged.Judged.{Judged}
use Rattle.fault_verdicts.specs.declared.judged.Judged.TheVariants as judgements
use Rattle.verdict_codes.specs.declared.codes.Verdict.{Verdict}

-- a refusal that is right for more
pub judged_for : (P Q : Verdict → Type 0) (judged : Judged)
    → ((verdict : Verdict) → P verdict → Q verdict) → IsJudged P judged → IsJudged Q judged
judged_for P Q (judgements.Code verdict) leads is = leads verdict is
judged_for P Q judgements.NoMemory leads is = tt
