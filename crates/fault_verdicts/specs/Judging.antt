-- What a refusal of a posted message says.
use Rattle.std.specs.Prelude.{Option, None, Some}
use Rattle.verdict_codes.specs.declared.codes.Verdict.{Verdict}
use Rattle.fault_verdicts.specs.declared.judged.Judged.{Judged}
use Rattle.fault_verdicts.specs.declared.judged.Judged.TheVariants as judgements

-- a verdict, or want of memory
abbrev pub judged_of : Option Verdict → Judged
judged_of None = judgements.NoMemory
judged_of (Some verdict) = judgements.Code verdict

-- A refusal with a verdict is right only where this holds of the verdict. Want of memory is always allowed.
abbrev pub IsJudged : (Verdict → Type 0) → Judged → Type 0
IsJudged IsRight (judgements.Code verdict) = IsRight verdict
IsJudged IsRight judgements.NoMemory = Unit {0}
