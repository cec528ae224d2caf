use Rattle.std.proofs.Common.{length}
use denote.Text.{Utf8}
use denote.Shadow.{shadow}
use Rattle.xml_tokens.proofs.ValueReadings.{IsValueSoFar}
use Rattle.xml_tokens.proofs.values.value_end.Given as goal

abbrev pub invariant-value : goal.invariant-value
invariant-value l = shadow (Utf8 l.rest) × IsValueSoFar l.quote l.inner l.rest

abbrev pub decreases-value : goal.decreases-value
decreases-value l = length l.rest
