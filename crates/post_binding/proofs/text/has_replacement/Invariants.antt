use Rattle.std.proofs.Common.{◌≡◌, length}
use Rattle.post_binding.specs.Form.{has_replacement}
use Rattle.post_binding.proofs.text.has_replacement.Given as goal

abbrev pub invariant-loop-rest : goal.invariant-loop-rest
invariant-loop-rest l = has_replacement l.text ≡ has_replacement l.rest

abbrev pub decreases-loop-rest : goal.decreases-loop-rest
decreases-loop-rest l = length l.rest
