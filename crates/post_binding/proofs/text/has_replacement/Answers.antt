use Rattle.std.proofs.Common.{sym}
use Rattle.post_binding.proofs.Plain.{none_in_ascii}
use Rattle.post_binding.proofs.text.has_replacement.Goals as goal

pub returns-then-is_ascii : goal.returns-then-is_ascii
returns-then-is_ascii c = sym (none_in_ascii c.args.text.now c.if-is_ascii.ensures.cases)
