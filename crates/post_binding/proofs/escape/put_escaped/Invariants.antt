use Rattle.std.proofs.Common.{string_bytes}
use Rattle.post_binding.specs.Html.{escape_byte}
use Rattle.post_binding.proofs.Escaping.{IsEscaped}
use Rattle.post_binding.proofs.escape.put_escaped.Given as goal

abbrev pub invariant-loop-i : goal.invariant-loop-i
invariant-loop-i l = IsEscaped escape_byte l.text (string_bytes l.initial.out) (string_bytes l.out) l.from l.i
