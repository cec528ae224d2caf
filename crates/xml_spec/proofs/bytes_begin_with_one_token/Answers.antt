use Rattle.std.proofs.Common.{sym, ◌∙◌}
use Rattle.xml_spec.specs.Syntax.{print_tokens}
use Rattle.xml_spec.proofs.Tokens.{same_token}
use Rattle.xml_spec.proofs.Sequences.{head_is_whole}
use Rattle.xml_spec.proofs.bytes_begin_with_one_token.Goals as goal

pub returns : goal.returns
returns c = λ bytes token other rest tokens b v e.
    let same = same_token other token (print_tokens tokens) rest v.each.0 b.valid (head_is_whole other tokens v.whole_runs) b.whole
    (sym e ∙ b.printed) in
    (same.whole, same.behind)
