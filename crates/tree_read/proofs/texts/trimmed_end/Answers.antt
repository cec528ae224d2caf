use Rattle.tree_read.proofs.Trimming.{cut_before}
use Rattle.tree_read.proofs.texts.trimmed_end.Goals as goal

pub range-requires-clause-end_boundary : goal.range-requires-clause-end_boundary
range-requires-clause-end_boundary c =
    cut_before c.args.text.now c.as_bytes.result.now c.white_start-end.result c.as_bytes.ensures.value c.white_start-end.ensures.within
    c.white_start-end.ensures.ascii
