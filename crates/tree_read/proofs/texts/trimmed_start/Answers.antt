use Rattle.tree_read.proofs.Trimming.{cut_behind}
use Rattle.tree_read.proofs.texts.trimmed_start.Goals as goal

pub range_from-requires : goal.range_from-requires
range_from-requires c =
    cut_behind c.args.text.now c.as_bytes.result.now c.white_len-start.result c.as_bytes.ensures.value c.utf8.text c.white_len-start.ensures.within
    c.white_len-start.ensures.ascii
