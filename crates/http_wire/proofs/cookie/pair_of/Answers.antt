use Rattle.std.proofs.Common.{ap, ◌∙◌, lit<, reverse}
use Rattle.http_wire.specs.Cookies.{behind_spaces, pair_of}
use Rattle.http_wire.proofs.Pairs.{cut_pair}
use Rattle.http_wire.proofs.cookie.pair_of.Goals as goal

pub returns : goal.returns
returns c =
    cut_pair c.before_spaces.result.now c.split_once.result (c.split_once.ensures.byte (lit< tt) (λ w o h. h))
    ∙ ap pair_of (c.before_spaces.ensures ∙ ap (λ xs. reverse (behind_spaces (reverse xs))) c.behind_spaces.ensures)
