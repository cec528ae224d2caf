use Rattle.std.proofs.Common.{◌++◌, ap, sym, ◌∙◌, lit<}
use Rattle.std.proofs.lemmas.Str.{encode_ascii}
use Rattle.http_wire.proofs.Pairs.{no_space}
use Rattle.http_wire.proofs.cookie.behind_spaces.Goals as goal

pub returns : goal.returns
returns c =
    sym (no_space c.loop-behind.rest.now (λ rest h. c.in_default.ensures.cases rest (h ∙ ap (λ xs. xs ++ rest) (sym (encode_ascii 32 (lit< tt))))))
    ∙ sym c.loop-behind.invariant.0
