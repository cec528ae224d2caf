use Rattle.std.proofs.Common.{◌++◌, ap, sym, ◌∙◌, lit<, reverse}
use Rattle.std.proofs.lemmas.Str.{encode_ascii}
use Rattle.http_wire.proofs.Pairs.{no_last_space}
use Rattle.http_wire.proofs.cookie.before_spaces.Goals as goal

pub returns : goal.returns
returns c =
    no_last_space c.loop-front.rest.now (λ front h. c.in_default.ensures.cases front (h ∙ ap (λ xs. front ++ xs) (sym (encode_ascii 32 (lit< tt)))))
    ∙ ap reverse (sym c.loop-front.invariant.0)
