use Rattle.std.proofs.Common.{[], sym, ap, ◌∙◌, lit<}
use Rattle.std.specs.Option.{option_map_or}
use Rattle.http_wire.specs.Cookies.{pieces}
use Rattle.http_wire.proofs.Pairs.{piece_cut, last_piece}
use Rattle.http_wire.proofs.cookie.Pieces.next_piece.Goals as goal

pub returns-in-Some : goal.returns-in-Some
returns-in-Some c =
    let parts = c.in-Some.ensures.byte (lit< tt) (λ w o h. h) in
    sym c.self.view_is ∙ ap (λ o. option_map_or (λ t. pieces t.now) o []) c.in_ok-text.was
    ∙ piece_cut c.in_ok-text.text.now c.in-Some.piece.now c.in-Some.rest.now parts.0 parts.1 parts.2

pub returns-in-None : goal.returns-in-None
returns-in-None c =
    let parts = c.in-None.ensures.byte (lit< tt) (λ w o h. h) in
    sym c.self.view_is ∙ ap (λ o. option_map_or (λ t. pieces t.now) o []) c.in_ok-text.was
    ∙ last_piece c.in_ok-text.text.now parts
