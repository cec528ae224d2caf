use Rattle.std.proofs.Common.{refl, sym}
use Rattle.xml_tokens.proofs.Documents.{marked_as, head_without_declaration, no_white_behind, head_with_declaration}
use Rattle.xml_tokens.proofs.head.behind_head.Goals as goal

pub returns-in_default : goal.returns-in_default
returns-in_default c =
    let m = marked_as c.args.text.now c.args.text c.unwrap_or-unmarked.result c.strip_word.result refl c.strip_word.ensures c.unwrap_or-unmarked.ensures in
    head_without_declaration c.args.text.now c.unwrap_or-unmarked.result.now m (λ x w e. c.in_default.ensures x e)

pub returns-then-begins_white : goal.returns-then-begins_white
returns-then-begins_white c =
    let m = marked_as c.args.text.now c.args.text c.unwrap_or-unmarked.result c.strip_word.result refl c.strip_word.ensures c.unwrap_or-unmarked.ensures in
    head_with_declaration c.args.text.now c.unwrap_or-unmarked.result.now c.in-Some.declared.now c.behind_declaration.result m c.in-Some.ensures
    (sym c.if-begins_white.ensures) c.behind_declaration.ensures

pub returns-else-begins_white : goal.returns-else-begins_white
returns-else-begins_white c =
    let m = marked_as c.args.text.now c.args.text c.unwrap_or-unmarked.result c.strip_word.result refl c.strip_word.ensures c.unwrap_or-unmarked.ensures in
    head_without_declaration c.args.text.now c.unwrap_or-unmarked.result.now m
    (no_white_behind c.unwrap_or-unmarked.result.now c.in-Some.declared.now c.in-Some.ensures (sym c.if-begins_white.ensures))
