use Rattle.std.proofs.Common.{sym, ◌∙◌, subst}
use Rattle.std.proofs.lemmas.Result.{IfOk-weaker}
use Rattle.std.proofs.lemmas.Str.{IsUtf8-from_ascii}
use Rattle.xml_spec.specs.Characters.{IsText}
use Rattle.protocol_messages.proofs.Texts.{ok_of_valid, ascii_of, text_of_graphic}
use Rattle.protocol_messages.proofs.make.instant.Goals as goal

pub unwrap-text-requires : goal.unwrap-text-requires
unwrap-text-requires c =
    ok_of_valid _ _ c.from_utf8.result c.from_utf8.ensures.cases (IsUtf8-from_ascii _ (ascii_of _ c.put_instant.ensures.printable))

pub returns-clause-text : goal.returns-clause-text
returns-clause-text c =
    let read = rw c.unwrap-text.ensures at c.from_utf8.ensures.cases in
    IfOk-weaker c.of.result _ _ (λ text e. subst IsText (sym (e ∙ read.0)) (text_of_graphic _ c.put_instant.ensures.printable)) c.of.ensures
