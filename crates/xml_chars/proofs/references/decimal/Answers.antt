use Rattle.std.proofs.Common.{Some, codes, sym, subst}
use Rattle.std.proofs.lemmas.Bool.Decides.{Decides-eqb}
use Rattle.std.proofs.lemmas.Slice.Eq.{strip_prefix_is}
use Rattle.xml_chars.specs.Reading.{IsDecimal, ReadsKind}
use Rattle.xml_chars.proofs.ReferenceKinds.{decimal_written, number_fails, number_refers}
use Rattle.xml_chars.proofs.references.decimal.Goals as goal

pub returns-in_err-character : goal.returns-in_err-character
returns-in_err-character c =
    let front = strip_prefix_is Decides-eqb c.args.bytes.now (codes "&#") (Some c.in_ok-digits.digits) c.in_ok-digits.ensures.cases in
    subst (ReadsKind IsDecimal c.args.bytes.now) (sym c.from_residual-in_err-character.ensures)
    (number_fails c.args.bytes.now c.in_ok-digits.digits.now decimal_written front c.in_err-character.ensures)

pub returns : goal.returns
returns c =
    let front = strip_prefix_is Decides-eqb c.args.bytes.now (codes "&#") (Some c.in_ok-digits.digits) c.in_ok-digits.ensures.cases in
    number_refers c.args.bytes.now c.in_ok-digits.digits.now c.in_ok-character.character c.in_ok-character.length decimal_written front c.in_ok-character.ensures
