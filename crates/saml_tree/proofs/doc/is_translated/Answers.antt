use Rattle.std.proofs.Common.{◌≡◌, true, false, [], sym, ◌∙◌, append-nil}
use Rattle.xml_spec.specs.Meaning.{line_ends}
use Rattle.saml_tree.proofs.doc.is_translated.Goals as goal

pub returns-in-None : goal.returns-in-None
returns-in-None c = (
  λ h. absurd (let clash : false ≡ true = h in cc),
  λ same. absurd (c.in-None.ensures [] (sym same ∙ sym (append-nil (line_ends c.args.written.now)))),
)
