use Rattle.std.proofs.Common.{sym, subst, ◌∙◌}
use Rattle.xml_spec.specs.Characters.{IsText}
use Rattle.sp_server.proofs.Live.{text_of}
use Rattle.sp_server.proofs.leave.leaving.Goals as goal

pub returns : goal.returns
returns c =
    let name = c.in_ok-of.ensures ∙ c.as_str-name.ensures in
    record {
      token_is = c.in_ok-copy.ensures;
      name_is = name;
      indexes_are = c.in_ok-indexes_of.ensures.are;
      name_text =
          subst IsText (sym c.in_ok-of.ensures) (text_of c.as_str-name.result.now
          (rw c.as_str-name.ensures c.requires.name));
      index_texts = c.in_ok-indexes_of.ensures.texts;
    }
