use Rattle.std.proofs.Common.{rules, ◌≡◌}
use Rattle.std.specs.List.{list_all}
use Rattle.std.specs.Str.{chars}
use Rattle.std.proofs.lemmas.Iterator.{YieldsList-from_chars}
use Rattle.std.proofs.lemmas.Iterator.Search.{all_from_yields_List}
use Rattle.xml_spec.specs.Characters.{char_ranges, is_char}
use Rattle.xml_chars.proofs.Names.{same_test}
use Rattle.xml_chars.proofs.Texts.{text_tested}
use Rattle.xml_chars.proofs.text.are_chars.Goals as goal

pub returns : goal.returns
returns c =
    let s = c.args.text.now in
    let passed : c.all.result ≡ list_all is_char (chars s) =
    all_from_yields_List is_char _ _ c.all.result c.all.ensures.ran (YieldsList-from_chars s c.utf8.text c.chars.ensures.rest) (λ x b q k. (search rules, same_test char_ranges x b (search rules))) in
    text_tested s c.all.result c.utf8.text passed
