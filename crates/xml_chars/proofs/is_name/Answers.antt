use Rattle.std.proofs.Common.{rules, ◌≡◌, true, false, length, refl, sym, ◌∙◌, ap}
use Rattle.std.specs.List.{list_all}
use Rattle.std.specs.Str.{IsUtf8, chars}
use Rattle.std.proofs.lemmas.Str.{chars_past_char, IsUtf8-past_char}
use Rattle.std.proofs.lemmas.Iterator.{YieldsList-from_chars}
use Rattle.std.proofs.lemmas.Iterator.Search.{all_from_yields_List}
use Rattle.xml_spec.specs.Characters.{name_start_ranges, name_ranges, is_name_start, is_name_char}
use Rattle.xml_chars.proofs.Names.{same_test, empty_is_no_name, name_by_tests}
use Rattle.xml_chars.proofs.is_name.Goals as goal

pub returns-in_default : goal.returns-in_default
returns-in_default c = empty_is_no_name c.args.s.now c.utf8.s (ap length (sym c.chars-characters.ensures.rest) ∙ c.in_default.ensures.steps.0.0)

pub returns-then-is_name_start : goal.returns-then-is_name_start
returns-then-is_name_start c =
    let s = c.args.s.now in
    let rest = c.next.new.self.rest.now in
    let begins = sym c.chars-characters.ensures.rest ∙ c.in-Some.ensures.steps.0 in
    let utf8 : IsUtf8 rest = IsUtf8-past_char s rest c.in-Some.first c.utf8.s begins in
    let others : c.all.result ≡ list_all is_name_char (chars rest) =
    all_from_yields_List is_name_char _ _ c.all.result c.all.ensures.ran (YieldsList-from_chars rest utf8 refl) (λ x b q k. (search rules, same_test name_ranges x b (search rules))) in
    let start = same_test name_start_ranges c.in-Some.first c.is_name_start.result c.is_name_start.ensures in
    let first : is_name_start c.in-Some.first ≡ true = sym start ∙ c.if-is_name_start.true in
    name_by_tests s (chars rest) c.in-Some.first c.all.result c.utf8.s (chars_past_char s rest c.in-Some.first c.utf8.s begins)
    (rw first others)

pub returns-else-is_name_start : goal.returns-else-is_name_start
returns-else-is_name_start c =
    let s = c.args.s.now in
    let rest = c.next.new.self.rest.now in
    let begins = sym c.chars-characters.ensures.rest ∙ c.in-Some.ensures.steps.0 in
    let start = same_test name_start_ranges c.in-Some.first c.is_name_start.result c.is_name_start.ensures in
    let first : is_name_start c.in-Some.first ≡ false = sym start ∙ c.if-is_name_start.false in
    name_by_tests s (chars rest) c.in-Some.first c.is_name_start.result c.utf8.s (chars_past_char s rest c.in-Some.first c.utf8.s begins)
    (rw first c.if-is_name_start.false)
