use Rattle.std.proofs.Common.{◌≡◌, false, map, sym, ap, ◌∙◌}
use Rattle.xml_tokens.specs.Views.{attribute_view}
use Rattle.element_names.specs.Spaces.{scope_of}
use Rattle.element_names.specs.Named.{are_apart_expanded}
use Rattle.element_names.proofs.NamedElements.{no_prefixes, apart_without_prefixes}
use Rattle.element_names.proofs.names.are_expanded_apart.Goals as goal

pub returns-then-not-has_prefix : goal.returns-then-not-has_prefix
returns-then-not-has_prefix c =
    let attributes = map attribute_view c.args.attributes.now in
    let none : c.has_prefix.result ≡ false = cc in
    sym (ap are_apart_expanded c.requires.names.are
    ∙ apart_without_prefixes (scope_of c.args.spaces.now) attributes (no_prefixes c.args.attributes.now (sym c.has_prefix.ensures ∙ none)) c.requires.apart)
