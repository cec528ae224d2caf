use Rattle.std.proofs.Common.{rules, [], refl, ◌∙◌}
use Rattle.std.proofs.lemmas.Result.{err_from_is_err_and}
use Rattle.xml_tokens.specs.Markup.{bare_tag}
use Rattle.saml_tree.specs.Views.{outline_view}
use Rattle.saml_tree.proofs.ReadingOn.{read_more, no_longer, stuck, not_taken_on, end_of, bare_name}
use Rattle.saml_tree.proofs.beyond.open_all.Goals as goal

pub open-requires-clause-tail : goal.open-requires-clause-tail
open-requires-clause-tail c =
    let read = c.tags.invariant.read in
    end_of c.tags.outline.names.text c.args.rest.now c.tags.left.now c.requires.tail.0 read.0 (c.tags.invariant.text ∙ c.requires.tail.1) read.1

pub open-requires-clause-named : goal.open-requires-clause-named
open-requires-clause-named c = bare_name c.tags.left.now c.in-Some.name.now c.in-Some.behind.now c.in-Some.ensures

pub returns-in_err-open-clause-err : goal.returns-in_err-open-clause-err
returns-in_err-open-clause-err c =
    let o = outline_view c.args.outline.now in
    let p = err_from_is_err_and c.from_residual.result c.from_residual.ensures.1 in
    let name = c.in-Some.name.now in
    rw (p.1, p.2) (not_taken_on o c.args.rest.now _ _ c.in_err-open.ensures.err
    (λ none. stuck o c.args.rest.now c.tags.left.now c.in-Some.behind.now (outline_view c.tags.outline) (bare_tag name)
    c.tags.invariant.read c.in-Some.ensures (none (record { name = name; assignments = []; space = [] }))))

pub tags-preserved : goal.tags-preserved
tags-preserved c =
    let name = c.in-Some.name.now in
    record {
      utf8 = search rules;
      text = c.open.ensures.text ∙ c.tags.invariant.text;
      read = read_more (outline_view c.args.outline.now) c.args.rest.now c.tags.left.now c.in-Some.behind.now (outline_view c.tags.outline)
          (outline_view c.open.new.self) (bare_tag name) c.tags.invariant.read c.in-Some.ensures
          (c.in_ok-open.ensures.ok (record { name = name; assignments = []; space = [] }) refl);
    }

pub returns-clause-shorter : goal.returns-clause-shorter
returns-clause-shorter c =
    no_longer (outline_view c.args.outline.now) c.args.rest.now c.tags.left.now (outline_view c.tags.outline) c.tags.invariant.read
