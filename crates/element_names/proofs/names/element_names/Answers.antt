use Rattle.std.proofs.Common.{◌≡◌, ◌++◌, true, false, List, map, inl, inr, refl, sym, ap, ◌∙◌}
use Rattle.std.proofs.lemmas.Result.{err_from_is_err_and}
use Rattle.element_names.specs.Keys.{are_apart}
use Rattle.xml_tokens.specs.Views.{attribute_view}
use Rattle.element_names.specs.Spaces.{scope_of}
use Rattle.element_names.specs.Named.{listed, expanded_view, are_apart_expanded}
use Rattle.element_names.specs.declared.names.Expanded.{Expanded}
use Rattle.element_names.proofs.NamedElements.{named_from, well_attributes, names_apart, expanded_are_apart, numbers_resolve}
use Rattle.element_names.proofs.names.element_names.Goals as goal

pub returns-clause-named : goal.returns-clause-named
returns-clause-named c =
    let table = c.args.spaces.now.table in
    let attributes = map attribute_view c.args.attributes.now in
    let apart : are_apart (map (λ a. a.name) attributes) ≡ true = sym c.in_ok-apart.ensures ∙ c.if-not-apart.false in
    let tested : c.in_ok-differ.differ ≡ true = c.if-not-differ.false in
    named_from (scope_of c.args.spaces.now) c.args.name.now attributes c.in-Some.ensures.0 c.in_ok-expand_all.ensures.well apart
    (sym (ap are_apart_expanded c.in_ok-expand_all.ensures.ok.are)
    ∙ ap (λ (list : List Expanded). are_apart_expanded (map (expanded_view table) list)) (sym c.deref.ensures.value)
    ∙ sym c.in_ok-differ.ensures ∙ tested)

pub returns-clause-resolved : goal.returns-clause-resolved
returns-clause-resolved c = record {
  element = c.in-Some.ensures.1;
  each_attribute =
      numbers_resolve c.args.spaces.now.table (scope_of c.args.spaces.now) (map attribute_view c.args.attributes.now)
      c.expand_all.new.list.items c.args.numbers.now.items c.put_numbers.new.numbers.items c.in_ok-from.from c.in_ok-expand_all.ensures.ok
      (c.in_ok-from.ensures.numbers ∙ ap (λ (list : List Expanded). c.args.numbers.now.items ++ map (λ (e : Expanded). e.namespace) list) c.deref-2.ensures.value)
      c.in_ok-from.ensures.from;
}

pub returns-in_err-expand_all-clause-err : goal.returns-in_err-expand_all-clause-err
returns-in_err-expand_all-clause-err c =
    let p = err_from_is_err_and c.from_residual.result c.from_residual.ensures.1 in
    rw (p.1, p.2) (elim c.in_err-expand_all.ensures.err [
      | inl e ↦ inl e
      | inr bad ↦ inr (bad.0, λ n. bad.1 (well_attributes (scope_of c.args.spaces.now) c.args.name.now (map attribute_view c.args.attributes.now) n))
    ])

pub returns-then-not-apart-clause-err : goal.returns-then-not-apart-clause-err
returns-then-not-apart-clause-err c =
    let attributes = map attribute_view c.args.attributes.now in
    let found : are_apart (map (λ a. a.name) attributes) ≡ false = sym c.in_ok-apart.ensures ∙ c.if-not-apart.true in
    inr (refl, λ n. absurd (let clash : true ≡ false = sym (names_apart (scope_of c.args.spaces.now) c.args.name.now attributes n) ∙ found in cc))

pub returns-then-not-differ-clause-err : goal.returns-then-not-differ-clause-err
returns-then-not-differ-clause-err c =
    let table = c.args.spaces.now.table in
    let attributes = map attribute_view c.args.attributes.now in
    let scope = scope_of c.args.spaces.now in
    let tested : c.in_ok-differ.differ ≡ false = c.if-not-differ.true in
    let found : are_apart_expanded (map (listed scope) attributes) ≡ false =
    sym (ap are_apart_expanded c.in_ok-expand_all.ensures.ok.are)
    ∙ ap (λ (list : List Expanded). are_apart_expanded (map (expanded_view table) list)) (sym c.deref.ensures.value)
    ∙ sym c.in_ok-differ.ensures ∙ tested in
    inr (refl, λ n. absurd (let clash : true ≡ false = sym (expanded_are_apart scope c.args.name.now attributes n) ∙ found in cc))
