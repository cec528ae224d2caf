use Rattle.std.specs.Prelude.{codes}
use Rattle.std.proofs.Common.{◌≡◌, ◌++◌, List, ℕ, map, sym, ap, ◌∙◌, arith, rules}
use Rattle.std.specs.List.{flat_map}
use Rattle.std.proofs.lemmas.List.{take_all}
use Rattle.std.proofs.lemmas.List.Folds.{flat_map-map}
use Rattle.record_lines.specs.declared.field.Field.{Field}
use Rattle.record_lines.specs.Instants.{instant}
use Rattle.record_lines.specs.Lines.{shown}
use Rattle.record_lines.specs.Views.{field_view}
use Rattle.record_lines.proofs.field.line_of.Goals as goal

pub returns : goal.returns
returns c =
    let fields = c.args.fields.now in
    let start : c.push-2.new.self ≡ instant c.args.moment ++ codes " " ++ c.args.kind.now = search rules in
    let all = take_all c.loop-field.field-index fields (omega (arith, c.loop-field-test.false)) in
    let put : c.loop-field.line ≡ instant c.args.moment ++ codes " " ++ c.args.kind.now ++ flat_map shown (map field_view fields) =
    c.loop-field.invariant ∙ ap (λ (items : List Field). c.push-2.new.self ++ flat_map (λ f. shown (field_view f)) items) all
    ∙ ap (λ (xs : List ℕ). xs ++ flat_map (λ f. shown (field_view f)) fields) start
    ∙ ap (λ (xs : List ℕ). instant c.args.moment ++ codes " " ++ c.args.kind.now ++ xs) (sym (flat_map-map shown field_view fields)) in
    c.in_ok-push-3.ensures.ok ∙ ap (λ (xs : List ℕ). xs ++ codes "\n") put
