use Rattle.std.proofs.Common.{List, ℕ, IsTrue, ◌↔◌, sym, ◌∙◌, subst}
use Rattle.xml_spec.specs.Characters.{IsNoColonName}
use Rattle.element_names.proofs.QualifiedParts.{qualified_by_local}
use Rattle.element_names.proofs.qualified.is_qualified.Goals as goal

pub returns-then-is_no_colon_name : goal.returns-then-is_no_colon_name
returns-then-is_no_colon_name c =
    let name = c.args.name.now in
    let local = c.is_no_colon_name-then-is_no_colon_name.result in
    qualified_by_local name local (sym c.has_colon.ensures ∙ c.if-not-has_colon.false)
    (subst IsNoColonName c.prefix.ensures (c.is_no_colon_name.ensures.0 c.if-is_no_colon_name.true))
    (subst (λ (x : List ℕ). IsTrue local ↔ IsNoColonName x) c.local.ensures c.is_no_colon_name-then-is_no_colon_name.ensures)
