use Rattle.std.proofs.Common.{List, ℕ, ap, subst, sym}
use Rattle.saml_tree.specs.Run.{State}
use Rattle.saml_tree.specs.Links.{depths_of, AreLinkedSoFar}
use Rattle.saml_tree.proofs.LinkedRows.{element_opened}
use Rattle.saml_tree.proofs.build.Builder.open.Goals as goal

pub returns-clause-linked : goal.returns-clause-linked
returns-clause-linked c =
    let before = c.end_text.new.self in
    let after = c.push_element.new.self in
    λ h. subst (λ (numbers : List ℕ). AreLinkedSoFar (depths_of after.rows.rows) after.rows.links numbers)
    (sym c.in_ok-push.ensures.items)
    (element_opened before after _ _ c.len-number.result (ap (λ (s : State). s.text) c.in_ok-end_text.ensures.ok)
    c.in_ok-push_element.ensures.ok c.len-number.ensures.rows
    (c.in_ok-push_element.ensures.linked (c.in_ok-end_text.ensures.linked h)))
