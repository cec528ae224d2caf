use Rattle.std.proofs.Common.{◌≡◌, true, ◌++◌, sym, subst, rules}
use Rattle.std.proofs.lemmas.Result.{err_from_is_err_and}
use Rattle.xml_spec.specs.Bytes.{begins_with}
use Rattle.xml_tokens.specs.Views.{attribute_view, added}
use Rattle.xml_tokens.specs.Lexing.{is_name_byte, AssignmentAt, NoAssignment, NoAttributes}
use Rattle.xml_tokens.proofs.Adding.{none_added, one_added, grown_once, not_grown}
use Rattle.xml_tokens.proofs.Faults.{fault_for}
use Rattle.xml_tokens.proofs.TagReadings.{none_so_far, no_attributes, one_more}
use Rattle.xml_tokens.proofs.tags.listed.Goals as goal

pub tag-init : goal.tag-init
tag-init c = record {
  utf8 = search rules;
  grows = not_grown c.args.attributes.now.items;
  read = rw none_added (none_so_far c.args.whole.now);
}

pub returns-in_err-attribute-clause-refused : goal.returns-in_err-attribute-clause-refused
returns-in_err-attribute-clause-refused c =
    let p = err_from_is_err_and c.from_residual.result c.from_residual.ensures.1 in
    let named : begins_with is_name_byte c.split_run.result.1.now ≡ true = cc in
    rw (p.1, p.2) (fault_for (NoAssignment (c.split_run.result.0.now ++ c.split_run.result.1.now)) (NoAttributes c.args.whole.now) c.in_err-attribute.field-0.0
    (no_attributes c.args.whole.now (added c.args.attributes.now.items c.tag.attributes.items) c.tag.rest.now c.split_run.result.0.now c.split_run.result.1.now
    c.tag.invariant.read c.split_run.ensures.split c.split_run.ensures.passes named)
    c.in_err-attribute.ensures.refused)

pub tag-preserved : goal.tag-preserved
tag-preserved c =
    let before = c.args.attributes.now.items in
    let list = c.tag.attributes.items in
    let attribute = c.in_ok-attribute.attribute in
    let reading : AssignmentAt c.tag.rest.now (attribute_view attribute) c.in_ok-attribute.behind.now =
    subst (λ bs. AssignmentAt bs (attribute_view attribute) c.in_ok-attribute.behind.now) (sym c.split_run.ensures.split) c.in_ok-attribute.ensures.reading in
    record {
      utf8 = search rules;
      grows = rw c.in_ok-push.ensures.items (grown_once before list attribute c.tag.invariant.grows);
      read =
          rw (c.in_ok-push.ensures.items, one_added before list attribute c.tag.invariant.grows)
          (one_more c.args.whole.now (added before list) c.tag.rest.now (attribute_view attribute) c.in_ok-attribute.behind.now
          c.tag.invariant.read reading);
    }
