use Rattle.std.proofs.Common.{suc, [], ◌++◌, Option, refl, sym, ap, ◌∙◌, subst, append_assoc, arith}
use Rattle.std.proofs.lemmas.Result.{on_ok_weaker, on_err_weaker}
use Rattle.xml_spec.specs.Numbering.{from_node, kids_of}
use Rattle.xml_spec.specs.Names.{Scope, outermost}
use Rattle.xml_spec.specs.Canonical.{scope_at, print_end}
use Rattle.saml_tree.specs.declared.node.NodeNo.{NodeNo}
use Rattle.saml_tree.specs.Elements.{name_in, attributes_in}
use Rattle.canon_octets.specs.Places.{AppendsPart}
use Rattle.canon_octets.proofs.Underway.{same_rest, underway, complete}
use Rattle.canon_octets.proofs.Appending.{on_ok, on_err, no_part, part_of_first, part_of_second, last_ok, last_err}
use Rattle.excl_c14n.specs.Levels.{RenderedView, in_force}
use Rattle.excl_c14n.specs.NodeByNode.{scope_inside, written_in, start_in, node_form, nodes_form}
use Rattle.excl_c14n.proofs.Below.{IsInside, kids_inside, next_inside}
use Rattle.excl_c14n.proofs.Nesting.{kept_below}
use Rattle.excl_c14n.proofs.Opening.{rendered_below, level_below, ended}
use Rattle.excl_c14n.proofs.Walking.{number_of, form_from, IsBehind, kids_form, kids_behind, next_behind, behind_both}
use Rattle.excl_c14n.proofs.Written.{skipped_form, text_written, comment_form, instruction_written, element_form, one_more_written, one_written_partly}
use Rattle.excl_c14n.proofs.walk.Walk.+put_node.Goals as goal

pub returns-then-skips-clause-form : goal.returns-then-skips-clause-form
returns-then-skips-clause-form g t c =
    subst (g.O.Octets.appends c.args.out.now c.args.out.now)
    (sym (skipped_form c.args.self.now.listed (number_of c.args.self.now.skip) (scope_at outermost c.args.self.now.doc.now.tree c.args.n.0)
    (in_force c.args.rendered.now.levels) c.args.n.0
    (from_node c.args.self.now.doc.now.tree c.args.n.0) (sym c.skips.ensures ∙ c.if-skips.true)))
    (g.met.O.Octets.composes.nothing c.args.out.now)

pub returns-in-Text-clause-form : goal.returns-in-Text-clause-form
returns-in-Text-clause-form g t c =
    on_ok_weaker c.put_text.result
    (text_written c.args.self.now.listed (number_of c.args.self.now.skip) (scope_at outermost c.args.self.now.doc.now.tree c.args.n.0)
    (in_force c.args.rendered.now.levels) (g.O.Octets.appends c.args.out.now c.put_text.new.out) c.args.n.0
    (from_node c.args.self.now.doc.now.tree c.args.n.0) (sym c.skips.ensures ∙ c.if-skips.false) c.in-Text.ensures) c.put_text.ensures.ok

pub returns-in-Text-clause-err : goal.returns-in-Text-clause-err
returns-in-Text-clause-err g t c =
    on_err_weaker c.put_text.result
    (text_written c.args.self.now.listed (number_of c.args.self.now.skip) (scope_at outermost c.args.self.now.doc.now.tree c.args.n.0)
    (in_force c.args.rendered.now.levels) (AppendsPart g.O.Octets.appends c.args.out.now c.put_text.new.out) c.args.n.0
    (from_node c.args.self.now.doc.now.tree c.args.n.0) (sym c.skips.ensures ∙ c.if-skips.false) c.in-Text.ensures) c.put_text.ensures.err

pub returns-in-Comment-clause-form : goal.returns-in-Comment-clause-form
returns-in-Comment-clause-form g t c =
    subst (g.O.Octets.appends c.args.out.now c.args.out.now)
    (sym (comment_form c.args.self.now.listed (number_of c.args.self.now.skip) (scope_at outermost c.args.self.now.doc.now.tree c.args.n.0)
    (in_force c.args.rendered.now.levels) c.args.n.0
    (from_node c.args.self.now.doc.now.tree c.args.n.0) c.in-Comment.ensures))
    (g.met.O.Octets.composes.nothing c.args.out.now)

pub returns-in-Instruction-clause-form : goal.returns-in-Instruction-clause-form
returns-in-Instruction-clause-form g t c =
    on_ok_weaker c.put_instruction.result
    (instruction_written c.args.self.now.listed (number_of c.args.self.now.skip) (scope_at outermost c.args.self.now.doc.now.tree c.args.n.0)
    (in_force c.args.rendered.now.levels) (g.O.Octets.appends c.args.out.now c.put_instruction.new.out) c.args.n.0
    (from_node c.args.self.now.doc.now.tree c.args.n.0) (sym c.skips.ensures ∙ c.if-skips.false) c.in-Instruction.ensures) c.put_instruction.ensures.ok

pub returns-in-Instruction-clause-err : goal.returns-in-Instruction-clause-err
returns-in-Instruction-clause-err g t c =
    on_err_weaker c.put_instruction.result
    (instruction_written c.args.self.now.listed (number_of c.args.self.now.skip) (scope_at outermost c.args.self.now.doc.now.tree c.args.n.0)
    (in_force c.args.rendered.now.levels) (AppendsPart g.O.Octets.appends c.args.out.now c.put_instruction.new.out) c.args.n.0
    (from_node c.args.self.now.doc.now.tree c.args.n.0) (sym c.skips.ensures ∙ c.if-skips.false) c.in-Instruction.ensures) c.put_instruction.ensures.err

pub returns-in_err-begin-clause-err : goal.returns-in_err-begin-clause-err
returns-in_err-begin-clause-err g t c =
    let listed = c.args.self.now.listed in
    let skip = number_of c.args.self.now.skip in
    let tree = c.args.self.now.doc.now.tree in
    let nodes = from_node tree c.args.n.0 in
    let scope = scope_at outermost tree c.args.n.0 in
    let rendered = in_force c.args.rendered.now.levels in
    let first = start_in listed scope rendered (name_in nodes) (attributes_in nodes) in
    let below = written_in listed scope rendered (name_in nodes) (attributes_in nodes) ++ rendered in
    let kids = nodes_form listed skip (suc c.args.n.0) (scope_inside tree c.args.n.0) below (kids_of nodes) in
    on_err c.from_residual.result
    (subst (AppendsPart g.O.Octets.appends c.args.out.now c.begin.new.out)
    (sym (element_form listed skip scope rendered c.args.n.0 nodes (scope_inside tree c.args.n.0) below
    (sym c.skips.ensures ∙ c.if-skips.false) c.in-Element.ensures refl refl))
    (part_of_first g.met.O.Octets.composes c.args.out.now c.begin.new.out first (kids ++ print_end (name_in nodes)) c.in_err-begin.ensures.err))

pub loop-next-init : goal.loop-next-init
loop-next-init g t c =
    let listed = c.args.self.now.listed in
    let skip = number_of c.args.self.now.skip in
    let tree = c.args.self.now.doc.now.tree in
    let scope = scope_inside tree c.args.n.0 in
    let rendered = in_force c.begin.new.rendered.levels in
    record {
      written =
          same_rest g.O.Octets.appends c.begin.new.out c.begin.new.out _ _ _
          (kids_form listed skip scope rendered tree c.args.n.0 ∙ ap (form_from listed skip scope rendered tree) (sym c.first_kid-next.ensures.number))
          (underway g.met.O.Octets.composes c.begin.new.out _);
      same = λ i. c.begin.new.rendered;
      behind = subst (IsBehind tree c.args.n.0) (sym c.first_kid-next.ensures.number) (kids_behind tree c.args.n.0);
      inside = subst (IsInside tree c.args.n.0) (sym c.first_kid-next.ensures.number) (kids_inside tree c.args.n.0);
    }

pub declared_at-requires-clause-there : goal.declared_at-requires-clause-there
declared_at-requires-clause-there g t c =
    (subst (λ (o : Option NodeNo). IsBehind c.args.self.now.doc.now.tree c.args.n.0 (number_of o)) c.in-Some.is c.loop-next.invariant.behind).1

pub put_node-requires : goal.put_node-requires
put_node-requires g t c _ outlived =
    let tree = c.args.self.now.doc.now.tree in
    let nodes = from_node tree c.args.n.0 in
    let listed = c.args.self.now.listed in
    let before = c.args.rendered.now in
    let scope = scope_at outermost tree c.args.n.0 in
    let shown = written_in listed scope (in_force before.levels) (name_in nodes) (attributes_in nodes) in
    let kid = subst (λ (o : Option NodeNo). IsBehind tree c.args.n.0 (number_of o)) c.in-Some.is c.loop-next.invariant.behind in
    let now = c.loop-next.invariant.same ∙ c.in_ok-begin.ensures.shown in (
      omega (arith, kid.0, kid.1, c.decreases),
      (
        outlived,
        (
          kid.1,
          (
            c.requires.names,
            (
              ap (λ (v : RenderedView). v.tree) now ∙ c.requires.tree,
              c.in_ok-own.ensures (in_force c.loop-next.rendered.levels)
                  (kept_below listed (scope_inside tree c.args.n.0) (scope_at outermost tree c.in-Some.kid.0) (in_force before.levels)
                  (in_force c.loop-next.rendered.levels) (name_in nodes) (attributes_in nodes) []
                  (subst (λ (o : Option NodeNo). IsInside tree c.args.n.0 (number_of o)) c.in-Some.is c.loop-next.invariant.inside)
                  (rendered_below before c.loop-next.rendered shown now)),
            ),
          ),
        ),
      ),
    )

pub loop-next-preserved : goal.loop-next-preserved
loop-next-preserved g t c =
    let listed = c.args.self.now.listed in
    let skip = number_of c.args.self.now.skip in
    let tree = c.args.self.now.doc.now.tree in
    let scope = scope_inside tree c.args.n.0 in
    let rendered = in_force c.begin.new.rendered.levels in
    let kid = c.in-Some.kid.0 in
    let inside = subst (λ (o : Option NodeNo). IsInside tree c.args.n.0 (number_of o)) c.in-Some.is c.loop-next.invariant.inside in
    record {
      written =
          same_rest g.O.Octets.appends c.begin.new.out c.put_node.new.out _ _ _ (ap (form_from listed skip scope rendered tree) (sym c.next-next.ensures.number))
          (one_more_written listed skip scope rendered g.met.O.Octets.composes c.begin.new.out c.loop-next.out c.put_node.new.out tree kid _
          (same_rest g.O.Octets.appends c.begin.new.out c.loop-next.out _ _ _ (ap (λ o. form_from listed skip scope rendered tree (number_of o)) c.in-Some.is)
          c.loop-next.invariant.written)
          (subst (λ (s : Scope). g.O.Octets.appends c.loop-next.out c.put_node.new.out (node_form listed skip kid s rendered (from_node tree kid))) inside
          (subst (λ (v : RenderedView). g.O.Octets.appends c.loop-next.out c.put_node.new.out (node_form listed skip kid (scope_at outermost tree kid) (in_force v.levels) (from_node tree kid)))
          c.loop-next.invariant.same c.in_ok-put_node.ensures.form)));
      same = c.in_ok-put_node.ensures.same ∙ c.loop-next.invariant.same;
      behind =
          behind_both tree c.args.n.0 kid (number_of c.next-next.result)
          (subst (λ (o : Option NodeNo). IsBehind tree c.args.n.0 (number_of o)) c.in-Some.is c.loop-next.invariant.behind)
          (subst (IsBehind tree kid) (sym c.next-next.ensures.number) (next_behind tree kid));
      inside = subst (IsInside tree c.args.n.0) (sym c.next-next.ensures.number) (next_inside tree c.args.n.0 kid inside);
    }

pub returns-in_err-own-clause-err : goal.returns-in_err-own-clause-err
returns-in_err-own-clause-err g t c =
    let law = g.met.O.Octets.composes in
    let listed = c.args.self.now.listed in
    let skip = number_of c.args.self.now.skip in
    let tree = c.args.self.now.doc.now.tree in
    let nodes = from_node tree c.args.n.0 in
    let before = c.args.rendered.now in
    let below = c.begin.new.rendered in
    let outer = scope_at outermost tree c.args.n.0 in
    let scope = scope_inside tree c.args.n.0 in
    let shown = written_in listed outer (in_force before.levels) (name_in nodes) (attributes_in nodes) in
    let first = start_in listed outer (in_force before.levels) (name_in nodes) (attributes_in nodes) in
    let kids = nodes_form listed skip (suc c.args.n.0) scope (in_force below.levels) (kids_of nodes) in
    let form =
    element_form listed skip outer (in_force before.levels) c.args.n.0 nodes scope (in_force below.levels)
    (sym c.skips.ensures ∙ c.if-skips.false) c.in-Element.ensures refl (rendered_below before below shown c.in_ok-begin.ensures.shown) in
    on_err c.from_residual-in_err-own.result
    (subst (AppendsPart g.O.Octets.appends c.args.out.now c.loop-next.out) (sym form)
    (part_of_second law c.args.out.now c.begin.new.out c.loop-next.out first (kids ++ print_end (name_in nodes)) c.in_ok-begin.ensures.start
    (part_of_first law c.begin.new.out c.loop-next.out kids (print_end (name_in nodes))
    (one_written_partly listed skip scope (in_force below.levels) law c.begin.new.out c.loop-next.out c.loop-next.out tree c.in-Some.kid.0 _
    (same_rest g.O.Octets.appends c.begin.new.out c.loop-next.out _ _ _
    (ap (λ o. form_from listed skip scope (in_force below.levels) tree (number_of o)) c.in-Some.is) c.loop-next.invariant.written)
    (no_part law c.loop-next.out _)))))

pub returns-in_err-put_node-clause-err : goal.returns-in_err-put_node-clause-err
returns-in_err-put_node-clause-err g t c =
    let law = g.met.O.Octets.composes in
    let listed = c.args.self.now.listed in
    let skip = number_of c.args.self.now.skip in
    let tree = c.args.self.now.doc.now.tree in
    let nodes = from_node tree c.args.n.0 in
    let before = c.args.rendered.now in
    let below = c.begin.new.rendered in
    let outer = scope_at outermost tree c.args.n.0 in
    let scope = scope_inside tree c.args.n.0 in
    let shown = written_in listed outer (in_force before.levels) (name_in nodes) (attributes_in nodes) in
    let first = start_in listed outer (in_force before.levels) (name_in nodes) (attributes_in nodes) in
    let kids = nodes_form listed skip (suc c.args.n.0) scope (in_force below.levels) (kids_of nodes) in
    let inside = subst (λ (o : Option NodeNo). IsInside tree c.args.n.0 (number_of o)) c.in-Some.is c.loop-next.invariant.inside in
    let form =
    element_form listed skip outer (in_force before.levels) c.args.n.0 nodes scope (in_force below.levels)
    (sym c.skips.ensures ∙ c.if-skips.false) c.in-Element.ensures refl (rendered_below before below shown c.in_ok-begin.ensures.shown) in
    on_err c.from_residual-in_err-put_node.result
    (subst (AppendsPart g.O.Octets.appends c.args.out.now c.put_node.new.out) (sym form)
    (part_of_second law c.args.out.now c.begin.new.out c.put_node.new.out first (kids ++ print_end (name_in nodes)) c.in_ok-begin.ensures.start
    (part_of_first law c.begin.new.out c.put_node.new.out kids (print_end (name_in nodes))
    (one_written_partly listed skip scope (in_force below.levels) law c.begin.new.out c.loop-next.out c.put_node.new.out tree c.in-Some.kid.0 _
    (same_rest g.O.Octets.appends c.begin.new.out c.loop-next.out _ _ _
    (ap (λ o. form_from listed skip scope (in_force below.levels) tree (number_of o)) c.in-Some.is) c.loop-next.invariant.written)
    (subst (λ (s : Scope). AppendsPart g.O.Octets.appends c.loop-next.out c.put_node.new.out (node_form listed skip c.in-Some.kid.0 s (in_force below.levels) (from_node tree c.in-Some.kid.0))) inside
    (subst (λ (v : RenderedView). AppendsPart g.O.Octets.appends c.loop-next.out c.put_node.new.out
    (node_form listed skip c.in-Some.kid.0 (scope_at outermost tree c.in-Some.kid.0) (in_force v.levels) (from_node tree c.in-Some.kid.0)))
    c.loop-next.invariant.same c.in_err-put_node.ensures.err))))))

pub leave-requires : goal.leave-requires
leave-requires g t c =
    let nodes = from_node c.args.self.now.doc.now.tree c.args.n.0 in
    let before = c.args.rendered.now in
    level_below before c.loop-next.rendered
    (written_in c.args.self.now.listed (scope_at outermost c.args.self.now.doc.now.tree c.args.n.0) (in_force before.levels) (name_in nodes) (attributes_in nodes))
    (c.loop-next.invariant.same ∙ c.in_ok-begin.ensures.shown)

pub returns-clause-form : goal.returns-clause-form
returns-clause-form g t c =
    let law = g.met.O.Octets.composes in
    let listed = c.args.self.now.listed in
    let skip = number_of c.args.self.now.skip in
    let tree = c.args.self.now.doc.now.tree in
    let nodes = from_node tree c.args.n.0 in
    let before = c.args.rendered.now in
    let below = c.begin.new.rendered in
    let outer = scope_at outermost tree c.args.n.0 in
    let scope = scope_inside tree c.args.n.0 in
    let shown = written_in listed outer (in_force before.levels) (name_in nodes) (attributes_in nodes) in
    let first = start_in listed outer (in_force before.levels) (name_in nodes) (attributes_in nodes) in
    let kids = nodes_form listed skip (suc c.args.n.0) scope (in_force below.levels) (kids_of nodes) in
    let form =
    element_form listed skip outer (in_force before.levels) c.args.n.0 nodes scope (in_force below.levels)
    (sym c.skips.ensures ∙ c.if-skips.false) c.in-Element.ensures refl (rendered_below before below shown c.in_ok-begin.ensures.shown) in
    let done =
    complete law c.begin.new.out c.loop-next.out _ kids
    (ap (λ o. form_from listed skip scope (in_force below.levels) tree (number_of o)) c.in_default.is) c.loop-next.invariant.written in
    last_ok law c.put_end.result c.args.out.now c.loop-next.out c.put_end.new.out (first ++ kids) (print_end (name_in nodes)) _
    (append_assoc first kids (print_end (name_in nodes)) ∙ sym form)
    (law.joined c.args.out.now c.begin.new.out c.loop-next.out first kids c.in_ok-begin.ensures.start done) c.put_end.ensures.ok

pub returns-clause-err : goal.returns-clause-err
returns-clause-err g t c =
    let law = g.met.O.Octets.composes in
    let listed = c.args.self.now.listed in
    let skip = number_of c.args.self.now.skip in
    let tree = c.args.self.now.doc.now.tree in
    let nodes = from_node tree c.args.n.0 in
    let before = c.args.rendered.now in
    let below = c.begin.new.rendered in
    let outer = scope_at outermost tree c.args.n.0 in
    let scope = scope_inside tree c.args.n.0 in
    let shown = written_in listed outer (in_force before.levels) (name_in nodes) (attributes_in nodes) in
    let first = start_in listed outer (in_force before.levels) (name_in nodes) (attributes_in nodes) in
    let kids = nodes_form listed skip (suc c.args.n.0) scope (in_force below.levels) (kids_of nodes) in
    let form =
    element_form listed skip outer (in_force before.levels) c.args.n.0 nodes scope (in_force below.levels)
    (sym c.skips.ensures ∙ c.if-skips.false) c.in-Element.ensures refl (rendered_below before below shown c.in_ok-begin.ensures.shown) in
    let done =
    complete law c.begin.new.out c.loop-next.out _ kids
    (ap (λ o. form_from listed skip scope (in_force below.levels) tree (number_of o)) c.in_default.is) c.loop-next.invariant.written in
    last_err law c.put_end.result c.args.out.now c.loop-next.out c.put_end.new.out (first ++ kids) (print_end (name_in nodes)) _
    (append_assoc first kids (print_end (name_in nodes)) ∙ sym form)
    (law.joined c.args.out.now c.begin.new.out c.loop-next.out first kids c.in_ok-begin.ensures.start done) c.put_end.ensures.err

pub returns-clause-same : goal.returns-clause-same
returns-clause-same g t c =
    let nodes = from_node c.args.self.now.doc.now.tree c.args.n.0 in
    let before = c.args.rendered.now in
    on_ok c.put_end.result
    (ended before c.loop-next.rendered c.leave.new.self
    (written_in c.args.self.now.listed (scope_at outermost c.args.self.now.doc.now.tree c.args.n.0) (in_force before.levels) (name_in nodes) (attributes_in nodes))
    (c.loop-next.invariant.same ∙ c.in_ok-begin.ensures.shown) c.leave.ensures)
