use Rattle.std.proofs.Common.{ℕ, List, Option, Some, None, Result, Ok, Err}
use Rattle.std.specs.Prelude.{◌≡◌, ◌<◌, length, IfOk, IfSome, OnErr, MatchResult}
use Rattle.std.specs.Option.{option_map}
use Rattle.xml_spec.specs.Names.{ExpandedName}
use Rattle.saml_names.specs.Names.{saml}
use Rattle.tree_read.specs.Children as walk
use Rattle.tree_read.specs.Views.{tree_of, numbers_of}
use Rattle.tree_read.specs.declared.at.At.{At}
use Rattle.tree_read.specs.declared.fault.OtherShape.{OtherShape}
use Rattle.assertion_model.specs.Contents.{at_most_one}
use Rattle.assertion_model.specs.Login.{children}
use Rattle.assertion_model.specs.Parts.{part_of}
use Rattle.assertion_model.proofs.LookLemmas.{one_if_any, not_at_most_one}
use Rattle.assertion_model.proofs.look.child_if_any.Goals as goal

which : (at : At) (name : ExpandedName) (local : List ℕ) (r : Result (Option At) OtherShape) → name ≡ saml local →
    IfOk r (λ child. walk.children (tree_of at) at.node.0 name ≡ numbers_of child) → IfOk r (λ child. IfSome child (λ f. f.doc.now ≡ at.doc.now)) →
    OnErr r (1 < length (walk.children (tree_of at) at.node.0 name)) →
    MatchResult r (λ child. at_most_one (children local (part_of at).kids) ≡ Some (option_map part_of child)) (λ _. at_most_one (children local (part_of at).kids) ≡ None)
which at name local (Ok o) n found there several = one_if_any at name local o n found there
which at name local (Err e) n found there several = not_at_most_one at name local n several

pub returns : goal.returns
returns c = which c.args.at _ c.args.local.now c.at_most_one.result c.saml.ensures c.at_most_one.ensures.found c.at_most_one.ensures.there c.at_most_one.ensures.several
