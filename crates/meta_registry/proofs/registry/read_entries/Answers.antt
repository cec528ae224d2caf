use Rattle.std.proofs.Common.{◌≡◌, codes, ap, ◌∙◌}
use Rattle.saml_names.specs.Names.{md}
use Rattle.saml_names.specs.Views.{name_of}
use Rattle.saml_tree.specs.Documents.{DocumentView}
use Rattle.tree_read.specs.Views.{tree_of}
use Rattle.meta_registry.specs.Aggregate.{entry_of}
use Rattle.meta_registry.proofs.Reading.{fewer_left, one_more_read}
use Rattle.meta_registry.proofs.registry.read_entries.Goals as goal

pub loop-descriptor-smaller : goal.loop-descriptor-smaller
loop-descriptor-smaller c =
    fewer_left (md (codes "EntityDescriptor")) (name_of c.md.result) c.loop-descriptor.left.left c.next_named.new.self.left c.in-Some.descriptor.node.0 c.md.ensures c.in-Some.ensures.taken

pub loop-descriptor-preserved : goal.loop-descriptor-preserved
loop-descriptor-preserved c =
    let tree = tree_of c.args.at in
    let place : c.in-Some.descriptor.doc.now ≡ c.args.at.doc.now = c.in-Some.ensures.there ∙ c.loop-descriptor.invariant.document in
    record {
      found =
          one_more_read (md (codes "EntityDescriptor")) (name_of c.md.result) c.loop-descriptor.left.left c.next_named.new.self.left c.in-Some.descriptor.node.0 c.md.ensures c.in-Some.ensures.taken
          (entry_of tree) c.loop-descriptor.entries.items c.push.new.self.items _ c.in_ok-read.field-0 c.in_ok-push.ensures.items
          (c.in_ok-read.ensures ∙ ap (λ (d : DocumentView). entry_of d.tree c.in-Some.descriptor.node.0) place) c.loop-descriptor.invariant.found;
      document = c.in-Some.ensures.document ∙ c.loop-descriptor.invariant.document;
    }
