use Rattle.std.proofs.Common.{◌∷◌, sym, ap, ◌∙◌}
use Rattle.tree_read.specs.Children.{named}
use Rattle.tree_read.specs.Texts.{text_of}
use Rattle.tree_read.specs.Views.{tree_of}
use Rattle.protocol_messages.proofs.Indexes.{next_text}
use Rattle.protocol_messages.proofs.logout.read_indexes.Goals as goal

pub loop-index-preserved : goal.loop-index-preserved
loop-index-preserved c =
    let index = c.in-Some.index in
    let same = c.in-Some.ensures.there ∙ c.loop-index.invariant.document in
    let taken = ap (λ n. named n c.loop-index.left.left) (sym c.samlp.ensures) ∙ c.in-Some.ensures.taken
    ∙ ap (λ n. index.node.0 ∷ named n c.next_named.new.self.left) c.samlp.ensures in
    record {
      found = next_text (text_of (tree_of c.args.at)) _ _ _ _ _ _ _ c.loop-index.invariant.found taken
          (c.in_ok-text_of.ensures ∙ (λ i. text_of (same i).tree index.node.0)) c.in_ok-push.ensures.ok;
      document = c.next_named.ensures.document ∙ c.loop-index.invariant.document;
    }
