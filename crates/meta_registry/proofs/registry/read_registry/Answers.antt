use Rattle.std.proofs.lemmas.Result.{IfErr-weaker}
use Rattle.meta_registry.specs.Faults.{IsNoRegistry, IsRefused}
use Rattle.meta_registry.proofs.Reading.{no_registry}
use Rattle.meta_registry.proofs.registry.read_registry.Goals as goal

pub returns-clause-refused : goal.returns-clause-refused
returns-clause-refused c =
    let text = c.args.text.now in
    let key = c.args.key.now in
    let tree = c.in_ok-doc.doc.tree in
    IfErr-weaker c.read_root.result (IsNoRegistry key tree 0) (IsRefused text key) (λ fault is. no_registry text key tree fault c.in_ok-doc.ensures.ok is)
    c.read_root.ensures.refused
