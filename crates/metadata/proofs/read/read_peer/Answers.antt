use Rattle.metadata.proofs.Refusals.{peer_read, peer_refused}
use Rattle.metadata.proofs.read.read_peer.Goals as goal

pub returns-in-Ok-clause-ok : goal.returns-in-Ok-clause-ok
returns-in-Ok-clause-ok c =
    peer_read c.args.text.now c.args.role c.in-Ok.doc.tree _ c.in-Ok.ensures.ok c.root.ensures.number c.read_peer_at.result c.read_peer_at.ensures

pub returns-in-Ok-clause-refused : goal.returns-in-Ok-clause-refused
returns-in-Ok-clause-refused c =
    peer_refused c.args.text.now c.args.role c.in-Ok.doc.tree _ c.in-Ok.ensures.ok c.root.ensures.number c.read_peer_at.result c.read_peer_at.ensures
