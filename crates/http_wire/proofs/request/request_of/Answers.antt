use Rattle.http_wire.proofs.request.request_of.Goals as goal

pub look-requires : goal.look-requires
look-requires c = c.new-awaited.ensures c.args.buffer.now
