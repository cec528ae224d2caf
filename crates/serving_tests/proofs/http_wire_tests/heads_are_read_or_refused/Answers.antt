use Rattle.serving_tests.proofs.http_wire_tests.heads_are_read_or_refused.Goals as goal

pub look-requires : goal.look-requires
look-requires g c = c.new.ensures _
