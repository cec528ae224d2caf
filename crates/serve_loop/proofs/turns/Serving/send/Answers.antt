use Rattle.serve_loop.proofs.turns.Serving.send.Goals as goal

pub returns-clause-sends : goal.returns-clause-sends
returns-clause-sends g c = let counts = c.send.ensures.send_faults in rw (c.close.ensures.send_faults) (
  c.send.result,
  (g.L.Link.shows c.send.new.self).told,
  c.send.ensures.sends,
  c.close.ensures.closes,
  counts.never_falls,
  counts.failed,
  counts.kept,
)
