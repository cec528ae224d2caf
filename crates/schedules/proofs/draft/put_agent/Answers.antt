use Rattle.schedules.proofs.Naming.{known_name}
use Rattle.schedules.proofs.draft.put_agent.Goals as goal

pub returns-then-contains : goal.returns-then-contains
returns-then-contains c =
    known_name c.args.names.now.items c.deref.result.now c.args.agent c.in-Some.agent c.contains.result c.in-Some.is c.deref.ensures.value
    c.contains.ensures.value c.if-contains.true
