use Rattle.sp_server.proofs.Asked.{stripped, unstripped}
use Rattle.sp_server.proofs.guard.path_asked.Goals as goal

pub returns-in-Some : goal.returns-in-Some
returns-in-Some c =
    let cases =
    c.in-Some.ensures.cases in stripped c.args.path.now c.in-Some.asked.now cases.0 cases.1.0 cases.1.1 cases.2

pub returns-in-None : goal.returns-in-None
returns-in-None c = unstripped c.args.path.now c.in-None.ensures.cases
