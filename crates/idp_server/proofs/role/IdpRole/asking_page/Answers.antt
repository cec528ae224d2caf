use Rattle.idp_server.proofs.Shown.{asking_page_of}
use Rattle.idp_server.proofs.role.IdpRole.asking_page.Goals as goal

pub returns : goal.returns
returns c =
    asking_page_of c.args.self.now c.args.plan.now c.args.entry.now c.args.now c.at.result.now c.first_id.result.now
    c.request_page.result c.requires.shown c.at.ensures c.first_id.ensures
    c.request_page.ensures
