use Rattle.std.specs.Option.{option_map}
use Rattle.saml_commands.specs.Canon.{OfCanon}
use Rattle.saml_commands.specs.Documents.{OfDocument}
use Rattle.saml_commands.specs.Running.{IsVerdictOf}
use Rattle.saml_commands.proofs.Answering.{weaker, refused_document}
use Rattle.saml_commands.proofs.canon.canon.Goals as goal

pub returns-in-Err-clause-ends : goal.returns-in-Err-clause-ends
returns-in-Err-clause-ends g c =
    let id = option_map (λ text. text.now) c.args.id in
    let fault = c.in-Err.fault in
    weaker (IsVerdictOf c.of_document.result) (OfDocument OfCanon id c.args.bytes.now) (g.K.Sink.taken c.args.out.now) (g.K.Sink.taken c.refuse.new.out) c.refuse.result
    (λ answer h. refused_document OfCanon id c.args.bytes.now fault c.in-Err.ensures.refused answer (rw c.of_document.ensures at h)) c.refuse.ensures.ends
