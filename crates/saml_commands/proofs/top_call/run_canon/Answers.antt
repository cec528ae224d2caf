use Rattle.std.proofs.Common.{subst}
use Rattle.std.specs.Option.{option_map}
use Rattle.xml_spec.specs.declared.TheConstants.{MAX_DOCUMENT_LENGTH}
use Rattle.saml_commands.specs.Answers.{BadFile}
use Rattle.saml_commands.specs.Canon.{OfCanon}
use Rattle.saml_commands.specs.Documents.{OfDocument}
use Rattle.saml_commands.specs.Running.{Canon, OfCommand}
use Rattle.saml_commands.specs.Serving.{Unserved}
use Rattle.saml_commands.proofs.Answering.{weaker, with_answer, unread_bad, read_whole}
use Rattle.saml_commands.proofs.top_call.run_canon.Goals as goal

pub returns-in-Some-clause-ends : goal.returns-in-Some-clause-ends
returns-in-Some-clause-ends g c =
    let id = option_map (λ text. text.now) c.args.id in
    let told = g.F.Files.holds c.args.files.now in
    let whole = rw c.in-Some.is at c.in-Ok.ensures.ok in
    weaker (OfDocument OfCanon id c.deref.result.now) (OfCommand told Unserved (Canon c.args.file.now id)) (g.K.Sink.taken c.args.out.now) (g.K.Sink.taken c.canon.new.out) c.canon.result
    (λ answer h. read_whole (OfDocument OfCanon id) told c.args.file.now MAX_DOCUMENT_LENGTH c.in-Some.bytes.items whole answer (subst (λ bytes. OfDocument OfCanon id bytes answer) c.deref.ensures.value h))
    c.canon.ensures.ends

pub returns-in-None-clause-ends : goal.returns-in-None-clause-ends
returns-in-None-clause-ends g c =
    let id = option_map (λ text. text.now) c.args.id in
    let told = g.F.Files.holds c.args.files.now in
    let unread = rw c.in-None.is at c.in-Ok.ensures.ok in
    with_answer (OfCommand told Unserved (Canon c.args.file.now id)) (g.K.Sink.taken c.args.out.now) (g.K.Sink.taken c.print_bad_file.new.out) c.print_bad_file.result
    (BadFile c.args.file.now 0) (unread_bad (OfDocument OfCanon id) told c.args.file.now MAX_DOCUMENT_LENGTH unread) c.print_bad_file.ensures.ends
