use Rattle.std.proofs.Common.{ℕ, List, subst}
use Rattle.xml_spec.specs.declared.TheConstants.{MAX_DOCUMENT_LENGTH}
use Rattle.sp_setup.specs.declared.limits.TheConstants.{GREATEST_KEY}
use Rattle.saml_commands.specs.Answers.{Answer}
use Rattle.saml_commands.specs.Vouch.{OfVouch}
use Rattle.saml_commands.specs.Reading.{OfFile}
use Rattle.saml_commands.specs.Running.{Vouch, OfCommand}
use Rattle.saml_commands.specs.Serving.{Unserved}
use Rattle.saml_commands.proofs.Answering.{if_ok_map, read_whole}
use Rattle.saml_commands.proofs.top_call.answer_vouch.Goals as goal

pub returns-in-Some-clause-ok : goal.returns-in-Some-clause-ok
returns-in-Some-clause-ok g c =
    let told = g.F.Files.holds c.args.files.now in
    let id = c.args.id.now in
    let key_file = c.args.key_file.now in
    let later : List ℕ → Answer → Type 0 = λ bytes. OfFile (OfVouch id key_file bytes) told key_file GREATEST_KEY in
    let whole = rw c.in-Some.is at c.in_ok-bytes.ensures.ok in
    if_ok_map c.answer_with_key.result
    (λ answer. OfFile (OfVouch id key_file c.deref.result.now) (g.F.Files.holds c.read_file.new.files) key_file GREATEST_KEY answer)
    (λ answer. OfCommand told Unserved (Vouch c.args.file.now id key_file) answer)
    (λ answer h. read_whole later told c.args.file.now MAX_DOCUMENT_LENGTH c.in-Some.bytes.items whole answer
    (subst (λ bytes. OfFile (OfVouch id key_file bytes) told key_file GREATEST_KEY answer) c.deref.ensures.value
    (subst (λ holds. OfFile (OfVouch id key_file c.deref.result.now) holds key_file GREATEST_KEY answer) c.in_ok-bytes.ensures.same h)))
    c.answer_with_key.ensures.ok
