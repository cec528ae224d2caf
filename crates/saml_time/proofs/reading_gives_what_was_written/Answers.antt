use Rattle.saml_time.proofs.LawLemmas.{reads_back}
use Rattle.saml_time.proofs.reading_gives_what_was_written.Goals as goal

pub returns : goal.returns
returns c = reads_back
