use Rattle.sig_reference.specs.Signing.{signed}
use Rattle.sig_reference.proofs.Lengths.{checked_alone, checked_inside}
use Rattle.sig_reference.proofs.PutInside.{put_in}
use Rattle.sig_reference.proofs.SignatureMade.{signed_made, unsigned_made}
use Rattle.sig_reference.proofs.laws.what_a_document_holds_can_be_checked.Goals as goal

pub returns-clause-alone : goal.returns-clause-alone
returns-clause-alone c key made is short = checked_alone key made is (signed_made key made is) short

pub returns-clause-inside : goal.returns-clause-inside
returns-clause-inside c key around outer made holds is short =
    checked_inside key around outer made holds is (unsigned_made key made (put_in around outer (signed key made) holds is).is) short
