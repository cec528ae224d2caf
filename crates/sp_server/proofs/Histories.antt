-- The numbers that a record draws which is added with an answer.
use Rattle.std.specs.Prelude.{Some}
use Rattle.std.proofs.Common.{arith}
use Rattle.provider_node.specs.Added.{DrawsAbove}
use Rattle.provider_node.proofs.Histories.{above_of_each}
use Rattle.request_ledger.specs.Drafts.{asked, opened, confirmed}
use Rattle.request_ledger.specs.Ledger.{next_number}
use Rattle.request_ledger.specs.Record.{request_rules}
use Rattle.sp_rules.specs.Shown.{session_of}
use Rattle.sp_server.specs.Step as steps
use Rattle.sp_server.specs.Step.{Answers, left_record, ended_record}
use Rattle.sp_server.proofs.Told.{said}

pub draws_above : DrawsAbove request_rules Answers
draws_above setup held request now answer r (steps.ByAsking bytes to none unexpired id relay page is ids shown) =
    above_of_each request_rules held (asked setup.config.id_key (next_number held) now request.path) r (cc)
    (omega arith, (omega arith, tt))
draws_above setup held request now answer r (steps.ByOpening b row to unexpired opens token is has shown) =
    let session = session_of setup.config now b.key.number b.login in
    above_of_each request_rules held (opened setup.config.id_key (next_number held) now session) r (cc)
    (omega arith, tt)
draws_above setup held request now answer r (steps.ByLeaving row id bytes to unexpired live is has leaves shown) =
    above_of_each request_rules held (left_record setup.config held now row.token) r (cc) (omega arith, tt)
draws_above setup held request now answer r (steps.ByEnding asking relay id bytes to unexpired obeyed any is has ends
    shown) =
    above_of_each request_rules held (ended_record setup.config held now asking) r (cc) (omega arith, tt)
draws_above setup held request now answer r (steps.ByConfirming response to unexpired obeyed waits is shown) =
    above_of_each request_rules held (confirmed now response.request) r (cc) tt
draws_above setup held request now answer r other =
    absurd (let says = (said setup held request now answer (Some r) other).is in cc)
