-- What is kept of what a provider acknowledged.
use Rattle.std.specs.Prelude.{None, Some}
use Rattle.std.proofs.Common.{◌≡◌, ℕ, Bool, true, false, not, List, [], ◌∷◌, refl, subst, ◌∙◌, arith}
use Rattle.ledger_records.specs.declared.idp_record.IdpRecord.TheVariants as kinds
use Rattle.idp_ledger.specs.Drafts.{confirmed, issue, login, pending, spoke, told}
use Rattle.idp_ledger.specs.Laws.{CompactionsChangeNoAnswer, ImagesHoldRecords}
use Rattle.idp_ledger.specs.Ledger.{Held, next_number}
use Rattle.idp_ledger.specs.Record.{idp_rules}
use Rattle.idp_rules.specs.declared.config.IdpConfig.{IdpConfig}
use Rattle.provider_node.proofs.Histories as any
use Rattle.provider_node.specs.Added.{DrawsAbove, IsAbove}
use Rattle.provider_node.proofs.Histories.{above_of_each}
use Rattle.round_rows.specs.declared.row.RoundRow.{RoundRow}
use Rattle.round_rows.specs.Rounds.{is_turn_left}
use Rattle.idp_server.specs.Rounds.{round_by}
use Rattle.idp_server.specs.Histories.{WhatIsAcknowledgedIsKept}
use Rattle.idp_server.specs.Step as steps
use Rattle.idp_server.specs.Step.{Answers, ask_of, asker_of, ended_by, ending_by, left_by}
use Rattle.idp_server.proofs.StayingEnded.{stays_dead, stays_ended}
use Rattle.idp_server.proofs.Told.{said}
use Rattle.logout_answers.specs.Answers.{is_in_part}

-- ---- the numbers of a record that is added

told_above : (setup : IdpConfig) (held : Held) (now : ℕ) (request : List ℕ) (confirms : Bool) (row : RoundRow)
    (left : Bool)
    → IsAbove idp_rules held (told setup.id_key (next_number held) now request confirms left)
told_above setup held now request confirms row true =
    above_of_each idp_rules held (told setup.id_key (next_number held) now request confirms true) _ refl
    (omega arith, tt)
told_above setup held now request confirms row false =
    above_of_each idp_rules held (told setup.id_key (next_number held) now request confirms false) _ refl tt

pub draws_above : DrawsAbove idp_rules Answers
draws_above setup held request now answer r (steps.ByIssuing asked peer row other bytes asks used drafted adding
    answers full) =
    above_of_each idp_rules held (issue setup.id_key (next_number held) now row (ask_of asked peer)) r (cc)
    (omega arith, (omega arith, tt))
draws_above setup held request now answer r (steps.ByPassive asked peer message bytes asks none passive adding
    named answers full) =
    above_of_each idp_rules held (spoke setup.id_key (next_number held) now (ask_of asked peer)) r (cc)
    (omega arith, tt)
draws_above setup held request now answer r (steps.ByAsking asked peer id asks none passive adding named full) =
    above_of_each idp_rules held (pending setup.id_key (next_number held) now (ask_of asked peer)) r (cc)
    (omega arith, tt)
draws_above setup held request now answer r (steps.ByLogin t row peer user other bytes to posted pends accepted drafted
    adding answers full) =
    above_of_each idp_rules held (login setup.id_key (next_number held) now row user.name user.attributes) r (cc)
    (omega arith, (omega arith, (omega arith, (omega arith, tt))))
draws_above setup held request now answer r (steps.ByLeaving row left bytes to live alone drafted adding answers full) =
    above_of_each idp_rules held (left_by setup.id_key held now row.cookie) r (cc) (omega arith, tt)
draws_above setup held request now answer r (steps.ByLeavingAll row begun bytes to live asks drafted adding first
    full) =
    above_of_each idp_rules held (round_by setup held now None (row.cookie ∷ [])) r (cc)
    (omega arith, (omega arith, tt))
draws_above setup held request now answer r (steps.ByEnding asked peer relay ended bytes to asks some_end alone drafted
    adding answers full) =
    above_of_each idp_rules held (ended_by setup.id_key held now peer.peer.entity asked) r (cc) (omega arith, tt)
draws_above setup held request now answer r (steps.ByEndingAll asked peer relay begun bytes to asks some_end others
    drafted adding first full) =
    above_of_each idp_rules held (round_by setup held now (Some (asker_of peer asked relay))
    (ending_by held now peer.peer.entity asked)) r (cc) (omega arith, (omega arith, tt))
draws_above setup held request now answer r (steps.ByTold response peer row told bytes to replies waits drafted adding
    answers full) =
    let same : kinds.Told told ≡ r = cc in
    let confirms = not (is_in_part response.outcome) in
    subst (IsAbove idp_rules held) (drafted ∙ same) (told_above setup held now response.request confirms row
    (is_turn_left row))
draws_above setup held request now answer r (steps.ByConfirming response peer to replies no_round waits adding full) =
    above_of_each idp_rules held (confirmed now response.request) r (cc) tt
draws_above setup held request now answer r other =
    absurd (let says = (said setup held request now answer (Some r) other).is in cc)

-- ---- the law

pub what_is_kept : ImagesHoldRecords → CompactionsChangeNoAnswer → WhatIsAcknowledgedIsKept
what_is_kept law alike first last turns kept at tells run =
    let start = first.node.ledger.held in
    let is = any.what_is_kept idp_rules Answers law draws_above first last turns kept at tells run in
    record {
      all = is;
      ended = λ r cookie has ending image left.
          let (held, there, came) = is.kept image left in (
            held,
            there,
            stays_dead alike start at.records r cookie ending came.events is.records held came.includes has
                came.leads,
          );
      stays = λ cookie was image left.
          let (held, there, came) = is.kept image left in
          (held, there, stays_ended alike start held came.events cookie at.records was came.leads);
    }
