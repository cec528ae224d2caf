-- No request opens two sessions over a service.
use Rattle.std.specs.Prelude.{Contains}
use Rattle.std.proofs.Common.{◌≢◌, ℕ, suc, ◌<◌, List, [], ◌∷◌, ◌++◌, length, slice_index_or, sym, arith}
use Rattle.std.specs.List.{flat_map}
use Rattle.ledger_records.specs.declared.sp_record.SpRecord.{SpRecord}
use Rattle.ledger_records.specs.declared.sp_record.SpRecord.TheVariants as kinds
use Rattle.provider_node.specs.Histories.{Includes, Nothing, This, Another, moments_of}
use Rattle.provider_node.proofs.Histories.{came_so, kept_so, some_left, what_is_kept}
use Rattle.record_ledger.specs.Runs.{Adds}
use Rattle.request_ledger.specs.Record.{request_rules}
use Rattle.request_ledger.specs.Runs.{Event, AreDifferent, request_opened, requests_added, requests_opened}
use Rattle.request_ledger.specs.Laws.{ImagesHoldRecords, NoRequestOpensTwiceInARun}
use Rattle.request_ledger.proofs.LawWords.{Each}
use Rattle.request_ledger.proofs.RunOnce.{one_more}
use Rattle.sp_server.specs.Step.{Answers}
use Rattle.sp_server.specs.Histories.{OpenOnce, WhatIsAcknowledgedIsKeptOnce}
use Rattle.sp_server.proofs.Histories.{draws_above}

-- ---- none stands twice

tail_differs : (text : List ℕ) (rest : List (List ℕ)) → AreDifferent (text ∷ rest) → AreDifferent rest
tail_differs text rest different i j less within =
    different (suc i) (suc j) (omega (arith, less)) (omega (arith, within))

head_differs : (text : List ℕ) (rest : List (List ℕ)) → ((j : ℕ) → j < length rest → slice_index_or rest j [] ≢ text)
    → Each (λ t. t ≢ text) rest
head_differs text [] each = tt
head_differs text (t ∷ rest) each =
    (each 0 (omega arith), head_differs text rest (λ j within. each (suc j) (omega (arith, within))))

others : (text : List ℕ) (rest : List (List ℕ)) → AreDifferent (text ∷ rest) → Each (λ t. t ≢ text) rest
others text rest different =
    head_differs text rest (λ j within same. different 0 (suc j) (omega arith) (omega (arith, within)) (sym same))

fewer : (events : List Event) (records : List SpRecord) (base : List (List ℕ)) (P : List ℕ → Type 0)
    → Includes events records → Each P (requests_added events ++ base)
    → Each P (flat_map request_opened records ++ base)
fewer [] [] base P Nothing each = each
fewer [] (x ∷ records) base P includes each = elim includes [ ]
fewer (Adds (kinds.Opened r) ∷ past) (x ∷ records) base P (This includes) each =
    (each.0, fewer past records base P includes each.1)
fewer (Adds other ∷ past) (x ∷ records) base P (This includes) each = fewer past records base P includes each
fewer (Adds (kinds.Opened r) ∷ past) records base P (Another includes) each = fewer past records base P includes each.1
fewer (other ∷ past) records base P (Another includes) each = fewer past records base P includes each

pub still_differ : (events : List Event) (records : List SpRecord) (base : List (List ℕ)) → Includes events records
    → AreDifferent (requests_added events ++ base)
    → AreDifferent (flat_map request_opened records ++ base)
still_differ [] [] base Nothing different = different
still_differ [] (x ∷ records) base includes different = elim includes [ ]
still_differ (Adds (kinds.Opened r) ∷ past) (x ∷ records) base (This includes) different =
    let rest = requests_added past ++ base in
    one_more r.request (flat_map request_opened records ++ base)
    (fewer past records base (λ t. t ≢ r.request) includes (others r.request rest different))
    (still_differ past records base includes (tail_differs r.request rest different))
still_differ (Adds other ∷ past) (x ∷ records) base (This includes) different =
    still_differ past records base includes different
still_differ (Adds (kinds.Opened r) ∷ past) records base (Another includes) different =
    still_differ past records base includes (tail_differs r.request (requests_added past ++ base) different)
still_differ (other ∷ past) records base (Another includes) different =
    still_differ past records base includes different

-- ---- the law

pub kept_once : ImagesHoldRecords → NoRequestOpensTwiceInARun → WhatIsAcknowledgedIsKeptOnce
kept_once law never_twice first last turns kept at tells run =
    let start = first.node.ledger.held in
    let is = what_is_kept request_rules Answers law draws_above first last turns kept at tells run in
    let (image, left) = some_left request_rules Answers first last turns kept at tells run in
    let (found, stands, witness) = is.kept image left in
    record {
      all = kept_so request_rules Answers _ last turns is _
          (came_so request_rules OpenOnce (Contains (moments_of turns)) start
          (λ held events leads. never_twice start held events at.records leads) is.records);
      once = still_differ witness.events is.records (requests_opened start.records) witness.includes
          (never_twice start found witness.events at.records witness.leads);
    }
