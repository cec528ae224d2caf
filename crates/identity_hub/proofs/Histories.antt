-- What is kept of a service, and over several starts.
use Rattle.std.specs.Prelude.{Contains, Option, Some}
use Rattle.std.proofs.Common.{◌≡◌, ℕ, refl, arith}
use Rattle.http_wire.specs.declared.answer.Answer.{Answer}
use Rattle.http_wire.specs.Requests.{Request}
use Rattle.ledger_records.specs.declared.hub_record.HubRecord.{HubRecord}
use Rattle.provider_node.specs.Histories.{moments_of}
use Rattle.provider_node.specs.Added.{DrawsAbove, IsAbove}
use Rattle.provider_node.proofs.Histories.{above_of_each, came_so, kept_so, some_left}
use Rattle.provider_node.proofs.Histories.{what_is_kept}
use Rattle.provider_node.proofs.Starts.{kept_over_at, kept_over_so}
use Rattle.hub_ledger.specs.Laws.{ImagesHoldRecords, NoRequestBacksTwiceInARun}
use Rattle.hub_ledger.specs.Ledger.{Held}
use Rattle.hub_ledger.specs.Record.{hub_rules}
use Rattle.hub_ledger.specs.Runs.{requests_backed}
use Rattle.identity_hub.specs.declared.config.HubConfig.{HubConfig}
use Rattle.identity_hub.specs.Histories.{PassOnce, WhatIsAcknowledgedIsKeptOnce, WhatIsAcknowledgedIsKeptOnceOverStarts}
use Rattle.identity_hub.proofs.Once.{still_differ}
use Rattle.identity_hub.specs.Step as steps
use Rattle.identity_hub.specs.Step.{Answers, backed_for, below_of, routed_for, spoken_for}

-- the numbers that a record draws which is added with an answer
above : (setup : HubConfig) (held : Held) (request : Request) (now : ℕ) (answer : Answer) (adds : Option HubRecord)
    (r : HubRecord) → Answers setup held request now answer adds → adds ≡ Some r → IsAbove hub_rules held r
above setup held request now answer adds r (steps.ByStatus status to is none) some = absurd (cc)
above setup held request now answer adds r (steps.ByMetadata role to is none) some = absurd (cc)
above setup held request now answer adds r (steps.ByRefusal verdict to refused is none) some = absurd (cc)
above setup held request now answer adds r (steps.BySpeaking asked peer message bytes asks passive is named page shown)
    some =
    above_of_each hub_rules held (spoken_for setup held now (below_of asked peer)) r (cc) (omega arith, tt)
above setup held request now answer adds r (steps.ByAsking asked peer q bytes asks passive own is page shown) some =
    above_of_each hub_rules held (routed_for setup held now (below_of asked peer)) r (cc)
    (omega arith, (omega arith, tt))
above setup held request now answer adds r (steps.ByVerdict verdict to refused is none) some = absurd (cc)
above setup held request now answer adds r (steps.ByUnknownPeer b asked brings unknown is none) some = absurd (cc)
above setup held request now answer adds r (steps.ByPassing b asked row peer q bytes brings is_for own is page shown)
    some =
    above_of_each hub_rules held (backed_for setup held now b row.below) r (cc)
    (omega arith, (omega arith, (omega arith, tt)))

pub draws_above : DrawsAbove hub_rules Answers
draws_above setup held request now answer r answers = above setup held request now answer (Some r) r answers refl

pub kept_once : ImagesHoldRecords → NoRequestBacksTwiceInARun → WhatIsAcknowledgedIsKeptOnce
kept_once law never_twice first last turns kept at tells run =
    let start = first.node.ledger.held in
    let is = what_is_kept hub_rules Answers law draws_above first last turns kept at tells run in
    let (image, left) = some_left hub_rules Answers first last turns kept at tells run in
    let (found, stands, came) = is.kept image left in
    record {
      all = kept_so hub_rules Answers _ last turns is _
          (came_so hub_rules PassOnce (Contains (moments_of turns)) start
          (λ held events leads. never_twice start held events at.records leads) is.records);
      once = still_differ came.events is.records (requests_backed start.records) came.includes
          (never_twice start found came.events at.records came.leads);
    }

pub kept_once_over : ImagesHoldRecords → NoRequestBacksTwiceInARun → (IsMoment : ℕ → Type 0)
    → WhatIsAcknowledgedIsKeptOnceOverStarts IsMoment
kept_once_over law never_twice IsMoment start starts are begun =
    let is = kept_over_at hub_rules Answers law draws_above IsMoment start starts begun in
    let (found, came) = is.history in
    record {
      all = kept_over_so hub_rules Answers PassOnce IsMoment start starts
          (λ held events leads. never_twice start held events are leads) is;
      once = still_differ came.events is.records (requests_backed start.records) came.includes
          (never_twice start found came.events are came.leads);
    }
