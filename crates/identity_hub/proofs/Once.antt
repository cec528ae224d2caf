-- Of the logins that a history includes no two answer one request upwards, where none of the whole history do.
use Rattle.std.proofs.Common.{◌≡◌, ℕ, zero, suc, ◌<◌, List, [], ◌∷◌, ◌++◌, length, slice_index_or, refl, ◌∙◌, arith}
use Rattle.std.specs.List.{flat_map}
use Rattle.ledger_records.specs.declared.hub_record.HubRecord.{HubRecord}
use Rattle.ledger_records.specs.declared.hub_record.HubRecord.TheVariants as kinds
use Rattle.record_ledger.specs.Runs.{Adds}
use Rattle.hub_ledger.specs.Runs.{AreDifferent, Event, request_backed, requests_added}
use Rattle.provider_node.specs.Histories.{Another, Includes, Nothing, This}

-- the first texts are among the second, in order
data AreAmong : (few many : List (List ℕ)) → Type 0 where
  All : (texts : List (List ℕ)) → AreAmong texts texts
  Kept : (text : List ℕ) {few many : List (List ℕ)} → AreAmong few many → AreAmong (text ∷ few) (text ∷ many)
  LeftOut : (text : List ℕ) {few many : List (List ℕ)} → AreAmong few many → AreAmong few (text ∷ many)

found : (few many : List (List ℕ)) → AreAmong few many → (i : ℕ) → i < length few
    → (j : ℕ) × (j < length many) × (slice_index_or few i [] ≡ slice_index_or many j [])
found few many (All texts) i within = (i, within, refl)
found (x ∷ few) (y ∷ many) (Kept text among) zero within = (0, omega arith, refl)
found (x ∷ few) (y ∷ many) (Kept text among) (suc i) within =
    let (j, less, same) = found few many among i (omega (arith, within)) in (suc j, omega (arith, less), same)
found few (y ∷ many) (LeftOut text among) i within =
    let (j, less, same) = found few many among i within in (suc j, omega (arith, less), same)

behind : (text : List ℕ) (texts : List (List ℕ)) → AreDifferent (text ∷ texts) → AreDifferent texts
behind text texts different i j less within =
    different (suc i) (suc j) (omega (arith, less)) (omega (arith, within))

fewer_differ : (few many : List (List ℕ)) → AreAmong few many → AreDifferent many → AreDifferent few
fewer_differ few many (All texts) different i j less within = different i j less within
fewer_differ few (y ∷ many) (LeftOut text among) different i j less within =
    fewer_differ few many among (behind text many different) i j less within
fewer_differ (x ∷ few) (y ∷ many) (Kept text among) different i zero less within = absurd (omega (arith, less))
fewer_differ (x ∷ few) (y ∷ many) (Kept text among) different zero (suc j) less within =
    let (k, there, is) = found few many among j (omega (arith, within)) in
    λ same. different 0 (suc k) (omega arith) (omega (arith, there)) (same ∙ is)
fewer_differ (x ∷ few) (y ∷ many) (Kept text among) different (suc i) (suc j) less within =
    fewer_differ few many among (behind text many different) i j (omega (arith, less)) (omega (arith, within))

-- those of the records that were added by events are among those of the events
among_added : (events : List Event) (records : List HubRecord) (base : List (List ℕ)) → Includes events records
    → AreAmong (flat_map request_backed records ++ base) (requests_added events ++ base)
among_added [] [] base Nothing = All base
among_added [] (x ∷ records) base includes = elim includes [ ]
among_added (Adds (kinds.Backed r) ∷ past) (x ∷ records) base (This includes) =
    Kept r.request (among_added past records base includes)
among_added (Adds other ∷ past) (x ∷ records) base (This includes) = among_added past records base includes
among_added (Adds (kinds.Backed r) ∷ past) records base (Another includes) =
    LeftOut r.request (among_added past records base includes)
among_added (other ∷ past) records base (Another includes) = among_added past records base includes

pub still_differ : (events : List Event) (records : List HubRecord) (base : List (List ℕ)) → Includes events records
    → AreDifferent (requests_added events ++ base) → AreDifferent (flat_map request_backed records ++ base)
still_differ events records base includes =
    fewer_differ (flat_map request_backed records ++ base) (requests_added events ++ base)
    (among_added events records base includes)
