-- For which request below one is sent upwards.
use Rattle.std.specs.Prelude.{Option, None, Some}
use Rattle.std.proofs.Common.{◌≡◌, ℕ, refl, sym, ap, ◌∙◌}
use Rattle.http_wire.specs.declared.answer.Answer.{Answer}
use Rattle.http_wire.specs.Requests.{Request}
use Rattle.ledger_records.specs.declared.hub_record.Routed.{Routed}
use Rattle.ledger_records.specs.declared.hub_record.Spoke.{Spoke}
use Rattle.ledger_records.specs.declared.hub_record.HubRecord.{HubRecord}
use Rattle.ledger_records.specs.declared.hub_record.HubRecord.TheVariants as kinds
use Rattle.hub_ledger.specs.Ledger.{Held}
use Rattle.hub_ledger.specs.RowsOf.{below_row}
use Rattle.identity_hub.specs.declared.config.HubConfig.{HubConfig}
use Rattle.identity_hub.specs.Passing.{EachRefusalIsOfOneBelow, EachRequestUpwardsIsOfOneBelow, IsOfBelow, IsOfPassive}
use Rattle.identity_hub.specs.Step as steps
use Rattle.identity_hub.specs.Step.{Answers, below_of, routed_for, spoken_for}

-- the record of a kind
abbrev routed_in : HubRecord → Option Routed
routed_in (kinds.Routed r) = Some r
routed_in other = None

abbrev spoke_in : HubRecord → Option Spoke
spoke_in (kinds.Spoke r) = Some r
spoke_in other = None

the_routed : (r : Routed) (x : HubRecord) (made : Routed) → x ≡ kinds.Routed r → routed_in x ≡ Some made → made ≡ r
the_routed r x made is has = let both : Some made ≡ Some r = sym has ∙ ap routed_in is in cc

the_spoke : (r : Spoke) (x : HubRecord) (made : Spoke) → x ≡ kinds.Spoke r → spoke_in x ≡ Some made → made ≡ r
the_spoke r x made is has = let both : Some made ≡ Some r = sym has ∙ ap spoke_in is in cc

asked : (setup : HubConfig) (held : Held) (request : Request) (now : ℕ) (answer : Answer) (adds : Option HubRecord)
    (r : Routed) → adds ≡ Some (kinds.Routed r) → Answers setup held request now answer adds
    → IsOfBelow setup request r
asked setup held request now answer adds r some (steps.ByAsking login peer own bytes asks askable is adding page full) =
    let both : routed_for setup held now (below_of login peer) ≡ kinds.Routed r =
    is ∙ (let e = sym adding ∙ some in cc) in
    let same = the_routed r (routed_for setup held now (below_of login peer)) _ both refl in
    record {
      asked = login;
      peer = peer;
      asks = asks;
      askable = askable;
      below_is = sym (ap below_row same);
    }
asked setup held request now answer adds r some (steps.ByStatus status to is none) = absurd (cc)
asked setup held request now answer adds r some (steps.ByMetadata role to is none) = absurd (cc)
asked setup held request now answer adds r some (steps.ByRefusal verdict to refused is none) = absurd (cc)
asked setup held request now answer adds r some
    (steps.BySpeaking login peer message bytes asks passive is named page full) = absurd (cc)
asked setup held request now answer adds r some (steps.ByVerdict verdict to refused is none) = absurd (cc)
asked setup held request now answer adds r some (steps.ByUnknownPeer b row brings unknown is none) = absurd (cc)
asked setup held request now answer adds r some
    (steps.ByPassing b row route peer own bytes brings is_for is adding page full) = absurd (cc)

pub asked_below : EachRequestUpwardsIsOfOneBelow
asked_below setup held request now answer r answers =
    asked setup held request now answer (Some (kinds.Routed r)) r refl answers

refused : (setup : HubConfig) (held : Held) (request : Request) (now : ℕ) (answer : Answer) (adds : Option HubRecord)
    (r : Spoke) → adds ≡ Some (kinds.Spoke r) → Answers setup held request now answer adds
    → IsOfPassive setup request r
refused setup held request now answer adds r some
    (steps.BySpeaking login peer message bytes asks passive is named page full) =
    let both : spoken_for setup held now (below_of login peer) ≡ kinds.Spoke r = (let e = sym is ∙ some in cc) in
    let same = the_spoke r (spoken_for setup held now (below_of login peer)) _ both refl in
    record {
      asked = login;
      peer = peer;
      asks = asks;
      passive = passive;
      peer_is = sym (ap (λ (s : Spoke). s.peer) same);
      request_is = sym (ap (λ (s : Spoke). s.request) same);
    }
refused setup held request now answer adds r some (steps.ByStatus status to is none) = absurd (cc)
refused setup held request now answer adds r some (steps.ByMetadata role to is none) = absurd (cc)
refused setup held request now answer adds r some (steps.ByRefusal verdict to wrong is none) = absurd (cc)
refused setup held request now answer adds r some
    (steps.ByAsking login peer own bytes asks askable is adding page full) = absurd (cc)
refused setup held request now answer adds r some (steps.ByVerdict verdict to wrong is none) = absurd (cc)
refused setup held request now answer adds r some (steps.ByUnknownPeer b row brings unknown is none) = absurd (cc)
refused setup held request now answer adds r some
    (steps.ByPassing b row route peer own bytes brings is_for is adding page full) = absurd (cc)

pub refused_below : EachRefusalIsOfOneBelow
refused_below setup held request now answer r answers =
    refused setup held request now answer (Some (kinds.Spoke r)) r refl answers
