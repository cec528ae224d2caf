-- What is taken from the link and from the clock.
use Rattle.std.specs.Prelude.{◌≡◌, ℕ, min, List, length, Option, None, Some, Ok, IfSome}
use Rattle.std.proofs.Common.{subst, sym, ap, ◌∙◌}
use Rattle.saml_time.specs.declared.TheConstants.{LAST}
use Rattle.event_link.specs.declared.arrival.Arrival.{Arrival}
use Rattle.event_link.specs.declared.link.LinkEvent.{LinkEvent}
use Rattle.event_link.specs.Clocks.{now_of}
use Rattle.event_link.specs.Links.{LinkState, after_next, in_front, next_of, Gives}
use Rattle.conn_table.specs.Events.{Event}
use Rattle.serve_loop.specs.declared.limits.TheConstants.{PIECE_ROOM}
use Rattle.serve_loop.specs.Worlds.{World, event_of, Comes, IsNext}

pub clocked : (before : Option (List ℕ)) (given now : ℕ) → IfSome before (λ moments. given ≡ now_of moments)
    → now ≡ min given LAST → IfSome before (λ moments. now ≡ min (now_of moments) LAST)
clocked None given now told is = tt
clocked (Some moments) given now told is = is ∙ ap (λ n. min n LAST) told

-- what a `next` gave, where its bytes are these
pub next_comes : (E : Type 0) (told now : Option LinkState) (before after : List ℕ) (event : LinkEvent) (bytes : List ℕ)
    → length before ≡ PIECE_ROOM → Gives {E = E} told before (Ok event) after now → ((coming : List Arrival)
    → (next_of PIECE_ROOM coming).event ≡ event → after ≡ in_front (next_of PIECE_ROOM coming).bytes before
    → event_of event bytes ≡ event_of event (next_of PIECE_ROOM coming).bytes) → Comes (event_of event bytes) told now
next_comes E None now before after event bytes long gives same = gives
next_comes E (Some link) now before after event bytes long gives same = let given = next_of PIECE_ROOM link.coming in
    let at = subst (λ (room : ℕ). (event ≡ (next_of room link.coming).event) × (after ≡ in_front (next_of room
    link.coming).bytes before) × (now ≡ Some (after_next (next_of room link.coming) link))) long gives in
    (same link.coming (sym at.0) at.1 ∙ ap (λ (e : LinkEvent). event_of e given.bytes) at.0, at.2)

-- the world once the event has come
pub next_is : {N : Type 0} (w : World N) (after : Option LinkState) (after_faults : ℕ) (event given : Event)
    → Comes (Some given) w.link after → event ≡ given
    → after_faults ≡ w.send_faults → IsNext (Some event) w (record w { link = after; send_faults = after_faults })
next_is w after after_faults event given comes is counted = record {
  comes = subst (λ (e : Event). Comes (Some e) w.link after) (sym is) comes;
  same = ap (λ (n : ℕ). record w { link = after; send_faults = n }) counted;
}
