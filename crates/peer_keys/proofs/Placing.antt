-- Where the peer of a name stands.
use Rattle.std.proofs.Common.{◌≡◌, ℕ, suc, ◌+◌, ◌<◌, Bool, true, false, cond, ◌≤◌, List, [], ◌∷◌, drop, length, slice_index_or, Option, None, Some, refl, sym, ◌∙◌, ap, arith}
use Rattle.std.specs.Prelude.{slice_get}
use Rattle.std.specs.Option.{option_map}
use Rattle.std.specs.Str.{bytes_eq}
use Rattle.std.proofs.Math.ListN.{drop_of_length-le}
use Rattle.std.proofs.Math.Seq.{drop-cons}
use Rattle.peer_keys.specs.Peers.{place_of}
use Rattle.peer_keys.specs.declared.peers.LogoutPeer.{LogoutPeer}

-- the place of the first peer of the name behind the first i
abbrev pub place_behind : List ℕ → ℕ → List LogoutPeer → Option ℕ
place_behind entity i peers = option_map (λ n. i + n) (place_of entity (drop i peers))

pub from_first : (entity : List ℕ) (peers : List LogoutPeer) → place_behind entity 0 peers ≡ place_of entity peers
from_first entity peers = unmoved (place_of entity peers)
  where
    unmoved : (place : Option ℕ) → option_map (λ n. 0 + n) place ≡ place
    unmoved None = refl
    unmoved (Some n) = let same : 0 + n ≡ n = omega arith in ap Some same

shifted : (i : ℕ) (place : Option ℕ) → option_map (λ n. i + n) (option_map suc place) ≡ option_map (λ n. suc i + n) place
shifted i None = refl
shifted i (Some n) = let same : i + suc n ≡ suc i + n = omega arith in ap Some same

-- at the next peer
with_next : (i : ℕ) (b : Bool) (behind : Option ℕ) → option_map (λ n. i + n) (cond b (Some 0) (option_map suc behind)) ≡ cond b (Some i) (option_map (λ n. suc i + n) behind)
with_next i true behind = let same : i + 0 ≡ i = omega arith in ap Some same
with_next i false behind = shifted i behind

at_next : (entity : List ℕ) (i : ℕ) (peers : List LogoutPeer) (peer : LogoutPeer) → i < length peers → peer ≡ slice_index_or peers i peer →
    place_behind entity i peers ≡ cond (bytes_eq peer.peer.entity entity) (Some i) (place_behind entity (i + 1) peers)
at_next entity i peers peer h is =
    let behind : suc i ≡ i + 1 = omega arith in
    ap (λ left. option_map (λ n. i + n) (place_of entity left)) (drop-cons peers i peer h)
    ∙ ap (λ (next : LogoutPeer). option_map (λ n. i + n) (place_of entity (next ∷ drop (suc i) peers))) (sym is)
    ∙ with_next i (bytes_eq peer.peer.entity entity) (place_of entity (drop (suc i) peers))
    ∙ ap (λ j. cond (bytes_eq peer.peer.entity entity) (Some i) (place_behind entity j peers)) behind

-- the next peer has the name
pub at_named : (entity : List ℕ) (i : ℕ) (peers : List LogoutPeer) (peer : LogoutPeer) → i < length peers → peer ≡ slice_index_or peers i peer →
    bytes_eq peer.peer.entity entity ≡ true → place_behind entity i peers ≡ Some i
at_named entity i peers peer h is named =
    at_next entity i peers peer h is ∙ ap (λ b. cond b (Some i) (place_behind entity (i + 1) peers)) named

-- it has another one
pub at_other : (entity : List ℕ) (i : ℕ) (peers : List LogoutPeer) (peer : LogoutPeer) → i < length peers → peer ≡ slice_index_or peers i peer →
    bytes_eq peer.peer.entity entity ≡ false → place_behind entity i peers ≡ place_behind entity (i + 1) peers
at_other entity i peers peer h is named =
    at_next entity i peers peer h is ∙ ap (λ b. cond b (Some i) (place_behind entity (i + 1) peers)) named

-- there is none any more
pub at_end : (entity : List ℕ) (i : ℕ) (peers : List LogoutPeer) → length peers ≤ i → place_behind entity i peers ≡ None
at_end entity i peers h = ap (λ left. option_map (λ n. i + n) (place_of entity left)) (drop_of_length-le peers h)

-- there is a peer at the place of a name
pub peer_there : (entity : List ℕ) (peers : List LogoutPeer) (place : ℕ) → place_of entity peers ≡ Some place →
    (peer : LogoutPeer) × (slice_get peers place ≡ Some peer)
peer_there entity [] place is = absurd (cc)
peer_there entity (peer ∷ peers) place is =
    first_or_later peer peers place (bytes_eq peer.peer.entity entity) (place_of entity peers) is (peer_there entity peers)
  where
    first_or_later : (peer : LogoutPeer) (peers : List LogoutPeer) (place : ℕ) (b : Bool) (behind : Option ℕ) → cond b (Some 0) (option_map suc behind) ≡ Some place →
        ((n : ℕ) → behind ≡ Some n → (other : LogoutPeer) × (slice_get peers n ≡ Some other)) →
        (other : LogoutPeer) × (slice_get (peer ∷ peers) place ≡ Some other)
    first_or_later peer peers place true behind e later =
        let same : 0 ≡ place = cc in (peer, ap (λ (n : ℕ). slice_get (peer ∷ peers) n) (sym same))
    first_or_later peer peers place false None e later = absurd (cc)
    first_or_later peer peers place false (Some n) e later =
        let same : suc n ≡ place = cc in
        let found = later n refl in
        (found.0, ap (λ (m : ℕ). slice_get (peer ∷ peers) m) (sym same) ∙ found.1)
