-- Peers whose names differ.
use Rattle.std.proofs.Common.{◌≡◌, ℕ, suc, Bool, true, false, cond, ◌||◌, not, List, [], ◌∷◌, ◌++◌, Option, None, Some, is_some, refl, ap, arith}
use Rattle.std.specs.List.{list_any}
use Rattle.std.specs.Option.{option_map}
use Rattle.std.specs.Str.{bytes_eq}
use Rattle.std.proofs.lemmas.List.Folds.{list_any-append}
use Rattle.std.proofs.lemmas.Slice.Eq.{bytes_eq-Decides}
use Rattle.xml_spec.proofs.Tests.{both_true, and_true}
use Rattle.peer_keys.specs.Peers.{place_of, differ}
use Rattle.peer_keys.specs.declared.peers.LogoutPeer.{LogoutPeer}
use Rattle.idp_setup.specs.Setup.{doubled_with}

-- the test of texts, turned round
turned : (x y : List ℕ) → bytes_eq x y ≡ false → bytes_eq y x ≡ false
turned x y h = grind (arith, bytes_eq-Decides x y, bytes_eq-Decides y x)

-- no peer has the name where it has no place
no_place : (b : Bool) (place : Option ℕ) → is_some (cond b (Some 0) (option_map suc place)) ≡ false → (b ≡ false) × (is_some place ≡ false)
no_place true place h = absurd (cc)
no_place false None h = (refl, refl)
no_place false (Some n) h = absurd (cc)

-- one that comes behind them has another name than each
behind : (b rest other : Bool) → not b ≡ true → other ≡ false → rest ≡ (b || (other || false)) → not rest ≡ true
behind true rest other h o e = absurd (cc)
behind false rest true h o e = absurd (cc)
behind false rest false h o e = ap not e

pub differ_with : (peers : List LogoutPeer) (peer : LogoutPeer) → differ peers ≡ true → is_some (place_of peer.peer.entity peers) ≡ false →
    differ (peers ++ peer ∷ []) ≡ true
differ_with [] peer d none = refl
differ_with (first ∷ peers) peer d none =
    let apart = both_true (not (list_any (λ (other : LogoutPeer). bytes_eq other.peer.entity first.peer.entity) peers)) (differ peers) d in
    let named = no_place (bytes_eq first.peer.entity peer.peer.entity) (place_of peer.peer.entity peers) none in
    and_true (not (list_any (λ (other : LogoutPeer). bytes_eq other.peer.entity first.peer.entity) (peers ++ peer ∷ []))) (differ (peers ++ peer ∷ []))
    (behind (list_any (λ (other : LogoutPeer). bytes_eq other.peer.entity first.peer.entity) peers) _ (bytes_eq peer.peer.entity first.peer.entity) apart.0
    (turned first.peer.entity peer.peer.entity named.0) (list_any-append (λ (other : LogoutPeer). bytes_eq other.peer.entity first.peer.entity) peers (peer ∷ [])))
    (differ_with peers peer apart.1 named.1)

-- where no name is doubled, none was, and the last is new
pub none_doubled : (first : Option ℕ) (line : ℕ) (known : Bool) → doubled_with first line known ≡ None → (first ≡ None) × (known ≡ false)
none_doubled (Some first) line known e = absurd (cc)
none_doubled None line true e = absurd (cc)
none_doubled None line false e = (refl, refl)
