-- The peer of a name.
use Rattle.std.specs.Prelude.{slice_get}
use Rattle.std.proofs.Common.{◌≡◌, ℕ, zero, suc, ◌<◌, length, arith, Bool, true, false, cond, List, [], ◌∷◌, Option, None, Some, refl, sym, subst, ap, ◌∙◌}
use Rattle.std.specs.Option.{option_map}
use Rattle.std.specs.Str.{bytes_eq}
use Rattle.std.proofs.lemmas.Slice.Eq.{bytes_eq-Decides}
use Rattle.peer_keys.specs.Peers.{place_of}
use Rattle.peer_keys.specs.declared.peers.LogoutPeer.{LogoutPeer}

-- it stands at its place
pub placed : (entity : List ℕ) (peers : List LogoutPeer) (place : ℕ) → place_of entity peers ≡ Some place
    → (peer : LogoutPeer) × (slice_get peers place ≡ Some peer)
placed entity [] place is = absurd (cc)
placed entity (first ∷ peers) place is =
    by_test (bytes_eq first.peer.entity entity) (λ p found. placed entity peers p found) is
  where
    by_test : (b : Bool) → ((p : ℕ) → place_of entity peers ≡ Some p → (peer : LogoutPeer)
        × (slice_get peers p ≡ Some peer))
        → cond b (Some 0) (option_map suc (place_of entity peers)) ≡ Some place → (peer : LogoutPeer)
        × (slice_get (first ∷ peers) place ≡ Some peer)
    by_test true later here =
        let at : 0 ≡ place = cc in
        (first, subst (λ (p : ℕ). slice_get (first ∷ peers) p ≡ Some first) at refl)
    by_test false later next = behind (place_of entity peers) refl next
      where
        behind : (o : Option ℕ) → place_of entity peers ≡ o → option_map suc o ≡ Some place → (peer : LogoutPeer)
            × (slice_get (first ∷ peers) place ≡ Some peer)
        behind None none is = absurd (cc)
        behind (Some p) found is =
            let at : suc p ≡ place = cc in
            let rest = later p found in
            (rest.0, subst (λ (q : ℕ). slice_get (first ∷ peers) q ≡ Some rest.0) at rest.1)

-- the first peer of a name has it
pub place_names : (entity : List ℕ) (peers : List LogoutPeer) (place : ℕ) (peer : LogoutPeer)
    → place_of entity peers ≡ Some place → slice_get peers place ≡ Some peer → peer.peer.entity ≡ entity
place_names entity [] place peer is there = absurd (cc)
place_names entity (first ∷ peers) place peer is there =
    by_test (bytes_eq first.peer.entity entity) refl (λ p q r. place_names entity peers p peer q r) is
  where
    by_test : (b : Bool) → bytes_eq first.peer.entity entity ≡ b
        → ((p : ℕ) → place_of entity peers ≡ Some p → slice_get peers p ≡ Some peer → peer.peer.entity ≡ entity)
        → cond b (Some 0) (option_map suc (place_of entity peers)) ≡ Some place → peer.peer.entity ≡ entity
    by_test true same later here =
        let at : 0 ≡ place = cc in
        let is_first : first ≡ peer =
        (let e : Some first ≡ Some peer = subst (λ (p : ℕ). slice_get (first ∷ peers) p ≡ Some peer) (sym at) there in
        cc) in
        ap (λ (p : LogoutPeer). p.peer.entity) (sym is_first) ∙ (bytes_eq-Decides first.peer.entity entity).0 same
    by_test false other later next = behind (place_of entity peers) refl next
      where
        behind : (o : Option ℕ) → place_of entity peers ≡ o → option_map suc o ≡ Some place → peer.peer.entity ≡ entity
        behind None none is = absurd (cc)
        behind (Some p) found is =
            let at : suc p ≡ place = cc in
            later p found (subst (λ (q : ℕ). slice_get (first ∷ peers) q ≡ Some peer) (sym at) there)

-- what stands at a place is inside
pub there_inside : {X : Type 0} (xs : List X) (i : ℕ) (x : X) → slice_get xs i ≡ Some x → i < length xs
there_inside [] i x is = absurd (cc)
there_inside (y ∷ xs) zero x is = omega arith
there_inside (y ∷ xs) (suc i) x is = omega (arith, there_inside xs i x is)
