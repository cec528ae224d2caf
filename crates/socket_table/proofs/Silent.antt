-- The search for the connection that has been silent longest: P is that one is silent, and `moved` when it moved last.
use Rattle.std.proofs.Common.{◌≡◌, ℕ, ◌+◌, ◌<◌, ◌≤◌, List, length, Option, Some, None, IfSome, MatchOption, ◌⊎◌, inl, inr, refl, sym, ap, subst, slice_get, get_or, below_more, arith}
use Rattle.std.specs.List.{HoldsAt}
use Rattle.std.proofs.lemmas.List.Elements.{at_read}
use Rattle.std.proofs.lemmas.Option.{slice_get_read}
use Rattle.socket_table.specs.declared.connection.Stage.{Stage}
use Rattle.socket_table.specs.declared.seat.Seat.{Seat}
use Rattle.socket_table.specs.declared.table.Silent.{Silent}
use Rattle.socket_table.specs.Connections.{IsSilent}
use Rattle.socket_table.specs.Seats.{IsMostSilent}

module _ {X : Type 0} (P : X → Type 0) (moved : X → ℕ) (xs : List X) where
  -- This one is silent, and has been so longest of those below n.
  pub record IsLongest (n : ℕ) (found : Silent) : Type 0 where
    pub seat : X
    pub is : slice_get xs found.place ≡ Some seat
    pub silent : P seat
    pub since : found.moved ≡ moved seat
    pub below : (k : ℕ) → k < n → HoldsAt (λ other. P other → found.moved ≤ moved other) xs k

  -- what was found below n
  abbrev pub FoundBelow : ℕ → Option Silent → Type 0
  FoundBelow n found = MatchOption found ((k : ℕ) → k < n → HoldsAt (λ x. ¬ P x) xs k) (IsLongest n)

  -- one more that is not silent
  pub skipped : (n : ℕ) (x : X) (found : Option Silent) → n < length xs → x ≡ get_or xs n x → ¬ P x → FoundBelow n found → FoundBelow (n + 1) found
  skipped n x None within is loud below = below_more (HoldsAt (λ y. ¬ P y) xs) n below (at_read xs (λ y. ¬ P y) n x within is loud)
  skipped n x (Some f) within is loud longest =
      record {
        seat = longest.seat;
        is = longest.is;
        silent = longest.silent;
        since = longest.since;
        below = below_more (HoldsAt (λ y. P y → f.moved ≤ moved y) xs) n longest.below
            (at_read xs (λ y. P y → f.moved ≤ moved y) n x within is (λ p. absurd (loud p)));
      }

  -- one more, which has been silent longest
  this : (n : ℕ) (x : X) (longer : Silent) → n < length xs → x ≡ get_or xs n x → P x → longer ≡ record { place = n; moved = moved x } → longer.moved ≤ moved x
      → ((k : ℕ) → k < n → HoldsAt (λ y. P y → longer.moved ≤ moved y) xs k) → IsLongest (n + 1) longer
  this n x longer within is silent e least below =
      record {
        seat = x;
        is = subst (λ k. slice_get xs k ≡ Some x) (sym (ap (λ (s : Silent). s.place) e)) (slice_get_read xs (length xs) n x refl within is);
        silent = silent;
        since = ap (λ (s : Silent). s.moved) e;
        below = below_more (HoldsAt (λ y. P y → longer.moved ≤ moved y) xs) n below
            (at_read xs (λ y. P y → longer.moved ≤ moved y) n x within is (λ _. least));
      }

  -- Of one more that is silent and of what was found, the one that has been so longer.
  pub picked : (n : ℕ) (x : X) (found : Option Silent) (longer : Silent) → n < length xs → x ≡ get_or xs n x → P x
      → (longer ≡ record { place = n; moved = moved x }) ⊎ (found ≡ Some longer) → longer.moved ≤ moved x → IfSome found (λ other. longer.moved ≤ other.moved)
      → FoundBelow n found → IsLongest (n + 1) longer
  picked n x None longer within is silent (inl e) least sooner below = this n x longer within is silent e least (λ k h d p. absurd (below k h d p))
  picked n x None longer within is silent (inr e) least sooner below = cc
  picked n x (Some f) longer within is silent (inl e) least sooner longest =
      this n x longer within is silent e least (λ k h d p. let far = longest.below k h d p in omega (arith, far))
  picked n x (Some f) longer within is silent (inr e) least sooner longest =
      let same : f ≡ longer = cc in
      let old = subst (IsLongest n) same longest in
      record {
        seat = old.seat;
        is = old.is;
        silent = old.silent;
        since = old.since;
        below = below_more (HoldsAt (λ y. P y → longer.moved ≤ moved y) xs) n old.below
            (at_read xs (λ y. P y → longer.moved ≤ moved y) n x within is (λ _. least));
      }

-- At the end it is the one that has been silent longest.
pub most_silent : {S : Type 0} (stage : Stage) (silence now : ℕ) (seats : List (Seat S)) (n : ℕ) (found : Silent) → length seats ≤ n
    → IsLongest (λ seat. IsSilent stage silence now seat.connection) (λ seat. seat.connection.moved) seats n found
    → IsMostSilent stage silence now seats found.place
most_silent stage silence now seats n found end longest =
    record {
      seat = longest.seat;
      is = longest.is;
      silent = longest.silent;
      longest = λ k d within silent. let far = longest.below k (omega arith) d silent in omega (arith, far, longest.since);
    }
