-- Each login that was passed on has its request upwards.
use Rattle.std.proofs.Common.{◌≡◌, ◌⊎◌, ℕ, zero, suc, Bool, true, false, ◌&&◌, not, cond, List, [], ◌∷◌, ◌++◌, map, Contains, None, Some, Option, bytes_eq, inl, inr, refl, sym, ap, subst, arith}
use Rattle.std.proofs.lemmas.Bool.{and_parts, or_cases, false≢true}
use Rattle.std.proofs.lemmas.List.{append_assoc}
use Rattle.std.proofs.lemmas.List.Elements.{Contains-append_left, Contains-append_right}
use Rattle.std.proofs.lemmas.Slice.Eq.{bytes_eq-Decides}
use Rattle.request_rows.specs.Rows.{is_spent}
use Rattle.ledger_records.specs.declared.hub_record.Backed.{Backed}
use Rattle.ledger_records.specs.declared.hub_record.Routed.{Routed}
use Rattle.ledger_records.specs.declared.hub_record.HubRecord.{HubRecord}
use Rattle.ledger_records.specs.declared.hub_record.HubRecord.TheVariants as kinds
use Rattle.hub_ledger.specs.RowsOf.{asked_rows, below_rows, opened_rows}
use Rattle.hub_ledger.specs.Record.{AreRecordsAfter, goes_to, is_routed, same_option}
use Rattle.hub_ledger.specs.Backing.{Backing, EachLoginHasItsRequest, GoesBack, backings_among, routed_of}
use Rattle.hub_ledger.proofs.Words.{parts}

-- ---- an element of a list

here : {X : Type 0} (x : X) (xs : List X) → Contains (x ∷ xs) x
here x xs = (zero, omega arith, refl)

further : {X : Type 0} (y : X) (xs : List X) (x : X) → Contains xs x → Contains (y ∷ xs) x
further y xs x at = (suc at.0, omega (arith, at.1), at.2)

which : {X : Type 0} (y : X) (xs : List X) (x : X) → Contains (y ∷ xs) x → (y ≡ x) ⊎ Contains xs x
which y xs x (zero, less, is) = inl is
which y xs x (suc i, less, is) = inr (i, omega (arith, less), is)

mapped : {X Y : Type 0} (f : X → Y) (xs : List X) (x : X) → Contains xs x → Contains (map f xs) (f x)
mapped f [] x at = absurd (omega (arith, at.1))
mapped f (y ∷ xs) x at =
    elim (which y xs x at) [
      | inl is ↦ subst (λ z. Contains (map f (y ∷ xs)) (f z)) is (here (f y) (map f xs))
      | inr rest ↦ further (f y) (map f xs) (f x) (mapped f xs x rest)
    ]

-- ---- the request of a login among the rows

record IsRoutedBy (records : List HubRecord) (b : Backed) : Type 0 where
  routed : Routed
  there : Contains records (kinds.Routed routed)
  among : Contains (routed_of b.request records) routed
  goes : GoesBack (record { routed = routed; backed = b })

same_relay : (one other : Option (List ℕ)) → same_option one other ≡ true → other ≡ one
same_relay None None is = refl
same_relay None (Some other) is = absurd (false≢true is)
same_relay (Some one) None is = absurd (false≢true is)
same_relay (Some one) (Some other) is = ap Some (sym ((bytes_eq-Decides one other).0 is))

goes_back : (r : Routed) (b : Backed) → bytes_eq r.request b.request ≡ true
    → (bytes_eq r.peer b.peer && bytes_eq r.consumer b.consumer && bytes_eq r.below b.below && same_option r.below_relay b.below_relay) ≡ true
    → GoesBack (record { routed = r; backed = b })
goes_back r b named goes =
    let one = and_parts (bytes_eq r.peer b.peer && bytes_eq r.consumer b.consumer && bytes_eq r.below b.below) (same_option r.below_relay b.below_relay) goes in
    let two = and_parts (bytes_eq r.peer b.peer && bytes_eq r.consumer b.consumer) (bytes_eq r.below b.below) one.0 in
    let three = and_parts (bytes_eq r.peer b.peer) (bytes_eq r.consumer b.consumer) two.0 in
    record {
      request = sym ((bytes_eq-Decides r.request b.request).0 named);
      peer = sym ((bytes_eq-Decides r.peer b.peer).0 three.0);
      consumer = sym ((bytes_eq-Decides r.consumer b.consumer).0 three.1);
      below = sym ((bytes_eq-Decides r.below b.below).0 two.1);
      relay = same_relay r.below_relay b.below_relay one.1;
    }

-- one record more in front
more_of : (first : Routed) (request : List ℕ) (records : List HubRecord) (r : Routed) → Contains (routed_of request records) r
    → Contains (routed_of request (kinds.Routed first ∷ records)) r
more_of first request records r at = by_name (bytes_eq first.request request) refl
  where
    by_name : (t : Bool) → bytes_eq first.request request ≡ t → Contains (cond t (first ∷ routed_of request records) (routed_of request records)) r
    by_name true is = further first (routed_of request records) r at
    by_name false is = at

first_of : (r : Routed) (request : List ℕ) (records : List HubRecord) → bytes_eq r.request request ≡ true
    → Contains (routed_of request (kinds.Routed r ∷ records)) r
first_of r request records is =
    subst (λ t. Contains (cond t (r ∷ routed_of request records) (routed_of request records)) r) (sym is) (here r (routed_of request records))

routed_by : (records : List HubRecord) (b : Backed) → is_routed (asked_rows records) (below_rows records) b ≡ true → IsRoutedBy records b
routed_by [] b is = absurd (false≢true is)
routed_by (kinds.Routed r ∷ later) b is =
    elim (or_cases (bytes_eq r.request b.request && goes_to b (record { peer = r.peer; consumer = r.consumer; request = r.below; relay = r.below_relay }))
    (is_routed (asked_rows later) (below_rows later) b) is) [
      | inl it ↦
          let both = and_parts (bytes_eq r.request b.request) (goes_to b (record { peer = r.peer; consumer = r.consumer; request = r.below; relay = r.below_relay })) it in
          record { routed = r; there = here (kinds.Routed r) later; among = first_of r b.request later both.0; goes = goes_back r b both.0 both.1 }
      | inr rest ↦
          let found = routed_by later b rest in
          record {
            routed = found.routed;
            there = further (kinds.Routed r) later (kinds.Routed found.routed) found.there;
            among = more_of r b.request later found.routed found.among;
            goes = found.goes;
          }
    ]
routed_by (kinds.Backed r ∷ later) b is =
    let found = routed_by later b is in
    record { routed = found.routed; there = further (kinds.Backed r) later (kinds.Routed found.routed) found.there; among = found.among; goes = found.goes }
routed_by (kinds.Spoke r ∷ later) b is =
    let found = routed_by later b is in
    record { routed = found.routed; there = further (kinds.Spoke r) later (kinds.Routed found.routed) found.there; among = found.among; goes = found.goes }

-- ---- behind others

routed_append : (request : List ℕ) (records more : List HubRecord) (r : Routed) → Contains (routed_of request records) r → Contains (routed_of request (records ++ more)) r
routed_append request [] more r at = absurd (omega (arith, at.1))
routed_append request (kinds.Routed first ∷ later) more r at = by_name (bytes_eq first.request request) refl at (routed_append request later more r)
  where
    by_name : (t : Bool) → bytes_eq first.request request ≡ t → Contains (cond t (first ∷ routed_of request later) (routed_of request later)) r
        → (Contains (routed_of request later) r → Contains (routed_of request (later ++ more)) r)
        → Contains (routed_of request (kinds.Routed first ∷ later ++ more)) r
    by_name true is found append =
        elim (which first (routed_of request later) r found) [
          | inl same ↦ subst (λ z. Contains (routed_of request (kinds.Routed first ∷ later ++ more)) z) same (first_of first request (later ++ more) is)
          | inr rest ↦ more_of first request (later ++ more) r (append rest)
        ]
    by_name false is found append = more_of first request (later ++ more) r (append found)
routed_append request (other ∷ later) more r at = routed_append request later more r at

-- the pair of a login with a request of it
abbrev pair_of : Backed → Routed → Backing
pair_of b r = record { routed = r; backed = b }

paired : (all records : List HubRecord) (b : Backed) (r : Routed) → Contains records (kinds.Backed b) → Contains (routed_of b.request all) r
    → Contains (backings_among all records) (record { routed = r; backed = b })
paired all [] b r at among = absurd (omega (arith, at.1))
paired all (kinds.Routed first ∷ later) b r at among =
    elim (which (kinds.Routed first) later (kinds.Backed b) at) [ inl same ↦ absurd (cc) | inr rest ↦ paired all later b r rest among ]
paired all (kinds.Backed first ∷ later) b r at among =
    elim (which (kinds.Backed first) later (kinds.Backed b) at) [
      | inl same ↦
          let is : first ≡ b = cc in
          Contains-append_left (map (pair_of first) (routed_of first.request all)) (backings_among all later) (pair_of b r)
          (subst (λ (x : Backed). Contains (map (pair_of x) (routed_of x.request all)) (pair_of b r)) (sym is)
          (mapped (pair_of b) (routed_of b.request all) r among))
      | inr rest ↦
          Contains-append_right (map (pair_of first) (routed_of first.request all)) (backings_among all later) (pair_of b r)
          (paired all later b r rest among)
    ]
paired all (kinds.Spoke first ∷ later) b r at among =
    elim (which (kinds.Spoke first) later (kinds.Backed b) at) [ inl same ↦ absurd (cc) | inr rest ↦ paired all later b r rest among ]

-- the request of each login behind some records, among all of them
behind : (before later : List HubRecord) (b : Backed) → AreRecordsAfter before later → Contains later (kinds.Backed b) → IsRoutedBy (before ++ later) b
behind before [] b are at = absurd (omega (arith, at.1))
behind before (r ∷ later) b are at =
    elim (which r later (kinds.Backed b) at) [
      | inl same ↦
          let free = (parts before (kinds.Backed b) (subst (λ (x : HubRecord). Rattle.hub_ledger.specs.Record.is_record before x ≡ true) same are.0)).free in
          let both = and_parts (is_routed (asked_rows before) (below_rows before) b) (not (is_spent (opened_rows before) b.request)) free in
          let found = routed_by before b both.0 in
          record {
            routed = found.routed;
            there = Contains-append_left before (r ∷ later) (kinds.Routed found.routed) found.there;
            among = routed_append b.request before (r ∷ later) found.routed found.among;
            goes = found.goes;
          }
      | inr rest ↦
          subst (λ (xs : List HubRecord). IsRoutedBy xs b) (append_assoc before (r ∷ []) later) (behind (before ++ r ∷ []) later b are.1 rest)
    ]

pub has_request : EachLoginHasItsRequest
has_request records b are at =
    let found = behind [] records b are at in
    record { routed = found.routed; there = found.there; pair = paired records records b found.routed at found.among; goes = found.goes }
