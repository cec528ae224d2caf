-- That a login goes back to the request below for which one was sent upwards.
use Rattle.std.specs.Prelude.{Contains, Option, None, Some}
use Rattle.std.specs.List.{find}
use Rattle.std.proofs.Common.{◌≡◌, ℕ, zero, suc, Bool, true, false, ◌&&◌, cond, List, [], ◌∷◌, bytes_eq, refl, sym, subst, ap, ◌∙◌, arith}
use Rattle.std.proofs.lemmas.Bool.{and_parts}
use Rattle.std.proofs.lemmas.Slice.Eq.{bytes_eq-Decides}
use Rattle.ledger_records.specs.declared.hub_record.Backed.{Backed}
use Rattle.ledger_records.specs.declared.hub_record.Routed.{Routed}
use Rattle.ledger_records.specs.declared.hub_record.HubRecord.{HubRecord}
use Rattle.ledger_records.specs.declared.hub_record.HubRecord.TheVariants as kinds
use Rattle.request_rows.specs.Rows.{is_spent, visible}
use Rattle.hub_ledger.specs.Backing.{EachLoginHasItsRequest}
use Rattle.hub_ledger.specs.Finding.{routed_row}
use Rattle.hub_ledger.specs.Laws.{ImagesHoldRecords}
use Rattle.hub_ledger.specs.Ledger.{Held}
use Rattle.hub_ledger.specs.RowsOf.{Route, asked_row, asked_rows, below_row, below_rows, opened_rows, routes, rows_of}
use Rattle.identity_hub.specs.Passing.{OnlyWhereALoginIsBrought}
use Rattle.hub_runs.specs.Laws.{EachLoginGoesBack, EachLoginInAnImageHasItsRequest, GoesBackFrom}

abbrev route_of : Routed → Route
route_of r = record { asked = asked_row r; below = below_row r }

-- a route that is found is that of a request upwards, and passes the test
record IsRouteOf (test : Route → Bool) (records : List HubRecord) (row : Route) : Type 0 where
  routed : Routed
  there : Contains records (kinds.Routed routed)
  is : route_of routed ≡ row
  passes : test row ≡ true

further : (test : Route → Bool) (r : HubRecord) (records : List HubRecord) (row : Route) → IsRouteOf test records row
    → IsRouteOf test (r ∷ records) row
further test r records row of = record {
  routed = of.routed;
  there = (suc of.there.0, omega (arith, of.there.1), of.there.2);
  is = of.is;
  passes = of.passes;
}

found_row : (test : Route → Bool) (records : List HubRecord) (row : Route)
    → find test (routes (asked_rows records) (below_rows records)) ≡ Some row → IsRouteOf test records row
found_row test [] row found = absurd (cc)
found_row test (kinds.Backed r ∷ later) row found =
    further test (kinds.Backed r) later row (found_row test later row found)
found_row test (kinds.Spoke r ∷ later) row found =
    further test (kinds.Spoke r) later row (found_row test later row found)
found_row test (kinds.Routed r ∷ later) row found =
    which (test (route_of r)) (find test (routes (asked_rows later) (below_rows later))) refl found
    (λ rest. found_row test later row rest)
  where
    which : (b : Bool) (others : Option Route) → test (route_of r) ≡ b → cond b (Some (route_of r)) others ≡ Some row
        → (others ≡ Some row → IsRouteOf test later row) → IsRouteOf test (kinds.Routed r ∷ later) row
    which true others is one rest =
        let same : route_of r ≡ row = cc in
        record { routed = r; there = (zero, omega arith, refl); is = same; passes = ap test (sym same) ∙ is }
    which false others is one rest = further test (kinds.Routed r) later row (rest one)

abbrev is_found_by : (id : List ℕ) (now horizon : ℕ) → Route → Bool
is_found_by id now horizon = λ route. bytes_eq route.asked.request id && visible route.asked.until now horizon

-- the route that is found by the ID of a request upwards
of_request : (held : Held) (id : List ℕ) (now : ℕ) (row : Route)
    → routed_row (rows_of held.records) id now held.header.horizon ≡ Some row
    → IsRouteOf (is_found_by id now held.header.horizon) held.records row
of_request held id now row found =
    found_row (is_found_by id now held.header.horizon) held.records row
    (unspent (is_spent (opened_rows held.records) id)
    (find (is_found_by id now held.header.horizon) (routes (asked_rows held.records) (below_rows held.records))) found)
  where
    unspent : (b : Bool) (rest : Option Route) → cond b None rest ≡ Some row → rest ≡ Some row
    unspent true rest some = absurd (cc)
    unspent false rest some = some

-- and a login for it goes back to the request below
goes_back : (held : Held) (now : ℕ) (id : List ℕ) (row : Route) (backed : Backed)
    → backed.request ≡ id → backed.peer ≡ row.below.peer → backed.consumer ≡ row.below.consumer
    → backed.below ≡ row.below.request → backed.below_relay ≡ row.below.relay
    → routed_row (rows_of held.records) id now held.header.horizon ≡ Some row → GoesBackFrom held backed
goes_back held now id row backed request peer consumer below relay found =
    let of = of_request held id now row found in
    let named = and_parts (bytes_eq row.asked.request id) (visible row.asked.until now held.header.horizon) of.passes in
    record {
      routed = of.routed;
      there = of.there;
      goes =
          record {
            request =
                request ∙ sym ((bytes_eq-Decides row.asked.request id).0 named.0)
                ∙ ap (λ (r : Route). r.asked.request) (sym of.is);
            peer = peer ∙ ap (λ (r : Route). r.below.peer) (sym of.is);
            consumer = consumer ∙ ap (λ (r : Route). r.below.consumer) (sym of.is);
            below = below ∙ ap (λ (r : Route). r.below.request) (sym of.is);
            relay = relay ∙ ap (λ (r : Route). r.below.relay) (sym of.is);
          };
    }

pub each_goes_back : OnlyWhereALoginIsBrought → EachLoginGoesBack
each_goes_back only setup held request now answer r answers =
    let passes = only setup held request now answer r answers in
    let own : passes.backed ≡ r = (let e = passes.kind in cc) in
    let says = passes.says in
    subst (GoesBackFrom held) own
    (goes_back held now passes.brought.login.request passes.row passes.backed says.request says.peer says.consumer
    says.below says.relay passes.can.is_for.found)

pub in_each_image : ImagesHoldRecords → EachLoginHasItsRequest → EachLoginInAnImageHasItsRequest
in_each_image hold has image held r is there = has held.records r (hold image held is) there
