-- The record that a login names, which no other names.
use Rattle.std.proofs.Common.{◌≡◌, ℕ, true, false, not, List, [], ◌∷◌, slice_get, Some, bytes_eq, refl, sym, ◌∙◌, subst}
use Rattle.std.proofs.lemmas.Bool.{false≢true, and_parts, not-true}
use Rattle.ledger_records.specs.declared.hub_record.Backed.{Backed}
use Rattle.ledger_records.specs.declared.hub_record.HubRecord.{HubRecord}
use Rattle.ledger_records.specs.declared.hub_record.HubRecord.TheVariants as kinds
use Rattle.ledger_rules.specs.Numbers.{Drawn}
use Rattle.request_rows.specs.Rows.{is_spent}
use Rattle.record_ledger.specs.Linking.{has_id, is_among, FreeRow, LinkLaws}
use Rattle.record_ledger.proofs.Words.{other_way, same_text}
use Rattle.record_ledger.proofs.LinkRows.{alone, other_not, among_one, none_at}
use Rattle.request_ledger.proofs.LinkFree.{some_at}
use Rattle.hub_ledger.specs.RowsOf.{asked_rows, below_rows, opened_rows}
use Rattle.hub_ledger.specs.Record.{drawn, goes_to, is_record, is_routed, hub_rules}
use Rattle.hub_ledger.specs.Naming.{names, names_routed}
use Rattle.hub_ledger.specs.Linking.{named, row_found, hub_links}
use Rattle.hub_ledger.specs.RowsOf.{below_row}
use Rattle.hub_ledger.proofs.Words.{backs, routes, routed_any, spent_any, parts}

-- a record that is named has one of the IDs
names_routed_has : (request : List ℕ) (x : HubRecord) → names_routed request x ≡ true → has_id hub_rules hub_links (request ∷ []) x ≡ true
names_routed_has request (kinds.Routed a) is = alone (bytes_eq request a.request) (other_way a.request request is)
names_routed_has request other is = absurd (false≢true is)

names_has : (r x : HubRecord) → names r x ≡ true → has_id hub_rules hub_links (named r) x ≡ true
names_has (kinds.Backed r) x is = names_routed_has r.request x is
names_has other x is = absurd (false≢true is)

-- a record to which a login goes is named
pub routes_names : (b : Backed) (x : HubRecord) → routes b x ≡ true → names_routed b.request x ≡ true
routes_names b (kinds.Routed r) is = (and_parts (bytes_eq r.request b.request) (goes_to b (below_row r)) is).0
routes_names b other is = absurd (false≢true is)

-- a record does not name what it does not answer
unanswered : (request : List ℕ) (x y : HubRecord) → names_routed request x ≡ true → backs request y ≡ false → names y x ≡ false
unanswered request (kinds.Routed a) (kinds.Routed r) asks none = refl
unanswered request (kinds.Routed a) (kinds.Backed r) asks none =
    let same = same_text a.request request asks in
    subst (λ t. bytes_eq t r.request ≡ false) (sym same) (other_not r.request request none)
unanswered request (kinds.Routed a) (kinds.Spoke r) asks none = refl
unanswered request (kinds.Backed a) y asks none = absurd (false≢true asks)
unanswered request (kinds.Spoke a) y asks none = absurd (false≢true asks)

free_row : (before : List HubRecord) (r : HubRecord) (id : List ℕ) → is_record before r ≡ true → is_among id (named r) ≡ true
    → FreeRow hub_rules hub_links before r id
free_row before (kinds.Backed r) id is among =
    let same : id ≡ r.request = among_one r.request id among in
    let both = and_parts (is_routed (asked_rows before) (below_rows before) r) (not (is_spent (opened_rows before) r.request)) (parts before (kinds.Backed r) is).free in
    let none = sym (spent_any before r.request) ∙ not-true (is_spent (opened_rows before) r.request) both.1 in
    let at = some_at (routes r) before (sym (routed_any before r) ∙ both.0) in
    let is_named = routes_names r at.1.0 at.1.2 in
    record {
      place = at.0;
      row = at.1.0;
      there = at.1.1;
      has = subst (λ t. has_id hub_rules hub_links (t ∷ []) at.1.0 ≡ true) (sym same) (names_has (kinds.Backed r) at.1.0 is_named);
      named_is = is_named;
      free = λ l y less there. unanswered r.request at.1.0 y is_named (none_at (backs r.request) before none l y there);
    }
free_row before other id is among = absurd (false≢true among)

found_drawn : (r : HubRecord) (d : Drawn) → row_found r ≡ Some d → (k : ℕ) × (slice_get (drawn r) k ≡ Some d)
found_drawn (kinds.Routed r) d is = (0, is)
found_drawn (kinds.Backed r) d is = absurd (cc)
found_drawn (kinds.Spoke r) d is = absurd (cc)

pub link_laws : LinkLaws hub_rules hub_links
link_laws = record {
  drawn = found_drawn;
  named = names_has;
  free = λ before r id are. free_row before r id;
  within = λ before r id is some. absurd (cc);
  within_names = λ r x id some is. absurd (cc);
  within_none = λ r id some. absurd (cc);
}
