-- Words for the laws, and facts of records one by one.
use Rattle.std.proofs.Common.{◌≡◌, ℕ, Bool, true, false, ◌&&◌, ◌||◌, nat_le, List, [], ◌∷◌, bytes_eq, refl, sym, ap, ◌∙◌}
use Rattle.std.specs.List.{list_any, list_all}
use Rattle.std.proofs.lemmas.Bool.{and_parts, and_from}
use Rattle.ledger_records.specs.declared.hub_record.Backed.{Backed}
use Rattle.ledger_records.specs.declared.hub_record.HubRecord.{HubRecord}
use Rattle.ledger_records.specs.declared.hub_record.HubRecord.TheVariants as kinds
use Rattle.ledger_rules.specs.Numbers.{are_fresh, is_xml_text}
use Rattle.request_rows.specs.Rows.{is_spent}
use Rattle.hub_ledger.specs.RowsOf.{HubRows, rows_of, asked_rows, below_rows, below_row, opened_rows}
use Rattle.hub_ledger.specs.Record.{is_free, is_routed, goes_to, drawn, texts, moments, LAST, next_of, is_next, is_record}

-- whether a record passes on a login for this request
abbrev pub backs : List ℕ → HubRecord → Bool
backs request (kinds.Backed r) = bytes_eq r.request request
backs request other = false

-- whether a record is that of the request that a login answers, and of the one below to which it goes
abbrev pub routes : Backed → HubRecord → Bool
routes b (kinds.Routed r) = bytes_eq r.request b.request && goes_to b (below_row r)
routes b other = false

-- the rows of requests and of logins, by their records
pub spent_any : (records : List HubRecord) (request : List ℕ) → is_spent (opened_rows records) request ≡ list_any (backs request) records
spent_any [] request = refl
spent_any (kinds.Backed r ∷ later) request = ap (λ b. bytes_eq r.request request || b) (spent_any later request)
spent_any (other ∷ later) request = spent_any later request

pub routed_any : (records : List HubRecord) (b : Backed) → is_routed (asked_rows records) (below_rows records) b ≡ list_any (routes b) records
routed_any [] b = refl
routed_any (kinds.Routed r ∷ later) b =
    ap (λ rest. (bytes_eq r.request b.request && goes_to b (below_row r)) || rest) (routed_any later b)
routed_any (other ∷ later) b = routed_any later b

-- The four parts of what makes a record one of the ledger.
pub record NextParts (rows : HubRows) (next : ℕ) (r : HubRecord) : Type 0 where
  pub free : is_free rows r ≡ true
  pub fresh : are_fresh next (drawn r) ≡ true
  pub texts : list_all is_xml_text (texts r) ≡ true
  pub dated : list_all (λ moment. nat_le moment LAST) (moments r) ≡ true

pub next_parts : (rows : HubRows) (next : ℕ) (r : HubRecord) → is_next rows next r ≡ true → NextParts rows next r
next_parts rows next r is =
    let dated = and_parts (is_free rows r && are_fresh next (drawn r) && list_all is_xml_text (texts r)) (list_all (λ moment. nat_le moment LAST) (moments r)) is in
    let spelled = and_parts (is_free rows r && are_fresh next (drawn r)) (list_all is_xml_text (texts r)) dated.0 in
    let both = and_parts (is_free rows r) (are_fresh next (drawn r)) spelled.0 in
    record { free = both.0; fresh = both.1; texts = spelled.1; dated = dated.1 }

pub next_from : (rows : HubRows) (next : ℕ) (r : HubRecord) → NextParts rows next r → is_next rows next r ≡ true
next_from rows next r p =
    and_from (is_free rows r && are_fresh next (drawn r) && list_all is_xml_text (texts r)) (list_all (λ moment. nat_le moment LAST) (moments r))
    (and_from (is_free rows r && are_fresh next (drawn r)) (list_all is_xml_text (texts r))
    (and_from (is_free rows r) (are_fresh next (drawn r)) p.free p.fresh) p.texts) p.dated

pub is_record-is : (before : List HubRecord) (r : HubRecord) → is_record before r ≡ is_next (rows_of before) (next_of before) r
unfolding is_record
is_record-is before r = refl

pub parts : (before : List HubRecord) (r : HubRecord) → is_record before r ≡ true → NextParts (rows_of before) (next_of before) r
parts before r is = next_parts (rows_of before) (next_of before) r (sym (is_record-is before r) ∙ is)

pub from_parts : (before : List HubRecord) (r : HubRecord) → NextParts (rows_of before) (next_of before) r → is_record before r ≡ true
from_parts before r p = is_record-is before r ∙ next_from (rows_of before) (next_of before) r p
