-- Words for the laws, and facts of texts, tests and records one by one.
use Rattle.std.proofs.Common.{◌≡◌, max, Bool, true, false, ◌&&◌, nat_le, List, [], ◌∷◌, ◌++◌, refl}
use Rattle.std.specs.List.{list_all}
use Rattle.std.proofs.lemmas.Bool.{false≢true}
use Rattle.ledger_records.specs.declared.idp_record.IdpRecord.{IdpRecord}
use Rattle.ledger_rules.specs.Numbers.{above, are_fresh, is_xml_text}
use Rattle.record_ledger.specs.Marks as any
use Rattle.record_ledger.proofs.Numbers as numbers
use Rattle.idp_rows.specs.RowsOf.{rows_of}
use Rattle.idp_ledger.specs.Record.{next_of, is_record, idp_rules}
use Rattle.idp_rows.specs.Record.{LAST, is_free, drawn, texts, moments}

-- what holds of each
abbrev pub Each : {X : Type 0} → (X → Type 0) → List X → Type 0
Each = any.Each

-- The four parts of what makes a record one of the ledger.
pub record NextParts (before : List IdpRecord) (r : IdpRecord) : Type 0 where
  pub free : is_free (rows_of before) r ≡ true
  pub fresh : are_fresh (next_of before) (drawn r) ≡ true
  pub texts : list_all is_xml_text (texts r) ≡ true
  pub dated : list_all (λ moment. nat_le moment LAST) (moments r) ≡ true

and_four : (a b c d : Bool) → (a && b && c && d) ≡ true → (a ≡ true) × (b ≡ true) × (c ≡ true) × (d ≡ true)
and_four true true true true is = (refl, refl, refl, refl)
and_four true true true false is = absurd (false≢true is)
and_four true true false d is = absurd (false≢true is)
and_four true false c d is = absurd (false≢true is)
and_four false b c d is = absurd (false≢true is)

four_and : (a b c d : Bool) → a ≡ true → b ≡ true → c ≡ true → d ≡ true → (a && b && c && d) ≡ true
four_and a b c d p q r s = rw (p, q, r, s) refl

pub parts : (before : List IdpRecord) (r : IdpRecord) → is_record before r ≡ true → NextParts before r
unfolding is_record
parts before r is =
    let four = and_four (is_free (rows_of before) r) (are_fresh (next_of before) (drawn r)) (list_all is_xml_text (texts r)) (list_all (λ moment. nat_le moment LAST) (moments r)) is in
    record { free = four.0; fresh = four.1; texts = four.2; dated = four.3 }

pub from_parts : (before : List IdpRecord) (r : IdpRecord) → NextParts before r → is_record before r ≡ true
unfolding is_record
from_parts before r p =
    four_and (is_free (rows_of before) r) (are_fresh (next_of before) (drawn r)) (list_all is_xml_text (texts r)) (list_all (λ moment. nat_le moment LAST) (moments r))
    p.free p.fresh p.texts p.dated

-- the number above all that are drawn
pub next_cons : (r : IdpRecord) (later : List IdpRecord) → next_of (r ∷ later) ≡ max (above (drawn r)) (next_of later)
next_cons = numbers.next_cons idp_rules

pub next_push : (before : List IdpRecord) (r : IdpRecord) → next_of (before ++ r ∷ []) ≡ max (next_of before) (above (drawn r))
next_push = numbers.next_push idp_rules
