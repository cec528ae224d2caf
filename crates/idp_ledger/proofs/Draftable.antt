-- Records that may be drafted.
use Rattle.std.specs.Prelude.{IsTrue, ◌↔◌}
use Rattle.std.proofs.Common.{◌≡◌, ℕ, ◌+◌, ◌≤◌, true, ◌&&◌, nat_le, nat_lt, List, [], ◌∷◌, refl, ◌∙◌, arith}
use Rattle.std.specs.List.{list_all, All}
use Rattle.std.proofs.lemmas.Bool.{le-leb, lt-ltb, ltb-true}
use Rattle.std.proofs.lemmas.List.Elements.{All-nil, All-cons, All-head, All-tail}
use Rattle.xml_spec.specs.Characters.{IsText}
use Rattle.ledger_records.specs.declared.idp_record.Issued.{Issued}
use Rattle.ledger_records.specs.declared.idp_record.IdpRecord.{IdpRecord}
use Rattle.ledger_rules.specs.Numbers.{Drawn, are_fresh, is_xml_text}
use Rattle.record_ledger.proofs.Draftable as any
use Rattle.record_ledger.proofs.Draftable.{both, BelowEnd, HasItsNumber, fresh_drawn}
use Rattle.idp_rows.specs.RowsOf.{rows_of}
use Rattle.idp_ledger.specs.Record.{next_of, idp_rules}
use Rattle.idp_rows.specs.Record.{drawn, texts, moments, LAST, is_free}
use Rattle.idp_ledger.specs.Ledger.{Held, next_number}
use Rattle.idp_ledger.specs.Drafts.{IsDraftable}
use Rattle.idp_ledger.proofs.RowLaws.{is_record-is}

-- the numbers of an Issued are below the end where the last of them is
abbrev pub one_of : Issued → Drawn
one_of r = record { number = r.first; id = r.assertion }

abbrev pub two_of : Issued → Drawn
two_of r = record { number = r.first + 1; id = r.message }

abbrev pub three_of : Issued → Drawn
three_of r = record { number = r.first + 2; id = r.cookie }

abbrev pub four_of : Issued → Drawn
four_of r = record { number = r.first + 3; id = r.index }

pub both_below : (first : ℕ) (one other : List ℕ)
    → IsTrue (nat_lt first 9223372036854775807) ↔ All BelowEnd (record { number = first; id = one } ∷ record { number = first + 1; id = other } ∷ [])
both_below first one other =
    let a : Drawn = record { number = first; id = one } in
    let b : Drawn = record { number = first + 1; id = other } in (
      λ less.
          let is = ltb-true first 9223372036854775807 less in
          All-cons BelowEnd a (b ∷ []) (omega (arith, is)) (All-cons BelowEnd b [] (omega (arith, is)) (All-nil BelowEnd)),
      λ all.
          let is = All-head BelowEnd b [] (All-tail BelowEnd a (b ∷ []) all) in
          lt-ltb first 9223372036854775807 (omega (arith, is)),
    )

pub two_below : (r : Issued) → IsTrue (nat_lt r.first 9223372036854775807) ↔ All BelowEnd (one_of r ∷ two_of r ∷ [])
two_below r = both_below r.first r.assertion r.message

pub four_below : (r : Issued) → IsTrue (nat_lt r.first 9223372036854775805) ↔ All BelowEnd (one_of r ∷ two_of r ∷ three_of r ∷ four_of r ∷ [])
four_below r = (
  λ less.
      let is = ltb-true r.first 9223372036854775805 less in
      All-cons BelowEnd (one_of r) (two_of r ∷ three_of r ∷ four_of r ∷ []) (omega (arith, is))
      (All-cons BelowEnd (two_of r) (three_of r ∷ four_of r ∷ []) (omega (arith, is))
      (All-cons BelowEnd (three_of r) (four_of r ∷ []) (omega (arith, is)) (All-cons BelowEnd (four_of r) [] (omega (arith, is)) (All-nil BelowEnd)))),
  λ all.
      let is = All-head BelowEnd (four_of r) [] (All-tail BelowEnd (three_of r) (four_of r ∷ []) (All-tail BelowEnd (two_of r) (three_of r ∷ four_of r ∷ [])
      (All-tail BelowEnd (one_of r) (two_of r ∷ three_of r ∷ four_of r ∷ []) all))) in
      lt-ltb r.first 9223372036854775805 (omega (arith, is)),
)

-- a document may hold a text that was read from one
pub text_is_allowed : (s : List ℕ) → IsText s → is_xml_text s ≡ true
text_is_allowed = any.text_is_allowed

pub draftable : (held : Held) (r : IdpRecord) → is_free (rows_of held.records) r ≡ true → All (λ (d : Drawn). next_number held ≤ d.number) (drawn r) → All HasItsNumber (drawn r)
    → (All BelowEnd (drawn r) → list_all is_xml_text (texts r) ≡ true) → list_all (λ moment. nat_le moment LAST) (moments r) ≡ true → IsDraftable held r
draftable held r free numbers have allowed dated = record {
  numbers = numbers;
  is = λ below.
      let fresh = fresh_drawn idp_rules held r numbers below have in
      is_record-is held.records r
      ∙ both (is_free (rows_of held.records) r && are_fresh (next_of held.records) (drawn r) && list_all is_xml_text (texts r)) (list_all (λ moment. nat_le moment LAST) (moments r))
      (both (is_free (rows_of held.records) r && are_fresh (next_of held.records) (drawn r)) (list_all is_xml_text (texts r)) (both (is_free (rows_of held.records) r) (are_fresh (next_of held.records) (drawn r)) free fresh) (allowed below))
      dated;
}

-- a record whose only moment is that at which it is made
pub one_moment : (now : ℕ) → now ≤ LAST → (nat_le now LAST && true) ≡ true
one_moment now le = both (nat_le now LAST) true (le-leb now LAST le) refl

pub two_moments : (now end : ℕ) → now ≤ LAST → end ≤ LAST → (nat_le now LAST && (nat_le end LAST && true)) ≡ true
two_moments now end le less = both (nat_le now LAST) (nat_le end LAST && true) (le-leb now LAST le) (one_moment end less)
