-- Records that may be drafted: IDs, and their numbers.
use Rattle.std.specs.Prelude.{IsTrue, ◌↔◌}
use Rattle.std.proofs.Common.{◌≡◌, ℕ, ◌<◌, ◌≤◌, Bool, true, false, ◌&&◌, nat_le, nat_lt, List, [], ◌∷◌, ◌++◌, length, take, refl, ap, arith}
use Rattle.std.specs.List.{All}
use Rattle.std.specs.Int.{w64, to_be_bytes}
use Rattle.std.proofs.lemmas.Bool.{le-leb, lt-ltb, ltb-true}
use Rattle.std.proofs.lemmas.List.{take_at}
use Rattle.std.proofs.lemmas.List.Elements.{All-nil, All-cons, All-head, All-tail}
use Rattle.std.proofs.lemmas.Slice.Eq.{bytes_eq-Decides}
use Rattle.hex.specs.Hex.{encode_lower, lower_digits}
use Rattle.hex.proofs.HexLemmas.{length-encode_with}
use Rattle.ledger_rules.proofs.Texts.{tested}
use Rattle.xml_spec.specs.Characters.{IsText}
use Rattle.saml_ids.specs.declared.Kind.{Kind}
use Rattle.saml_ids.specs.IdText.{id_text, random_bytes}
use Rattle.saml_ids.proofs.IdForm.{every_id_is_a_name}
use Rattle.ledger_rules.specs.Numbers.{Drawn, NUMBER_END, number_text, has_number, are_fresh, is_xml_text}
use Rattle.record_ledger.specs.Rules.{RecordRules, next_of}
use Rattle.record_ledger.specs.Ledger.{Held, next_number}

-- ---- tests

pub both : (a b : Bool) → a ≡ true → b ≡ true → (a && b) ≡ true
both true b p q = q
both false b p q = p

-- ---- numbers that are below the end

abbrev pub BelowEnd : Drawn → Type 0
BelowEnd d = d.number < NUMBER_END

pub one_below : (d : Drawn) → IsTrue (nat_lt d.number 9223372036854775808) ↔ All BelowEnd (d ∷ [])
one_below d = (
  λ less. All-cons BelowEnd d [] (ltb-true d.number 9223372036854775808 less) (All-nil BelowEnd),
  λ all. lt-ltb d.number 9223372036854775808 (All-head BelowEnd d [] all),
)

-- ---- IDs

pub id_has_number : (key : List ℕ) (kind : Kind) (n : ℕ) → has_number n (id_text key kind n) ≡ true
unfolding has_number id_text
id_has_number key kind n =
    let digits = encode_lower (to_be_bytes w64 n) in
    let size : length digits ≡ 16 = length-encode_with lower_digits (to_be_bytes w64 n) in
    let front : take 17 (95 ∷ (digits ++ encode_lower (random_bytes key kind n))) ≡ 95 ∷ digits =
    ap (λ ds. 95 ∷ ds) (take_at digits (encode_lower (random_bytes key kind n)) 16 size) in
    (bytes_eq-Decides (take 17 (95 ∷ (digits ++ encode_lower (random_bytes key kind n)))) (number_text n)).1 front

pub text_is_allowed : (s : List ℕ) → IsText s → is_xml_text s ≡ true
text_is_allowed s text = (tested s).1 text

pub id_is_allowed : (key : List ℕ) (kind : Kind) (n : ℕ) → is_xml_text (id_text key kind n) ≡ true
id_is_allowed key kind n = text_is_allowed (id_text key kind n) (every_id_is_a_name key kind n).text

pub id_long : (key : List ℕ) (kind : Kind) (n : ℕ) → length (id_text key kind n) ≡ 57
id_long key kind n = sizes (id_text key kind n) (every_id_is_a_name key kind n).form
  where
    sizes : (id : List ℕ) → Rattle.saml_ids.specs.Names.IsIdForm id → length id ≡ 57
    sizes [] form = absurd form
    sizes (c ∷ digits) form = omega (arith, form.1)

-- ---- numbers that were not drawn before

pub fresh_test : (least n : ℕ) (id : List ℕ) → least ≤ n → n < NUMBER_END → has_number n id ≡ true → (nat_le least n && nat_lt n NUMBER_END && has_number n id) ≡ true
fresh_test least n id le lt has = both (nat_le least n && nat_lt n NUMBER_END) (has_number n id) (both (nat_le least n) (nat_lt n NUMBER_END) (le-leb least n le) (lt-ltb n NUMBER_END lt)) has

-- where each ID begins with its number
abbrev pub HasItsNumber : Drawn → Type 0
HasItsNumber d = d.number < NUMBER_END → has_number d.number d.id ≡ true

all_fresh : (least : ℕ) (ds : List Drawn) → All (λ (d : Drawn). least ≤ d.number) ds → All BelowEnd ds → All HasItsNumber ds → are_fresh least ds ≡ true
all_fresh least [] numbers below have = refl
all_fresh least (d ∷ ds) numbers below have =
    let lt = All-head BelowEnd d ds below in
    both (nat_le least d.number && nat_lt d.number NUMBER_END && has_number d.number d.id) (are_fresh least ds)
    (fresh_test least d.number d.id (All-head (λ (d : Drawn). least ≤ d.number) d ds numbers) lt (All-head HasItsNumber d ds have lt))
    (all_fresh least ds (All-tail (λ (d : Drawn). least ≤ d.number) d ds numbers) (All-tail BelowEnd d ds below) (All-tail HasItsNumber d ds have))

smaller : (least more : ℕ) (ds : List Drawn) → least ≤ more → All (λ (d : Drawn). more ≤ d.number) ds → All (λ (d : Drawn). least ≤ d.number) ds
smaller least more [] le all = All-nil (λ (d : Drawn). least ≤ d.number)
smaller least more (d ∷ ds) le all =
    let head = All-head (λ (d : Drawn). more ≤ d.number) d ds all in
    All-cons (λ (d : Drawn). least ≤ d.number) d ds (omega (arith, head, le)) (smaller least more ds le (All-tail (λ (d : Drawn). more ≤ d.number) d ds all))

pub one_id : (d : Drawn) → has_number d.number d.id ≡ true → All HasItsNumber (d ∷ [])
one_id d has = All-cons HasItsNumber d [] (λ _. has) (All-nil HasItsNumber)

module _ {R : Type 0} (rules : RecordRules R) where
  pub fresh_drawn : (held : Held R) (r : R) → All (λ (d : Drawn). next_number rules held ≤ d.number) (rules.drawn r) → All BelowEnd (rules.drawn r) → All HasItsNumber (rules.drawn r)
      → are_fresh (next_of rules held.records) (rules.drawn r) ≡ true
  fresh_drawn held r numbers below have =
      all_fresh (next_of rules held.records) (rules.drawn r) (smaller (next_of rules held.records) (next_number rules held) (rules.drawn r) (omega arith) numbers) below have

  -- the only ID that a record draws
  pub one_number : (held : Held R) (d : Drawn) → next_number rules held ≤ d.number → All (λ (d : Drawn). next_number rules held ≤ d.number) (d ∷ [])
  one_number held d le = All-cons (λ (d : Drawn). next_number rules held ≤ d.number) d [] le (All-nil (λ (d : Drawn). next_number rules held ≤ d.number))
