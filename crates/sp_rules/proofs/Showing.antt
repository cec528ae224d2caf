-- Where what is shown of a login stands.
use Rattle.std.proofs.Common.{◌≡◌, ℕ, ◌+◌, zero, suc, ◌<◌, ◌≤◌, List, [], ◌∷◌, ◌++◌, length, get_or, take, Some, sym, ◌∙◌, ap, subst, arith}
use Rattle.std.specs.Prelude.{map}
use Rattle.std.proofs.lemmas.List.{map-append, take_all, take_more}
use Rattle.std.specs.List.{AllByRecursion}
use Rattle.xml_spec.specs.Tree.{Nodes}
use Rattle.xml_spec.specs.Numbering.{from_node, elements_before}
use Rattle.xml_spec.specs.Document.{Spells, IsRange}
use Rattle.xml_spec.specs.Document as spans
use Rattle.xml_chars.specs.declared.Span.{Span}
use Rattle.range_laws.specs.Ranges.{StandsAt, IsWithin, AreApart}
use Rattle.range_laws.proofs.Nesting.{within, apart}
use Rattle.saml_tree.specs.Elements.{IsElement}
use Rattle.sig_reference.specs.Vouching.{IsIn}
use Rattle.saml_tree.specs.declared.node.NodeNo.{NodeNo}
use Rattle.assertion_model.specs.Parts.{own_signature}
use Rattle.assertion_model.specs.Places.{IsPlace}
use Rattle.assertion_model.specs.Places as places
use Rattle.assertion_model.proofs.ValueLemmas.{element_begins}
use Rattle.sp_rules.specs.Shown.{place_of, IsWrittenAt, AreWrittenAt, IsShownAt, AreShownAt}

pub written_at : (text : List ℕ) (tree : Nodes) (n : ℕ) (span : Span) → IsElement tree n → IsRange text (elements_before tree n) (place_of span) →
    IsWrittenAt text tree n span
written_at text tree n span element range = record { element = element_begins (from_node tree n) element; range = range }

-- an element in another is written in it
pub written_in : (text : List ℕ) (tree : Nodes) (e n : ℕ) (outer inner : Span) → Spells text tree → IsIn tree e n →
    IsWrittenAt text tree e outer → IsWrittenAt text tree n inner → IsWithin (place_of outer) (place_of inner)
written_in text tree e n outer inner spells is one other =
    within text tree spells e n (place_of outer) (place_of inner) (is.from, is.to) one other

apart_at : (text : List ℕ) (tree : Nodes) (m n : ℕ) (one other : spans.Span) → Spells text tree → places.AreApart tree m n →
    StandsAt text tree m one → StandsAt text tree n other → AreApart one other
apart_at text tree m n one other spells are a b =
    apart text tree spells m n one other (λ l. are.first (record { from = l.0; to = l.1 })) (λ l. are.second (record { from = l.0; to = l.1 })) a b

pub shown_at : (text : List ℕ) (tree : Nodes) (p s n : ℕ) (assertion signature span : Span) → Spells text tree →
    IsWrittenAt text tree p assertion → IsWrittenAt text tree s signature → IsWrittenAt text tree n span →
    IsIn tree p n → places.AreApart tree s n → ((own : ℕ) → own_signature tree p ≡ Some own → places.AreApart tree own n) →
    IsShownAt text tree p assertion signature span
shown_at text tree p s n assertion signature span spells a b c inside from from_own = record {
  inside = written_in text tree p n assertion span spells inside a c;
  apart = apart_at text tree s n (place_of signature) (place_of span) spells from b c;
  apart_from_own = λ own place is stands. apart_at text tree own n place (place_of span) spells (from_own own is) stands c;
}

pub all_shown_at : (text : List ℕ) (tree : Nodes) (p s : ℕ) (assertion signature : Span) → Spells text tree →
    IsWrittenAt text tree p assertion → IsWrittenAt text tree s signature → (numbers : List ℕ) (found : List Span) → AreWrittenAt text tree numbers found →
    AllByRecursion (IsPlace tree p) numbers → AllByRecursion (places.AreApart tree s) numbers →
    ((own : ℕ) → own_signature tree p ≡ Some own → AllByRecursion (places.AreApart tree own) numbers) →
    AreShownAt text tree p assertion signature found
all_shown_at text tree p s assertion signature spells a b [] [] w inside from from_own = tt
all_shown_at text tree p s assertion signature spells a b [] (span ∷ found) w inside from from_own = absurd w
all_shown_at text tree p s assertion signature spells a b (n ∷ numbers) [] w inside from from_own = absurd w
all_shown_at text tree p s assertion signature spells a b (n ∷ numbers) (span ∷ found) w inside from from_own =
    let place = inside.0 in (
      shown_at text tree p s n assertion signature span spells a b w.0 place.inside from.0 (λ own is. (from_own own is).0),
      all_shown_at text tree p s assertion signature spells a b numbers found w.1 inside.1 from.1 (λ own is. (from_own own is).1),
    )

-- one more element is written
pub more_written : (text : List ℕ) (tree : Nodes) (numbers : List ℕ) (found : List Span) (n : ℕ) (span : Span) → AreWrittenAt text tree numbers found →
    IsWrittenAt text tree n span → AreWrittenAt text tree (numbers ++ n ∷ []) (found ++ span ∷ [])
more_written text tree [] [] n span w one = (one, tt)
more_written text tree [] (other ∷ found) n span w one = absurd w
more_written text tree (m ∷ numbers) [] n span w one = absurd w
more_written text tree (m ∷ numbers) (other ∷ found) n span w one = (w.0, more_written text tree numbers found n span w.1 one)

-- WHAT A LOOP WRITES

abbrev pub numbers_of : List NodeNo → List ℕ
numbers_of items = map (λ (k : NodeNo). k.0) items

-- what holds of each number holds of one of them
pub at_one : (P : ℕ → Type 0) (items : List NodeNo) (i : ℕ) (d : NodeNo) → i < length items → AllByRecursion P (numbers_of items) → P (get_or items i d).0
at_one P [] i d less all = absurd (omega arith)
at_one P (item ∷ items) zero d less all = all.0
at_one P (item ∷ items) (suc i) d less all = at_one P items i d (omega arith) all.1

pub next_written : (text : List ℕ) (tree : Nodes) (items : List NodeNo) (i : ℕ) (d : NodeNo) (found : List Span) (span : Span) → i < length items →
    AreWrittenAt text tree (numbers_of (take i items)) found → IsWrittenAt text tree (get_or items i d).0 span →
    AreWrittenAt text tree (numbers_of (take (i + 1) items)) (found ++ span ∷ [])
next_written text tree items i d found span less w one =
    subst (λ numbers. AreWrittenAt text tree numbers (found ++ span ∷ []))
    (sym (ap numbers_of (take_more items i d less) ∙ map-append (λ (k : NodeNo). k.0) (take i items) (get_or items i d ∷ [])))
    (more_written text tree (numbers_of (take i items)) found (get_or items i d).0 span w one)

pub all_written : (text : List ℕ) (tree : Nodes) (items : List NodeNo) (i : ℕ) (numbers : List ℕ) (found : List Span) → length items ≤ i →
    numbers_of items ≡ numbers → AreWrittenAt text tree (numbers_of (take i items)) found → AreWrittenAt text tree numbers found
all_written text tree items i numbers found past are w =
    subst (λ ns. AreWrittenAt text tree ns found) (ap numbers_of (take_all i items past) ∙ are) w
