-- Heads as they are read.
use Rattle.std.proofs.Common.{◌≡◌, ℕ, zero, suc, ◌<◌, ◌≤◌, Bool, true, List, [], ◌∷◌, length, take, drop, map, IsTrue, Ok, refl, sym, ap, subst, ◌∙◌, arith, lit<}
use Rattle.std.specs.Char.{is_ascii_graphic}
use Rattle.std.specs.List.{list_all}
use Rattle.std.specs.Str.{IsAscii, IsUtf8}
use Rattle.std.proofs.lemmas.Bool.Decides.{nat_tests}
use Rattle.std.proofs.lemmas.List.{length-drop, length-map, length-take}
use Rattle.std.proofs.lemmas.Str.{IsUtf8-from_ascii}
use Rattle.httparse.specs.declared.Error.{Error}
use Rattle.httparse.specs.declared.Status.{Status}
use Rattle.httparse.specs.declared.Status.TheVariants.{Complete}
use Rattle.httparse.specs.Outcome.{IfComplete}
use Rattle.httparse.specs.declared.spans.HeaderSpan.{HeaderSpan}
use Rattle.httparse.specs.declared.spans.RequestSpans.{RequestSpans}
use Rattle.httparse.specs.Grammar.{RequestHead, ReadsRequest, Field}
use Rattle.httparse.specs.Spans.{span_bytes, header_bytes, name_and_value, IsRequestAt}
use Rattle.xml_spec.proofs.Tests.{both_true, and_true}
use Rattle.http_wire.specs.declared.head.HeadPlaces.{HeadPlaces}
use Rattle.http_wire.specs.Heads.{parts_by, path_of}
use Rattle.http_wire.specs.Places.{parts_at, AreWithin, IsReadFrom}

-- ---- visible characters

graphic : (b : ℕ) → is_ascii_graphic b ≡ true → b < 128
graphic b h = grind (arith, nat_tests)

all_ascii : (bytes : List ℕ) → list_all is_ascii_graphic bytes ≡ true → IsAscii bytes
all_ascii [] all zero = lit< tt
all_ascii [] all (suc i) = lit< tt
all_ascii (b ∷ bytes) all zero = graphic b (both_true (is_ascii_graphic b) (list_all is_ascii_graphic bytes) all).0
all_ascii (b ∷ bytes) all (suc i) = all_ascii bytes (both_true (is_ascii_graphic b) (list_all is_ascii_graphic bytes) all).1 i

front_graphic : (bytes : List ℕ) (n : ℕ) → list_all is_ascii_graphic bytes ≡ true → list_all is_ascii_graphic (take n bytes) ≡ true
front_graphic bytes zero all = refl
front_graphic [] (suc n) all = refl
front_graphic (b ∷ bytes) (suc n) all =
    let parts = both_true (is_ascii_graphic b) (list_all is_ascii_graphic bytes) all in
    and_true _ _ parts.0 (front_graphic bytes n parts.1)

-- the path of a visible target is a text
pub path_is_text : (target : List ℕ) → list_all is_ascii_graphic target ≡ true → IsUtf8 (path_of target)
path_is_text target all = IsUtf8-from_ascii (path_of target) (all_ascii (path_of target) (front_graphic target _ all))

-- ---- the whole head

nothing_behind : (bytes : List ℕ) (n : ℕ) → n ≡ length bytes → drop n bytes ≡ []
nothing_behind bytes n end = empty (drop n bytes) (omega (arith, length-drop n bytes))
  where
    empty : (xs : List ℕ) → length xs ≡ 0 → xs ≡ []
    empty [] h = refl
    empty (x ∷ xs) h = absurd (omega arith)

few_lines : (bytes : List ℕ) (headers : List HeaderSpan) (count : ℕ) (fields : List Field) → map (header_bytes bytes) (take count headers) ≡ map name_and_value fields →
    length headers ≤ 64 → length fields ≤ 64
few_lines bytes headers count fields same few =
    omega (arith, ap length same, length-map (take count headers) (header_bytes bytes), length-map fields name_and_value, length-take count headers)

pub whole_head : (bytes : List ℕ) (headers : List HeaderSpan) (spans : RequestSpans) (h : RequestHead) (places : HeadPlaces) (method path : List ℕ) →
    IsRequestAt bytes headers spans h → spans.len ≡ length bytes → length headers ≤ 64 → list_all is_ascii_graphic (span_bytes bytes spans.path) ≡ true →
    parts_at bytes places ≡ parts_by method path (map (header_bytes bytes) (take spans.headers headers)) → method ≡ span_bytes bytes spans.method → path ≡ path_of (span_bytes bytes spans.path) →
    AreWithin (length bytes) places → places.end ≡ length bytes → IsReadFrom bytes places
whole_head bytes headers spans h places method path found end few visible made is_method is_path within ends =
    record {
      end = ends;
      within = within;
      says = (
        h,
        record {
          read = subst (λ (rest : List ℕ). ReadsRequest bytes h rest) (nothing_behind bytes spans.len end) found.reads;
          lines = few_lines bytes headers spans.headers h.fields found.fields few;
          target = is_true (ap (list_all is_ascii_graphic) (sym found.path) ∙ visible);
        },
        made
            ∙ (λ i. parts_by ((is_method ∙ found.method) i) ((is_path ∙ ap path_of found.path) i) (found.fields i)),
      );
    }
  where
    is_true : {t : Bool} → t ≡ true → IsTrue t
    is_true e = e

-- what holds of a parse that is complete
pub of_complete : {A : Type 0} (P : A → Type 0) (s : Status A) (a : A) → s ≡ Complete a → IfComplete {E = Error} (Ok s) P → P a
of_complete {A} P s a same holds = subst (λ (t : Status A). IfComplete {E = Error} (Ok t) P) same holds
