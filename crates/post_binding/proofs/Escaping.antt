-- Bytes that are written as they are in runs, and the others one by one.
use Rattle.std.proofs.Common.{◌≡◌, ℕ, ◌+◌, ◌-◌, ◌<◌, ◌≤◌, List, [], ◌∷◌, ◌++◌, length, take, drop, get_or, refl, sym, ap, ◌∙◌, subst, arith, append_assoc, IsUtf8}
use Rattle.std.specs.List.{flat_map}
use Rattle.std.specs.Str.{IsCharBoundary}
use Rattle.std.proofs.lemmas.List.{append-nil, take_more, take_all, length-drop, get_or-drop}
use Rattle.std.proofs.lemmas.List.Concat.{flat_map-append}
use Rattle.std.proofs.lemmas.Str.{IsCharBoundary-start}
use Rattle.std.proofs.Math.Seq.{take-add}

-- the bytes from one place to another
abbrev pub run_of : List ℕ → ℕ → ℕ → List ℕ
run_of bytes from i = take (i - from) (drop from bytes)

-- all before place `from` is written, and from there to place `i` each byte is written as it is
pub record IsEscaped (f : ℕ → List ℕ) (bytes start now : List ℕ) (from i : ℕ) : Type 0 where
  pub behind : from ≤ i
  pub boundary : IsCharBoundary bytes from
  pub written : now ≡ start ++ flat_map f (take from bytes)
  pub as_it_is : flat_map f (run_of bytes from i) ≡ run_of bytes from i

run_behind : (bytes : List ℕ) (from i : ℕ) → from ≤ i → take i bytes ≡ take from bytes ++ run_of bytes from i
run_behind bytes from i le =
    let sum : i ≡ from + (i - from) = omega arith in
    ap (λ n. take n bytes) sum ∙ take-add from (i - from) bytes

-- one more byte behind a run
run_more : (bytes : List ℕ) (from i : ℕ) → from ≤ i → i < length bytes →
    run_of bytes from (i + 1) ≡ run_of bytes from i ++ get_or bytes i 0 ∷ []
run_more bytes from i le h =
    let more : i + 1 - from ≡ i - from + 1 = omega arith in
    let there : from + (i - from) ≡ i = omega arith in
    ap (λ n. take n (drop from bytes)) more
    ∙ take_more (drop from bytes) (i - from) 0 (omega (arith, length-drop from bytes))
    ∙ ap (λ b. run_of bytes from i ++ b ∷ []) (get_or-drop from bytes (i - from) 0 ∙ ap (λ n. get_or bytes n 0) there)

empty_run : (bytes : List ℕ) (i : ℕ) → run_of bytes i i ≡ []
empty_run bytes i = let none : i - i ≡ 0 = omega arith in ap (λ n. take n (drop i bytes)) none

module _ (f : ℕ → List ℕ) (bytes start : List ℕ) where
  -- behind the run that is not written yet
  with_run : (now : List ℕ) (from i : ℕ) → IsEscaped f bytes start now from i →
      now ++ run_of bytes from i ≡ start ++ flat_map f (take i bytes)
  with_run now from i so_far =
      ap (λ xs. xs ++ run_of bytes from i) so_far.written
      ∙ append_assoc start (flat_map f (take from bytes)) (run_of bytes from i)
      ∙ ap (λ xs. start ++ xs)
      (ap (λ xs. flat_map f (take from bytes) ++ xs) (sym so_far.as_it_is)
      ∙ sym (flat_map-append f (take from bytes) (run_of bytes from i))
      ∙ ap (flat_map f) (sym (run_behind bytes from i so_far.behind)))

  -- at the start
  pub none_escaped : IsUtf8 bytes → IsEscaped f bytes start start 0 0
  none_escaped is = record {
    behind = omega arith;
    boundary = IsCharBoundary-start bytes is;
    written = sym (append-nil start);
    as_it_is = refl;
  }

  -- a byte that is written as it is
  pub one_more : (now : List ℕ) (from i b : ℕ) → IsEscaped f bytes start now from i → i < length bytes →
      b ≡ get_or bytes i 0 → f b ≡ b ∷ [] → IsEscaped f bytes start now from (i + 1)
  one_more now from i b so_far h is same = record {
    behind = (let le = so_far.behind in omega arith);
    boundary = so_far.boundary;
    written = so_far.written;
    as_it_is =
        (let more : run_of bytes from (i + 1) ≡ run_of bytes from i ++ b ∷ [] =
        run_more bytes from i so_far.behind h ∙ ap (λ c. run_of bytes from i ++ c ∷ []) (sym is) in
        ap (flat_map f) more
        ∙ flat_map-append f (run_of bytes from i) (b ∷ [])
        ∙ ap (λ xs. xs ++ (f b ++ [])) so_far.as_it_is
        ∙ ap (λ xs. run_of bytes from i ++ xs) (append-nil (f b) ∙ same)
        ∙ sym more);
  }

  -- a byte that is written in another way
  pub one_escaped : (now : List ℕ) (from i b : ℕ) (name : List ℕ) → IsEscaped f bytes start now from i → i < length bytes →
      b ≡ get_or bytes i 0 → f b ≡ name → IsCharBoundary bytes (i + 1) →
      IsEscaped f bytes start ((now ++ run_of bytes from i) ++ name) (i + 1) (i + 1)
  one_escaped now from i b name so_far h is other past = record {
    behind = omega arith;
    boundary = past;
    written =
        (ap (λ xs. xs ++ name) (with_run now from i so_far)
        ∙ append_assoc start (flat_map f (take i bytes)) name
        ∙ ap (λ xs. start ++ xs)
        (ap (λ xs. flat_map f (take i bytes) ++ xs) (sym other ∙ sym (append-nil (f b)))
        ∙ sym (flat_map-append f (take i bytes) (b ∷ []))
        ∙ ap (flat_map f) (ap (λ c. take i bytes ++ c ∷ []) is ∙ sym (take_more bytes i 0 h))));
    as_it_is = ap (flat_map f) (empty_run bytes (i + 1)) ∙ sym (empty_run bytes (i + 1));
  }

  pub same_escaped : (now : List ℕ) (from i : ℕ) (now' : List ℕ) (from' : ℕ) → IsEscaped f bytes start now from i → now' ≡ now → from' ≡ from →
      IsEscaped f bytes start now' from' i
  same_escaped now from i now' from' so_far same place =
      subst (λ (n : ℕ). IsEscaped f bytes start now' n i) (sym place)
      (subst (λ (xs : List ℕ). IsEscaped f bytes start xs from i) (sym same) so_far)

  -- at the end
  pub all_escaped : (now : List ℕ) (from i : ℕ) → IsEscaped f bytes start now from i → i ≡ length bytes →
      now ++ run_of bytes from (length bytes) ≡ start ++ flat_map f bytes
  all_escaped now from i so_far end =
      ap (λ n. now ++ run_of bytes from n) (sym end) ∙ with_run now from i so_far
      ∙ ap (λ xs. start ++ flat_map f xs) (take_all i bytes (omega arith))
