-- What a step passes on to the sink, and what it keeps.
use Rattle.std.proofs.Common.{◌≡◌, ℕ, ◌≤◌, true, false, List, [], ◌++◌, take, Option, None, Some, refl, sym, ap, ◌∙◌, subst, append_assoc, arith, length}
use Rattle.std.proofs.lemmas.List.{append-nil}
use Rattle.std.proofs.lemmas.Bool.{true≢false}
use Rattle.std.proofs.Math.Seq.{take-append_seam}
use Rattle.saml_outside.specs.Counts.{Rose}
use Rattle.saml_outside.specs.Sinks.{then_bytes}
use Rattle.saml_commands.specs.Passing.{SinkView, Passing, HasPut, Appends}

pub then_nothing : (taken : Option (List ℕ)) → then_bytes taken [] ≡ taken
then_nothing None = refl
then_nothing (Some bytes) = ap Some (append-nil bytes)

pub then_both : (taken : Option (List ℕ)) (front back : List ℕ) → then_bytes (then_bytes taken front) back ≡ then_bytes taken (front ++ back)
then_both None front back = refl
then_both (Some bytes) front back = ap Some (append_assoc bytes front back)

-- a step by which some of what was kept and of what is put goes to the sink, and the rest is left
pub record Step (before after : Passing) (put gone left : List ℕ) : Type 0 where
  pub whole : before.failed ≡ false
  pub split : before.kept ++ put ≡ gone ++ left
  pub taken : after.sink.taken ≡ then_bytes before.sink.taken gone
  pub kept : after.failed ≡ false → after.kept ≡ left
  pub never_falls : before.sink.faults ≤ after.sink.faults
  pub rose : after.failed ≡ true → Rose before.sink.faults after.sink.faults

pub step_appends : (before after : Passing) (put gone left : List ℕ) → Step before after put gone left → Appends before after put
step_appends before after put gone left step first front has =
    let kept = has.kept step.whole in
    record {
      sent = has.sent ++ gone;
      rest = left;
      split =
          ap (λ xs. xs ++ put) has.split ∙ append_assoc has.sent has.rest put
          ∙ ap (λ xs. has.sent ++ (xs ++ put)) (sym kept) ∙ ap (λ xs. has.sent ++ xs) step.split
          ∙ sym (append_assoc has.sent gone left);
      taken = step.taken ∙ ap (λ taken. then_bytes taken gone) has.taken ∙ then_both first.taken has.sent gone;
      kept = step.kept;
      never_falls = omega (arith, has.never_falls, step.never_falls);
      rose = λ failed. omega (arith, has.never_falls, step.rose failed);
    }

-- nothing was appended, and then these bytes
pub then_appends : (one other last : Passing) (bytes : List ℕ) → Appends one other [] → Appends other last bytes → Appends one last bytes
then_appends one other last bytes none some first front has =
    subst (λ all. HasPut first all last) (ap (λ xs. xs ++ bytes) (append-nil front)) (some first (front ++ []) (none first front has))

-- ---- what a sink has at the end

pub put_nothing : (now : Passing) → now.kept ≡ [] → now.failed ≡ false → HasPut now.sink [] now
put_nothing now none whole = record {
  sent = [];
  rest = [];
  split = refl;
  taken = sym (then_nothing now.sink.taken);
  kept = λ _. none;
  never_falls = omega arith;
  rose = λ clash. absurd (true≢false (sym clash ∙ whole));
}

-- all that was put was passed on
pub put_all : (first : SinkView) (bytes : List ℕ) (now : Passing) → HasPut first bytes now → now.failed ≡ false → now.kept ≡ [] →
    now.sink.taken ≡ then_bytes first.taken bytes
put_all first bytes now has whole none =
    has.taken
    ∙ ap (then_bytes first.taken) (sym (append-nil has.sent) ∙ ap (λ rest. has.sent ++ rest) (sym none ∙ has.kept whole) ∙ sym has.split)

-- a part of what was put was passed on, and of what more was to be put
pub put_part : (first : SinkView) (bytes more : List ℕ) (now : Passing) → HasPut first bytes now →
    (n : ℕ) × (now.sink.taken ≡ then_bytes first.taken (take n (bytes ++ more)))
put_part first bytes more now has = (
  length has.sent,
  has.taken
      ∙ ap (then_bytes first.taken)
      (sym (take-append_seam has.sent (has.rest ++ more))
      ∙ ap (take (length has.sent)) (sym (append_assoc has.sent has.rest more) ∙ ap (λ xs. xs ++ more) (sym has.split))),
)

-- the same of bytes of which these are the first
pub put_first : (first : SinkView) (bytes all : List ℕ) (now : Passing) (more : List ℕ) → bytes ++ more ≡ all → HasPut first bytes now →
    (n : ℕ) × (now.sink.taken ≡ then_bytes first.taken (take n all))
put_first first bytes all now more same has =
    let part = put_part first bytes more now has in
    (part.0, part.1 ∙ ap (λ xs. then_bytes first.taken (take part.0 xs)) same)

pub same_then : (taken : Option (List ℕ)) (bytes others : List ℕ) → bytes ≡ others → then_bytes taken bytes ≡ then_bytes taken others
same_then taken bytes others same = ap (then_bytes taken) same
