-- Laws of what bytes are.
use Rattle.std.proofs.Common.{◌≡◌, ◌≢◌, ℕ, ◌+◌, ◌-◌, ◌<◌, ◌≤◌, inl, inr, Bool, true, false, cond, nat_lt, List, ◌++◌, length, take, drop, Option, None, Some, IsSome, IfSome, Result, Ok, Err, refl, sym, ap, subst, ◌∙◌, arith, append_assoc}
use Rattle.std.proofs.lemmas.Bool.Decides.{nat_tests}
use Rattle.std.proofs.lemmas.List.{take-append-le, length-append, length-take, length-drop, take-take, take-append-drop, drop-take}
use Rattle.httparse.specs.Grammar.{RequestHead}
use Rattle.http_wire.specs.declared.head.HeadPlaces.{HeadPlaces}
use Rattle.http_wire.specs.Awaiting.{IsKept}
use Rattle.http_wire.specs.Heads.{end_of_lines, head_end, IsHead, Parts, parts_of}
use Rattle.http_wire.specs.Requests.{Request, Whole, More, Refused, request_of, sized, ReadsTo, Reads}
use Rattle.http_wire.specs.Laws.{BytesHaveOneReading, MoreBytesChangeNothing, BeginningIsMoreOrTheSame, WholeRequestEndsAtOnePlace, WhatIsKnownStaysTrue}
use Rattle.http_wire.proofs.Extending.{head_end_within, head_end_append, head_end_front, head_end_limit}
use Rattle.http_wire.proofs.Keeping.{kept_append}
use Rattle.http_wire.proofs.Deciding.{reads_one, reads_append, reads_behind, short_behind, long_behind, not_come}

pub bytes_have_one_reading : BytesHaveOneReading
bytes_have_one_reading = reads_one

pub more_bytes_change_nothing : MoreBytesChangeNothing
more_bytes_change_nothing = reads_append

whole_is_not_more : {r : Request} → Whole r ≢ More
whole_is_not_more h = cc

refused_is_not_more : {status : ℕ} → Refused status ≢ More
refused_is_not_more h = cc

pub a_beginning_is_more_or_the_same : BeginningIsMoreOrTheSame
a_beginning_is_more_or_the_same bytes more More b x y = inl refl
a_beginning_is_more_or_the_same bytes more (Whole r) b x y =
    inr (reads_one (bytes ++ more) (Whole r) b (reads_append bytes more (Whole r) whole_is_not_more x) y)
a_beginning_is_more_or_the_same bytes more (Refused status) b x y =
    inr (reads_one (bytes ++ more) (Refused status) b (reads_append bytes more (Refused status) refused_is_not_more x) y)

-- what comes behind the first n bytes or more is taken from what comes behind
longer : (n : ℕ) (xs ys : List ℕ) → length (take n xs) ≤ length (take n (xs ++ ys))
longer n xs ys = omega (arith, length-take n xs, length-take n (xs ++ ys), length-append xs ys)

pub what_is_known_stays_true : WhatIsKnownStaysTrue
what_is_known_stays_true a bytes more known = record {
  brought = (let more_there = longer 16384 bytes more in omega (arith, known.brought));
  searched = ap end_of_lines (take-append-le a.searched bytes more (omega (arith, known.brought, length-take 16384 bytes))) ∙ known.searched;
  below = λ others short. by_order (λ xs. Reads xs More) others (known.below (more ++ others) (by_length others short));
  from = λ others enough came is_more.
      known.from (more ++ others) (by_length' others enough) (by_order' (λ xs. IsSome (head_end (take (a.wanted - 1) xs))) others came)
      (by_order' (λ xs. Reads xs More) others is_more);
  head = if_kept a.head known.head;
}
  where
    if_kept : (o : Option HeadPlaces) → IfSome o (IsKept bytes a.wanted) → IfSome o (IsKept (bytes ++ more) a.wanted)
    if_kept None kept = tt
    if_kept (Some places) kept = kept_append bytes more a.wanted places kept

    by_order : (P : List ℕ → Type 0) (others : List ℕ) → P (bytes ++ (more ++ others)) → P ((bytes ++ more) ++ others)
    by_order P others p = subst P (sym (append_assoc bytes more others)) p

    by_order' : (P : List ℕ → Type 0) (others : List ℕ) → P ((bytes ++ more) ++ others) → P (bytes ++ (more ++ others))
    by_order' P others p = subst P (append_assoc bytes more others) p

    by_length : (others : List ℕ) → length ((bytes ++ more) ++ others) < a.wanted → length (bytes ++ (more ++ others)) < a.wanted
    by_length others short = omega (arith, ap length (append_assoc bytes more others))

    by_length' : (others : List ℕ) → a.wanted ≤ length ((bytes ++ more) ++ others) → a.wanted ≤ length (bytes ++ (more ++ others))
    by_length' others enough = omega (arith, ap length (append_assoc bytes more others))

-- ---- where a request ends

-- a head that ends later has not come
ends_later : (bytes : List ℕ) (e k : ℕ) → head_end bytes ≡ Some e → k < e → head_end (take k bytes) ≡ None
ends_later bytes e k ended early = by_end (head_end (take k bytes)) refl
  where
    by_end : (o : Option ℕ) → o ≡ head_end (take k bytes) → head_end (take k bytes) ≡ None
    by_end None is = sym is
    by_end (Some f) is =
        let there : head_end bytes ≡ Some f =
        ap head_end (sym (take-append-drop k bytes)) ∙ head_end_append (take k bytes) (drop k bytes) f (sym is) in
        let same : f ≡ e = (let both : Some f ≡ Some e = sym there ∙ ended in cc) in
        absurd (omega (arith, head_end_within (take k bytes) f (sym is), length-take k bytes))

-- a request whose head ends there, with a body of this size
record IsWholeAt (bytes : List ℕ) (request : Request) (e n : ℕ) (read : RequestHead) : Type 0 where
  pub ended : head_end bytes ≡ Some e
  pub head : IsHead (take e bytes) read
  pub size : (parts_of read).size ≡ Ok n
  pub within : n ≤ length (drop e bytes)
  pub made : request ≡ request_of (parts_of read) (take n (drop e bytes))

whole_size : (parts : Parts) (size : Result ℕ ℕ) (xs : List ℕ) (request : Request) → sized parts size xs ≡ Whole request →
    (n : ℕ) × (size ≡ Ok n) × (n ≤ length xs) × (request ≡ request_of parts (take n xs))
whole_size parts (Err status) xs request h = absurd (cc)
whole_size parts (Ok n) xs request h = by_test (nat_lt (length xs) n) refl h
  where
    by_test : (t : Bool) → t ≡ nat_lt (length xs) n → cond t More (Whole (request_of parts (take n xs))) ≡ Whole request →
        (m : ℕ) × (let said : Result ℕ ℕ = Ok n in said ≡ Ok m) × (m ≤ length xs) × (request ≡ request_of parts (take m xs))
    by_test true e is = absurd (cc)
    by_test false e is = (n, refl, grind (arith, nat_tests, e), cc)

whole_at : (bytes : List ℕ) (request : Request) (o : Option ℕ) → head_end bytes ≡ o → ReadsTo o bytes (Whole request) →
    (e : ℕ) × (n : ℕ) × (head : RequestHead) × IsWholeAt bytes request e n head
whole_at bytes request None ended is = absurd (by_test (nat_lt (length bytes) 16384) is)
  where
    by_test : (t : Bool) → Whole request ≡ cond t More (Refused 400) → ⊥
    by_test true h = cc
    by_test false h = cc
whole_at bytes request (Some e) ended (inl x) =
    let size = whole_size (parts_of x.0) (parts_of x.0).size (drop e bytes) request (sym x.2) in
    (e, size.0, x.0, record { ended = ended; head = x.1; size = size.1; within = size.2; made = size.3 })
whole_at bytes request (Some e) ended (inr x) = absurd (let clash : Whole request ≡ Refused 400 = x.1 in cc)

-- the bytes up to a place behind the head
up_to : (bytes : List ℕ) (e k : ℕ) → e ≤ k → (take e (take k bytes) ≡ take e bytes) × (drop e (take k bytes) ≡ take (k - e) (drop e bytes))
up_to bytes e k later = (take-take e k bytes later, ap (λ m. drop e (take m bytes)) (let parts : k ≡ e + (k - e) = omega arith in parts) ∙ drop-take e (k - e) bytes)

-- fewer bytes than a whole request
before_end : (bytes : List ℕ) (request : Request) (e n : ℕ) (head : RequestHead) → IsWholeAt bytes request e n head → (k : ℕ) → k < e + n → Reads (take k bytes) More
before_end bytes request e n head is k early = by_head (nat_lt k e) refl
  where
    by_head : (t : Bool) → t ≡ nat_lt k e → Reads (take k bytes) More
    by_head true h =
        let front : k < e = grind (arith, nat_tests, h) in
        not_come (take k bytes) (ends_later bytes e k is.ended front) (omega (arith, length-take k bytes, head_end_limit bytes e is.ended))
    by_head false h =
        let behind : e ≤ k = grind (arith, nat_tests, h) in
        let same = up_to bytes e k behind in
        subst (Reads (take k bytes))
        (short_behind (parts_of head) (parts_of head).size n (drop e (take k bytes)) is.size (omega (arith, ap length same.1, length-take (k - e) (drop e bytes))))
        (reads_behind (take k bytes) e head (head_end_front bytes e k is.ended behind) (subst (λ xs. IsHead xs head) (sym same.0) is.head))

-- as many bytes or more
from_end : (bytes : List ℕ) (request : Request) (e n : ℕ) (head : RequestHead) → IsWholeAt bytes request e n head → (k : ℕ) → e + n ≤ k → Reads (take k bytes) (Whole request)
from_end bytes request e n head is k late =
    let behind : e ≤ k = omega arith in
    let same = up_to bytes e k behind in
    subst (Reads (take k bytes))
    (long_behind (parts_of head) (parts_of head).size n (drop e (take k bytes)) is.size (omega (arith, ap length same.1, length-take (k - e) (drop e bytes), is.within))
    ∙ ap Whole (ap (λ xs. request_of (parts_of head) (take n xs)) same.1 ∙ ap (request_of (parts_of head)) (take-take n (k - e) (drop e bytes) (omega arith)) ∙ sym is.made))
    (reads_behind (take k bytes) e head (head_end_front bytes e k is.ended behind) (subst (λ xs. IsHead xs head) (sym same.0) is.head))

pub a_whole_request_ends_at_one_place : WholeRequestEndsAtOnePlace
a_whole_request_ends_at_one_place bytes request x =
    let found = whole_at bytes request (head_end bytes) refl x in
    let e = found.0 in
    let n = found.1 in
    let is = found.3 in (
      e + n,
      record {
        within = omega (arith, is.within, length-drop e bytes, head_end_within bytes e is.ended);
        before = before_end bytes request e n found.2 is;
        from = from_end bytes request e n found.2 is;
      },
    )
