-- What bytes are, once and for all.
use Rattle.std.proofs.Common.{◌≡◌, ◌≢◌, ℕ, ◌+◌, ◌-◌, ◌<◌, ◌≤◌, inl, inr, Bool, true, false, cond, nat_lt, List, [], ◌∷◌, ◌++◌, length, take, drop, Option, None, Some, IsSome, IfSome, Result, Ok, Err, codes, refl, sym, ap, subst, ◌∙◌, arith, append-nil}
use Rattle.std.specs.Str.Parse.{digits_value}
use Rattle.std.proofs.lemmas.Bool.Decides.{nat_tests}
use Rattle.std.proofs.lemmas.List.{take-append-le, drop-append-le, length-append, length-take, length-drop, take_all}
use Rattle.httparse.specs.Grammar.{RequestHead}
use Rattle.httparse.proofs.GrammarLemmas.{request_unique}
use Rattle.http_wire.specs.declared.method.Method.{Method}
use Rattle.http_wire.specs.declared.method.Method.TheVariants.{Get, Post, Other}
use Rattle.http_wire.specs.Lines.{values, size_within, size_unsaid, size_of, is_length}
use Rattle.http_wire.specs.Heads.{end_of_lines, head_end, IsHead, Parts, parts_of, method_of, lines_of}
use Rattle.http_wire.specs.Requests.{Request, Reading, Whole, More, Refused, request_of, sized, reading_behind, ReadsHead, ReadsTo, Reads}
use Rattle.http_wire.specs.declared.head.HeadPlaces.{HeadPlaces}
use Rattle.http_wire.specs.Awaiting.{Awaited, IsKept, IsAwaited}
use Rattle.http_wire.proofs.Extending.{head_end_within, head_end_append, take_append}

-- ---- one answer

reads_head_one : (bytes : List ℕ) (e : ℕ) (a b : Reading) → ReadsHead bytes e a → ReadsHead bytes e b → a ≡ b
reads_head_one bytes e a b (inl x) (inl y) =
    let same = request_unique (take e bytes) x.0 y.0 [] [] x.1.read y.1.read in
    x.2 ∙ ap (λ (h : RequestHead). reading_behind (parts_of h) (drop e bytes)) same.0 ∙ sym y.2
reads_head_one bytes e a b (inl x) (inr y) = absurd (y.0 x.0 x.1)
reads_head_one bytes e a b (inr x) (inl y) = absurd (x.0 y.0 y.1)
reads_head_one bytes e a b (inr x) (inr y) = x.1 ∙ sym y.1

reads_to_one : (end : Option ℕ) (bytes : List ℕ) (a b : Reading) → ReadsTo end bytes a → ReadsTo end bytes b → a ≡ b
reads_to_one None bytes a b x y = x ∙ sym y
reads_to_one (Some e) bytes a b x y = reads_head_one bytes e a b x y

pub reads_one : (bytes : List ℕ) (a b : Reading) → Reads bytes a → Reads bytes b → a ≡ b
reads_one bytes a b x y = reads_to_one (head_end bytes) bytes a b x y

-- ---- more bytes

-- what stands behind a whole request is not looked at
sized_append : (parts : Parts) (size : Result ℕ ℕ) (xs ys : List ℕ) → sized parts size xs ≢ More → sized parts size (xs ++ ys) ≡ sized parts size xs
sized_append parts (Err status) xs ys h = refl
sized_append parts (Ok n) xs ys h = by_test (nat_lt (length xs) n) refl
  where
    by_test : (t : Bool) → t ≡ nat_lt (length xs) n → sized parts (Ok n) (xs ++ ys) ≡ sized parts (Ok n) xs
    by_test true e = absurd (h (ap (λ t. cond t More (Whole (request_of parts (take n xs)))) (sym e)))
    by_test false e =
        let within : n ≤ length xs = grind (arith, nat_tests, e) in
        let still : nat_lt (length (xs ++ ys)) n ≡ false = (let long = length-append xs ys in grind (arith, nat_tests)) in
        ap (λ t. cond t More (Whole (request_of parts (take n (xs ++ ys))))) still
        ∙ ap (λ zs. Whole (request_of parts zs)) (take-append-le n xs ys within)
        ∙ ap (λ t. cond t More (Whole (request_of parts (take n xs)))) e

reads_head_append : (bytes more : List ℕ) (e : ℕ) (r : Reading) → e ≤ length bytes → r ≢ More → ReadsHead bytes e r → ReadsHead (bytes ++ more) e r
reads_head_append bytes more e r within decided (inl x) =
    inl (
      x.0,
      subst (λ xs. IsHead xs x.0) (sym (take-append-le e bytes more within)) x.1,
      x.2
          ∙ sym (sized_append (parts_of x.0) (parts_of x.0).size (drop e bytes) more (λ h. decided (x.2 ∙ h)))
          ∙ ap (reading_behind (parts_of x.0)) (sym (drop-append-le e bytes more within)),
    )
reads_head_append bytes more e r within decided (inr x) =
    inr (λ head is. x.0 head (subst (λ xs. IsHead xs head) (take-append-le e bytes more within) is), x.1)

pub reads_append : (bytes more : List ℕ) (r : Reading) → r ≢ More → Reads bytes r → Reads (bytes ++ more) r
reads_append bytes more r decided x = by_end (head_end bytes) refl x
  where
    by_length : (t : Bool) → t ≡ nat_lt (length bytes) 16384 → head_end bytes ≡ None → r ≡ cond t More (Refused 400) → Reads (bytes ++ more) r
    by_length true e none is = absurd (decided is)
    by_length false e none is =
        let long : 16384 ≤ length bytes = grind (arith, nat_tests, e) in
        let still : nat_lt (length (bytes ++ more)) 16384 ≡ false = (let all = length-append bytes more in grind (arith, nat_tests)) in
        subst (λ (o : Option ℕ). ReadsTo o (bytes ++ more) r) (sym (ap end_of_lines (take-append-le 16384 bytes more long) ∙ none))
        (is ∙ ap (λ t. cond t More (Refused 400)) (sym still))

    by_end : (o : Option ℕ) → o ≡ head_end bytes → ReadsTo o bytes r → Reads (bytes ++ more) r
    by_end None e is = by_length (nat_lt (length bytes) 16384) refl (sym e) is
    by_end (Some n) e is =
        subst (λ (o : Option ℕ). ReadsTo o (bytes ++ more) r) (sym (head_end_append bytes more n (sym e)))
        (reads_head_append bytes more n r (head_end_within bytes n (sym e)) decided is)

-- ---- a head that has come

-- with a head that ends there, all depends on what stands behind it
pub reads_behind : (bytes : List ℕ) (e : ℕ) (head : RequestHead) → head_end bytes ≡ Some e → IsHead (take e bytes) head →
    Reads bytes (reading_behind (parts_of head) (drop e bytes))
reads_behind bytes e head ended is =
    subst (λ (o : Option ℕ). ReadsTo o bytes (reading_behind (parts_of head) (drop e bytes))) (sym ended) (inl (head, is, refl))

-- the same with more bytes
reads_behind_more : (bytes more : List ℕ) (e : ℕ) (head : RequestHead) → head_end bytes ≡ Some e → IsHead (take e bytes) head →
    Reads (bytes ++ more) (reading_behind (parts_of head) (drop e (bytes ++ more)))
reads_behind_more bytes more e head ended is =
    reads_behind (bytes ++ more) e head (head_end_append bytes more e ended)
    (subst (λ xs. IsHead xs head) (sym (take-append-le e bytes more (head_end_within bytes e ended))) is)

pub short_behind : (parts : Parts) (size : Result ℕ ℕ) (n : ℕ) (xs : List ℕ) → size ≡ Ok n → length xs < n → sized parts size xs ≡ More
short_behind parts size n xs is short =
    let test : nat_lt (length xs) n ≡ true = grind (arith, nat_tests) in
    ap (λ (s : Result ℕ ℕ). sized parts s xs) is ∙ ap (λ t. cond t More (Whole (request_of parts (take n xs)))) test

pub long_behind : (parts : Parts) (size : Result ℕ ℕ) (n : ℕ) (xs : List ℕ) → size ≡ Ok n → n ≤ length xs → sized parts size xs ≡ Whole (request_of parts (take n xs))
long_behind parts size n xs is long =
    let test : nat_lt (length xs) n ≡ false = grind (arith, nat_tests) in
    ap (λ (s : Result ℕ ℕ). sized parts s xs) is ∙ ap (λ t. cond t More (Whole (request_of parts (take n xs)))) test

-- what is known with a head that has come
pub awaited_body : (a : Awaited) (bytes : List ℕ) (e n : ℕ) (head : RequestHead) (places : HeadPlaces) → IsAwaited a bytes → head_end bytes ≡ Some e → IsHead (take e bytes) head →
    (parts_of head).size ≡ Ok n → IsKept bytes (e + n) places → IsAwaited (record { searched = a.searched; wanted = e + n; head = Some places }) bytes
awaited_body a bytes e n head places known ended is size kept = record {
  brought = known.brought;
  searched = known.searched;
  below = λ more short.
      (let all = length-drop e (bytes ++ more) in
      let within = head_end_within bytes e ended in
      let long = length-append bytes more in
      subst (Reads (bytes ++ more)) (short_behind (parts_of head) (parts_of head).size n (drop e (bytes ++ more)) size (omega arith))
      (reads_behind_more bytes more e head ended is));
  from = λ more enough came is_more.
      (let all = length-drop e (bytes ++ more) in
      let whole = long_behind (parts_of head) (parts_of head).size n (drop e (bytes ++ more)) size (omega arith) in
      let same = reads_one (bytes ++ more) _ More (reads_behind_more bytes more e head ended is) is_more in
      never (sym whole ∙ same));
  head = kept;
}
  where
    never : {r : Request} → Whole r ≡ More → ⊥
    never h = cc

-- ---- what is awaited

pub none_some : IsSome {T = ℕ} None → ⊥
none_some h = cc

-- with fewer bytes than are wanted
pub still_more : (a : Awaited) (bytes : List ℕ) → IsAwaited a bytes → length bytes < a.wanted → Reads bytes More
still_more a bytes known short =
    subst (λ xs. Reads xs More) (append-nil bytes) (known.below [] (let all = append-nil bytes in omega (arith, ap length all)))

-- where the head has come and more bytes are wanted, so many are wanted
pub just_wanted : (a : Awaited) (bytes : List ℕ) → IsAwaited a bytes → length bytes < a.wanted → IsSome (head_end bytes) → (more : List ℕ) →
    (length (bytes ++ more) < a.wanted → Reads (bytes ++ more) More) × (Reads (bytes ++ more) More → length (bytes ++ more) < a.wanted)
just_wanted a bytes known short came more = (known.below more, by_test (nat_lt (length (bytes ++ more)) a.wanted) refl)
  where
    still_came : IsSome (head_end (take (a.wanted - 1) (bytes ++ more)))
    still_came =
        by_end (head_end bytes) refl came
      where
        by_end : (o : Option ℕ) → o ≡ head_end bytes → IsSome o → IsSome (head_end (take (a.wanted - 1) (bytes ++ more)))
        by_end None e some = absurd (none_some some)
        by_end (Some n) e some =
            subst IsSome
            (sym (ap head_end (take_append (a.wanted - 1) bytes more ∙ ap (λ xs. xs ++ take (a.wanted - 1 - length bytes) more) (take_all (a.wanted - 1) bytes (omega arith)))
            ∙ head_end_append bytes (take (a.wanted - 1 - length bytes) more) n (sym e)))
            refl

    by_test : (t : Bool) → t ≡ nat_lt (length (bytes ++ more)) a.wanted → Reads (bytes ++ more) More → length (bytes ++ more) < a.wanted
    by_test true e is = grind (arith, nat_tests, e)
    by_test false e is = absurd (known.from more (grind (arith, nat_tests, e)) still_came is)

-- ---- a head that has not come

pub not_come : (bytes : List ℕ) → head_end bytes ≡ None → length bytes < 16384 → Reads bytes More
not_come bytes none short =
    let test : nat_lt (length bytes) 16384 ≡ true = grind (arith, nat_tests) in
    subst (λ (o : Option ℕ). ReadsTo o bytes More) (sym none) (ap (λ t. cond t More (Refused 400)) (sym test))

pub too_long : (bytes : List ℕ) → head_end bytes ≡ None → 16384 ≤ length bytes → Reads bytes (Refused 400)
too_long bytes none long =
    let test : nat_lt (length bytes) 16384 ≡ false = grind (arith, nat_tests) in
    subst (λ (o : Option ℕ). ReadsTo o bytes (Refused 400)) (sym none) (ap (λ t. cond t More (Refused 400)) (sym test))

nothing_more : (xs : List ℕ) → length xs ≡ 0 → xs ≡ []
nothing_more [] h = refl
nothing_more (x ∷ xs) h = absurd (omega arith)

-- without a head all bytes were searched, and one more is wanted
pub awaited_head : (bytes : List ℕ) (h : Option HeadPlaces) → head_end bytes ≡ None → length bytes < 16384 → h ≡ None →
    IsAwaited (record { searched = length bytes; wanted = length bytes + 1; head = h }) bytes
awaited_head bytes h none short nothing_kept = record {
  brought = omega (arith, length-take 16384 bytes);
  searched = ap end_of_lines (take_all (length bytes) bytes (omega arith) ∙ sym (take_all 16384 bytes (omega arith))) ∙ none;
  below = λ more few.
      (let all = length-append bytes more in
      let nothing : more ≡ [] = nothing_more more (omega arith) in
      subst (λ xs. Reads xs More) (sym (ap (λ xs. bytes ++ xs) nothing ∙ append-nil bytes)) (not_come bytes none short));
  from = λ more enough came is_more.
      (let same : take (length bytes + 1 - 1) (bytes ++ more) ≡ bytes =
      ap (λ n. take n (bytes ++ more)) (let e : length bytes + 1 - 1 ≡ length bytes = omega arith in e)
      ∙ take-append-le (length bytes) bytes more (omega arith) ∙ take_all (length bytes) bytes (omega arith) in
      none_some (subst IsSome (ap head_end same ∙ none) came));
  head = subst (λ (o : Option HeadPlaces). IfSome o (IsKept bytes (length bytes + 1))) (sym nothing_kept) tt;
}

-- ---- the size of a body

within_limit : (n m : ℕ) → size_within n ≡ Ok m → m ≤ 1048576
within_limit n m h = by_test (nat_lt 1048576 n) refl h
  where
    by_test : (t : Bool) → t ≡ nat_lt 1048576 n → cond {A = Result ℕ ℕ} t (Err 413) (Ok n) ≡ Ok m → m ≤ 1048576
    by_test true e is = absurd (cc)
    by_test false e is = (let same : n ≡ m = cc in grind (arith, nat_tests, e))

unsaid_limit : (method : Method) (n : ℕ) → size_unsaid method ≡ Ok n → n ≤ 1048576
unsaid_limit Get n h = (let same : 0 ≡ n = cc in omega arith)
unsaid_limit Post n h = absurd (cc)
unsaid_limit Other n h = (let same : 0 ≡ n = cc in omega arith)

said_limit : (t : Bool) (said : Result ℕ ℕ) (n : ℕ) → (said ≡ Ok n → n ≤ 1048576) → cond {A = Result ℕ ℕ} t said (Err 400) ≡ Ok n → n ≤ 1048576
said_limit true said n limit h = limit h
said_limit false said n limit h = absurd (cc)

size_limit : (method : Method) (coded said : List (List ℕ)) (n : ℕ) → size_of method coded said ≡ Ok n → n ≤ 1048576
size_limit method [] [] n h = unsaid_limit method n h
size_limit method [] (value ∷ []) n h = said_limit (is_length value) (size_within (digits_value 10 value)) n (within_limit (digits_value 10 value) n) h
size_limit method [] (value ∷ other ∷ others) n h = absurd (cc)
size_limit method (coding ∷ codings) said n h = absurd (cc)

-- a body that is taken is within the limit
pub body_limit : (parts : Parts) (head : RequestHead) (n : ℕ) → parts ≡ parts_of head → parts.size ≡ Ok n → n ≤ 1048576
body_limit parts head n same h =
    size_limit (method_of head.method) (values (codes "transfer-encoding") (lines_of head)) (values (codes "content-length") (lines_of head)) n
    (sym (λ i. (same i).size) ∙ h)
