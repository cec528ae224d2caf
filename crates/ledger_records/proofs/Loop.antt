-- What single steps of reading give, and items read one after the other, as a loop does.
use Rattle.std.proofs.Common.{◌≡◌, ℕ, zero, suc, ◌+◌, ◌-◌, ◌<◌, ◌≤◌, Bool, true, false, cond, get_or, List, [], ◌∷◌, ◌++◌, Option, Some, None, refl, sym, ap, ◌∙◌, append_assoc, arith}
use Rattle.std.specs.Prelude.{IsUtf8}
use Rattle.std.specs.Str.{is_utf8}
use Rattle.std.proofs.lemmas.Str.{IsUtf8-from_is_utf8, is_utf8-from_IsUtf8}
use Rattle.std.proofs.lemmas.List.{append-nil}
use Rattle.ledger_records.specs.declared.reading.Unread.{Unread}
use Rattle.ledger_records.specs.declared.reading.Unread.TheVariants as errors
use Rattle.ledger_records.specs.declared.key_number.KeyNumber.{KeyNumber}
use Rattle.ledger_records.specs.declared.key_number.KeyNumber.TheVariants.{First, Second}
use Rattle.ledger_records.specs.Fields.{key_byte}
use Rattle.ledger_records.specs.Reading.{Misses, key_at, many_at}
use Rattle.owned_values.specs.Options.{◌>>=◌, in_utf8}

-- what was read before, and what is still read
abbrev pub with_front : {X : Type 0} → List X → Option (List X × List ℕ) → Option (List X × List ℕ)
with_front front read = read >>= λ x. Some (front ++ x.0, x.1)

regroup : {X : Type 0} (front : List X) (n : X) (read : Option (List X × List ℕ)) → with_front front (read >>= λ x. Some (n ∷ x.0, x.1)) ≡ with_front (front ++ n ∷ []) read
regroup {X} front n (Some x) = ap (λ (ns : List X). Some (ns, x.1)) (simp append_assoc)
regroup front n None = refl

no_front : {X : Type 0} (read : Option (List X × List ℕ)) → with_front [] read ≡ read
no_front (Some x) = refl
no_front None = refl

pub begins : {X : Type 0} (at : List ℕ → Option (X × List ℕ)) (front : List X) (count : ℕ) (bytes : List ℕ) → front ≡ [] → with_front front (many_at at (count - 0) bytes) ≡ many_at at count bytes
begins at front count bytes empty =
    let k : count - 0 ≡ count = omega arith in
    rw (empty, k) (no_front (many_at at count bytes))

pub goes_on : {X : Type 0} (at : List ℕ → Option (X × List ℕ)) (front : List X) (count i : ℕ) (bytes : List ℕ) (n : X) (after : List ℕ) (total : Option (List X × List ℕ)) → i < count → at bytes ≡ Some (n, after)
    → with_front front (many_at at (count - i) bytes) ≡ total → with_front (front ++ n ∷ []) (many_at at (count - (i + 1)) after) ≡ total
unfolding many_at
goes_on at front count i bytes n after total lt h so_far =
    let k : count - i ≡ suc (count - (i + 1)) = omega arith in
    let one : with_front front (many_at at (count - i) bytes) ≡ with_front (front ++ n ∷ []) (many_at at (count - (i + 1)) after) = rw (k, h) (regroup front n (many_at at (count - (i + 1)) after)) in
    sym one ∙ so_far

pub ends : {X : Type 0} (at : List ℕ → Option (X × List ℕ)) (e : Unread) (front : List X) (count i : ℕ) (bytes : List ℕ) (total : Option (List X × List ℕ)) → i < count → Misses e (at bytes)
    → with_front front (many_at at (count - i) bytes) ≡ total → Misses e total
unfolding many_at
ends at errors.NoMemory front count i bytes total lt h so_far = tt
ends at errors.Malformed front count i bytes total lt h so_far =
    let k : count - i ≡ suc (count - (i + 1)) = omega arith in
    let one : with_front front (many_at at (count - i) bytes) ≡ None = rw (k, h) refl in
    sym so_far ∙ one

pub is_done : {X : Type 0} (at : List ℕ → Option (X × List ℕ)) (front : List X) (count i : ℕ) (bytes : List ℕ) (total : Option (List X × List ℕ)) → count ≤ i → with_front front (many_at at (count - i) bytes) ≡ total → total ≡ Some (front, bytes)
unfolding many_at
is_done {X} at front count i bytes total le so_far =
    let k : count - i ≡ 0 = omega arith in
    let one : with_front front (many_at at (count - i) bytes) ≡ Some (front, bytes) = rw k (ap (λ (ns : List X). Some (ns, bytes)) (append-nil front)) in
    sym so_far ∙ one

-- ---- texts

pub text_in_utf8 : (bytes text : List ℕ) → text ≡ bytes → IsUtf8 bytes → in_utf8 bytes ≡ Some text
text_in_utf8 bytes text same is = ap (λ t. cond t (Some bytes) None) (is_utf8-from_IsUtf8 bytes is) ∙ ap Some (sym same)

no_text : (bytes : List ℕ) (t : Bool) → is_utf8 bytes ≡ t → ¬ (IsUtf8 bytes) → cond t (Some bytes) None ≡ None
no_text bytes true is not = absurd (not (IsUtf8-from_is_utf8 bytes is))
no_text bytes false is not = refl

pub not_in_utf8 : (bytes : List ℕ) → ¬ (IsUtf8 bytes) → in_utf8 bytes ≡ None
not_in_utf8 bytes not = no_text bytes (is_utf8 bytes) refl not

-- ---- keys

pub no_key : (bytes : List ℕ) → ((key : KeyNumber) → ¬ (key_byte key ≡ get_or bytes 0 0)) → key_at bytes ≡ None
unfolding key_at
no_key [] none = refl
no_key (zero ∷ rest) none = refl
no_key (suc zero ∷ rest) none = absurd (none First refl)
no_key (suc (suc zero) ∷ rest) none = absurd (none Second refl)
no_key (suc (suc (suc n)) ∷ rest) none = refl
