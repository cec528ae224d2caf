-- The entries of one name among others.
use Rattle.std.proofs.Common.{◌≡◌, ◌≢◌, suc, Bool, true, false, cond, List, [], ◌∷◌, length, map, Some, None, Err, refl, sym, ap, ◌∙◌, arith}
use Rattle.std.specs.Prelude.{filter, find}
use Rattle.std.specs.List.{count_by, AllByRecursion}
use Rattle.std.proofs.lemmas.List.Sums.{length-filter}
use Rattle.metadata.specs.declared.peer.Role.{Role}
use Rattle.meta_registry.specs.declared.entry.Entry.{Entry}
use Rattle.meta_registry.specs.declared.fault.PeerFault.TheVariants.{NotListed}
use Rattle.meta_registry.specs.Aggregate.{answer_in}

-- the first that is found is the first of those that pass
first_passes : {X : Type 0} (p : X → Bool) (xs : List X) (x : X) → find p xs ≡ Some x → (others : List X) × (filter p xs ≡ x ∷ others)
first_passes p [] x e = absurd (let clash : None ≡ Some x = e in cc)
first_passes p (y ∷ xs) x e = which (p y) e (first_passes p xs x)
  where
    which : (b : Bool) → cond b (Some y) (find p xs) ≡ Some x → (find p xs ≡ Some x → (others : List _) × (filter p xs ≡ x ∷ others)) →
        (others : List _) × (cond b (y ∷ filter p xs) (filter p xs) ≡ x ∷ others)
    which true h later = (filter p xs, let same : y ≡ x = cc in ap (λ z. z ∷ filter p xs) same)
    which false h later = later h

none_passes : {X : Type 0} (p : X → Bool) (xs : List X) → find p xs ≡ None → filter p xs ≡ []
none_passes p [] e = refl
none_passes p (y ∷ xs) e = which (p y) e (none_passes p xs)
  where
    which : (b : Bool) → cond b (Some y) (find p xs) ≡ None → (find p xs ≡ None → filter p xs ≡ []) → cond b (y ∷ filter p xs) (filter p xs) ≡ []
    which true h later = absurd (let clash : Some y ≡ None = h in cc)
    which false h later = later h

alone : {X : Type 0} (x : X) (xs others : List X) → xs ≡ x ∷ others → length xs ≡ 1 → xs ≡ x ∷ []
alone x xs [] e one = e
alone x xs (y ∷ others) e one = absurd (let more : length xs ≡ suc (suc (length others)) = ap length e in omega (arith, more, one))

-- where one passes, it is the one that is found
pub only_found : {X : Type 0} (p : X → Bool) (xs : List X) (x : X) → find p xs ≡ Some x → count_by p xs ≡ 1 → filter p xs ≡ x ∷ []
only_found p xs x found one =
    let begins = first_passes p xs x found in alone x (filter p xs) begins.0 begins.1 (length-filter p xs ∙ one)

other_count : (role : Role) (entries : List Entry) → length entries ≢ 1 → answer_in role entries ≡ Err (NotListed (length entries))
other_count role [] h = refl
other_count role (entry ∷ []) h = absurd (h refl)
other_count role (entry ∷ other ∷ entries) h = refl

-- where none is found, or not one passes, their number is the answer
pub none_found : (role : Role) (p : Entry → Bool) (entries : List Entry) → find p entries ≡ None → answer_in role (filter p entries) ≡ Err (NotListed 0)
none_found role p entries none = ap (answer_in role) (none_passes p entries none)

pub not_one : (role : Role) (p : Entry → Bool) (entries : List Entry) → count_by p entries ≢ 1 →
    answer_in role (filter p entries) ≡ Err (NotListed (count_by p entries))
not_one role p entries h =
    other_count role (filter p entries) (λ e. h (sym (length-filter p entries) ∙ e)) ∙ ap (λ n. Err (NotListed n)) (length-filter p entries)

-- those that pass among what is made of others
pub filter_map : {X Y : Type 0} (p : Y → Bool) (f : X → Y) (xs : List X) → filter p (map f xs) ≡ map f (filter (λ x. p (f x)) xs)
filter_map p f [] = refl
filter_map p f (x ∷ xs) = which (p (f x)) (filter_map p f xs)
  where
    which : (b : Bool) → filter p (map f xs) ≡ map f (filter (λ x. p (f x)) xs) →
        cond b (f x ∷ filter p (map f xs)) (filter p (map f xs)) ≡ map f (cond b (x ∷ filter (λ x. p (f x)) xs) (filter (λ x. p (f x)) xs))
    which true later = ap (λ ys. f x ∷ ys) later
    which false later = later

-- what holds of all holds of those that pass
pub all_filtered : {X : Type 0} (P : X → Type 0) (p : X → Bool) (xs : List X) → AllByRecursion P xs → AllByRecursion P (filter p xs)
all_filtered P p [] all = tt
all_filtered P p (x ∷ xs) all = which (p x) (all_filtered P p xs all.1)
  where
    which : (b : Bool) → AllByRecursion P (filter p xs) → AllByRecursion P (cond b (x ∷ filter p xs) (filter p xs))
    which true later = (all.0, later)
    which false later = later
