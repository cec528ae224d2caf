-- Where names stand among users.
use Rattle.std.proofs.Common.{◌≡◌, ℕ, suc, ◌<◌, ◌≤◌, Bool, true, false, cond, ◌&&◌, ◌||◌, not, nat_le, List, [], ◌∷◌, ◌++◌, length, get_or, Option, None, Some, is_some, unwrap_or, nat_lt, String, find, refl, sym, ap, ◌∙◌, arith}
use Rattle.std.specs.List.{list_all, list_any}
use Rattle.std.specs.Option.{option_map}
use Rattle.std.specs.Str.{bytes_eq}
use Rattle.std.specs.BTreeMap.{BTreeMap, get_by_text}
use Rattle.std.specs.declared.alloc.Global.{Global}
use Rattle.std.proofs.lemmas.Bool.{false≢true}
use Rattle.std.proofs.lemmas.Bool.Decides.{same_from_decides, nat_tests}
use Rattle.std.proofs.lemmas.List.Folds.{list_any-append}
use Rattle.std.proofs.lemmas.Slice.Eq.{bytes_eq-Decides}
use Rattle.owned_values.specs.declared.attributes.Attribute.{Attribute}
use Rattle.user_store.specs.declared.user.User.{User}
use Rattle.user_store.specs.Store.{has_name, has_user, is_password, checked, with_attribute}
use Rattle.user_store.specs.Places.{place_of, differ, IsStore}

bytes_eq-sym : (xs ys : List ℕ) → bytes_eq xs ys ≡ bytes_eq ys xs
bytes_eq-sym xs ys =
    same_from_decides (bytes_eq xs ys) (bytes_eq ys xs) (bytes_eq-Decides xs ys)
    (λ e. sym ((bytes_eq-Decides ys xs).0 e), λ e. (bytes_eq-Decides ys xs).1 (sym e))

either_false : (a b : Bool) → (a || b) ≡ false → (a ≡ false) × (b ≡ false)
either_false true b h = absurd (false≢true (sym h))
either_false false b h = (refl, h)

both_true : (a b : Bool) → (a && b) ≡ true → (a ≡ true) × (b ≡ true)
both_true true b h = (refl, h)
both_true false b h = absurd (false≢true h)

not_true : (a : Bool) → not a ≡ true → a ≡ false
not_true true h = absurd (false≢true h)
not_true false h = refl

-- ---- one more user

-- the first, or else the second
abbrev or_place : Option ℕ → Option ℕ → Option ℕ
or_place None other = other
or_place (Some n) other = Some n

place-push : (name : List ℕ) (users : List User) (user : User) →
    place_of name (users ++ user ∷ []) ≡ or_place (place_of name users) (cond (bytes_eq name user.name) (Some (length users)) None)
place-push name [] user = refl
place-push name (first ∷ users) user =
    ap (λ o. cond (bytes_eq name first.name) (Some 0) (option_map suc o)) (place-push name users user)
    ∙ by_tests (bytes_eq name first.name) (place_of name users) (bytes_eq name user.name)
  where
    by_tests : (t : Bool) (o : Option ℕ) (last : Bool) →
        cond t (Some 0) (option_map suc (or_place o (cond last (Some (length users)) None)))
        ≡ or_place (cond t (Some 0) (option_map suc o)) (cond last (Some (suc (length users))) None)
    by_tests true o last = refl
    by_tests false None true = refl
    by_tests false None false = refl
    by_tests false (Some n) last = refl

has_user-place : (name : List ℕ) (users : List User) → has_user users name ≡ is_some (place_of name users)
has_user-place name [] = refl
has_user-place name (user ∷ users) =
    ap (λ b. bytes_eq name user.name || b) (has_user-place name users) ∙ by_test (bytes_eq name user.name) (place_of name users)
  where
    by_test : (t : Bool) (o : Option ℕ) → (t || is_some o) ≡ is_some (cond t (Some 0) (option_map suc o))
    by_test true o = refl
    by_test false None = refl
    by_test false (Some n) = refl

any-last : (test : User → Bool) (users : List User) (user : User) → list_any test (users ++ user ∷ []) ≡ (list_any test users || (test user || false))
any-last test users user = list_any-append test users (user ∷ [])

differ-push : (users : List User) (user : User) → differ users ≡ true → has_user users user.name ≡ false → differ (users ++ user ∷ []) ≡ true
differ-push [] user apart fresh = refl
differ-push (first ∷ users) user apart fresh =
    let heads = both_true (not (list_any (λ other. bytes_eq first.name other.name) users)) (differ users) apart in
    let free = either_false (bytes_eq user.name first.name) (has_user users user.name) fresh in
    let alone : list_any (λ other. bytes_eq first.name other.name) (users ++ user ∷ []) ≡ false =
    any-last (λ other. bytes_eq first.name other.name) users user
    ∙ ap (λ b. b || (bytes_eq first.name user.name || false)) (not_true (list_any (λ other. bytes_eq first.name other.name) users) heads.0)
    ∙ ap (λ b. b || false) (bytes_eq-sym first.name user.name ∙ free.0) in
    ap (λ b. not b && differ (users ++ user ∷ [])) alone ∙ differ-push users user heads.1 free.1

rounds-push : (users : List User) (user : User) → list_all (λ u. nat_le 1 u.rounds) users ≡ true → nat_le 1 user.rounds ≡ true →
    list_all (λ u. nat_le 1 u.rounds) (users ++ user ∷ []) ≡ true
rounds-push [] user all last = ap (λ b. b && true) last
rounds-push (first ∷ users) user all last =
    let parts = both_true (nat_le 1 first.rounds) (list_all (λ u. nat_le 1 u.rounds) users) all in
    ap (λ b. b && list_all (λ u. nat_le 1 u.rounds) (users ++ user ∷ [])) parts.0 ∙ rounds-push users user parts.1 last

no_place : (o : Option ℕ) → is_some o ≡ false → o ≡ None
no_place None h = refl
no_place (Some n) h = absurd (false≢true (sym h))

either_place : (n : ℕ) (o : Option ℕ) (b : Bool) → b ≡ false → o ≡ or_place o (cond b (Some n) None)
either_place n None true h = absurd (false≢true (sym h))
either_place n None false h = refl
either_place n (Some m) b h = refl

-- the new name leads to the end, and every other to where it did
leads-push : (users : List User) (user : User) (known : List ℕ → Option ℕ) → ((name : List ℕ) → known name ≡ place_of name users) → has_user users user.name ≡ false →
    (name : List ℕ) → cond (bytes_eq user.name name) (Some (length users)) (known name) ≡ place_of name (users ++ user ∷ [])
leads-push users user known leads fresh name =
    ap (cond (bytes_eq user.name name) (Some (length users))) (leads name)
    ∙ by_name (bytes_eq user.name name) refl ∙ sym (place-push name users user)
  where
    by_name : (t : Bool) → bytes_eq user.name name ≡ t →
        cond t (Some (length users)) (place_of name users) ≡ or_place (place_of name users) (cond (bytes_eq name user.name) (Some (length users)) None)
    by_name true is =
        let none : place_of name users ≡ None =
        no_place (place_of name users) (sym (has_user-place name users) ∙ ap (has_user users) (sym ((bytes_eq-Decides user.name name).0 is)) ∙ fresh) in
        sym (ap (λ o. or_place o (cond (bytes_eq name user.name) (Some (length users)) None)) none
        ∙ ap (λ b. cond b (Some (length users)) None) (bytes_eq-sym name user.name ∙ is))
    by_name false is = either_place (length users) (place_of name users) (bytes_eq name user.name) (bytes_eq-sym name user.name ∙ is)

-- ---- one more attribute

-- the user with this attribute too
abbrev stated : Attribute → User → User
stated attribute user = record user { attributes = user.attributes ++ attribute ∷ [] }

pub last_stated : (attribute : Attribute) (front : List User) (user : User) →
    with_attribute attribute (front ++ user ∷ []) ≡ Some (front ++ stated attribute user ∷ [])
last_stated attribute [] user = refl
last_stated attribute (first ∷ []) user = refl
last_stated attribute (first ∷ second ∷ front) user = ap (option_map (λ others. first ∷ others)) (last_stated attribute (second ∷ front) user)

place-stated : (attribute : Attribute) (name : List ℕ) (front : List User) (user : User) →
    place_of name (front ++ stated attribute user ∷ []) ≡ place_of name (front ++ user ∷ [])
place-stated attribute name front user = place-push name front (stated attribute user) ∙ sym (place-push name front user)

differ-stated : (attribute : Attribute) (front : List User) (user : User) → differ (front ++ stated attribute user ∷ []) ≡ differ (front ++ user ∷ [])
differ-stated attribute [] user = refl
differ-stated attribute (first ∷ front) user =
    ap (λ b. not b && differ (front ++ stated attribute user ∷ []))
    (any-last (λ other. bytes_eq first.name other.name) front (stated attribute user) ∙ sym (any-last (λ other. bytes_eq first.name other.name) front user))
    ∙ ap (λ b. not (list_any (λ other. bytes_eq first.name other.name) (front ++ user ∷ [])) && b) (differ-stated attribute front user)

rounds-stated : (attribute : Attribute) (front : List User) (user : User) →
    list_all (λ u. nat_le 1 u.rounds) (front ++ stated attribute user ∷ []) ≡ list_all (λ u. nat_le 1 u.rounds) (front ++ user ∷ [])
rounds-stated attribute [] user = refl
rounds-stated attribute (first ∷ front) user = ap (λ b. nat_le 1 first.rounds && b) (rounds-stated attribute front user)

pub store_stated : (attribute : Attribute) (front : List User) (user : User) (places : BTreeMap (String Global) ℕ) →
    IsStore (front ++ user ∷ []) places → IsStore (front ++ stated attribute user ∷ []) places
store_stated attribute front user places kept = record {
  apart = differ-stated attribute front user ∙ kept.apart;
  leads = λ name. kept.leads name ∙ sym (place-stated attribute name front user);
  rounds = rounds-stated attribute front user ∙ kept.rounds;
}

pub store_more : (users : List User) (user : User) (old new : BTreeMap (String Global) ℕ) → IsStore users old → 1 ≤ user.rounds →
    has_user users user.name ≡ false →
    ((name : List ℕ) → get_by_text new name ≡ cond (bytes_eq user.name name) (Some (length users)) (get_by_text old name)) → IsStore (users ++ user ∷ []) new
store_more users user old new kept some fresh updated = record {
  apart = differ-push users user kept.apart fresh;
  leads = λ name. updated name ∙ leads-push users user (get_by_text old) kept.leads fresh name;
  rounds = rounds-push users user kept.rounds (some_round user.rounds some);
}
  where
    some_round : (n : ℕ) → 1 ≤ n → nat_le 1 n ≡ true
    some_round n h = grind (arith, nat_tests)

pub store_has : (users : List User) (places : BTreeMap (String Global) ℕ) → IsStore users places → (name : List ℕ) →
    is_some (get_by_text places name) ≡ has_user users name
store_has users places kept name = ap is_some (kept.leads name) ∙ sym (has_user-place name users)

-- ---- a user is found

-- the user, where the password is its own
abbrev accepted : List ℕ → Option User → Option User
accepted password None = None
accepted password (Some user) = cond (is_password password user) (Some user) None

nobody : (name password : List ℕ) (users : List User) → list_any (has_name name) users ≡ false → checked users name password ≡ None
nobody name password [] none = refl
nobody name password (user ∷ users) none =
    let parts = either_false (has_name name user) (list_any (has_name name) users) none in
    ap (λ b. cond (b && is_password password user) (Some user) (checked users name password)) parts.0 ∙ nobody name password users parts.1

-- among users whose names differ, the one of a name has the password, or none has
checked-named : (name password : List ℕ) (users : List User) → differ users ≡ true → checked users name password ≡ accepted password (find (has_name name) users)
checked-named name password [] apart = refl
checked-named name password (user ∷ users) apart =
    let parts = both_true (not (list_any (has_name user.name) users)) (differ users) apart in
    by_name (has_name name user) refl (not_true (list_any (has_name user.name) users) parts.0) (checked-named name password users parts.1)
  where
    by_password : (p : Bool) (rest : Option User) → rest ≡ None → cond p (Some user) rest ≡ cond p (Some user) None
    by_password p rest none = ap (cond p (Some user)) none

    by_name : (t : Bool) → has_name name user ≡ t → list_any (has_name user.name) users ≡ false →
        checked users name password ≡ accepted password (find (has_name name) users) →
        cond (has_name name user && is_password password user) (Some user) (checked users name password)
        ≡ accepted password (cond (has_name name user) (Some user) (find (has_name name) users))
    by_name true is alone rest =
        let same : name ≡ user.name = (bytes_eq-Decides name user.name).0 is in
        let others : checked users name password ≡ None = nobody name password users (ap (λ (n : List ℕ). list_any (has_name n) users) same ∙ alone) in
        ap (λ b. cond (b && is_password password user) (Some user) (checked users name password)) is
        ∙ by_password (is_password password user) (checked users name password) others
        ∙ sym (ap (λ b. accepted password (cond b (Some user) (find (has_name name) users))) is)
    by_name false is alone rest =
        ap (λ b. cond (b && is_password password user) (Some user) (checked users name password)) is ∙ rest
        ∙ sym (ap (λ b. accepted password (cond b (Some user) (find (has_name name) users))) is)

find_at : (name : List ℕ) (users : List User) (n : ℕ) → place_of name users ≡ Some n →
    (n < length users) × ((d : User) → find (has_name name) users ≡ Some (get_or users n d))
find_at name [] n at = absurd (cc)
find_at name (user ∷ users) n at = by_name (has_name name user) (place_of name users) (find_at name users) at
  where
    by_name : (t : Bool) (o : Option ℕ) →
        ((m : ℕ) → o ≡ Some m → (m < length users) × ((d : User) → find (has_name name) users ≡ Some (get_or users m d))) →
        cond t (Some 0) (option_map suc o) ≡ Some n →
        (n < suc (length users)) × ((d : User) → cond t (Some user) (find (has_name name) users) ≡ Some (get_or (user ∷ users) n d))
    by_name true o rest at =
        let first : 0 ≡ n = cc in
        (omega arith, λ d. ap (λ k. Some (get_or (user ∷ users) k d)) first)
    by_name false None rest at = absurd (cc)
    by_name false (Some m) rest at =
        let next : suc m ≡ n = cc in
        let found = rest m refl in
        (omega (arith, found.0), λ d. found.1 d ∙ ap (λ k. Some (get_or (user ∷ users) k d)) next)

pub place_within : (users : List User) (places : BTreeMap (String Global) ℕ) → IsStore users places → (name : List ℕ) (n : ℕ) →
    get_by_text places name ≡ Some n → n < length users
place_within users places kept name n at = (find_at name users n (sym (kept.leads name) ∙ at)).0

checked_at : (users : List User) (places : BTreeMap (String Global) ℕ) → IsStore users places → (name password : List ℕ) (n : ℕ) (d : User) →
    get_by_text places name ≡ Some n → checked users name password ≡ accepted password (Some (get_or users n d))
checked_at users places kept name password n d at =
    checked-named name password users kept.apart ∙ ap (accepted password) ((find_at name users n (sym (kept.leads name) ∙ at)).1 d)

-- what is answered of a user that has the name
pub found_user : (users : List User) (places : BTreeMap (String Global) ℕ) → IsStore users places → (name password : List ℕ) (n : ℕ) (user : User) →
    get_by_text places name ≡ Some n → user ≡ get_or users n user → (right : Bool) → right ≡ is_password password user →
    cond right (Some user) None ≡ checked users name password
found_user users places kept name password n user at same right is =
    ap (λ b. cond b (Some user) None) is ∙ ap (λ (u : User). accepted password (Some u)) same ∙ sym (checked_at users places kept name password n user at)

pub checked_nobody : (users : List User) (places : BTreeMap (String Global) ℕ) → IsStore users places → (name password : List ℕ) →
    get_by_text places name ≡ None → checked users name password ≡ None
checked_nobody users places kept name password absent =
    nobody name password users (has_user-place name users ∙ ap is_some (sym (kept.leads name) ∙ absent))

-- nobody is found where nobody is tried: the one at the place of the name, or the first where it has none
pub nobody_tried : (users : List User) (places : BTreeMap (String Global) ℕ) → IsStore users places → (name password : List ℕ) (place : Option ℕ) →
    get_by_text places name ≡ place → false ≡ nat_lt (unwrap_or place 0) (length users) → checked users name password ≡ None
nobody_tried users places kept name password None at none = checked_nobody users places kept name password at
nobody_tried users places kept name password (Some n) at none = absurd (outside n (length users) none (place_within users places kept name n at))
  where
    outside : (n m : ℕ) → false ≡ nat_lt n m → n < m → ⊥
    outside n m none within = grind (arith, nat_tests)

-- nor where the password is not that of who is tried
pub refused_tried : (users : List User) (places : BTreeMap (String Global) ℕ) → IsStore users places → (name password : List ℕ) (place : Option ℕ) (tried : User) →
    get_by_text places name ≡ place → tried ≡ get_or users (unwrap_or place 0) tried → false ≡ is_password password tried → None ≡ checked users name password
refused_tried users places kept name password None tried at same wrong = sym (checked_nobody users places kept name password at)
refused_tried users places kept name password (Some n) tried at same wrong = found_user users places kept name password n tried at same false wrong
