-- The key of an accepted form is the first or the second.
use Rattle.std.specs.Prelude.{Option, None, Some}
use Rattle.std.proofs.Common.{◌≡◌, ◌⊎◌, inl, inr, ℕ, nat_le, nat_lt, Bool, true, false, if◌then◌else◌, List, [], ◌∷◌, ◌++◌, sym, subst, refl, ap}
use Rattle.std.specs.List.{AllByRecursion}
use Rattle.xml_spec.specs.Tree.{Nodes}
use Rattle.request_rows.specs.Rows.{RowsView}
use Rattle.request_rows.specs.declared.row.NewSession.{NewSession}
use Rattle.sp_rules.specs.Covering.{IsVerified, tagging}
use Rattle.sp_rules.specs.Keys.{Key, first_key, second_key, usable}
use Rattle.sp_rules.specs.Shown.{IsOpening}
use Rattle.sp_rules.specs.declared.accepted.Accepted.{Accepted}
use Rattle.sp_rules.specs.declared.config.NextKey.{NextKey}
use Rattle.sp_rules.specs.declared.config.SpConfig.{SpConfig}

abbrev IsNumbered : Key → Type 0
IsNumbered key = (key.number ≡ 1) ⊎ (key.number ≡ 2)

first_numbered : (bytes : List ℕ) (b : Bool) → AllByRecursion IsNumbered (if b then record { number = 1; bytes = bytes } ∷ [] else [])
first_numbered bytes true = (inl refl, tt)
first_numbered bytes false = tt

second_numbered : (bytes : List ℕ) (b : Bool) → AllByRecursion IsNumbered (if b then record { number = 2; bytes = bytes } ∷ [] else [])
second_numbered bytes true = (inr refl, tt)
second_numbered bytes false = tt

firsts_numbered : (bytes : List ℕ) (next : Option NextKey) (now : ℕ) → AllByRecursion IsNumbered (first_key bytes next now)
firsts_numbered bytes None now = (inl refl, tt)
firsts_numbered bytes (Some next) now = first_numbered bytes (nat_lt now next.until)

seconds_numbered : (next : Option NextKey) (now : ℕ) → AllByRecursion IsNumbered (second_key next now)
seconds_numbered None now = tt
seconds_numbered (Some next) now = second_numbered next.key (nat_le next.from now)

all_both : (one other : List Key) → AllByRecursion IsNumbered one → AllByRecursion IsNumbered other → AllByRecursion IsNumbered (one ++ other)
all_both [] other a b = b
all_both (key ∷ one) other a b = (a.0, all_both one other a.1 b)

picked : (test : Bool) (key found : Key) (rest : Option Key) → IsNumbered key → (rest ≡ Some found → IsNumbered found) → (if test then Some key else rest) ≡ Some found → IsNumbered found
picked true key found rest here there is = subst IsNumbered (let same : key ≡ found = cc in same) here
picked false key found rest here there is = there is

tagging_numbered : (usable keys : List Key) (tree : Nodes) (e : ℕ) (key found : Key) (verified : IsVerified usable tree e key) → AllByRecursion IsNumbered keys
    → tagging keys tree verified.parts ≡ Some found → IsNumbered found
tagging_numbered usable [] tree e key found verified all is = cc
tagging_numbered usable (first ∷ keys) tree e key found verified all is =
    picked _ first found (tagging keys tree verified.parts) all.0 (λ later. tagging_numbered usable keys tree e key found verified all.1 later) is

pub its_key : (config : SpConfig) (rows : RowsView) (horizon now : ℕ) (body : List ℕ) (accepted : Accepted)
    → IsOpening config rows horizon now body accepted → (accepted.session.key ≡ 1) ⊎ (accepted.session.key ≡ 2)
its_key config rows horizon now body accepted opening =
    let b = opening.brought in
    let covered = opening.opens.brings.covered in
    subst (λ (n : ℕ). (n ≡ 1) ⊎ (n ≡ 2)) (sym (ap (λ (s : NewSession). s.key) opening.is.session))
    (tagging_numbered (usable config now) (usable config now) b.carried.tree b.e b.key b.key covered.first
    (all_both (first_key config.key_in config.next_in now) (second_key config.next_in now)
    (firsts_numbered config.key_in config.next_in now) (seconds_numbered config.next_in now))
    covered.first.tagged)
