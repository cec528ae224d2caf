-- A line of a hub's config is no guard, and says no row of what was asked or opened.
use Rattle.std.proofs.Common.{◌≡◌, ℕ, Bool, true, false, cond, List, [], ◌∷◌, Option, None, Some, IfSome, codes, refl, subst}
use Rattle.std.specs.Prelude.{option_and_then}
use Rattle.std.specs.List.{find, list_all}
use Rattle.std.specs.Option.{option_map, option_or}
use Rattle.std.specs.Str.{bytes_eq}
use Rattle.xml_spec.proofs.Tests.{both_true}
use Rattle.provider_config.specs.declared.hub_line.HubLine.{HubLine}
use Rattle.provider_config.specs.declared.hub_line.HubLine.TheVariants as hub_lines
use Rattle.provider_config.specs.declared.idp_line.IdpLine.{IdpLine}
use Rattle.provider_config.specs.declared.idp_line.IdpLine.TheVariants as idp_lines
use Rattle.provider_config.specs.declared.line.Purpose.TheVariants.{Serve}
use Rattle.provider_config.specs.declared.line.SpLine.{SpLine}
use Rattle.provider_config.specs.declared.line.SpLine.TheVariants.{Entity, Base, Listen, Idp, KeyIn, KeyOut, IdKey, Skew, NextIn, Policy, Registry, Guard, Asked, Opened}
use Rattle.provider_config.specs.HubLine.{above, below, spelled}
use Rattle.provider_config.specs.IdpLine as idp
use Rattle.provider_config.specs.Line as sp
use Rattle.provider_config.proofs.Sharing.{IsSpelled}

-- ---- what holds where there is something

where_some : {X : Type 0} (P : X → Type 0) (b : Bool) (o : Option X) → IfSome o P → IfSome (cond b o None) P
where_some P true o h = h
where_some P false o h = tt

either_some : {X : Type 0} (P : X → Type 0) (b : Bool) (one other : Option X) → IfSome one P → IfSome other P → IfSome (cond b one other) P
either_some P true one other h k = h
either_some P false one other h k = k

or_some : {X : Type 0} (P : X → Type 0) (one other : Option X) → IfSome one P → IfSome other P → IfSome (option_or one other) P
or_some P None other h k = k
or_some P (Some x) other h k = h

then_some : {X Y : Type 0} (P : X → Type 0) (Q : Y → Type 0) (f : X → Option Y) (o : Option X) → IfSome o P → ((x : X) → P x → IfSome (f x) Q) →
    IfSome (option_and_then f o) Q
then_some P Q f None h g = tt
then_some P Q f (Some x) h g = g x h

then_any : {X Y : Type 0} (Q : Y → Type 0) (f : X → Option Y) (o : Option X) → ((x : X) → IfSome (f x) Q) → IfSome (option_and_then f o) Q
then_any Q f None g = tt
then_any Q f (Some x) g = g x

map_any : {X Y : Type 0} (Q : Y → Type 0) (f : X → Y) (o : Option X) → ((x : X) → Q (f x)) → IfSome (option_map f o) Q
map_any Q f None g = tt
map_any Q f (Some x) g = g x

found_some : {X : Type 0} (has test : X → Bool) (xs : List X) → list_all has xs ≡ true → IfSome (find test xs) (λ x. has x ≡ true)
found_some has test [] all = tt
found_some has test (x ∷ xs) all =
    let parts = both_true (has x) (list_all has xs) all in
    either_some (λ y. has y ≡ true) (test x) (Some x) (find test xs) parts.0 (found_some has test xs parts.1)

-- ---- the lines of a service provider that serves

abbrev has_no_row : SpLine → Bool
has_no_row (Asked row) = false
has_no_row (Opened row) = false
has_no_row line = true

abbrev HasNoRow : SpLine → Type 0
HasNoRow line = has_no_row line ≡ true

valued_has : (key word : List ℕ) → IfSome (sp.valued key word) HasNoRow
valued_has key word =
    either_some HasNoRow (bytes_eq key (codes "skew")) (option_map Skew (sp.skew_of word)) _
    (map_any HasNoRow Skew (sp.skew_of word) (λ milliseconds. refl))
    (found_some has_no_row (λ line. bytes_eq key (sp.key_of line))
    (Entity word ∷ Base word ∷ Listen word ∷ Idp word ∷ KeyIn word ∷ KeyOut word ∷ IdKey word ∷ Policy word ∷ []) refl)

of_three_has : (key first second third : List ℕ) → IfSome (sp.of_three key first second third) HasNoRow
of_three_has key first second third =
    either_some HasNoRow (bytes_eq key (codes "next_in")) (option_map (λ times. NextIn first times) (sp.times_of second third)) _
    (map_any HasNoRow (λ times. NextIn first times) (sp.times_of second third) (λ times. refl))
    (where_some HasNoRow (bytes_eq key (codes "registry")) (Some (Registry (record { file = first; key = second; entity = third }))) refl)

served : (words : List (List ℕ)) → IfSome (sp.spelled Serve words) HasNoRow
served [] = tt
served (key ∷ []) = where_some HasNoRow (bytes_eq key (codes "guard")) (Some Guard) refl
served (key ∷ value ∷ []) = valued_has key value
served (key ∷ first ∷ second ∷ []) = tt
served (key ∷ first ∷ second ∷ third ∷ []) = of_three_has key first second third
served (key ∷ first ∷ second ∷ third ∷ until ∷ []) = tt
served (key ∷ first ∷ second ∷ third ∷ until ∷ next ∷ words) = tt

-- ---- the lines of a hub

abbrev pub is_plain : HubLine → Bool
is_plain (hub_lines.Above Guard) = false
is_plain (hub_lines.Above (Asked row)) = false
is_plain (hub_lines.Above (Opened row)) = false
is_plain line = true

abbrev IsPlain : HubLine → Type 0
IsPlain line = is_plain line ≡ true

above_is : (line : SpLine) → HasNoRow line → IfSome (above line) IsPlain
above_is (Policy name) h = tt
above_is (Registry line) h = tt
above_is Guard h = tt
above_is (Asked row) h = absurd (cc)
above_is (Opened row) h = absurd (cc)
above_is line h = refl

below_is : (line : IdpLine) → IfSome (below line) IsPlain
below_is (idp_lines.Peer names) = refl
below_is line = tt

spelled_is : (number : ℕ) (words : List (List ℕ)) → IfSome (spelled number words) IsPlain
spelled_is number words =
    or_some IsPlain (option_and_then below (idp.spelled number words)) (option_and_then above (sp.spelled Serve words))
    (then_any IsPlain below (idp.spelled number words) below_is) (then_some HasNoRow IsPlain above (sp.spelled Serve words) (served words) above_is)

pub plain_line : (line : HubLine) → IsSpelled spelled line → is_plain line ≡ true
plain_line line by = subst (λ (o : Option HubLine). IfSome o IsPlain) by.2 (spelled_is by.0 by.1)
