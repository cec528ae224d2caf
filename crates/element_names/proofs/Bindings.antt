-- What the program's table and levels say of a scope, and how they change.
use Rattle.std.proofs.Common.{◌≡◌, ℕ, zero, suc, ◌+◌, ◌-◌, ◌<◌, ◌≤◌, Bool, true, false, cond, List, [], ◌∷◌, ◌++◌, length, get_or, take, drop, map, Option, Some, None, IsSome, MatchOption, refl, sym, ap, ◌∙◌, subst, append_assoc, arith}
use Rattle.std.specs.List.{AllByRecursion, slice_get, list_any}
use Rattle.std.specs.Option.{option_or}
use Rattle.std.specs.Map.{lookup}
use Rattle.std.specs.Str.{bytes_eq}
use Rattle.std.proofs.lemmas.List.{get_or_append_left, append-nil, length-drop, length-append, take_more, map-append}
use Rattle.std.proofs.lemmas.List.Elements.{filter_map-append}
use Rattle.namespace_scope.specs.Levels.{Pair, Level, lookup_of, declared_in}
use Rattle.xml_spec.specs.Names.{Scope, bound, binding_of, declarations, xmlns_namespace}
use Rattle.element_names.specs.Tables.{added}
use Rattle.element_names.specs.Spaces.{binding_at, bindings_of, AreNumbered, IsReady, Grows, Binds}
use Rattle.element_names.proofs.TableIndexing.{found_still, found_is, found_within, found_value}
use Rattle.xml_tokens.specs.Views.{attribute_view}
use Rattle.xml_tokens.specs.declared.token.Attribute.{Attribute}
use Rattle.element_names.specs.declared.spaces.Spaces.{Spaces}

-- what a look-up gives leads to what the prefix is bound to
abbrev pub LeadsTo : List (List ℕ) → Option ℕ → Option (List ℕ) → Type 0
LeadsTo table number namespace =
    MatchOption number (namespace ≡ None) (λ n. IsSome namespace × (slice_get table n ≡ namespace))

leads_in_level : (table : List (List ℕ)) (p : List ℕ) (level : Level) (outer : Option ℕ) (scope : Scope) →
    AllByRecursion (λ (pair : Pair). pair.1 < length table) level → LeadsTo table outer (bound scope p) →
    LeadsTo table (option_or (lookup (λ declared. bytes_eq declared p) level) outer) (bound (map (binding_at table) level ++ scope) p)
leads_in_level table p [] outer scope h k = k
leads_in_level table p (pair ∷ level) outer scope h k = by_test (bytes_eq pair.0 p) (leads_in_level table p level outer scope h.1 k)
  where
    by_test : (b : Bool) →
        LeadsTo table (option_or (lookup (λ declared. bytes_eq declared p) level) outer) (bound (map (binding_at table) level ++ scope) p) →
        LeadsTo table (option_or (cond b (Some pair.1) (lookup (λ declared. bytes_eq declared p) level)) outer)
        (cond b (Some (get_or table pair.1 [])) (bound (map (binding_at table) level ++ scope) p))
    by_test true behind = (refl, found_is table pair.1 [] h.0)
    by_test false behind = behind

pub looked_up : (table : List (List ℕ)) (p : List ℕ) (levels : List Level) → AreNumbered (length table) levels →
    LeadsTo table (lookup_of p levels) (bound (bindings_of table levels) p)
looked_up table p [] h = refl
looked_up table p (level ∷ outer) h =
    leads_in_level table p level (lookup_of p outer) (bindings_of table outer) h.0 (looked_up table p outer h.1)

-- numbers stay below a greater bound
more_in_level : (n m : ℕ) (level : Level) → n ≤ m → AllByRecursion (λ (pair : Pair). pair.1 < n) level → AllByRecursion (λ (pair : Pair). pair.1 < m) level
more_in_level n m [] le h = tt
more_in_level n m (pair ∷ level) le h = (let less : pair.1 < n = h.0 in omega arith, more_in_level n m level le h.1)

pub more_numbered : (n m : ℕ) (levels : List Level) → n ≤ m → AreNumbered n levels → AreNumbered m levels
more_numbered n m [] le h = tt
more_numbered n m (level ∷ outer) le h = (more_in_level n m level le h.0, more_numbered n m outer le h.1)

pub numbered_drop : (n k : ℕ) (levels : List Level) → AreNumbered n levels → AreNumbered n (drop k levels)
numbered_drop n zero levels h = h
numbered_drop n (suc k) [] h = tt
numbered_drop n (suc k) (level ∷ outer) h = numbered_drop n k outer h.1

-- the bindings stay where the table grows
same_in_level : (table more : List (List ℕ)) (level : Level) → AllByRecursion (λ (pair : Pair). pair.1 < length table) level →
    map (binding_at (table ++ more)) level ≡ map (binding_at table) level
same_in_level table more [] h = refl
same_in_level table more (pair ∷ level) h =
    let here : get_or (table ++ more) pair.1 [] ≡ get_or table pair.1 [] = get_or_append_left table more [] pair.1 h.0 in
    (λ i. record { prefix = pair.0; namespace = here i } ∷ same_in_level table more level h.1 i)

pub same_bindings : (table more : List (List ℕ)) (levels : List Level) → AreNumbered (length table) levels →
    bindings_of (table ++ more) levels ≡ bindings_of table levels
same_bindings table more [] h = refl
same_bindings table more (level ∷ outer) h =
    (λ i. same_in_level table more level h.0 i ++ same_bindings table more outer h.1 i)

-- tables grow in steps
pub grows_not : (table : List (List ℕ)) → Grows table table
grows_not table = ([], sym (append-nil table))

pub grows_twice : (a b c : List (List ℕ)) → Grows a b → Grows b c → Grows a c
grows_twice a b c g h = (g.0 ++ h.0, h.1 ∙ ap (λ t. t ++ h.0) g.1 ∙ append_assoc a g.0 h.0)

-- levels that are dropped in two steps
drop_none : {X : Type 0} (k : ℕ) → drop {A = X} k [] ≡ []
drop_none zero = refl
drop_none (suc k) = refl

drop_steps : {X : Type 0} (j k : ℕ) (xs : List X) → drop j (drop k xs) ≡ drop (j + k) xs
drop_steps j zero xs = ap (λ n. drop n xs) (let same : j ≡ j + 0 = omega arith in same)
drop_steps zero (suc k) [] = sym (drop_none (0 + suc k))
drop_steps (suc j) (suc k) [] = sym (drop_none (suc j + suc k))
drop_steps j (suc k) (x ∷ xs) =
    drop_steps j k xs ∙ ap (λ n. drop n (x ∷ xs)) (let same : suc (j + k) ≡ j + suc k = omega arith in same)

pub drop_more : {X : Type 0} (all part next : List X) → part ≡ drop (length all - length part) all → next ≡ drop 1 part →
    0 < length part → next ≡ drop (length all - length next) all
drop_more all part next is popped some =
    let shorter : length next ≡ length part - 1 = ap length popped ∙ length-drop 1 part in
    let within : length part ≤ length all = omega (arith, ap length is, length-drop (length all - length part) all) in
    let count : 1 + (length all - length part) ≡ length all - length next = omega arith in
    popped ∙ ap (drop 1) is ∙ drop_steps 1 (length all - length part) all ∙ ap (λ n. drop n all) count

-- a level ends
pub ready_popped : (before after : Spaces) → IsReady before → 1 < length before.scope → after.scope ≡ drop 1 before.scope →
    after.table ≡ before.table → after.levels ≡ before.levels - 1 → IsReady after
ready_popped before after ready more scope table levels =
    let same = table in
    let shorter : length after.scope ≡ length before.scope - 1 = ap length scope ∙ length-drop 1 before.scope in
    let count = ready.count in
    record {
      numbered =
          subst (λ n. AreNumbered n after.scope) (sym (ap length same))
          (subst (AreNumbered (length before.table)) (sym scope) (numbered_drop (length before.table) 1 before.scope ready.numbered));
      count = omega arith;
      some = omega arith;
      none = ap (λ t. slice_get t 0) same ∙ ready.none;
      xmlns = ap (λ t. slice_get t 2) same ∙ ready.xmlns;
    }

-- a table grows by a text or stays
pub grows_added : (table : List (List ℕ)) (text : List ℕ) → Grows table (added table text)
grows_added table text = by_test (list_any (λ t. bytes_eq t text) table)
  where
    by_test : (b : Bool) → Grows table (cond b table (table ++ text ∷ []))
    by_test true = grows_not table
    by_test false = (text ∷ [], refl)

-- one more pair in the innermost level
bound_one : (table more : List (List ℕ)) (p text : List ℕ) (n : ℕ) (levels : List Level) → AreNumbered (length table) levels → 0 < length levels →
    slice_get (table ++ more) n ≡ Some text →
    bindings_of (table ++ more) (declared_in p n levels) ≡ record { prefix = p; namespace = text } ∷ bindings_of table levels
bound_one table more p text n [] h some found = absurd (omega arith)
bound_one table more p text n (level ∷ outer) h some found =
    (λ i. record { prefix = p; namespace = found_value (table ++ more) n text [] found i }
    ∷ same_bindings table more (level ∷ outer) h i)

numbered_one : (n m k : ℕ) (p : List ℕ) (levels : List Level) → n ≤ m → k < m → AreNumbered n levels → AreNumbered m (declared_in p k levels)
numbered_one n m k p [] le less h = tt
numbered_one n m k p (level ∷ outer) le less h = ((less, more_in_level n m level le h.0), more_numbered n m outer le h.1)

outer_same : (p : List ℕ) (n : ℕ) (levels : List Level) → drop 1 (declared_in p n levels) ≡ drop 1 levels
outer_same p n [] = refl
outer_same p n (level ∷ outer) = refl

declared_length : (p : List ℕ) (n : ℕ) (levels : List Level) → length (declared_in p n levels) ≡ length levels
declared_length p n [] = refl
declared_length p n (level ∷ outer) = refl

pub binds_one : (before after : Spaces) (p text : List ℕ) (n : ℕ) → IsReady before → after.table ≡ added before.table text →
    slice_get after.table n ≡ Some text → after.scope ≡ declared_in p n before.scope → after.levels ≡ before.levels →
    Binds before after (record { prefix = p; namespace = text } ∷ [])
binds_one before after p text n ready table found scope levels =
    let grown = grows_added before.table text in
    let more = grown.0 in
    let is : after.table ≡ before.table ++ more = table ∙ grown.1 in
    let longer : length before.table ≤ length after.table = omega (arith, ap length is, length-append before.table more) in
    let within : n < length after.table = found_within after.table n text found in
    let count = ready.count in
    let lengths : length after.scope ≡ length before.scope = ap length scope ∙ declared_length p n before.scope in
    let some = ready.some in
    record {
      ready = record {
        numbered = subst (AreNumbered (length after.table)) (sym scope) (numbered_one (length before.table) (length after.table) n p before.scope longer within ready.numbered);
        count = omega arith;
        some = omega arith;
        none = ap (λ t. slice_get t 0) is ∙ found_still before.table more 0 [] ready.none;
        xmlns = ap (λ t. slice_get t 2) is ∙ found_still before.table more 2 xmlns_namespace ready.xmlns;
      };
      bound =
          (λ i. bindings_of (is i) (scope i))
          ∙ bound_one before.table more p text n before.scope ready.numbered ready.some (subst (λ t. slice_get t n ≡ Some text) is found);
      outer = ap (drop 1) scope ∙ outer_same p n before.scope;
      grows = (more, is);
    }

-- the declarations of one more attribute, in front of those that are bound
pub bound_more : (attributes : List Attribute) (i : ℕ) (x : Attribute) (before after : Scope) → 0 < i → i ≤ length attributes →
    x ≡ get_or attributes (i - 1) x → after ≡ declarations (attribute_view x ∷ []) ++ before →
    declarations (map attribute_view (take (i - 1) attributes)) ++ after ≡ declarations (map attribute_view (take i attributes)) ++ before
bound_more attributes i x before after some within is bound =
    let front = map attribute_view (take (i - 1) attributes) in
    let last : i - 1 < length attributes = omega arith in
    let count : i - 1 + 1 ≡ i = omega arith in
    let taken : take i attributes ≡ take (i - 1) attributes ++ x ∷ [] =
    ap (λ n. take n attributes) (sym count) ∙ take_more attributes (i - 1) x last ∙ ap (λ (y : Attribute). take (i - 1) attributes ++ y ∷ []) (sym is) in
    ap (λ bindings. declarations front ++ bindings) bound
    ∙ sym (append_assoc (declarations front) (declarations (attribute_view x ∷ [])) before)
    ∙ sym (ap (λ (list : List Attribute). declarations (map attribute_view list) ++ before) taken
    ∙ ap (λ list. declarations list ++ before) (map-append attribute_view (take (i - 1) attributes) (x ∷ []))
    ∙ ap (λ bindings. bindings ++ before) (filter_map-append binding_of front (attribute_view x ∷ [])))
