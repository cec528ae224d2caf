-- One ID more: what the index finds then, and whether a value stands twice.
use Rattle.std.proofs.Common.{◌≡◌, ◌≢◌, ℕ, true, false, Bool, cond, List, [], ◌∷◌, ◌++◌, map, Option, Some, None, is_some, refl, sym, ap, ◌∙◌}
use Rattle.std.specs.List.{AllByRecursion}
use Rattle.std.specs.Map.{update}
use Rattle.std.specs.BTreeMap.{get_by_text}
use Rattle.std.specs.Str.{bytes_eq}
use Rattle.std.proofs.lemmas.Bool.{cond-false, false_from_ne_true}
use Rattle.std.proofs.lemmas.Slice.Eq.{bytes_eq-Decides}
use Rattle.xml_spec.specs.Identifiers.{Identifier, node_with}
use Rattle.saml_tree.specs.Index.{AreOnce, AreIndexed}
use Rattle.saml_tree.specs.declared.ids.Ids.{Ids}

abbrev values_of : List Identifier → List (List ℕ)
values_of identifiers = map (λ identifier. identifier.value) identifiers

differ : (x y : List ℕ) → bytes_eq x y ≡ false → x ≢ y
differ x y h same = absurd (let clash : true ≡ false = sym ((bytes_eq-Decides x y).1 same) ∙ h in cc)

other_value : (x y q : List ℕ) → bytes_eq x y ≡ false → bytes_eq x q ≡ true → bytes_eq y q ≡ false
other_value x y q apart at =
    false_from_ne_true (bytes_eq y q) (λ e. differ x y apart ((bytes_eq-Decides x q).0 at ∙ sym ((bytes_eq-Decides y q).0 e)))

-- the first of the IDs has another value, and so have the others
none_first : (b : Bool) (node : ℕ) (others : Option ℕ) → cond b (Some node) others ≡ None → (b ≡ false) × (others ≡ None)
none_first true node others h = absurd (let clash : Some node ≡ None = h in cc)
none_first false node others h = (refl, h)

last_with : (before : List Identifier) (last : Identifier) (value : List ℕ) → node_with before last.value ≡ None →
    node_with (before ++ last ∷ []) value ≡ cond (bytes_eq last.value value) (Some last.node) (node_with before value)
last_with [] last value free = refl
last_with (first ∷ before) last value free =
    let none = none_first (bytes_eq first.value last.value) first.node (node_with before last.value) free in
    by_test (bytes_eq first.value value) refl none.0 (last_with before last value none.1)
  where
    by_test : (b : Bool) → bytes_eq first.value value ≡ b → bytes_eq first.value last.value ≡ false →
        node_with (before ++ last ∷ []) value ≡ cond (bytes_eq last.value value) (Some last.node) (node_with before value) →
        cond b (Some first.node) (node_with (before ++ last ∷ []) value)
        ≡ cond (bytes_eq last.value value) (Some last.node) (cond b (Some first.node) (node_with before value))
    by_test true at apart inner =
        sym (cond-false (bytes_eq last.value value) (Some last.node) (Some first.node) (other_value first.value last.value value apart at))
    by_test false at apart inner = inner

once_first : (first last : Identifier) (before : List Identifier) → first.value ≢ last.value →
    AllByRecursion (λ value. first.value ≢ value) (values_of before) →
    AllByRecursion (λ value. first.value ≢ value) (values_of (before ++ last ∷ []))
once_first first last [] apart h = (apart, tt)
once_first first last (other ∷ before) apart h = (h.0, once_first first last before apart h.1)

once_more : (before : List Identifier) (last : Identifier) → AreOnce before → node_with before last.value ≡ None →
    AreOnce (before ++ last ∷ [])
once_more [] last once free = (tt, tt)
once_more (first ∷ before) last once free =
    let none = none_first (bytes_eq first.value last.value) first.node (node_with before last.value) free in
    (once_first first last before (differ first.value last.value none.0) once.0, once_more before last once.1 none.1)

last_differs : (first last : Identifier) (before : List Identifier) →
    AllByRecursion (λ value. first.value ≢ value) (values_of (before ++ last ∷ [])) → first.value ≢ last.value
last_differs first last [] h = h.0
last_differs first last (other ∷ before) h = last_differs first last before h.1

free_value : (before : List Identifier) (last : Identifier) → AreOnce (before ++ last ∷ []) → node_with before last.value ≡ None
free_value [] last once = refl
free_value (first ∷ before) last once =
    let apart : bytes_eq first.value last.value ≡ false =
    false_from_ne_true (bytes_eq first.value last.value) (λ e. last_differs first last before once.0 ((bytes_eq-Decides first.value last.value).0 e)) in
    cond-false (bytes_eq first.value last.value) (Some first.node) (node_with before last.value) apart ∙ free_value before last once.1

pub not_found : (found : Option ℕ) → is_some found ≡ false → found ≡ None
not_found None h = refl
not_found (Some node) h = absurd (let clash : true ≡ false = h in cc)

-- an ID of a new value is added
pub indexed_more : (before : List Identifier) (ids now : Ids) (last : Identifier) → AreIndexed before ids →
    get_by_text ids.index last.value ≡ None →
    ((value : List ℕ) → get_by_text now.index value ≡ update bytes_eq (get_by_text ids.index) last.value (Some last.node) value) →
    AreIndexed (before ++ last ∷ []) now
indexed_more before ids now last indexed free updated =
    let none : node_with before last.value ≡ None = sym (indexed.index.finds last.value) ∙ free in
    record {
      once = once_more before last indexed.once none;
      index = record {
        finds = λ value. updated value
            ∙ ap (λ found. cond (bytes_eq last.value value) (Some last.node) found) (indexed.index.finds value)
            ∙ sym (last_with before last value none);
      };
    }

-- an ID whose value is there already stands twice
pub not_once : (before : List Identifier) (ids : Ids) (last : Identifier) → AreIndexed before ids →
    is_some (get_by_text ids.index last.value) ≡ true → AreOnce (before ++ last ∷ []) → ⊥
not_once before ids last indexed there once =
    let none : get_by_text ids.index last.value ≡ None = indexed.index.finds last.value ∙ free_value before last once in
    absurd (let clash : true ≡ false = sym there ∙ ap (λ o. is_some o) none in cc)

-- none of the first IDs stands twice where none of all does
all_first : (first : Identifier) (before after : List Identifier) →
    AllByRecursion (λ value. first.value ≢ value) (values_of (before ++ after)) → AllByRecursion (λ value. first.value ≢ value) (values_of before)
all_first first [] after h = tt
all_first first (other ∷ before) after h = (h.0, all_first first before after h.1)

pub once_front : (before after : List Identifier) → AreOnce (before ++ after) → AreOnce before
once_front [] after once = tt
once_front (first ∷ before) after once = (all_first first before after once.0, once_front before after once.1)
