-- The IDs of one element: attribute by attribute.
use Rattle.std.proofs.Common.{◌≡◌, ℕ, ◌+◌, ◌<◌, true, false, List, [], ◌∷◌, ◌++◌, codes, length, map, get_or, take, drop, Some, None, sym, ap, ◌∙◌, subst, append_assoc, add-one, take-append-drop}
use Rattle.std.proofs.Math.Seq.{take-suc}
use Rattle.std.specs.List.{filter_map, cons_option}
use Rattle.std.specs.Str.{bytes_eq}
use Rattle.std.proofs.lemmas.Bool.{cond-true, cond-false}
use Rattle.std.proofs.lemmas.List.{map-append, append-nil}
use Rattle.std.proofs.lemmas.List.Elements.{filter_map-append}
use Rattle.xml_spec.specs.Identifiers.{Identifier, identifier_at}
use Rattle.saml_tree.specs.Index.{AreOnce}
use Rattle.xml_tokens.specs.Views.{attribute_view}
use Rattle.xml_tokens.specs.declared.token.Attribute.{Attribute}
use Rattle.saml_tree.proofs.Indexing.{once_front}

-- the IDs among these attributes of node k
abbrev pub ids_of : ℕ → List Attribute → List Identifier
ids_of k attributes = filter_map (identifier_at k) (map attribute_view attributes)

taken_more : (k : ℕ) (attributes : List Attribute) (i : ℕ) (a : Attribute) → i < length attributes → a ≡ get_or attributes i a →
    ids_of k (take (i + 1) attributes) ≡ ids_of k (take i attributes) ++ cons_option (identifier_at k (attribute_view a)) []
taken_more k attributes i a h read =
    ap (λ n. ids_of k (take n attributes)) (add-one i)
    ∙ ap (ids_of k) (take-suc attributes i a h)
    ∙ ap (filter_map (identifier_at k)) (map-append attribute_view (take i attributes) (get_or attributes i a ∷ []))
    ∙ filter_map-append (identifier_at k) (map attribute_view (take i attributes)) (map attribute_view (get_or attributes i a ∷ []))
    ∙ ap (λ (x : Attribute). ids_of k (take i attributes) ++ cons_option (identifier_at k (attribute_view x)) []) (sym read)

taken_id : (k : ℕ) (attributes : List Attribute) (i : ℕ) (a : Attribute) → i < length attributes → a ≡ get_or attributes i a →
    bytes_eq a.name (codes "ID") ≡ true →
    ids_of k (take (i + 1) attributes) ≡ ids_of k (take i attributes) ++ record { value = (attribute_view a).value; node = k } ∷ []
taken_id k attributes i a h read named =
    taken_more k attributes i a h read
    ∙ ap (λ o. ids_of k (take i attributes) ++ cons_option o [])
    (cond-true (bytes_eq a.name (codes "ID")) (Some (record { value = (attribute_view a).value; node = k })) None named)

pub taken_other : (k : ℕ) (attributes : List Attribute) (i : ℕ) (a : Attribute) → i < length attributes → a ≡ get_or attributes i a →
    bytes_eq a.name (codes "ID") ≡ false → ids_of k (take (i + 1) attributes) ≡ ids_of k (take i attributes)
taken_other k attributes i a h read named =
    taken_more k attributes i a h read
    ∙ ap (λ o. ids_of k (take i attributes) ++ cons_option o [])
    (cond-false (bytes_eq a.name (codes "ID")) (Some (record { value = (attribute_view a).value; node = k })) None named)
    ∙ append-nil (ids_of k (take i attributes))

-- an attribute named ID is one more
pub one_id : (before : List Identifier) (k : ℕ) (attributes : List Attribute) (i : ℕ) (a : Attribute) (value : List ℕ) →
    i < length attributes → a ≡ get_or attributes i a → bytes_eq a.name (codes "ID") ≡ true → value ≡ (attribute_view a).value →
    before ++ ids_of k (take (i + 1) attributes) ≡ (before ++ ids_of k (take i attributes)) ++ record { value = value; node = k } ∷ []
one_id before k attributes i a value h read named same =
    ap (λ ids. before ++ ids) (taken_id k attributes i a h read named)
    ∙ sym (append_assoc before (ids_of k (take i attributes)) (record { value = (attribute_view a).value; node = k } ∷ []))
    ∙ ap (λ bytes. (before ++ ids_of k (take i attributes)) ++ record { value = bytes; node = k } ∷ []) (sym same)

-- where no value stands twice among all, none does among the first
pub once_taken : (before : List Identifier) (k : ℕ) (attributes : List Attribute) (n : ℕ) →
    AreOnce (before ++ ids_of k attributes) → AreOnce (before ++ ids_of k (take n attributes))
once_taken before k attributes n once =
    let split : ids_of k attributes ≡ ids_of k (take n attributes) ++ ids_of k (drop n attributes) =
    ap (ids_of k) (sym (take-append-drop n attributes))
    ∙ ap (filter_map (identifier_at k)) (map-append attribute_view (take n attributes) (drop n attributes))
    ∙ filter_map-append (identifier_at k) (map attribute_view (take n attributes)) (map attribute_view (drop n attributes)) in
    once_front (before ++ ids_of k (take n attributes)) (ids_of k (drop n attributes))
    (subst AreOnce (ap (λ ids. before ++ ids) split ∙ sym (append_assoc before (ids_of k (take n attributes)) (ids_of k (drop n attributes)))) once)
