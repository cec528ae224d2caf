-- Attributes that are put behind others.
use Rattle.std.proofs.Common.{◌≡◌, List, [], ◌∷◌, ◌++◌, length, map, drop, sym, ◌∙◌, ap, append_assoc, append-nil}
use Rattle.std.proofs.Math.Seq.{drop-length, drop-append_seam}
use Rattle.std.proofs.lemmas.List.{map-append}
use Rattle.xml_spec.specs.Tree as tree
use Rattle.xml_tokens.specs.Views.{attribute_view, Grows, added}
use Rattle.xml_tokens.specs.declared.token.Attribute as token

-- nothing was added
pub none_added : (list : List token.Attribute) → added list list ≡ []
none_added list = ap (map attribute_view) (drop-length list)

-- one more attribute was added
pub one_added : (before list : List token.Attribute) (attribute : token.Attribute) → Grows before list →
    added before (list ++ attribute ∷ []) ≡ added before list ++ attribute_view attribute ∷ []
one_added before list attribute grows =
    ap (λ (xs : List token.Attribute). map attribute_view (drop (length before) (xs ++ attribute ∷ []))) grows.1
    ∙ ap (λ (xs : List token.Attribute). map attribute_view (drop (length before) xs)) (append_assoc before grows.0 (attribute ∷ []))
    ∙ ap (map attribute_view) (drop-append_seam before (grows.0 ++ attribute ∷ []))
    ∙ map-append attribute_view grows.0 (attribute ∷ [])
    ∙ ap (λ (xs : List tree.Attribute). xs ++ attribute_view attribute ∷ [])
    (ap (map attribute_view) (sym (drop-append_seam before grows.0)) ∙ ap (λ (xs : List token.Attribute). added before xs) (sym grows.1))

pub grown_once : (before list : List token.Attribute) (attribute : token.Attribute) → Grows before list → Grows before (list ++ attribute ∷ [])
grown_once before list attribute grows =
    (grows.0 ++ attribute ∷ [], ap (λ (xs : List token.Attribute). xs ++ attribute ∷ []) grows.1 ∙ append_assoc before grows.0 (attribute ∷ []))

pub not_grown : (list : List token.Attribute) → Grows list list
not_grown list = ([], sym (append-nil list))
