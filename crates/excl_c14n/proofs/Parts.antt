-- Names in two parts, which tell what it declares.
use Rattle.std.proofs.Common.{◌≡◌, ◌≢◌, ℕ, ◌<◌, false, cond, List, [], ◌∷◌, length, codes, Option, Some, None, refl, sym, ap, ◌∙◌, arith}
use Rattle.std.specs.Option.{option_map, unwrap_or}
use Rattle.std.specs.Str.{bytes_eq}
use Rattle.std.proofs.lemmas.Bool.{cond-false, false_from_ne_true}
use Rattle.std.proofs.lemmas.Slice.Eq.{bytes_eq-Decides}
use Rattle.xml_spec.specs.Characters.{IsQualifiedName, at_colon, prefix_of, local_of}
use Rattle.xml_spec.specs.Names.{declared_prefix}
use Rattle.xml_spec.proofs.NameBytes.{name_is_not_empty}
use Rattle.excl_c14n.specs.Shown.{prefix_declared_by}

other_bytes : (xs ys : List ℕ) → xs ≢ ys → bytes_eq xs ys ≡ false
other_bytes xs ys h = false_from_ne_true (bytes_eq xs ys) (λ e. h ((bytes_eq-Decides xs ys).0 e))

-- the parts of a qualified name tell what it declares
pub declared_by_parts : (name : List ℕ) → IsQualifiedName name → prefix_declared_by (prefix_of name) (local_of name) ≡ declared_prefix name
declared_by_parts name qualified = which (at_colon name) refl qualified
  where
    which : (o : Option (List ℕ × List ℕ)) → at_colon name ≡ o → IsQualifiedName name →
        prefix_declared_by (prefix_of name) (local_of name) ≡ declared_prefix name
    which None is q =
        let prefix : prefix_of name ≡ [] = ap (λ p. unwrap_or (option_map (λ (parts : List ℕ × List ℕ). parts.0) p) []) is in
        let local : local_of name ≡ name = ap (λ p. unwrap_or (option_map (λ (parts : List ℕ × List ℕ). parts.1) p) name) is in
        (λ i. prefix_declared_by (prefix i) (local i))
        ∙ ap (λ p. cond (bytes_eq name (codes "xmlns")) (Some []) (cond (bytes_eq p (codes "xmlns")) (Some name) None)) (sym prefix)
        ∙ ap (λ l. cond (bytes_eq name (codes "xmlns")) (Some []) (cond (bytes_eq (prefix_of name) (codes "xmlns")) (Some l) None)) (sym local)
    which (Some parts) is q =
        let prefix : prefix_of name ≡ parts.0 = ap (λ p. unwrap_or (option_map (λ (parts : List ℕ × List ℕ). parts.0) p) []) is in
        let other : name ≢ codes "xmlns" = λ e. (let clash : Some parts ≡ None = sym is ∙ ap at_colon e in cc) in
        some_first (prefix_of name) (local_of name) (omega (arith, name_is_not_empty parts.0 (rw is at q).0.0, ap length prefix))
        ∙ sym (cond-false (bytes_eq name (codes "xmlns")) (Some []) (cond (bytes_eq (prefix_of name) (codes "xmlns")) (Some (local_of name)) None)
        (other_bytes name (codes "xmlns") other))
      where
        some_first : (p l : List ℕ) → 0 < length p → prefix_declared_by p l ≡ cond (bytes_eq p (codes "xmlns")) (Some l) None
        some_first [] l h = absurd (omega arith)
        some_first (b ∷ bytes) l h = refl
