-- How parts of a message are found.
use Rattle.std.proofs.Common.{◌≡◌, ℕ, ◌<◌, ◌↔◌, Bool, true, false, not, List, [], ◌∷◌, length, codes, Option, None, Some, refl, sym, ap, ◌∙◌, arith}
use Rattle.std.specs.Option.{option_and_then}
use Rattle.xml_spec.specs.Names.{ExpandedName}
use Rattle.saml_names.specs.Names.{samlp}
use Rattle.saml_tree.specs.Documents.{DocumentView}
use Rattle.tree_read.specs.Children.{children}
use Rattle.protocol_messages.specs.Messages.{only, at_most_one, is_any, status_in_code, status_code, status_of}

-- of several there is not one at most
pub several : (xs : List ℕ) → 1 < length xs → at_most_one xs ≡ None
several [] h = absurd (omega arith)
several (x ∷ []) h = absurd (omega arith)
several (x ∷ y ∷ xs) h = refl

-- there is one, where it is not that there is none
pub any_is : (none : Bool) (xs : List ℕ) → ((none ≡ true) ↔ (xs ≡ [])) → not none ≡ is_any xs
any_is true [] h = refl
any_is true (x ∷ xs) h = let clash : x ∷ xs ≡ [] = h.0 refl in cc
any_is false [] h = let clash : false ≡ true = h.1 refl in cc
any_is false (x ∷ xs) h = refl

-- where the Status is this element, its StatusCode is looked for in it
module _ (here there : DocumentView) (k status : ℕ) (outer inner : ExpandedName) (same : there ≡ here) (status_name : outer ≡ samlp (codes "Status")) (code_name : inner ≡ samlp (codes "StatusCode")) (found : only (children here.tree k outer) ≡ Some status) where
  code_in_status : status_code here.tree k ≡ only (children there.tree status inner)
  code_in_status =
      ap (λ (o : Option ℕ). option_and_then (λ s. only (children here.tree s (samlp (codes "StatusCode")))) o)
      (ap (λ n. only (children here.tree k n)) (sym status_name) ∙ found)
      ∙ (λ i. only (children (sym same i).tree status (sym code_name i)))

  pub status_in_element : (o : Option ℕ) → only (children there.tree status inner) ≡ o → status_of here.tree k ≡ option_and_then (status_in_code here.tree) o
  status_in_element o e = ap (λ (c : Option ℕ). option_and_then (status_in_code here.tree) c) (code_in_status ∙ e)
