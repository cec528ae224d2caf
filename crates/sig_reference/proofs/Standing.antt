-- Where the parts of a signature stand.
use Rattle.std.proofs.Common.{◌≡◌, ℕ, suc, ◌+◌, ◌-◌, ◌<◌, ◌≤◌, List, refl, ap, subst, inl, inr, arith}
use Rattle.std.proofs.lemmas.Bool.{cases_lt}
use Rattle.xml_spec.specs.Tree.{Nodes}
use Rattle.xml_spec.specs.Numbering.{size, from_node, kids_of}
use Rattle.saml_tree.specs.Elements.{IsElement}
use Rattle.saml_tree.proofs.Numbers.{left_from, some_from, size_parts, kid_from}
use Rattle.sig_reference.specs.Form.{Parts, HasForm, HasFirstForm}
use Rattle.sig_reference.specs.Vouching.{VouchedView, IsVouchedWith, IsVouchedFirstWith, IsVouched, IsIn}
use Rattle.sig_reference.proofs.Shapes.{first_child, second_child}

pub signature_element : (tree : Nodes) (e : ℕ) (parts : Parts) → HasForm tree e parts → IsElement tree parts.signature
signature_element tree e parts form = (second_child tree e form.children refl).1

pub signature_below : (tree : Nodes) (e : ℕ) (parts : Parts) → HasForm tree e parts → e < parts.signature
signature_below tree e parts form = (second_child tree e form.children refl).0

pub first_element : (tree : Nodes) (e : ℕ) (parts : Parts) → HasFirstForm tree e parts → IsElement tree parts.signature
first_element tree e parts form = (first_child tree e form.children).1

pub first_below : (tree : Nodes) (e : ℕ) (parts : Parts) → HasFirstForm tree e parts → e < parts.signature
first_below tree e parts form = (first_child tree e form.children).0

-- the Signature of what is vouched for is an element
pub vouched_element : (v : VouchedView) → IsVouched v → IsElement v.document.tree v.signature
vouched_element v vouched = subst (IsElement v.document.tree) vouched.signature (elim vouched.vouches [
  | inl behind ↦ signature_element v.document.tree vouched.element vouched.parts behind.form
  | inr first ↦ first_element v.document.tree vouched.element vouched.parts first.form
])

-- an element lies in itself
pub in_itself : (tree : Nodes) (e : ℕ) → IsIn tree e e
in_itself tree e = record { from = omega arith; to = omega arith }

-- what stands in front of an element does not lie in it
pub in_front : (tree : Nodes) (e n : ℕ) → n < e → ¬ (IsIn tree e n)
in_front tree e n less is = absurd (omega (arith, is.from))

ends_within : (tree : Nodes) (e j : ℕ) → j < size (kids_of (from_node tree e)) →
    suc (e + j) + size (kids_of (from_node tree (suc (e + j)))) ≤ e + size (kids_of (from_node tree e))
ends_within tree e j less =
    let kids = kids_of (from_node tree e) in
    let here = kid_from tree e j less in
    let parts = size_parts (from_node kids j) (some_from kids j less) in
    let same : size (kids_of (from_node tree (suc (e + j)))) ≡ size (kids_of (from_node kids j)) = ap (λ nodes. size (kids_of nodes)) here in
    omega (arith, parts, same, left_from kids j)

-- what lies in an element that lies in another lies in that one
pub in_both : (tree : Nodes) (e m n : ℕ) → IsIn tree e m → IsIn tree m n → IsIn tree e n
in_both tree e m n outer inner = elim (cases_lt e m) [
  | inl less ↦
      let number : suc (e + (m - suc e)) ≡ m = omega arith in
      let ends = ends_within tree e (m - suc e) (omega (arith, outer.to)) in
      let last : m + size (kids_of (from_node tree m)) ≤ e + size (kids_of (from_node tree e)) =
      subst (λ (k : ℕ). k + size (kids_of (from_node tree k)) ≤ e + size (kids_of (from_node tree e))) number ends in
      record { from = omega (arith, outer.from, inner.from); to = omega (arith, last, inner.to) }
  | inr over ↦
      let same : m ≡ e = omega (arith, outer.from) in
      subst (λ (k : ℕ). IsIn tree k n) same inner
]

-- an element that a signature vouches for is vouched for
pub vouched_with : (key : List ℕ) (v : VouchedView) → IsVouchedWith key v → IsVouched v
vouched_with key v w =
    let tree = v.document.tree in
    record {
      key = key;
      element = v.node;
      parts = w.parts;
      vouches = inl w.vouches;
      signature = w.signature;
      inside = in_itself tree v.node;
      outside = in_front tree v.signature v.node (subst (λ n. v.node < n) w.signature (signature_below tree v.node w.parts w.vouches.form));
    }

pub vouched_first_with : (key : List ℕ) (v : VouchedView) → IsVouchedFirstWith key v → IsVouched v
vouched_first_with key v w =
    let tree = v.document.tree in
    record {
      key = key;
      element = v.node;
      parts = w.parts;
      vouches = inr w.vouches;
      signature = w.signature;
      inside = in_itself tree v.node;
      outside = in_front tree v.signature v.node (subst (λ n. v.node < n) w.signature (first_below tree v.node w.parts w.vouches.form));
    }

-- what lies in a vouched element and not in the Signature is vouched for
pub vouched_inside : (v : VouchedView) (n : ℕ) → IsVouched v → IsIn v.document.tree v.node n → ¬ (IsIn v.document.tree v.signature n) →
    IsVouched (record { document = v.document; node = n; signature = v.signature })
vouched_inside v n w inside outside = record {
  key = w.key;
  element = w.element;
  parts = w.parts;
  vouches = w.vouches;
  signature = w.signature;
  inside = in_both v.document.tree w.element v.node n w.inside inside;
  outside = outside;
}
