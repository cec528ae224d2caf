-- What a walk over the children of an element finds is in its content.
use Rattle.std.proofs.Common.{◌≡◌, ℕ, ◌<◌, Bool, true, false, List, [], ◌∷◌, length, map, Option, None, Some, IsTrue, refl, sym, ap, ◌∙◌, subst, arith}
use Rattle.std.specs.Prelude.{MatchOption, ◌↔◌}
use Rattle.std.specs.Option.{option_map}
use Rattle.std.proofs.lemmas.Slice.Eq.{bytes_eq-Decides}
use Rattle.xml_spec.specs.Names.{ExpandedName}
use Rattle.saml_names.specs.Names.{saml}
use Rattle.saml_tree.specs.Documents.{DocumentView}
use Rattle.tree_read.specs.Children as walk
use Rattle.tree_read.specs.Walk.{ChildrenView}
use Rattle.tree_read.specs.Views.{tree_of, numbers_of, IsNotOne}
use Rattle.tree_read.specs.declared.at.At.{At}
use Rattle.tree_read.specs.declared.named.ChildFault.{ChildFault}
use Rattle.tree_read.specs.declared.named.ChildFault.TheVariants as faults
use Rattle.assertion_model.specs.Contents.{Part, value, only, at_most_one}
use Rattle.assertion_model.specs.Login.{children, has_value}
use Rattle.assertion_model.specs.Parts.{part_at, part_of, left_of}
use Rattle.assertion_model.proofs.PartLemmas.{named_at}

-- a part at a place in the same document
pub same_part : (d : DocumentView) (at : At) → at.doc.now ≡ d → part_at d.tree at.node.0 ≡ part_of at
same_part d at e = ap (λ (v : DocumentView). part_at v.tree at.node.0) (sym e)

-- a walk that begins
pub all_left : (at : At) (w : ChildrenView) (local : List ℕ) → w.document ≡ at.doc.now →
    w.left ≡ walk.element_children (tree_of at) at.node.0 → left_of local w ≡ children local (part_of at).kids
all_left at w local d e =
    (λ i. map (part_at (d i).tree) (walk.named (saml local) (e i))) ∙ sym (named_at (saml local) (tree_of at) at.node.0)

-- a walk that goes on
pub next_left : (old now : ChildrenView) (name : ExpandedName) (local : List ℕ) (o : Option At) → name ≡ saml local → now.document ≡ old.document →
    MatchOption o (walk.named name old.left ≡ []) (λ at. walk.named name old.left ≡ at.node.0 ∷ walk.named name now.left) →
    MatchOption o (Unit {0}) (λ at. at.doc.now ≡ old.document) →
    MatchOption o (left_of local old ≡ []) (λ at. left_of local old ≡ part_of at ∷ left_of local now)
next_left old now name local None n d h there = ap (map (part_at old.document.tree)) (ap (λ m. walk.named m old.left) (sym n) ∙ h)
next_left old now name local (Some at) n d h there =
    ap (map (part_at old.document.tree)) (ap (λ m. walk.named m old.left) (sym n) ∙ h ∙ ap (λ m. at.node.0 ∷ walk.named m now.left) n)
    ∙ (λ i. same_part old.document at there i ∷ map (part_at (sym d i).tree) (walk.named (saml local) now.left))

pub only_is : (at found : At) (local : List ℕ) → walk.children (tree_of at) at.node.0 (saml local) ≡ found.node.0 ∷ [] → found.doc.now ≡ at.doc.now →
    only (children local (part_of at).kids) ≡ Some (part_of found)
only_is at found local e d =
    ap only (named_at (saml local) (tree_of at) at.node.0) ∙ ap (λ ks. only (map (part_at (tree_of at)) ks)) e ∙ ap Some (same_part at.doc.now found d)

several : {X : Type 0} (f : ℕ → X) (ks : List ℕ) → 1 < length ks → (only (map f ks) ≡ None) × (at_most_one (map f ks) ≡ None)
several f [] h = absurd (omega arith)
several f (k ∷ []) h = absurd (omega arith)
several f (k ∷ m ∷ ks) h = (refl, refl)

pub not_only : (at : At) (local : List ℕ) (fault : ChildFault) → IsNotOne (walk.children (tree_of at) at.node.0 (saml local)) fault →
    only (children local (part_of at).kids) ≡ None
not_only at local faults.NotThere h =
    ap only (named_at (saml local) (tree_of at) at.node.0) ∙ ap (λ ks. only (map (part_at (tree_of at)) ks)) h
not_only at local (faults.NotOne count) h =
    ap only (named_at (saml local) (tree_of at) at.node.0) ∙ (several (part_at (tree_of at)) (walk.children (tree_of at) at.node.0 (saml local)) h.1).0

pub one_if_any : (at : At) (name : ExpandedName) (local : List ℕ) (o : Option At) → name ≡ saml local →
    walk.children (tree_of at) at.node.0 name ≡ numbers_of o → MatchOption o (Unit {0}) (λ found. found.doc.now ≡ at.doc.now) →
    at_most_one (children local (part_of at).kids) ≡ Some (option_map part_of o)
one_if_any at name local None n e d =
    ap at_most_one (named_at (saml local) (tree_of at) at.node.0)
    ∙ ap (λ ks. at_most_one (map (part_at (tree_of at)) ks)) (ap (walk.children (tree_of at) at.node.0) (sym n) ∙ e)
one_if_any at name local (Some found) n e d =
    ap at_most_one (named_at (saml local) (tree_of at) at.node.0)
    ∙ ap (λ ks. at_most_one (map (part_at (tree_of at)) ks)) (ap (walk.children (tree_of at) at.node.0) (sym n) ∙ e)
    ∙ ap (λ p. Some (Some p)) (same_part at.doc.now found d)

pub not_at_most_one : (at : At) (name : ExpandedName) (local : List ℕ) → name ≡ saml local →
    1 < length (walk.children (tree_of at) at.node.0 name) → at_most_one (children local (part_of at).kids) ≡ None
not_at_most_one at name local n h =
    ap at_most_one (named_at (saml local) (tree_of at) at.node.0)
    ∙ (several (part_at (tree_of at)) (walk.children (tree_of at) at.node.0 (saml local)) (subst (λ m. 1 < length (walk.children (tree_of at) at.node.0 m)) n h)).1

-- a test that answers as the definition does
pub same_answer : (b c : Bool) (P : Type 0) → (IsTrue b ↔ P) → (IsTrue c ↔ P) → b ≡ c
same_answer true true P h k = refl
same_answer true false P h k = sym (k.1 (h.0 refl))
same_answer false true P h k = h.1 (k.0 refl)
same_answer false false P h k = refl

pub value_equals : (local wanted : List ℕ) (part : Part) → IsTrue (has_value local wanted part) ↔ (value local part.attributes ≡ Some wanted)
value_equals local wanted part = which (value local part.attributes) refl
  where
    which : (o : Option (List ℕ)) → value local part.attributes ≡ o → IsTrue (has_value local wanted part) ↔ (value local part.attributes ≡ Some wanted)
    which None e =
        rw e (λ h. absurd (let clash : false ≡ true = h in cc), λ h. absurd (let clash : None ≡ Some wanted = h in cc))
    which (Some bytes) e =
        rw e (λ h. ap Some ((bytes_eq-Decides bytes wanted).0 h), λ h. (bytes_eq-Decides bytes wanted).1 (let same : bytes ≡ wanted = cc in same))
