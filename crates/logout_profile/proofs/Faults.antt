-- One of several keys vouches for a message, and a message for which none does is refused once.
use Rattle.std.proofs.Common.{◌≡◌, ℕ, List, [], ◌∷◌, Some, inl, inr, refl, sym, ◌∙◌, subst}
use Rattle.xml_spec.specs.Tree.{Nodes}
use Rattle.sig_reference.specs.Form.{Parts}
use Rattle.sig_reference.specs.Signature.{Vouches, IsUnvouched}
use Rattle.sig_reference.specs.declared.fault.SigFault.{SigFault}
use Rattle.sig_reference.specs.declared.fault.SigFault.TheVariants as sigs
use Rattle.verdict_codes.specs.declared.codes.Verdict.{Verdict}
use Rattle.verdict_codes.specs.declared.codes.Verdict.TheVariants as verdicts
use Rattle.fault_verdicts.specs.Verdicts.{of_signature}
use Rattle.fault_verdicts.proofs.Faults.{vouched_not_unvouched, one_fault}
use Rattle.logout_profile.specs.Keys.{IsVouched, IsNotVouched}

-- what vouches makes the tag
vouched_tags : (key other : List ℕ) (tree : Nodes) → key ≡ other → (parts : Parts) × Vouches other tree 0 parts → IsUnvouched key tree 0 sigs.TagDiffers → ⊥
vouched_tags key other tree same v u =
    vouched_not_unvouched key tree 0 v.0 sigs.TagDiffers verdicts.TagDiffers (subst (λ k. Vouches k tree 0 v.0) (sym same) v.1) u refl

-- a fault that is not of the tag
not_of_tag : (key : List ℕ) (tree : Nodes) (fault : SigFault) (verdict : Verdict) → IsUnvouched key tree 0 fault → (fault ≡ sigs.TagDiffers → ⊥) →
    IsUnvouched key tree 0 sigs.TagDiffers → of_signature fault ≡ Some verdict → ⊥
not_of_tag key tree fault verdict a other u h = other (one_fault key tree 0 fault sigs.TagDiffers verdict verdicts.TagDiffers a u h refl)

-- SEVERAL KEYS

pub one_key : (keys : List (List ℕ)) (tree : Nodes) (key other : List ℕ) → IsVouched keys tree key → IsVouched keys tree other → key ≡ other
one_key [] tree key other v w = absurd v
one_key (first ∷ others) tree key other (inl v) (inl w) = sym v.0 ∙ w.0
one_key (first ∷ others) tree key other (inl v) (inr w) = absurd (vouched_tags first key tree v.0 v.1 w.0)
one_key (first ∷ others) tree key other (inr v) (inl w) = absurd (vouched_tags first other tree w.0 w.1 v.0)
one_key (first ∷ others) tree key other (inr v) (inr w) = one_key others tree key other v.1 w.1

pub vouched_not_refused : (keys : List (List ℕ)) (tree : Nodes) (key : List ℕ) (fault : SigFault) (verdict : Verdict) → IsVouched keys tree key →
    IsNotVouched keys tree fault → of_signature fault ≡ Some verdict → ⊥
vouched_not_refused [] tree key fault verdict v u h = v
vouched_not_refused (first ∷ others) tree key fault verdict (inl v) (inl u) h =
    vouched_not_unvouched first tree 0 v.1.0 fault verdict (subst (λ k. Vouches k tree 0 v.1.0) (sym v.0) v.1.1) u.0 h
vouched_not_refused (first ∷ others) tree key fault verdict (inl v) (inr u) h = vouched_tags first key tree v.0 v.1 u.0
vouched_not_refused (first ∷ others) tree key fault verdict (inr v) (inl u) h = not_of_tag first tree fault verdict u.0 u.1 v.0 h
vouched_not_refused (first ∷ others) tree key fault verdict (inr v) (inr u) h = vouched_not_refused others tree key fault verdict v.1 u.1 h

pub not_vouched_one : (keys : List (List ℕ)) (tree : Nodes) (f g : SigFault) (v w : Verdict) → IsNotVouched keys tree f → IsNotVouched keys tree g →
    of_signature f ≡ Some v → of_signature g ≡ Some w → f ≡ g
not_vouched_one [] tree f g v w a b h k = a ∙ sym b
not_vouched_one (first ∷ others) tree f g v w (inl a) (inl b) h k = one_fault first tree 0 f g v w a.0 b.0 h k
not_vouched_one (first ∷ others) tree f g v w (inl a) (inr b) h k = absurd (not_of_tag first tree f v a.0 a.1 b.0 h)
not_vouched_one (first ∷ others) tree f g v w (inr a) (inl b) h k = absurd (not_of_tag first tree g w b.0 b.1 a.0 k)
not_vouched_one (first ∷ others) tree f g v w (inr a) (inr b) h k = not_vouched_one others tree f g v w a.1 b.1 h k
