-- An element is verified under one key, and one that is not fails for one reason.
use Rattle.std.proofs.Common.{◌≡◌, ℕ, List, [], ◌∷◌, None, Some, inl, inr, refl, sym, ◌∙◌, ap, subst}
use Rattle.xml_spec.specs.Tree.{Nodes}
use Rattle.sig_reference.specs.Signature.{IsReferredTo, IsDigested}
use Rattle.sig_reference.specs.declared.fault.SigFault.{SigFault}
use Rattle.sig_reference.specs.declared.fault.SigFault.TheVariants as sigs
use Rattle.sig_reference.proofs.OneSignature.{one_signature}
use Rattle.verdict_codes.specs.declared.codes.Verdict.{Verdict}
use Rattle.fault_verdicts.specs.Verdicts.{of_signature}
use Rattle.sp_rules.specs.Keys.{Key}
use Rattle.sp_rules.specs.Covering.{tagging, signed_of, IsVerified, IsUnverified, AreVerified, IsCovered, IsFirstUnverified, IsUncovered}

-- an element is verified under one key
pub one_key : (keys : List Key) (tree : Nodes) (e : ℕ) (k l : Key) → IsVerified keys tree e k → IsVerified keys tree e l → k ≡ l
one_key keys tree e k l v w =
    let same : v.parts ≡ w.parts = one_signature tree e v.parts w.parts v.vouches.form w.vouches.form in
    let both : Some k ≡ Some l = sym v.tagged ∙ ap (tagging keys tree) same ∙ w.tagged in
    cc

pub verified_not_unverified : (keys : List Key) (tree : Nodes) (e : ℕ) (k : Key) (fault : SigFault) (verdict : Verdict) → IsVerified keys tree e k →
    IsUnverified keys tree e fault → of_signature fault ≡ Some verdict → ⊥
verified_not_unverified keys tree e k sigs.BadSignatureForm verdict v u h = u v.parts v.vouches.form
verified_not_unverified keys tree e k sigs.BadReference verdict v u h =
    u.2 (subst (IsReferredTo tree e) (one_signature tree e v.parts u.0 v.vouches.form u.1) v.vouches.reference)
verified_not_unverified keys tree e k sigs.TagDiffers verdict v u h =
    let both : Some k ≡ None = sym v.tagged ∙ ap (tagging keys tree) (one_signature tree e v.parts u.0 v.vouches.form u.1) ∙ u.3 in cc
verified_not_unverified keys tree e k sigs.DigestDiffers verdict v u h =
    u.5 (subst (IsDigested tree e) (one_signature tree e v.parts u.0 v.vouches.form u.2) v.vouches.digest)
verified_not_unverified keys tree e k sigs.NoMemory verdict v u h = cc

pub one_fault : (keys : List Key) (tree : Nodes) (e : ℕ) (f g : SigFault) (v w : Verdict) → IsUnverified keys tree e f → IsUnverified keys tree e g →
    of_signature f ≡ Some v → of_signature g ≡ Some w → f ≡ g
one_fault keys tree e sigs.BadSignatureForm sigs.BadSignatureForm v w a b h k = refl
one_fault keys tree e sigs.BadSignatureForm sigs.BadReference v w a b h k = absurd (a b.0 b.1)
one_fault keys tree e sigs.BadSignatureForm sigs.TagDiffers v w a b h k = absurd (a b.0 b.1)
one_fault keys tree e sigs.BadSignatureForm sigs.DigestDiffers v w a b h k = absurd (a b.0 b.2)
one_fault keys tree e sigs.BadReference sigs.BadSignatureForm v w a b h k = absurd (b a.0 a.1)
one_fault keys tree e sigs.BadReference sigs.BadReference v w a b h k = refl
one_fault keys tree e sigs.BadReference sigs.TagDiffers v w a b h k = absurd (a.2 (subst (IsReferredTo tree e) (one_signature tree e b.0 a.0 b.1 a.1) b.2))
one_fault keys tree e sigs.BadReference sigs.DigestDiffers v w a b h k = absurd (a.2 (subst (IsReferredTo tree e) (one_signature tree e b.0 a.0 b.2 a.1) b.3))
one_fault keys tree e sigs.TagDiffers sigs.BadSignatureForm v w a b h k = absurd (b a.0 a.1)
one_fault keys tree e sigs.TagDiffers sigs.BadReference v w a b h k = absurd (b.2 (subst (IsReferredTo tree e) (one_signature tree e a.0 b.0 a.1 b.1) a.2))
one_fault keys tree e sigs.TagDiffers sigs.TagDiffers v w a b h k = refl
one_fault keys tree e sigs.TagDiffers sigs.DigestDiffers v w a b h k =
    absurd (let both : None ≡ Some b.1 = sym a.3 ∙ ap (tagging keys tree) (one_signature tree e a.0 b.0 a.1 b.2) ∙ b.4 in cc)
one_fault keys tree e sigs.DigestDiffers sigs.BadSignatureForm v w a b h k = absurd (b a.0 a.2)
one_fault keys tree e sigs.DigestDiffers sigs.BadReference v w a b h k = absurd (b.2 (subst (IsReferredTo tree e) (one_signature tree e a.0 b.0 a.2 b.1) a.3))
one_fault keys tree e sigs.DigestDiffers sigs.TagDiffers v w a b h k =
    absurd (let both : None ≡ Some a.1 = sym b.3 ∙ ap (tagging keys tree) (one_signature tree e b.0 a.0 b.1 a.2) ∙ a.4 in cc)
one_fault keys tree e sigs.DigestDiffers sigs.DigestDiffers v w a b h k = refl
one_fault keys tree e sigs.NoMemory g v w a b h k = cc
one_fault keys tree e f sigs.NoMemory v w a b h k = cc

-- ALL SIGNATURES

all_verified : (keys : List Key) (tree : Nodes) (es : List ℕ) (fault : SigFault) (verdict : Verdict) → AreVerified keys tree es →
    IsFirstUnverified keys tree es fault → of_signature fault ≡ Some verdict → ⊥
all_verified keys tree [] fault verdict v u h = u
all_verified keys tree (e ∷ es) fault verdict v (inl u) h = verified_not_unverified keys tree e v.0.0 fault verdict v.0.1 u h
all_verified keys tree (e ∷ es) fault verdict v (inr u) h = all_verified keys tree es fault verdict v.1 u.1 h

first_one : (keys : List Key) (tree : Nodes) (es : List ℕ) (f g : SigFault) (v w : Verdict) → IsFirstUnverified keys tree es f →
    IsFirstUnverified keys tree es g → of_signature f ≡ Some v → of_signature g ≡ Some w → f ≡ g
first_one keys tree [] f g v w a b h k = absurd a
first_one keys tree (e ∷ es) f g v w (inl a) (inl b) h k = one_fault keys tree e f g v w a b h k
first_one keys tree (e ∷ es) f g v w (inl a) (inr b) h k = absurd (verified_not_unverified keys tree e b.0.0 f v b.0.1 a h)
first_one keys tree (e ∷ es) f g v w (inr a) (inl b) h k = absurd (verified_not_unverified keys tree e a.0.0 g w a.0.1 b k)
first_one keys tree (e ∷ es) f g v w (inr a) (inr b) h k = first_one keys tree es f g v w a.1 b.1 h k

pub covered_not_uncovered : (keys : List Key) (tree : Nodes) (p e : ℕ) (key : Key) (fault : SigFault) (verdict : Verdict) → IsCovered keys tree p e key →
    IsUncovered keys tree p fault → of_signature fault ≡ Some verdict → ⊥
covered_not_uncovered keys tree p e key fault verdict c (inl u) h = let clash : e ∷ c.others ≡ [] = sym c.signed ∙ u.0 in cc
covered_not_uncovered keys tree p e key fault verdict c (inr u) h =
    all_verified keys tree (e ∷ c.others) fault verdict ((key, c.first), c.rest) (subst (λ es. IsFirstUnverified keys tree es fault) c.signed u) h

pub uncovered_one : (keys : List Key) (tree : Nodes) (p : ℕ) (f g : SigFault) (v w : Verdict) → IsUncovered keys tree p f → IsUncovered keys tree p g →
    of_signature f ≡ Some v → of_signature g ≡ Some w → f ≡ g
uncovered_one keys tree p f g v w (inl a) (inl b) h k = a.1 ∙ sym b.1
uncovered_one keys tree p f g v w (inl a) (inr b) h k = absurd (subst (λ es. IsFirstUnverified keys tree es g) a.0 b)
uncovered_one keys tree p f g v w (inr a) (inl b) h k = absurd (subst (λ es. IsFirstUnverified keys tree es f) b.0 a)
uncovered_one keys tree p f g v w (inr a) (inr b) h k = first_one keys tree (signed_of tree p) f g v w a b h k

pub covered_one : (keys : List Key) (tree : Nodes) (p : ℕ) (one other : ℕ × Key) → IsCovered keys tree p one.0 one.1 → IsCovered keys tree p other.0 other.1 →
    one ≡ other
covered_one keys tree p one other c d =
    let both : one.0 ∷ c.others ≡ other.0 ∷ d.others = sym c.signed ∙ d.signed in
    let first : one.0 ≡ other.0 = cc in
    let key : one.1 ≡ other.1 = one_key keys tree other.0 one.1 other.1 (subst (λ e. IsVerified keys tree e one.1) first c.first) d.first in
    λ i. (first i, key i)
