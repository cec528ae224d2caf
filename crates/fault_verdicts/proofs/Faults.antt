-- A document, and an element, fail for one reason.
use Rattle.std.proofs.Common.{◌≡◌, ℕ, List, Some, refl, subst}
use Rattle.xml_spec.specs.Tree.{Nodes, IsWithinLimits}
use Rattle.xml_spec.specs.Names.{HasNames}
use Rattle.xml_spec.specs.Identifiers.{IsSingle}
use Rattle.xml_spec.proofs.Documents.{one_tree}
use Rattle.saml_tree.specs.Documents.{IsSpelled, IsRefused}
use Rattle.saml_tree.specs.declared.node.TreeFault.{TreeFault}
use Rattle.saml_tree.specs.declared.node.TreeFault.TheVariants as trees
use Rattle.sig_reference.specs.Form.{Parts}
use Rattle.sig_reference.specs.Signature.{IsReferredTo, IsTagged, IsDigested, Vouches, IsUnvouched}
use Rattle.sig_reference.specs.declared.fault.SigFault.{SigFault}
use Rattle.sig_reference.specs.declared.fault.SigFault.TheVariants as sigs
use Rattle.sig_reference.proofs.OneSignature.{one_signature}
use Rattle.verdict_codes.specs.declared.codes.Verdict.{Verdict}
use Rattle.fault_verdicts.specs.Verdicts.{of_document, of_signature}

-- DOCUMENTS

-- a text that is read is refused for nothing
pub spelled_not_refused : (text : List ℕ) (tree : Nodes) (fault : TreeFault) (verdict : Verdict) → IsSpelled text tree → IsRefused text fault →
    of_document fault ≡ Some verdict → ⊥
spelled_not_refused text tree trees.BadXml verdict s r e = r tree s.spells
spelled_not_refused text tree trees.XmlLimit verdict s r e = r.2 (subst IsWithinLimits (one_tree text tree r.0 s.spells r.1) s.limits)
spelled_not_refused text tree trees.BadNames verdict s r e = r.3 (subst HasNames (one_tree text tree r.0 s.spells r.1) s.names)
spelled_not_refused text tree trees.DuplicateId verdict s r e = r.4 (subst IsSingle (one_tree text tree r.0 s.spells r.1) s.single)
spelled_not_refused text tree trees.NoMemory verdict s r e = cc

-- one fault comes first
pub one_refusal : (text : List ℕ) (f g : TreeFault) (v w : Verdict) → IsRefused text f → IsRefused text g → of_document f ≡ Some v →
    of_document g ≡ Some w → f ≡ g
one_refusal text trees.BadXml trees.BadXml v w r s e h = refl
one_refusal text trees.BadXml trees.XmlLimit v w r s e h = absurd (r s.0 s.1)
one_refusal text trees.BadXml trees.BadNames v w r s e h = absurd (r s.0 s.1)
one_refusal text trees.BadXml trees.DuplicateId v w r s e h = absurd (r s.0 s.1)
one_refusal text trees.XmlLimit trees.BadXml v w r s e h = absurd (s r.0 r.1)
one_refusal text trees.XmlLimit trees.XmlLimit v w r s e h = refl
one_refusal text trees.XmlLimit trees.BadNames v w r s e h = absurd (r.2 (subst IsWithinLimits (one_tree text s.0 r.0 s.1 r.1) s.2))
one_refusal text trees.XmlLimit trees.DuplicateId v w r s e h = absurd (r.2 (subst IsWithinLimits (one_tree text s.0 r.0 s.1 r.1) s.2))
one_refusal text trees.BadNames trees.BadXml v w r s e h = absurd (s r.0 r.1)
one_refusal text trees.BadNames trees.XmlLimit v w r s e h = absurd (s.2 (subst IsWithinLimits (one_tree text r.0 s.0 r.1 s.1) r.2))
one_refusal text trees.BadNames trees.BadNames v w r s e h = refl
one_refusal text trees.BadNames trees.DuplicateId v w r s e h = absurd (r.3 (subst HasNames (one_tree text s.0 r.0 s.1 r.1) s.3))
one_refusal text trees.DuplicateId trees.BadXml v w r s e h = absurd (s r.0 r.1)
one_refusal text trees.DuplicateId trees.XmlLimit v w r s e h = absurd (s.2 (subst IsWithinLimits (one_tree text r.0 s.0 r.1 s.1) r.2))
one_refusal text trees.DuplicateId trees.BadNames v w r s e h = absurd (s.3 (subst HasNames (one_tree text r.0 s.0 r.1 s.1) r.3))
one_refusal text trees.DuplicateId trees.DuplicateId v w r s e h = refl
one_refusal text trees.NoMemory g v w r s e h = cc
one_refusal text f trees.NoMemory v w r s e h = cc

-- SIGNATURES

-- an element that is vouched for is refused for nothing
pub vouched_not_unvouched : (key : List ℕ) (tree : Nodes) (e : ℕ) (parts : Parts) (fault : SigFault) (verdict : Verdict) → Vouches key tree e parts →
    IsUnvouched key tree e fault → of_signature fault ≡ Some verdict → ⊥
vouched_not_unvouched key tree e parts sigs.BadSignatureForm verdict v u h = u parts v.form
vouched_not_unvouched key tree e parts sigs.BadReference verdict v u h =
    u.2 (subst (IsReferredTo tree e) (one_signature tree e parts u.0 v.form u.1) v.reference)
vouched_not_unvouched key tree e parts sigs.TagDiffers verdict v u h =
    u.3 (subst (IsTagged key tree) (one_signature tree e parts u.0 v.form u.1) v.tag)
vouched_not_unvouched key tree e parts sigs.DigestDiffers verdict v u h =
    u.4 (subst (IsDigested tree e) (one_signature tree e parts u.0 v.form u.1) v.digest)
vouched_not_unvouched key tree e parts sigs.NoMemory verdict v u h = cc

-- one fault comes first
pub one_fault : (key : List ℕ) (tree : Nodes) (e : ℕ) (f g : SigFault) (v w : Verdict) → IsUnvouched key tree e f → IsUnvouched key tree e g →
    of_signature f ≡ Some v → of_signature g ≡ Some w → f ≡ g
one_fault key tree e sigs.BadSignatureForm sigs.BadSignatureForm v w a b h k = refl
one_fault key tree e sigs.BadSignatureForm sigs.BadReference v w a b h k = absurd (a b.0 b.1)
one_fault key tree e sigs.BadSignatureForm sigs.TagDiffers v w a b h k = absurd (a b.0 b.1)
one_fault key tree e sigs.BadSignatureForm sigs.DigestDiffers v w a b h k = absurd (a b.0 b.1)
one_fault key tree e sigs.BadReference sigs.BadSignatureForm v w a b h k = absurd (b a.0 a.1)
one_fault key tree e sigs.BadReference sigs.BadReference v w a b h k = refl
one_fault key tree e sigs.BadReference sigs.TagDiffers v w a b h k = absurd (a.2 (subst (IsReferredTo tree e) (one_signature tree e b.0 a.0 b.1 a.1) b.2))
one_fault key tree e sigs.BadReference sigs.DigestDiffers v w a b h k = absurd (a.2 (subst (IsReferredTo tree e) (one_signature tree e b.0 a.0 b.1 a.1) b.2))
one_fault key tree e sigs.TagDiffers sigs.BadSignatureForm v w a b h k = absurd (b a.0 a.1)
one_fault key tree e sigs.TagDiffers sigs.BadReference v w a b h k = absurd (b.2 (subst (IsReferredTo tree e) (one_signature tree e a.0 b.0 a.1 b.1) a.2))
one_fault key tree e sigs.TagDiffers sigs.TagDiffers v w a b h k = refl
one_fault key tree e sigs.TagDiffers sigs.DigestDiffers v w a b h k = absurd (a.3 (subst (IsTagged key tree) (one_signature tree e b.0 a.0 b.1 a.1) b.3))
one_fault key tree e sigs.DigestDiffers sigs.BadSignatureForm v w a b h k = absurd (b a.0 a.1)
one_fault key tree e sigs.DigestDiffers sigs.BadReference v w a b h k = absurd (b.2 (subst (IsReferredTo tree e) (one_signature tree e a.0 b.0 a.1 b.1) a.2))
one_fault key tree e sigs.DigestDiffers sigs.TagDiffers v w a b h k = absurd (b.3 (subst (IsTagged key tree) (one_signature tree e a.0 b.0 a.1 b.1) a.3))
one_fault key tree e sigs.DigestDiffers sigs.DigestDiffers v w a b h k = refl
one_fault key tree e sigs.NoMemory g v w a b h k = cc
one_fault key tree e f sigs.NoMemory v w a b h k = cc
