-- A text that is refused under a key is refused for one fault.
use Rattle.std.proofs.Common.{◌≡◌, ◌≢◌, ℕ, List, Option, Some, None, IsSome, refl, ap, subst}
use Rattle.xml_spec.specs.Tree.{Nodes, IsWithinLimits}
use Rattle.xml_spec.specs.Names.{HasNames}
use Rattle.xml_spec.specs.Document.{Spells}
use Rattle.saml_tree.specs.Documents as trees
use Rattle.saml_tree.specs.declared.node.TreeFault.{TreeFault}
use Rattle.saml_tree.specs.declared.node.TreeFault.TheVariants as tree_faults
use Rattle.sig_reference.specs.Signature.{IsReferredTo, IsTagged, IsFirstUnvouched}
use Rattle.sig_reference.specs.declared.fault.SigFault.{SigFault}
use Rattle.sig_reference.specs.declared.fault.SigFault.TheVariants as sig_faults
use Rattle.sig_reference.proofs.OneSignature.{one_first_signature}
use Rattle.meta_registry.specs.declared.fault.RegistryFault.{RegistryFault}
use Rattle.meta_registry.specs.declared.fault.RegistryFault.TheVariants as faults
use Rattle.meta_registry.specs.Aggregate.{valid_until}
use Rattle.meta_registry.specs.Faults.{IsRefused}
use Rattle.meta_registry.proofs.Outcomes.{no_tree_fault}

-- an element for which no signature in front vouches has one fault
one_signature_fault : (key : List ℕ) (tree : Nodes) (e : ℕ) (f g : SigFault) → f ≢ sig_faults.NoMemory → g ≢ sig_faults.NoMemory →
    IsFirstUnvouched key tree e f → IsFirstUnvouched key tree e g → f ≡ g
one_signature_fault key tree e sig_faults.BadSignatureForm sig_faults.BadSignatureForm m n a b = refl
one_signature_fault key tree e sig_faults.BadSignatureForm sig_faults.BadReference m n a b = absurd (a b.0 b.1)
one_signature_fault key tree e sig_faults.BadSignatureForm sig_faults.TagDiffers m n a b = absurd (a b.0 b.1)
one_signature_fault key tree e sig_faults.BadSignatureForm sig_faults.DigestDiffers m n a b = absurd (a b.0 b.1)
one_signature_fault key tree e sig_faults.BadReference sig_faults.BadSignatureForm m n a b = absurd (b a.0 a.1)
one_signature_fault key tree e sig_faults.BadReference sig_faults.BadReference m n a b = refl
one_signature_fault key tree e sig_faults.BadReference sig_faults.TagDiffers m n a b =
    absurd (a.2 (subst (IsReferredTo tree e) (one_first_signature tree e b.0 a.0 b.1 a.1) b.2))
one_signature_fault key tree e sig_faults.BadReference sig_faults.DigestDiffers m n a b =
    absurd (a.2 (subst (IsReferredTo tree e) (one_first_signature tree e b.0 a.0 b.1 a.1) b.2))
one_signature_fault key tree e sig_faults.TagDiffers sig_faults.BadSignatureForm m n a b = absurd (b a.0 a.1)
one_signature_fault key tree e sig_faults.TagDiffers sig_faults.BadReference m n a b =
    absurd (b.2 (subst (IsReferredTo tree e) (one_first_signature tree e a.0 b.0 a.1 b.1) a.2))
one_signature_fault key tree e sig_faults.TagDiffers sig_faults.TagDiffers m n a b = refl
one_signature_fault key tree e sig_faults.TagDiffers sig_faults.DigestDiffers m n a b =
    absurd (a.3 (subst (IsTagged key tree) (one_first_signature tree e b.0 a.0 b.1 a.1) b.3))
one_signature_fault key tree e sig_faults.DigestDiffers sig_faults.BadSignatureForm m n a b = absurd (b a.0 a.1)
one_signature_fault key tree e sig_faults.DigestDiffers sig_faults.BadReference m n a b =
    absurd (b.2 (subst (IsReferredTo tree e) (one_first_signature tree e a.0 b.0 a.1 b.1) a.2))
one_signature_fault key tree e sig_faults.DigestDiffers sig_faults.TagDiffers m n a b =
    absurd (b.3 (subst (IsTagged key tree) (one_first_signature tree e a.0 b.0 a.1 b.1) a.3))
one_signature_fault key tree e sig_faults.DigestDiffers sig_faults.DigestDiffers m n a b = refl
one_signature_fault key tree e sig_faults.NoMemory g m n a b = absurd (m refl)
one_signature_fault key tree e f sig_faults.NoMemory m n a b = absurd (n refl)

module _ (text : List ℕ) (one : (tree other : Nodes) → Spells text tree → Spells text other → tree ≡ other) where
  -- a text that is no document that is read has one fault
  one_tree_fault : (f g : TreeFault) → f ≢ tree_faults.NoMemory → g ≢ tree_faults.NoMemory → trees.IsRefused text f → trees.IsRefused text g → f ≡ g
  one_tree_fault tree_faults.BadXml tree_faults.BadXml m n a b = refl
  one_tree_fault tree_faults.BadXml tree_faults.XmlLimit m n a b = absurd (a b.0 b.1)
  one_tree_fault tree_faults.BadXml tree_faults.BadNames m n a b = absurd (a b.0 b.1)
  one_tree_fault tree_faults.BadXml tree_faults.DuplicateId m n a b = absurd (a b.0 b.1)
  one_tree_fault tree_faults.XmlLimit tree_faults.BadXml m n a b = absurd (b a.0 a.1)
  one_tree_fault tree_faults.XmlLimit tree_faults.XmlLimit m n a b = refl
  one_tree_fault tree_faults.XmlLimit tree_faults.BadNames m n a b = absurd (a.2 (subst IsWithinLimits (one b.0 a.0 b.1 a.1) b.2))
  one_tree_fault tree_faults.XmlLimit tree_faults.DuplicateId m n a b = absurd (a.2 (subst IsWithinLimits (one b.0 a.0 b.1 a.1) b.2))
  one_tree_fault tree_faults.BadNames tree_faults.BadXml m n a b = absurd (b a.0 a.1)
  one_tree_fault tree_faults.BadNames tree_faults.XmlLimit m n a b = absurd (b.2 (subst IsWithinLimits (one a.0 b.0 a.1 b.1) a.2))
  one_tree_fault tree_faults.BadNames tree_faults.BadNames m n a b = refl
  one_tree_fault tree_faults.BadNames tree_faults.DuplicateId m n a b = absurd (a.3 (subst HasNames (one b.0 a.0 b.1 a.1) b.3))
  one_tree_fault tree_faults.DuplicateId tree_faults.BadXml m n a b = absurd (b a.0 a.1)
  one_tree_fault tree_faults.DuplicateId tree_faults.XmlLimit m n a b = absurd (b.2 (subst IsWithinLimits (one a.0 b.0 a.1 b.1) a.2))
  one_tree_fault tree_faults.DuplicateId tree_faults.BadNames m n a b = absurd (b.3 (subst HasNames (one a.0 b.0 a.1 b.1) a.3))
  one_tree_fault tree_faults.DuplicateId tree_faults.DuplicateId m n a b = refl
  one_tree_fault tree_faults.NoMemory g m n a b = absurd (m refl)
  one_tree_fault f tree_faults.NoMemory m n a b = absurd (n refl)

-- a root that tells no moment tells one nowhere
no_moment_too : (o : Option ℕ) → o ≡ None → IsSome o → ⊥
no_moment_too None e is = cc
no_moment_too (Some ms) e is = cc

pub refused_once : (text key : List ℕ) (f g : RegistryFault) → ((tree other : Nodes) → Spells text tree → Spells text other → tree ≡ other) →
    IsRefused text key f → IsRefused text key g → f ≢ faults.NoMemory → g ≢ faults.NoMemory → f ≡ g
refused_once text key (faults.Tree f) (faults.Tree g) one a b m n = ap faults.Tree (one_tree_fault text one f g a.0 b.0 a.1 b.1)
refused_once text key (faults.Tree f) faults.WrongShape one a b m n = absurd (no_tree_fault text one b.0 b.1 f a.0 a.1)
refused_once text key (faults.Tree f) (faults.Signature g) one a b m n = absurd (no_tree_fault text one b.0 b.1 f a.0 a.1)
refused_once text key faults.WrongShape (faults.Tree g) one a b m n = absurd (no_tree_fault text one a.0 a.1 g b.0 b.1)
refused_once text key faults.WrongShape faults.WrongShape one a b m n = refl
refused_once text key faults.WrongShape (faults.Signature g) one a b m n =
    let same : a.0 ≡ b.0 = one a.0 b.0 a.1.spells b.1.spells in
    absurd (no_moment_too (valid_until b.0 0) (subst (λ tree. valid_until tree 0 ≡ None) same a.2) b.2.0)
refused_once text key (faults.Signature f) (faults.Tree g) one a b m n = absurd (no_tree_fault text one a.0 a.1 g b.0 b.1)
refused_once text key (faults.Signature f) faults.WrongShape one a b m n =
    let same : b.0 ≡ a.0 = one b.0 a.0 b.1.spells a.1.spells in
    absurd (no_moment_too (valid_until a.0 0) (subst (λ tree. valid_until tree 0 ≡ None) same b.2) a.2.0)
refused_once text key (faults.Signature f) (faults.Signature g) one a b m n =
    let same : b.0 ≡ a.0 = one b.0 a.0 b.1.spells a.1.spells in
    ap faults.Signature (one_signature_fault key a.0 0 f g a.2.1 b.2.1 a.2.2 (subst (λ tree. IsFirstUnvouched key tree 0 g) same b.2.2))
refused_once text key faults.NoMemory g one a b m n = absurd (m refl)
refused_once text key f faults.NoMemory one a b m n = absurd (n refl)
