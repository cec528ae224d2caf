-- When an element is vouched for with a key: SAML Core 5.4, XML Signature, 3.2 (core validation).
use Rattle.std.specs.Prelude.{◌≡◌, ◌≢◌, ℕ, ◌≤◌, Bool, ◌&&◌, List, [], ◌∷◌, length, codes, None, Some, nat_le}
use Rattle.std.specs.Str.{bytes_eq}
use Rattle.sha2.specs.Sha256.{sha256}
use Rattle.hmac_sha256.specs.Hmac.{hmac}
use Rattle.xml_spec.specs.Tree.{Nodes}
use Rattle.xml_spec.specs.Identifiers.{IsSingle}
use Rattle.xml_spec.specs.Canonical.{canonical}
use Rattle.tree_read.specs.Texts.{attribute_text}
use Rattle.sig_reference.specs.Form.{Parts, HasForm, HasFirstForm}
use Rattle.sig_reference.specs.declared.limits.TheConstants.{MAX_CHECKED_FORM_LENGTH}
use Rattle.sig_reference.specs.declared.fault.SigFault.{SigFault}
use Rattle.sig_reference.specs.declared.fault.SigFault.TheVariants as faults

-- '#'
abbrev pub number_sign : ℕ
number_sign = 35

-- SAML Core 5.4.2: the reference is to the ID of the element that the signature stands in
pub record IsReferredTo (tree : Nodes) (e : ℕ) (parts : Parts) : Type 0 where
  pub id : List ℕ
  pub given : attribute_text tree e (codes "ID") ≡ Some id
  pub some : id ≢ []
  pub uri : parts.uri ≡ Some (number_sign ∷ id)

-- XML Signature, 3.1.2: the canonical form of SignedInfo, over which the SignatureValue is checked
abbrev pub info_form : Nodes → Parts → List ℕ
info_form tree parts = canonical tree parts.signed_info None parts.info_prefixes

-- XML Signature, 3.1.1: the canonical form of the element without its Signature, over which the DigestValue is checked
abbrev pub element_form : Nodes → ℕ → Parts → List ℕ
element_form tree e parts = canonical tree e (Some parts.signature) parts.element_prefixes

-- a form that a signature is checked over has at most so many bytes (profile)
abbrev pub IsCheckable : List ℕ → Type 0
IsCheckable form = length form ≤ MAX_CHECKED_FORM_LENGTH

-- XML Signature, 3.2.2 and 6.3.1: the SignatureValue is the HMAC of the canonical form of SignedInfo, and that is not
-- too long
pub record IsTagged (key : List ℕ) (tree : Nodes) (parts : Parts) : Type 0 where
  pub checkable : IsCheckable (info_form tree parts)
  pub tag : parts.tag ≡ hmac key (info_form tree parts)

-- the same as a test
abbrev pub is_tagged : List ℕ → Nodes → Parts → Bool
is_tagged key tree parts =
    nat_le (length (info_form tree parts)) MAX_CHECKED_FORM_LENGTH
    && bytes_eq parts.tag (hmac key (info_form tree parts))

-- XML Signature, 3.2.1: the DigestValue is the hash of the canonical form of the element without its Signature, and
-- that is not too long
pub record IsDigested (tree : Nodes) (e : ℕ) (parts : Parts) : Type 0 where
  pub checkable : IsCheckable (element_form tree e parts)
  pub digest : parts.digest ≡ sha256 (element_form tree e parts)

-- what a signature of a good form has to say of the element: XML Signature, 3.2
pub record IsValid (key : List ℕ) (tree : Nodes) (e : ℕ) (parts : Parts) : Type 0 where
  pub reference : IsReferredTo tree e parts
  pub tag : IsTagged key tree parts
  pub digest : IsDigested tree e parts

-- the first of these conditions that does not hold
abbrev pub IsInvalid : List ℕ → Nodes → ℕ → Parts → SigFault → Type 0
IsInvalid key tree e parts faults.BadSignatureForm = ⊥
IsInvalid key tree e parts faults.BadReference = ¬ (IsReferredTo tree e parts)
IsInvalid key tree e parts faults.TagDiffers = IsReferredTo tree e parts × ¬ (IsTagged key tree parts)
IsInvalid key tree e parts faults.DigestDiffers = IsReferredTo tree e parts × IsTagged key tree parts × ¬ (IsDigested tree e parts)
IsInvalid key tree e parts faults.NoMemory = Unit {0}

-- element e of the tree is vouched for with the key, by the signature with these parts, which has to be of this form
pub record VouchesBy (IsForm : Nodes → ℕ → Parts → Type 0) (key : List ℕ) (tree : Nodes) (e : ℕ) (parts : Parts) : Type 0 where
  pub single : IsSingle tree
  pub form : IsForm tree e parts
  pub reference : IsReferredTo tree e parts
  pub tag : IsTagged key tree parts
  pub digest : IsDigested tree e parts

-- what a fault says: the first of these conditions that does not hold
abbrev pub IsUnvouchedBy : (Nodes → ℕ → Parts → Type 0) → List ℕ → Nodes → ℕ → SigFault → Type 0
IsUnvouchedBy IsForm key tree e faults.BadSignatureForm = (parts : Parts) → ¬ (IsForm tree e parts)
IsUnvouchedBy IsForm key tree e faults.BadReference = (parts : Parts) × IsForm tree e parts × ¬ (IsReferredTo tree e parts)
IsUnvouchedBy IsForm key tree e faults.TagDiffers =
    (parts : Parts) × IsForm tree e parts × IsReferredTo tree e parts × ¬ (IsTagged key tree parts)
IsUnvouchedBy IsForm key tree e faults.DigestDiffers =
    (parts : Parts) × IsForm tree e parts × IsReferredTo tree e parts × IsTagged key tree parts × ¬ (IsDigested tree e parts)
IsUnvouchedBy IsForm key tree e faults.NoMemory = Unit {0}

-- SAML Core 5.4: the Signature stands behind the Issuer
abbrev pub Vouches : List ℕ → Nodes → ℕ → Parts → Type 0
Vouches key tree e parts = VouchesBy HasForm key tree e parts

abbrev pub IsUnvouched : List ℕ → Nodes → ℕ → SigFault → Type 0
IsUnvouched key tree e fault = IsUnvouchedBy HasForm key tree e fault

-- SAML Metadata 3.1: the Signature stands in front
abbrev pub VouchesFirst : List ℕ → Nodes → ℕ → Parts → Type 0
VouchesFirst key tree e parts = VouchesBy HasFirstForm key tree e parts

abbrev pub IsFirstUnvouched : List ℕ → Nodes → ℕ → SigFault → Type 0
IsFirstUnvouched key tree e fault = IsUnvouchedBy HasFirstForm key tree e fault
