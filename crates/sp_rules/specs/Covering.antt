-- Which signatures cover an assertion of a response. In the POST binding each assertion is signed: it has a signature, or its
-- response has one (SAML Profiles, 4.1.3.5 and 4.1.4.5; SAML Core, 5.4).
use Rattle.std.specs.Prelude.{◌≡◌, ℕ, ◌⊎◌, Bool, List, [], ◌∷◌, ◌++◌, Option, None, Some, if◌then◌else◌, codes}
use Rattle.xml_spec.specs.Tree.{Nodes}
use Rattle.saml_names.specs.Names.{ds}
use Rattle.tree_read.specs.Children.{children}
use Rattle.protocol_messages.specs.Messages.{is_any}
use Rattle.sig_reference.specs.Form.{Parts, HasForm}
use Rattle.sig_reference.specs.Signature.{Vouches, IsReferredTo, IsDigested, is_tagged}
use Rattle.sig_reference.specs.declared.fault.SigFault.{SigFault}
use Rattle.sig_reference.specs.declared.fault.SigFault.TheVariants as faults
use Rattle.sp_rules.specs.Keys.{Key}

-- ONE SIGNATURE

-- the first key under which the SignatureValue is the HMAC of the canonical form of SignedInfo, where that is not too
-- long (XML Signature, 3.2.2)
abbrev pub tagging : List Key → Nodes → Parts → Option Key
tagging [] tree parts = None
tagging (key ∷ keys) tree parts = if is_tagged key.bytes tree parts then Some key else tagging keys tree parts

-- the signature of element e vouches for it under this key, the first that makes its tag
pub record IsVerified (keys : List Key) (tree : Nodes) (e : ℕ) (key : Key) : Type 0 where
  pub parts : Parts
  pub tagged : tagging keys tree parts ≡ Some key
  pub vouches : Vouches key.bytes tree e parts

-- why no signature of element e vouches for it: the first condition that fails (XML Signature, 3.2)
abbrev pub IsUnverified : List Key → Nodes → ℕ → SigFault → Type 0
IsUnverified keys tree e faults.BadSignatureForm = (parts : Parts) → ¬ (HasForm tree e parts)
IsUnverified keys tree e faults.BadReference = (parts : Parts) × HasForm tree e parts × ¬ (IsReferredTo tree e parts)
IsUnverified keys tree e faults.TagDiffers =
    (parts : Parts) × HasForm tree e parts × IsReferredTo tree e parts × (tagging keys tree parts ≡ None)
IsUnverified keys tree e faults.DigestDiffers =
    (parts : Parts) × (key : Key) × HasForm tree e parts × IsReferredTo tree e parts × (tagging keys tree parts ≡ Some key) × ¬ (IsDigested tree e parts)
IsUnverified keys tree e faults.NoMemory = Unit {0}

-- THE SIGNATURES OF A RESPONSE AND ITS ASSERTION

-- element e has a Signature
abbrev pub is_signed : Nodes → ℕ → Bool
is_signed tree e = is_any (children tree e (ds (codes "Signature")))

abbrev pub if_signed : Nodes → ℕ → List ℕ
if_signed tree e = if is_signed tree e then e ∷ [] else []

-- those of the response and of assertion p in it that have a Signature, in this order. The response is the root.
abbrev pub signed_of : Nodes → ℕ → List ℕ
signed_of tree p = if_signed tree 0 ++ if_signed tree p

-- each of these elements is verified
abbrev pub AreVerified : List Key → Nodes → List ℕ → Type 0
AreVerified keys tree [] = Unit {0}
AreVerified keys tree (e ∷ others) = ((key : Key) × IsVerified keys tree e key) × AreVerified keys tree others

-- Assertion p is covered: it or its response is signed, and each signature that there is vouches. Element e is the first that is
-- signed, and this key made its tag.
pub record IsCovered (keys : List Key) (tree : Nodes) (p e : ℕ) (key : Key) : Type 0 where
  pub others : List ℕ
  pub signed : signed_of tree p ≡ e ∷ others
  pub first : IsVerified keys tree e key
  pub rest : AreVerified keys tree others

-- the fault of the first of these elements that is not verified
abbrev pub IsFirstUnverified : List Key → Nodes → List ℕ → SigFault → Type 0
IsFirstUnverified keys tree [] fault = ⊥
IsFirstUnverified keys tree (e ∷ others) fault =
    IsUnverified keys tree e fault ⊎ (((key : Key) × IsVerified keys tree e key) × IsFirstUnverified keys tree others fault)

-- why assertion p is not covered: nothing is signed, or a signature does not vouch
abbrev pub IsUncovered : List Key → Nodes → ℕ → SigFault → Type 0
IsUncovered keys tree p fault =
    ((signed_of tree p ≡ []) × (fault ≡ faults.BadSignatureForm)) ⊎ IsFirstUnverified keys tree (signed_of tree p) fault
