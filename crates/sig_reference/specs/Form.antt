-- The form of a signature: XML Signature, 4 and 6; SAML Core 5.4. Other attributes than the named ones are allowed.
use Rattle.std.specs.Prelude.{◌≡◌, ℕ, ◌⊎◌, not, List, [], ◌∷◌, ◌++◌, filter, length, codes, Option, Some, if◌then◌else◌}
use Rattle.std.specs.List.{AllByRecursion}
use Rattle.base64.specs.Engines.{standard}
use Rattle.base64.specs.GeneralPurpose.{encode_of, IsBytes}
use Rattle.xml_spec.specs.Bytes.{is_empty}
use Rattle.xml_spec.specs.Characters.{IsNoColonName}
use Rattle.xml_spec.specs.Tree.{Nodes}
use Rattle.xml_spec.specs.Syntax.{is_white}
use Rattle.saml_names.specs.Names.{ds, saml}
use Rattle.tree_read.specs.Children.{Child, child, named, element_children}
use Rattle.tree_read.specs.Texts.{text_of, attribute_text}
use Rattle.sig_reference.specs.Algorithms.{exclusive, enveloped, hmac_sha256, sha256_digest, inclusive_namespaces}

-- the element has this algorithm
abbrev pub HasAlgorithm : Nodes → ℕ → List ℕ → Type 0
HasAlgorithm tree k algorithm = attribute_text tree k (codes "Algorithm") ≡ Some algorithm

-- a method with this algorithm and no parameter
pub record IsMethod (tree : Nodes) (k : ℕ) (algorithm : List ℕ) : Type 0 where
  pub given : HasAlgorithm tree k algorithm
  pub bare : element_children tree k ≡ []

-- a word in front of words, an empty one is none
abbrev pub with_word : List ℕ → List (List ℕ) → List (List ℕ)
with_word word words = if is_empty word then words else word ∷ words

-- the words of a text that are parted by white space; the first bytes of the first word are given
abbrev pub words_from : List ℕ → List ℕ → List (List ℕ)
words_from word [] = with_word word []
words_from word (b ∷ bytes) = if is_white b then with_word word (words_from [] bytes) else words_from (word ++ b ∷ []) bytes

abbrev pub words : List ℕ → List (List ℕ)
words text = words_from [] text

-- Exclusive C14N, 4: a prefix of a PrefixList, where #default stands for the default namespace
abbrev pub IsPrefix : List ℕ → Type 0
IsPrefix word = (word ≡ codes "#default") ⊎ IsNoColonName word

-- InclusiveNamespaces has a PrefixList of these prefixes
pub record IsPrefixList (tree : Nodes) (k : ℕ) (prefixes : List (List ℕ)) : Type 0 where
  pub list : List ℕ
  pub given : attribute_text tree k (codes "PrefixList") ≡ Some list
  pub words : prefixes ≡ words list
  pub valid : AllByRecursion IsPrefix prefixes

-- InclusiveNamespaces with these prefixes is the only element child
pub record ListsPrefixes (tree : Nodes) (k : ℕ) (prefixes : List (List ℕ)) : Type 0 where
  pub parameter : ℕ
  pub only : element_children tree k ≡ child parameter inclusive_namespaces ∷ []
  pub listed : IsPrefixList tree parameter prefixes

-- exclusive canonicalization with these prefixes; without InclusiveNamespaces there are none
pub record IsCanonicalization (tree : Nodes) (k : ℕ) (prefixes : List (List ℕ)) : Type 0 where
  pub algorithm : HasAlgorithm tree k exclusive
  pub listed : ((element_children tree k ≡ []) × (prefixes ≡ [])) ⊎ ListsPrefixes tree k prefixes

-- a text that is the base64 of 32 bytes, white space left out: RFC 4648, 4
pub record IsBase64 (text bytes : List ℕ) : Type 0 where
  pub valid : IsBytes bytes
  pub length : length bytes ≡ 32
  pub encoded : filter (λ b. not (is_white b)) text ≡ encode_of standard bytes

-- what a signature says: the numbers of the Signature and of its SignedInfo, the prefix lists of the two canonical forms,
-- the URI of the Reference, the DigestValue and the SignatureValue
pub record Parts : Type 0 where
  pub signature : ℕ
  pub signed_info : ℕ
  pub info_prefixes : List (List ℕ)
  pub element_prefixes : List (List ℕ)
  pub uri : Option (List ℕ)
  pub digest : List ℕ
  pub tag : List ℕ

-- Transforms: the enveloped signature is left out, and then the exclusive canonical form is taken
pub record AreTransforms (tree : Nodes) (k : ℕ) (prefixes : List (List ℕ)) : Type 0 where
  pub first : ℕ
  pub second : ℕ
  pub children : element_children tree k ≡ child first (ds (codes "Transform")) ∷ child second (ds (codes "Transform")) ∷ []
  pub without_signature : IsMethod tree first enveloped
  pub canonical : IsCanonicalization tree second prefixes

-- Reference: Transforms, DigestMethod and DigestValue
pub record IsReference (tree : Nodes) (k : ℕ) (parts : Parts) : Type 0 where
  pub transforms : ℕ
  pub method : ℕ
  pub value : ℕ
  pub children : element_children tree k
      ≡ child transforms (ds (codes "Transforms")) ∷ child method (ds (codes "DigestMethod")) ∷ child value (ds (codes "DigestValue")) ∷ []
  pub transformed : AreTransforms tree transforms parts.element_prefixes
  pub digested : IsMethod tree method sha256_digest
  pub digest : IsBase64 (text_of tree value) parts.digest
  pub uri : parts.uri ≡ attribute_text tree k (codes "URI")

-- SignedInfo: CanonicalizationMethod, SignatureMethod and one Reference
pub record IsSignedInfo (tree : Nodes) (parts : Parts) : Type 0 where
  pub canonicalization : ℕ
  pub method : ℕ
  pub reference : ℕ
  pub children : element_children tree parts.signed_info
      ≡ child canonicalization (ds (codes "CanonicalizationMethod")) ∷ child method (ds (codes "SignatureMethod"))
      ∷ child reference (ds (codes "Reference")) ∷ []
  pub canonical : IsCanonicalization tree canonicalization parts.info_prefixes
  pub signed : IsMethod tree method hmac_sha256
  pub referred : IsReference tree reference parts

-- Signature: SignedInfo, SignatureValue and optionally KeyInfo, which is ignored
pub record IsSignature (tree : Nodes) (parts : Parts) : Type 0 where
  pub value : ℕ
  pub others : List Child
  pub children : element_children tree parts.signature
      ≡ child parts.signed_info (ds (codes "SignedInfo")) ∷ child value (ds (codes "SignatureValue")) ∷ others
  pub key_info : (others ≡ []) ⊎ ((k : ℕ) × (others ≡ child k (ds (codes "KeyInfo")) ∷ []))
  pub info : IsSignedInfo tree parts
  pub tag : IsBase64 (text_of tree value) parts.tag

-- element e has a signature of this form: its first element child is the Issuer, its second the Signature, and it has no
-- other Signature (SAML Core 5.4.1 and the schemas: Signature follows Issuer)
pub record HasForm (tree : Nodes) (e : ℕ) (parts : Parts) : Type 0 where
  pub issuer : ℕ
  pub others : List Child
  pub children : element_children tree e ≡ child issuer (saml (codes "Issuer")) ∷ child parts.signature (ds (codes "Signature")) ∷ others
  pub only : named (ds (codes "Signature")) others ≡ []
  pub signature : IsSignature tree parts

-- element e has a signature of this form in front: its first element child is the Signature, no Issuer is asked for, and it has
-- no other Signature (SAML Metadata 2.3.1 and 3.1: ds:Signature comes first in the schema)
pub record HasFirstForm (tree : Nodes) (e : ℕ) (parts : Parts) : Type 0 where
  pub others : List Child
  pub children : element_children tree e ≡ child parts.signature (ds (codes "Signature")) ∷ others
  pub only : named (ds (codes "Signature")) others ≡ []
  pub signature : IsSignature tree parts
