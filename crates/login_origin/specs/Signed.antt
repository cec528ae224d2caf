-- Elements that a provider signed: SAML Core, 5.4; XML Signature, 3.1.
use Rattle.std.specs.Prelude.{◌≡◌, ℕ, List}
use Rattle.sha2.specs.Sha256.{sha256}
use Rattle.xml_spec.specs.Tree.{Nodes}
use Rattle.xml_spec.specs.Names.{HasNames}
use Rattle.xml_spec.specs.Document.{Spells}
use Rattle.sig_reference.specs.Form.{Parts, HasForm}
use Rattle.sig_reference.specs.Signature.{info_form, element_form}

-- an element that has a Signature, as it stands in a document: the bytes, the tree that they spell, the number of the element, and
-- what the Signature says
pub record Signed : Type 0 where
  pub bytes : List ℕ
  pub tree : Nodes
  pub element : ℕ
  pub parts : Parts

-- XML Signature, 3.1.2: the text of which the SignatureValue is the HMAC, the canonical form of SignedInfo
abbrev pub info_text : Signed → List ℕ
info_text s = info_form s.tree s.parts

-- XML Signature, 3.1.1: the text of which the DigestValue is the hash, the canonical form of the element without its Signature
abbrev pub signed_text : Signed → List ℕ
signed_text s = element_form s.tree s.element s.parts

-- The element was signed: the DigestValue of its Signature is the hash of its canonical form without that, however long it
-- is (XML Signature, 3.1.1). Which key made the SignatureValue is not said.
pub record IsSigned (s : Signed) : Type 0 where
  pub spelled : Spells s.bytes s.tree
  pub named : HasNames s.tree
  pub form : HasForm s.tree s.element s.parts
  pub digest : s.parts.digest ≡ sha256 (signed_text s)
