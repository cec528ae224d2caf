-- What signing adds to a made element: XML Signature, 4; SAML Core 5.4. There is no KeyInfo, and no InclusiveNamespaces.
use Rattle.std.specs.Prelude.{◌≢◌, ℕ, Bool, true, false, not, ◌&&◌, List, [], ◌∷◌, codes, unwrap_or, IsTrue}
use Rattle.std.specs.Str.{bytes_eq}
use Rattle.base64.specs.Engines.{standard}
use Rattle.base64.specs.GeneralPurpose.{encode_of}
use Rattle.sha2.specs.Sha256.{sha256}
use Rattle.hmac_sha256.specs.Hmac.{hmac}
use Rattle.xml_spec.specs.Tree.{Attribute}
use Rattle.element_make.specs.declared.names.Ns.TheVariants.{Saml, Ds}
use Rattle.element_make.specs.Prefixes.{same}
use Rattle.element_make.specs.Made.{MadeNodes, NothingMade, MadeElement, MadeText, Made, alone, joined, with_second, value_of, written}
use Rattle.sig_reference.specs.Algorithms.{exclusive, enveloped, hmac_sha256, sha256_digest}
use Rattle.sig_reference.specs.Signature.{number_sign, IsCheckable}

-- an element of XML Signature
abbrev pub part : List ℕ → List Attribute → MadeNodes → MadeNodes
part local attributes kids = MadeElement Ds local attributes kids NothingMade

-- an element with an algorithm and no more
abbrev pub method : List ℕ → List ℕ → MadeNodes
method local algorithm = part local (record { name = codes "Algorithm"; value = algorithm } ∷ []) NothingMade

-- an element that holds the base64 of these bytes
abbrev pub encoded : List ℕ → List ℕ → MadeNodes
encoded local bytes = part local [] (MadeText (encode_of standard bytes) NothingMade)

-- the Reference to the element with this ID, of which the canonical form has this digest
abbrev pub reference : List ℕ → List ℕ → MadeNodes
reference id digest =
    part (codes "Reference") (record { name = codes "URI"; value = number_sign ∷ id } ∷ [])
    (joined (part (codes "Transforms") [] (joined (method (codes "Transform") enveloped) (method (codes "Transform") exclusive)))
    (joined (method (codes "DigestMethod") sha256_digest) (encoded (codes "DigestValue") digest)))

abbrev pub signed_info : List ℕ → List ℕ → Made
signed_info id digest = record {
  ns = Ds;
  local = codes "SignedInfo";
  attributes = [];
  kids = joined (method (codes "CanonicalizationMethod") exclusive)
      (joined (method (codes "SignatureMethod") hmac_sha256) (reference id digest));
}

-- the Signature of this SignedInfo under the key
abbrev pub signature : List ℕ → Made → Made
signature key info = record {
  ns = Ds;
  local = codes "Signature";
  attributes = [];
  kids = joined (alone info) (encoded (codes "SignatureValue") (hmac key (written info)));
}

-- the ID of a made element, empty where it has none
abbrev pub id_of : Made → List ℕ
id_of made = unwrap_or (value_of (codes "ID") made.attributes) []

-- the element with its signature as the second child
abbrev pub signed : List ℕ → Made → Made
signed key made = record made {
  kids = with_second made.kids (alone (signature key (signed_info (id_of made) (sha256 (written made)))));
}

-- the nodes begin with a saml:Issuer
abbrev pub begins_with_issuer : MadeNodes → Bool
begins_with_issuer (MadeElement ns local attributes kids rest) = same ns Saml && bytes_eq local (codes "Issuer")
begins_with_issuer _ = false

-- none of the nodes is a ds:Signature
abbrev pub has_no_signature : MadeNodes → Bool
has_no_signature NothingMade = true
has_no_signature (MadeElement ns local attributes kids rest) =
    not (same ns Ds && bytes_eq local (codes "Signature")) && has_no_signature rest
has_no_signature (MadeText text rest) = has_no_signature rest

-- an element that can be signed: it has an ID, an Issuer in front, and no Signature yet
pub record CanBeSigned (made : Made) : Type 0 where
  pub id : id_of made ≢ []
  pub issuer : IsTrue (begins_with_issuer made.kids)
  pub unsigned : IsTrue (has_no_signature made.kids)

-- the two forms that the signature of a made element is checked over are not too long: that of the element, and that of
-- SignedInfo
pub record CanBeChecked (made : Made) : Type 0 where
  pub element : IsCheckable (written made)
  pub info : IsCheckable (written (signed_info (id_of made) (sha256 (written made))))
