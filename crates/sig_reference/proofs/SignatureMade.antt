-- A signature can be made, and so can an element with it.
use Rattle.std.proofs.Common.{◌≡◌, ℕ, true, false, List, [], ◌∷◌, codes, refl}
use Rattle.std.specs.Char.{encode_utf8}
use Rattle.std.specs.Str.{bytes_eq, chars}
use Rattle.std.proofs.lemmas.Slice.Eq.{bytes_eq-Decides}
use Rattle.sha2.specs.Sha256.{sha256}
use Rattle.xml_spec.specs.Characters.{IsText, IsNoColonName}
use Rattle.xml_spec.specs.Tree.{Attribute}
use Rattle.xml_spec.proofs.Tests.{both_true}
use Rattle.xml_spec.proofs.Valid.{name_shown, other_bytes}
use Rattle.element_make.specs.declared.names.Ns.{Ns}
use Rattle.element_make.specs.declared.names.Ns.TheVariants.{Saml, Samlp, Ds, Md}
use Rattle.element_make.specs.Prefixes.{same}
use Rattle.element_make.specs.Made.{Made, MadeNodes, NothingMade, MadeElement, MadeText, alone, joined, with_second, written, IsMadeAttribute, AreMade, IsMade}
use Rattle.element_make.proofs.Content.{made_with_second}
use Rattle.sig_reference.specs.Algorithms.{exclusive, enveloped, hmac_sha256, sha256_digest}
use Rattle.sig_reference.specs.Signature.{number_sign}
use Rattle.sig_reference.specs.Signing.{method, encoded, reference, signed_info, signature, signed, id_of, begins_with_issuer}
use Rattle.sig_reference.proofs.Writable.{printable_text, base64_text, reference_text, value_text}
use Rattle.sig_reference.proofs.Digests.{digest_is_bytes, tag_is_bytes}

method_made : (local algorithm : List ℕ) (rest : MadeNodes) → IsNoColonName local → IsText algorithm → AreMade rest →
    AreMade (MadeElement Ds local (record { name = codes "Algorithm"; value = algorithm } ∷ []) NothingMade rest)
unfolding chars encode_utf8
method_made local algorithm rest name text made = (
  name,
  (record { name = (name_shown _ refl, refl); no_declaration = other_bytes _ _ refl; value = text }, tt),
  (tt, tt),
  tt,
  made,
)

text_made : (local text : List ℕ) → IsNoColonName local → IsText text → AreMade (MadeElement Ds local [] (MadeText text NothingMade) NothingMade)
text_made local text name is = (name, tt, tt, (is, tt), tt)

pub info_made : (id digest : List ℕ) → IsText id → AreMade (alone (signed_info id (sha256 digest)))
unfolding chars encode_utf8
info_made id digest is =
    let value = text_made (codes "DigestValue") _ (name_shown _ refl, refl) (base64_text (sha256 digest) (digest_is_bytes digest)) in
    let digested = method_made (codes "DigestMethod") sha256_digest (encoded (codes "DigestValue") (sha256 digest)) (name_shown _ refl, refl) (printable_text _ refl) value in
    let second = method_made (codes "Transform") exclusive NothingMade (name_shown _ refl, refl) (printable_text _ refl) tt in
    let first = method_made (codes "Transform") enveloped (method (codes "Transform") exclusive) (name_shown _ refl, refl) (printable_text _ refl) second in
    let uri : IsMadeAttribute (record { name = codes "URI"; value = number_sign ∷ id }) =
    record { name = (name_shown _ refl, refl); no_declaration = other_bytes _ _ refl; value = reference_text id is } in
    let referred : AreMade (reference id (sha256 digest)) =
    ((name_shown _ refl, refl), (uri, tt), (tt, tt), ((name_shown _ refl, refl), tt, tt, first, digested), tt) in
    let signs = method_made (codes "SignatureMethod") hmac_sha256 (reference id (sha256 digest)) (name_shown _ refl, refl) (printable_text _ refl) referred in
    ((name_shown _ refl, refl), tt, tt, method_made (codes "CanonicalizationMethod") exclusive (joined (method (codes "SignatureMethod") hmac_sha256) (reference id (sha256 digest))) (name_shown _ refl, refl) (printable_text _ refl) signs, tt)

signature_made : (key id digest : List ℕ) → IsText id → AreMade (alone (signature key (signed_info id (sha256 digest))))
unfolding chars encode_utf8
signature_made key id digest is =
    let info = info_made id digest is in
    let value = text_made (codes "SignatureValue") _ (name_shown _ refl, refl) (base64_text _ (tag_is_bytes key (written (signed_info id (sha256 digest))))) in
    ((name_shown _ refl, refl), tt, tt, (info.0, info.1, info.2, info.3, value), tt)

-- an element with its signature can be made
pub signed_made : (key : List ℕ) (made : Made) → IsMade made → IsMade (signed key made)
signed_made key made is = (
  is.0,
  is.1,
  is.2,
  made_with_second made.kids (alone (signature key (signed_info (id_of made) (sha256 (written made))))) is.3
      (signature_made key (id_of made) (written made) (value_text (codes "ID") made.attributes is.1)),
  tt,
)

-- and so can the element without it
pub unsigned_made : (key : List ℕ) (made : Made) → IsMade (signed key made) → IsMade made
unsigned_made key made is =
    (is.0, is.1, is.2, without_second made.kids (signature key (signed_info (id_of made) (sha256 (written made)))) is.3, tt)
  where
    behind : (nodes more : MadeNodes) → AreMade (joined nodes more) → AreMade more
    behind NothingMade more made = made
    behind (MadeElement ns local attributes kids rest) more made = behind rest more made.4
    behind (MadeText text rest) more made = behind rest more made.1

    without_second : (nodes : MadeNodes) (second : Made) → AreMade (with_second nodes (alone second)) → AreMade nodes
    without_second NothingMade second made = tt
    without_second (MadeElement ns local attributes kids rest) second made = (made.0, made.1, made.2, made.3, behind (alone second) rest made.4)
    without_second (MadeText text rest) second made = (made.0, behind (alone second) rest made.1)

-- nodes with an Issuer in front
pub record IsIssued (nodes : MadeNodes) : Type 0 where
  pub given : List Attribute
  pub kids : MadeNodes
  pub rest : MadeNodes
  pub is : nodes ≡ MadeElement Saml (codes "Issuer") given kids rest

same_as_saml : (ns : Ns) → same ns Saml ≡ true → ns ≡ Saml
same_as_saml Saml h = refl
same_as_saml Samlp h = absurd (let clash : false ≡ true = h in cc)
same_as_saml Ds h = absurd (let clash : false ≡ true = h in cc)
same_as_saml Md h = absurd (let clash : false ≡ true = h in cc)

pub issued : (nodes : MadeNodes) → begins_with_issuer nodes ≡ true → IsIssued nodes
issued NothingMade h = absurd (let clash : false ≡ true = h in cc)
issued (MadeElement ns local attributes inside behind) h =
    let parts = both_true (same ns Saml) (bytes_eq local (codes "Issuer")) h in
    let space = same_as_saml ns parts.0 in
    let name = (bytes_eq-Decides local (codes "Issuer")).0 parts.1 in
    record { given = attributes; kids = inside; rest = behind; is = λ i. MadeElement (space i) (name i) attributes inside behind }
issued (MadeText text rest) h = absurd (let clash : false ≡ true = h in cc)
