-- The definitions on small cases.
use Rattle.std.proofs.Common.{◌≡◌, true, false, [], ◌∷◌, ◌++◌, codes, Some, refl}
use Rattle.xml_spec.specs.Tree.{Nodes, NoNodes, Element, Text, Comment, Instruction}
use Rattle.xml_spec.specs.Numbering.{from_node}
use Rattle.tree_read.specs.Texts.{attribute_text}
use Rattle.saml_names.specs.Names.{saml_namespace, ds_namespace, ds}
use Rattle.tree_read.specs.Children.{child, element_children}
use Rattle.sig_reference.specs.Form.{words}
use Rattle.sig_reference.specs.Placing.{Around, Beside, Inside, filled, place_in}
use Rattle.sig_reference.specs.Signing.{signed_info, signature, signed, id_of, begins_with_issuer, has_no_signature}
use Rattle.element_make.specs.Made.{Made, MadeNodes, NothingMade, MadeElement, MadeText, tree_of, written}
use Rattle.element_make.specs.declared.names.Ns.TheVariants.{Saml, Samlp, Ds}
use Rattle.sha2.specs.Sha256.{sha256}
use Rattle.base64.specs.Rfc4648.{encode_symbols}

-- white space in front and behind parts no word; a tab parts two
pub words-of_list : words (32 ∷ 97 ∷ 9 ∷ 98 ∷ 32 ∷ []) ≡ codes "a" ∷ codes "b" ∷ []
words-of_list = refl

pub words-of_nothing : words [] ≡ []
words-of_nothing = refl

pub words-of_white : words (codes "  ") ≡ []
words-of_white = refl

pub words-of_one : words (codes "#default") ≡ codes "#default" ∷ []
words-of_one = refl

-- <d:a xmlns:d="..xmldsig#"> <!--c--><d:b>t</d:b><?p v?><d:c/></d:a>
abbrev pub tree : Nodes
tree =
    Element (codes "d:a") (record { name = codes "xmlns:d"; value = ds_namespace } ∷ [])
    (Text (codes " ") (Comment (codes "c") (Element (codes "d:b") (record { name = codes "URI"; value = codes "#u" } ∷ []) (Text (codes "t") NoNodes)
    (Instruction (codes "p") (codes "v") (Element (codes "d:c") [] NoNodes NoNodes))))) NoNodes

-- texts, comments and instructions are passed over, and each element has its own number
pub element_children-root : element_children tree 0 ≡ child 3 (ds (codes "b")) ∷ child 6 (ds (codes "c")) ∷ []
element_children-root = refl

-- a text is no element child
pub element_children-first : element_children tree 3 ≡ []
element_children-first = refl

pub uri-of_first : attribute_text tree 3 (codes "URI") ≡ Some (codes "#u")
uri-of_first = refl

-- <saml:Issuer></saml:Issuer>t
abbrev issuer_first : MadeNodes
issuer_first = MadeElement Saml (codes "Issuer") [] NothingMade (MadeText (codes "t") NothingMade)

abbrev assertion : Made
assertion = record {
  ns = Saml;
  local = codes "Assertion";
  attributes = record { name = codes "ID"; value = codes "_a" } ∷ [];
  kids = issuer_first;
}

pub id_of-assertion : id_of assertion ≡ codes "_a"
id_of-assertion = refl

pub issuer-first : begins_with_issuer issuer_first ≡ true
issuer-first = refl

-- an Issuer behind a text is not in front, and one of protocol messages is none
pub issuer-behind_text : begins_with_issuer (MadeText (codes "t") issuer_first) ≡ false
issuer-behind_text = refl

pub issuer-of_protocol : begins_with_issuer (MadeElement Samlp (codes "Issuer") [] NothingMade NothingMade) ≡ false
issuer-of_protocol = refl

pub signature-there : has_no_signature (MadeText (codes "t") (MadeElement Ds (codes "Signature") [] NothingMade NothingMade)) ≡ false
signature-there = refl

-- the Signature stands between the Issuer and the text
pub signed-second : (signed (codes "k") assertion).kids
    ≡ MadeElement Saml (codes "Issuer") [] NothingMade
    (MadeElement Ds (codes "Signature") [] (signature (codes "k") (signed_info (codes "_a") (sha256 (written assertion)))).kids (MadeText (codes "t") NothingMade))
signed-second = refl

-- behind an Issuer that holds a text, in a Response
abbrev behind_issuer : Around
behind_issuer = Beside (MadeElement Saml (codes "Issuer") [] (MadeText (codes "i") NothingMade) NothingMade) (MadeText (codes "t") NothingMade)

abbrev response : Made
response = record { ns = Samlp; local = codes "Response"; attributes = []; kids = filled behind_issuer assertion }

-- the Response is node 0, the Issuer node 1, its text node 2
pub place-behind_issuer : place_in response behind_issuer ≡ 3
place-behind_issuer = refl

pub stands-behind_issuer : from_node (tree_of response) 3
    ≡ Element (codes "saml:Assertion") (record { name = codes "xmlns:saml"; value = saml_namespace } ∷ record { name = codes "ID"; value = codes "_a" } ∷ [])
    (Element (codes "saml:Issuer") [] NoNodes (Text (codes "t") NoNodes)) (Text (codes "t") NoNodes)
stands-behind_issuer = refl

-- one element deeper; texts that meet are one node
abbrev deeper : Around
deeper = Inside (MadeText (codes "a") (MadeText (codes "b") NothingMade)) Samlp (codes "Extensions") [] behind_issuer NothingMade

pub place-deeper : place_in response deeper ≡ 5
place-deeper = refl

-- the digest of one byte here, as it would be written
pub info-written : written (signed_info (codes "_a") (102 ∷ []))
    ≡ codes "<ds:SignedInfo xmlns:ds=\"http://www.w3.org/2000/09/xmldsig#\"><ds:CanonicalizationMethod Algorithm=\"http://www.w3.org/2001/10/xml-exc-c14n#\"></ds:CanonicalizationMethod>"
    ++ codes "<ds:SignatureMethod Algorithm=\"http://www.w3.org/2001/04/xmldsig-more#hmac-sha256\"></ds:SignatureMethod><ds:Reference URI=\"#_a\"><ds:Transforms>"
    ++ codes "<ds:Transform Algorithm=\"http://www.w3.org/2000/09/xmldsig#enveloped-signature\"></ds:Transform><ds:Transform Algorithm=\"http://www.w3.org/2001/10/xml-exc-c14n#\"></ds:Transform>"
    ++ codes "</ds:Transforms><ds:DigestMethod Algorithm=\"http://www.w3.org/2001/04/xmlenc#sha256\"></ds:DigestMethod><ds:DigestValue>Zg==</ds:DigestValue></ds:Reference></ds:SignedInfo>"
unfolding encode_symbols
info-written = refl
