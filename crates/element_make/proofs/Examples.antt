-- Worked examples: what is written of made elements.
use Rattle.std.proofs.Common.{◌≡◌, ℕ, List, [], ◌∷◌, codes, refl}
use Rattle.xml_spec.specs.Tree.{Attribute}
use Rattle.element_make.specs.declared.names.Ns.{Ns}
use Rattle.element_make.specs.declared.names.Ns.TheVariants.{Saml, Samlp, Ds, Md}
use Rattle.element_make.specs.Made.{Made, MadeNodes, NothingMade, MadeElement, MadeText, alone, joined, with_second, written}

abbrev attribute : List ℕ → List ℕ → Attribute
attribute name value = record { name = name; value = value }

-- an element with only a text, and then others
abbrev with_only_text : Ns → List ℕ → List ℕ → MadeNodes → MadeNodes
with_only_text ns local text rest = MadeElement ns local [] (MadeText text NothingMade) rest

abbrev element : Ns → List ℕ → List Attribute → MadeNodes → Made
element ns local attributes kids = record { ns = ns; local = local; attributes = attributes; kids = kids }

abbrev issuer : MadeNodes
issuer = with_only_text Saml (codes "Issuer") (codes "x") NothingMade

-- a namespace is declared at the outermost element that uses it, and not again inside
assertion : written (element Saml (codes "Assertion") (attribute (codes "ID") (codes "_t") ∷ []) issuer)
    ≡ codes "<saml:Assertion xmlns:saml=\"urn:oasis:names:tc:SAML:2.0:assertion\" ID=\"_t\"><saml:Issuer>x</saml:Issuer></saml:Assertion>"
assertion = refl

-- another namespace is declared at the kid that uses it
response : written (element Samlp (codes "Response") [] issuer)
    ≡ codes "<samlp:Response xmlns:samlp=\"urn:oasis:names:tc:SAML:2.0:protocol\"><saml:Issuer xmlns:saml=\"urn:oasis:names:tc:SAML:2.0:assertion\">x</saml:Issuer></samlp:Response>"
response = refl

-- and again at the next kid
two_kids : written (element Samlp (codes "Response") [] (joined issuer (with_only_text Saml (codes "Issuer") (codes "y") NothingMade)))
    ≡ codes "<samlp:Response xmlns:samlp=\"urn:oasis:names:tc:SAML:2.0:protocol\"><saml:Issuer xmlns:saml=\"urn:oasis:names:tc:SAML:2.0:assertion\">x</saml:Issuer><saml:Issuer xmlns:saml=\"urn:oasis:names:tc:SAML:2.0:assertion\">y</saml:Issuer></samlp:Response>"
two_kids = refl

-- attributes are written in the order of their bytes, capital letters before small ones
in_order : written (element Md (codes "SingleSignOnService")
    (attribute (codes "index") (codes "0") ∷ attribute (codes "Location") (codes "l") ∷ attribute (codes "Binding") (codes "b") ∷ []) NothingMade)
    ≡ codes "<md:SingleSignOnService xmlns:md=\"urn:oasis:names:tc:SAML:2.0:metadata\" Binding=\"b\" Location=\"l\" index=\"0\"></md:SingleSignOnService>"
in_order = refl

-- signs that would be markup are written as references, in texts and in values
escaped : written (element Ds (codes "KeyName") (attribute (codes "Id") (codes "<&\">") ∷ []) (MadeText (codes "<&\">") NothingMade))
    ≡ codes "<ds:KeyName xmlns:ds=\"http://www.w3.org/2000/09/xmldsig#\" Id=\"&lt;&amp;&quot;>\">&lt;&amp;\"&gt;</ds:KeyName>"
escaped = refl

-- a second kid, as the Signature behind the Issuer
abbrev signature : Made
signature = element Ds (codes "Signature") [] NothingMade

second : with_second (joined issuer (alone (element Saml (codes "Subject") [] NothingMade))) (alone signature)
    ≡ joined issuer (joined (alone signature) (alone (element Saml (codes "Subject") [] NothingMade)))
second = refl
