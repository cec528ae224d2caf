-- The Assertion of a login can be signed, and so can a Response that holds it.
use Rattle.std.proofs.Common.{◌≡◌, ◌≢◌, ℕ, true, false, List, [], ◌∷◌, Some, IsTrue, refl, sym, subst}
use Rattle.owned_values.specs.declared.attributes.Attribute.{Attribute}
use Rattle.element_make.specs.Made.{Made, MadeNodes, NothingMade, MadeElement, MadeText, joined, with_second, AreMade, IsMade}
use Rattle.sig_reference.specs.Signing.{CanBeSigned, has_no_signature, signed}
use Rattle.assertion_model.specs.declared.login.Login.{Login}
use Rattle.assertion_model.specs.Assertion.{assertion, statements, IsAssertionOf}
use Rattle.protocol_messages.specs.Making.{response}
use Rattle.provider_config.specs.declared.idp_config.SignMode.{SignMode}
use Rattle.provider_config.specs.declared.idp_config.SignMode.TheVariants as modes
use Rattle.idp_answers.specs.Answers.{signed_assertion, signed_response, signs_response}

none_signed : (attributes : List Attribute) → IsTrue (has_no_signature (statements attributes))
none_signed [] = refl
none_signed (attribute ∷ others) = refl

pub assertion_unsigned : (login : Login) (made : Made) → IsAssertionOf login made → IsTrue (has_no_signature made.kids)
assertion_unsigned login made is = subst (λ (made : Made). IsTrue (has_no_signature made.kids)) (sym is.is) (none_signed login.attributes)

-- the Assertion of a login with an ID
pub assertion_signable : (login : Login) (made : Made) → login.id ≢ [] → IsAssertionOf login made → CanBeSigned made
assertion_signable login made named is =
    subst CanBeSigned (sym is.is) (record { id = named; issuer = refl; unsigned = none_signed login.attributes })

-- a Response that holds it
response_with : (mode : SignMode) (key : List ℕ) (login : Login) (held : Made) → IsAssertionOf login held →
    (message issuer consumer request instant : List ℕ) → message ≢ [] →
    CanBeSigned (response message issuer consumer request (Some (signed_assertion mode key held)) instant)
response_with modes.Assertion key login held is message issuer consumer request instant named =
    subst (λ (held : Made). CanBeSigned (response message issuer consumer request (Some (signed key held)) instant)) (sym is.is)
    (record { id = named; issuer = refl; unsigned = refl })
response_with modes.Response key login held is message issuer consumer request instant named =
    subst (λ (held : Made). CanBeSigned (response message issuer consumer request (Some held) instant)) (sym is.is)
    (record { id = named; issuer = refl; unsigned = refl })
response_with modes.Both key login held is message issuer consumer request instant named =
    subst (λ (held : Made). CanBeSigned (response message issuer consumer request (Some (signed key held)) instant)) (sym is.is)
    (record { id = named; issuer = refl; unsigned = refl })

pub response_signable : (mode : SignMode) (key : List ℕ) (login : Login) (assertion made : Made) → IsAssertionOf login assertion →
    (message issuer consumer request instant : List ℕ) → message ≢ [] →
    made ≡ response message issuer consumer request (Some (signed_assertion mode key assertion)) instant → CanBeSigned made
response_signable mode key login assertion made of_login message issuer consumer request instant named is =
    subst CanBeSigned (sym is) (response_with mode key login assertion of_login message issuer consumer request instant named)

-- WHAT IS WELL MADE WITH A SIGNATURE IS SO WITHOUT IT

behind : (nodes more : MadeNodes) → AreMade (joined nodes more) → AreMade more
behind NothingMade more h = h
behind (MadeElement ns local attributes kids rest) more h = behind rest more h.4
behind (MadeText text rest) more h = behind rest more h.1

around : (nodes second : MadeNodes) → AreMade (with_second nodes second) → AreMade nodes
around NothingMade second h = tt
around (MadeElement ns local attributes kids rest) second h = (h.0, h.1, h.2, h.3, behind second rest h.4)
around (MadeText text rest) second h = (h.0, behind second rest h.1)

unsigned_made : (key : List ℕ) (made : Made) → IsMade (signed key made) → IsMade made
unsigned_made key made h = (h.0, h.1, h.2, around made.kids _ h.3, h.4)

-- of a Response as it is sent
pub response_made : (mode : SignMode) (key : List ℕ) (made sent : Made) → sent ≡ signed_response mode key made → IsMade sent → IsMade made
response_made modes.Assertion key made sent is h = subst IsMade is h
response_made modes.Response key made sent is h = unsigned_made key made (subst IsMade is h)
response_made modes.Both key made sent is h = unsigned_made key made (subst IsMade is h)

-- a Response that the mode signs is sent with its signature
pub sent_signed : (mode : SignMode) (key : List ℕ) (made : Made) → IsTrue (signs_response mode) → signed_response mode key made ≡ signed key made
sent_signed modes.Assertion key made h = absurd (let clash : false ≡ true = h in cc)
sent_signed modes.Response key made h = refl
sent_signed modes.Both key made h = refl
