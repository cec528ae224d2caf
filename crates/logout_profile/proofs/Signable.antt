-- The messages of a logout can be signed.
use Rattle.std.proofs.Common.{◌≡◌, ◌≢◌, ℕ, Bool, true, false, cond, List, [], ◌∷◌, IsTrue, refl, sym, subst}
use Rattle.saml_names.specs.Uris.{partial_logout}
use Rattle.element_make.specs.Made.{Made}
use Rattle.sig_reference.specs.Signing.{CanBeSigned, has_no_signature}
use Rattle.protocol_messages.specs.Making.{logout_request, logged_out, session_indexes, succeeded, failed}

none_signed : (indexes : List (List ℕ)) → IsTrue (has_no_signature (session_indexes indexes))
none_signed [] = refl
none_signed (index ∷ indexes) = none_signed indexes

pub request_signable : (made : Made) (id issuer address name : List ℕ) (indexes : List (List ℕ)) (instant until : List ℕ) → id ≢ [] →
    made ≡ logout_request id issuer address name indexes instant until → CanBeSigned made
request_signable made id issuer address name indexes instant until named is =
    subst CanBeSigned (sym is) (record { id = named; issuer = refl; unsigned = none_signed indexes })

response_signed : (id issuer address request : List ℕ) (partial : Bool) (instant : List ℕ) → id ≢ [] →
    CanBeSigned (logged_out id issuer address request (cond partial (failed partial_logout) succeeded) instant)
response_signed id issuer address request true instant named = record { id = named; issuer = refl; unsigned = refl }
response_signed id issuer address request false instant named = record { id = named; issuer = refl; unsigned = refl }

pub response_signable : (made : Made) (id issuer address request : List ℕ) (partial : Bool) (instant : List ℕ) → id ≢ [] →
    made ≡ logged_out id issuer address request (cond partial (failed partial_logout) succeeded) instant → CanBeSigned made
response_signable made id issuer address request partial instant named is =
    subst CanBeSigned (sym is) (response_signed id issuer address request partial instant named)
