-- Which elements are signed of what is sent.
use Rattle.std.specs.Prelude.{◌≡◌, ℕ, List, [], ◌∷◌, ◌++◌, if◌then◌else◌}
use Rattle.element_make.specs.Made.{Made, MadeNodes, NothingMade, MadeElement, MadeText, alone}
use Rattle.sig_reference.specs.Signing.{has_no_signature, signed}
use Rattle.provider_config.specs.declared.idp_config.SignMode.{SignMode}
use Rattle.provider_config.specs.declared.idp_config.SignMode.TheVariants as modes
use Rattle.idp_answers.specs.Answers.{IsIssued}
use Rattle.idp_answers.specs.Stating.{Stated, stated_login}

-- the elements among made nodes and inside them that have a Signature among their children, in document order
abbrev pub signed_elements : MadeNodes → List Made
signed_elements NothingMade = []
signed_elements (MadeElement ns local attributes kids rest) =
    (if has_no_signature kids then [] else record { ns = ns; local = local; attributes = attributes; kids = kids } ∷ [])
    ++ signed_elements kids ++ signed_elements rest
signed_elements (MadeText text rest) = signed_elements rest

-- of a Response for a login the Assertion, the Response, or both, by the mode
abbrev pub signed_by : SignMode → (assertion response : Made) → List Made
signed_by modes.Assertion assertion response = assertion ∷ []
signed_by modes.Response assertion response = response ∷ []
signed_by modes.Both assertion response = response ∷ assertion ∷ []

-- Of the Response that is sent for a login nothing else is signed.
abbrev pub AResponseIsSignedByItsMode : Type 0
AResponseIsSignedByItsMode =
    (mode : SignMode) (key issuer message : List ℕ) (s : Stated) (consumer : List ℕ) (now : ℕ) (sent : Made)
    (i : IsIssued mode key (stated_login issuer s) message consumer now sent)
    → signed_elements (alone sent) ≡ signed_by mode (signed key i.assertion) (signed key i.unsigned)
