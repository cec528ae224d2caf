-- No two rows of the table of codes are alike: each number, and each name, leads back to its row.
use Rattle.std.proofs.Common.{◌≡◌, ℕ, List, [], ◌∷◌, Option, Some, nat_eq, refl, ap, sym, ◌∙◌}
use Rattle.std.specs.List.{find}
use Rattle.std.specs.Str.{bytes_eq}
use Rattle.verdict_codes.specs.Codes.{number_of, name_of}
use Rattle.verdict_codes.specs.declared.codes.Verdict.{Verdict}
use Rattle.verdict_codes.specs.declared.codes.Verdict.TheVariants.{BadForm, BadBase64, TooLarge, BadXml, XmlLimit, BadNames, DuplicateId, NotResponse, NotSuccess, NotOneAssertion, BadSignatureForm, BadReference, TagDiffers, DigestDiffers, BadAssertion, WrongIssuer, WrongAudience, WrongRecipient, NotInTime, NotOutstanding, RequestSpent, AssertionSeen, RelayDiffers, NotLogout, UnknownPeer, LogoutDestination, NoSuchSession, UnknownLogout, LogoutNotInTime, NotAuthnRequest, UnknownIssuer, RequestDestination, WrongConsumer, NoSuchPending, LoginRefused, DiskFault, Full, NoMemory, Foreign, RegistryExpired}

-- the rows of the table
abbrev rows : List Verdict
rows = BadForm ∷ BadBase64 ∷ TooLarge ∷ BadXml ∷ XmlLimit ∷ BadNames ∷ DuplicateId ∷ NotResponse ∷ NotSuccess ∷ NotOneAssertion ∷ BadSignatureForm ∷ BadReference ∷ TagDiffers ∷ DigestDiffers ∷ BadAssertion ∷ WrongIssuer ∷ WrongAudience ∷ WrongRecipient ∷ NotInTime ∷ NotOutstanding ∷ RequestSpent ∷ AssertionSeen ∷ RelayDiffers ∷ NotLogout ∷ UnknownPeer ∷ LogoutDestination ∷ NoSuchSession ∷ UnknownLogout ∷ LogoutNotInTime ∷ NotAuthnRequest ∷ UnknownIssuer ∷ RequestDestination ∷ WrongConsumer ∷ NoSuchPending ∷ LoginRefused ∷ DiskFault ∷ Full ∷ NoMemory ∷ Foreign ∷ RegistryExpired ∷ []

-- the row of a number
abbrev numbered : ℕ → Option Verdict
numbered n = find (λ v. nat_eq (number_of v) n) rows

-- the row of a name
abbrev named : List ℕ → Option Verdict
named name = find (λ v. bytes_eq (name_of v) name) rows

numbered_back : (v : Verdict) → numbered (number_of v) ≡ Some v
numbered_back BadForm = refl
numbered_back BadBase64 = refl
numbered_back TooLarge = refl
numbered_back BadXml = refl
numbered_back XmlLimit = refl
numbered_back BadNames = refl
numbered_back DuplicateId = refl
numbered_back NotResponse = refl
numbered_back NotSuccess = refl
numbered_back NotOneAssertion = refl
numbered_back BadSignatureForm = refl
numbered_back BadReference = refl
numbered_back TagDiffers = refl
numbered_back DigestDiffers = refl
numbered_back BadAssertion = refl
numbered_back WrongIssuer = refl
numbered_back WrongAudience = refl
numbered_back WrongRecipient = refl
numbered_back NotInTime = refl
numbered_back NotOutstanding = refl
numbered_back RequestSpent = refl
numbered_back AssertionSeen = refl
numbered_back RelayDiffers = refl
numbered_back NotLogout = refl
numbered_back UnknownPeer = refl
numbered_back LogoutDestination = refl
numbered_back NoSuchSession = refl
numbered_back UnknownLogout = refl
numbered_back LogoutNotInTime = refl
numbered_back NotAuthnRequest = refl
numbered_back UnknownIssuer = refl
numbered_back RequestDestination = refl
numbered_back WrongConsumer = refl
numbered_back NoSuchPending = refl
numbered_back LoginRefused = refl
numbered_back DiskFault = refl
numbered_back Full = refl
numbered_back NoMemory = refl
numbered_back Foreign = refl
numbered_back RegistryExpired = refl

named_back : (v : Verdict) → named (name_of v) ≡ Some v
named_back BadForm = refl
named_back BadBase64 = refl
named_back TooLarge = refl
named_back BadXml = refl
named_back XmlLimit = refl
named_back BadNames = refl
named_back DuplicateId = refl
named_back NotResponse = refl
named_back NotSuccess = refl
named_back NotOneAssertion = refl
named_back BadSignatureForm = refl
named_back BadReference = refl
named_back TagDiffers = refl
named_back DigestDiffers = refl
named_back BadAssertion = refl
named_back WrongIssuer = refl
named_back WrongAudience = refl
named_back WrongRecipient = refl
named_back NotInTime = refl
named_back NotOutstanding = refl
named_back RequestSpent = refl
named_back AssertionSeen = refl
named_back RelayDiffers = refl
named_back NotLogout = refl
named_back UnknownPeer = refl
named_back LogoutDestination = refl
named_back NoSuchSession = refl
named_back UnknownLogout = refl
named_back LogoutNotInTime = refl
named_back NotAuthnRequest = refl
named_back UnknownIssuer = refl
named_back RequestDestination = refl
named_back WrongConsumer = refl
named_back NoSuchPending = refl
named_back LoginRefused = refl
named_back DiskFault = refl
named_back Full = refl
named_back NoMemory = refl
named_back Foreign = refl
named_back RegistryExpired = refl

pub numbers_differ : (a b : Verdict) → number_of a ≡ number_of b → a ≡ b
numbers_differ a b same =
    let both : Some a ≡ Some b = sym (numbered_back a) ∙ ap numbered same ∙ numbered_back b in cc

pub names_differ : (a b : Verdict) → name_of a ≡ name_of b → a ≡ b
names_differ a b same =
    let both : Some a ≡ Some b = sym (named_back a) ∙ ap named same ∙ named_back b in cc
