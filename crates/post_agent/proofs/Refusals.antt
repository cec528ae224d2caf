-- The page of each verdict is told from the others.
use Rattle.std.proofs.Common.{◌≡◌, Some, refl}
use Rattle.std.specs.Fmt.{digits}
use Rattle.verdict_codes.specs.declared.codes.Verdict.{Verdict}
use Rattle.verdict_codes.specs.declared.codes.Verdict.TheVariants.{BadForm, BadBase64, TooLarge, BadXml, XmlLimit, BadNames, DuplicateId, NotResponse, NotSuccess, NotOneAssertion, BadSignatureForm, BadReference, TagDiffers, DigestDiffers, BadAssertion, WrongIssuer, WrongAudience, WrongRecipient, NotInTime, NotOutstanding, RequestSpent, AssertionSeen, RelayDiffers, NotLogout, UnknownPeer, LogoutDestination, NoSuchSession, UnknownLogout, LogoutNotInTime, NotAuthnRequest, UnknownIssuer, RequestDestination, WrongConsumer, NoSuchPending, LoginRefused, DiskFault, Full, NoMemory, Foreign, RegistryExpired}
use Rattle.verdict_codes.specs.Codes.{number_of}
use Rattle.post_agent.specs.Pages.{refusal_page}
use Rattle.post_agent.specs.Reading.{code_in}

pub code_in-refusal_page : (verdict : Verdict) → code_in (refusal_page verdict) ≡ Some (number_of verdict)
unfolding digits
code_in-refusal_page BadForm = refl
code_in-refusal_page BadBase64 = refl
code_in-refusal_page TooLarge = refl
code_in-refusal_page BadXml = refl
code_in-refusal_page XmlLimit = refl
code_in-refusal_page BadNames = refl
code_in-refusal_page DuplicateId = refl
code_in-refusal_page NotResponse = refl
code_in-refusal_page NotSuccess = refl
code_in-refusal_page NotOneAssertion = refl
code_in-refusal_page BadSignatureForm = refl
code_in-refusal_page BadReference = refl
code_in-refusal_page TagDiffers = refl
code_in-refusal_page DigestDiffers = refl
code_in-refusal_page BadAssertion = refl
code_in-refusal_page WrongIssuer = refl
code_in-refusal_page WrongAudience = refl
code_in-refusal_page WrongRecipient = refl
code_in-refusal_page NotInTime = refl
code_in-refusal_page NotOutstanding = refl
code_in-refusal_page RequestSpent = refl
code_in-refusal_page AssertionSeen = refl
code_in-refusal_page RelayDiffers = refl
code_in-refusal_page NotLogout = refl
code_in-refusal_page UnknownPeer = refl
code_in-refusal_page LogoutDestination = refl
code_in-refusal_page NoSuchSession = refl
code_in-refusal_page UnknownLogout = refl
code_in-refusal_page LogoutNotInTime = refl
code_in-refusal_page NotAuthnRequest = refl
code_in-refusal_page UnknownIssuer = refl
code_in-refusal_page RequestDestination = refl
code_in-refusal_page WrongConsumer = refl
code_in-refusal_page NoSuchPending = refl
code_in-refusal_page LoginRefused = refl
code_in-refusal_page DiskFault = refl
code_in-refusal_page Full = refl
code_in-refusal_page NoMemory = refl
code_in-refusal_page Foreign = refl
code_in-refusal_page RegistryExpired = refl
