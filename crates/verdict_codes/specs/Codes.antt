-- The table of codes: the number of each verdict, and its name as it is printed.
use Rattle.std.specs.Prelude.{ℕ, List, codes}
use Rattle.verdict_codes.specs.declared.codes.Verdict.{Verdict}
use Rattle.verdict_codes.specs.declared.codes.Verdict.TheVariants.{BadForm, BadBase64, TooLarge, BadXml, XmlLimit, BadNames, DuplicateId, NotResponse, NotSuccess, NotOneAssertion, BadSignatureForm, BadReference, TagDiffers, DigestDiffers, BadAssertion, WrongIssuer, WrongAudience, WrongRecipient, NotInTime, NotOutstanding, RequestSpent, AssertionSeen, RelayDiffers, NotLogout, UnknownPeer, LogoutDestination, NoSuchSession, UnknownLogout, LogoutNotInTime, NotAuthnRequest, UnknownIssuer, RequestDestination, WrongConsumer, NoSuchPending, LoginRefused, DiskFault, Full, NoMemory, Foreign, RegistryExpired}

-- the row of a verdict: its number, and its name in ASCII as it is printed
abbrev pub code_of : Verdict → ℕ × List ℕ
code_of BadForm = (1, codes "BadForm")
code_of BadBase64 = (2, codes "BadBase64")
code_of TooLarge = (3, codes "TooLarge")
code_of BadXml = (4, codes "BadXml")
code_of XmlLimit = (5, codes "XmlLimit")
code_of BadNames = (6, codes "BadNames")
code_of DuplicateId = (7, codes "DuplicateId")
code_of NotResponse = (8, codes "NotResponse")
code_of NotSuccess = (9, codes "NotSuccess")
code_of NotOneAssertion = (10, codes "NotOneAssertion")
code_of BadSignatureForm = (11, codes "BadSignatureForm")
code_of BadReference = (12, codes "BadReference")
code_of TagDiffers = (13, codes "TagDiffers")
code_of DigestDiffers = (14, codes "DigestDiffers")
code_of BadAssertion = (15, codes "BadAssertion")
code_of WrongIssuer = (16, codes "WrongIssuer")
code_of WrongAudience = (17, codes "WrongAudience")
code_of WrongRecipient = (18, codes "WrongRecipient")
code_of NotInTime = (19, codes "NotInTime")
code_of NotOutstanding = (20, codes "NotOutstanding")
code_of RequestSpent = (21, codes "RequestSpent")
code_of AssertionSeen = (22, codes "AssertionSeen")
code_of RelayDiffers = (23, codes "RelayDiffers")
code_of NotLogout = (30, codes "NotLogout")
code_of UnknownPeer = (31, codes "UnknownPeer")
code_of LogoutDestination = (32, codes "LogoutDestination")
code_of NoSuchSession = (33, codes "NoSuchSession")
code_of UnknownLogout = (34, codes "UnknownLogout")
code_of LogoutNotInTime = (35, codes "LogoutNotInTime")
code_of NotAuthnRequest = (40, codes "NotAuthnRequest")
code_of UnknownIssuer = (41, codes "UnknownIssuer")
code_of RequestDestination = (42, codes "RequestDestination")
code_of WrongConsumer = (43, codes "WrongConsumer")
code_of NoSuchPending = (45, codes "NoSuchPending")
code_of LoginRefused = (46, codes "LoginRefused")
code_of DiskFault = (50, codes "DiskFault")
code_of Full = (51, codes "Full")
code_of NoMemory = (52, codes "NoMemory")
code_of Foreign = (53, codes "Foreign")
code_of RegistryExpired = (70, codes "RegistryExpired")

abbrev pub number_of : Verdict → ℕ
number_of verdict = (code_of verdict).0

abbrev pub name_of : Verdict → List ℕ
name_of verdict = (code_of verdict).1
