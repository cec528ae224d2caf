-- What is supposed where a form is judged: the identity provider alone makes HMACs that match, and no other text has the hash of one
-- that it signed. All elements that it signed are listed.
use Rattle.std.specs.Prelude.{◌≡◌, ℕ, List, Option, Contains}
use Rattle.sha2.specs.Sha256.{sha256}
use Rattle.hmac_sha256.specs.Hmac.{hmac}
use Rattle.sig_reference.specs.Form.{HasForm}
use Rattle.protocol_messages.specs.declared.response.ResponseHead.{ResponseHead}
use Rattle.sp_rules.specs.declared.config.SpConfig.{SpConfig}
use Rattle.sp_rules.specs.Keys.{Key, usable}
use Rattle.sp_rules.specs.Covering.{signed_of}
use Rattle.sp_rules.specs.Opening.{Carries, Asserts}
use Rattle.login_origin.specs.Signed.{Signed, info_text, signed_text}

-- SAML Bindings, 3.5.4: the form carries a Response with one Assertion p, and this element is one of these two, with its Signature.
-- Whether that vouches for it is not said.
pub record IsPosted (body : List ℕ) (posted : Signed) : Type 0 where
  pub relay : Option (List ℕ)
  pub head : ResponseHead
  pub p : ℕ
  pub carries : Carries body (record { message = posted.bytes; relay = relay; tree = posted.tree; head = head })
  pub asserts : Asserts head p
  pub signed : Contains (signed_of posted.tree p) posted.element
  pub form : HasForm posted.tree posted.element posted.parts

-- No HMAC is forged: where a posted SignatureValue is the HMAC of its SignedInfo under a key that counts now, the text of that
-- SignedInfo is one of those that were issued.
abbrev pub Unforged : List Signed → SpConfig → ℕ → List ℕ → Type 0
Unforged issued config now body =
    (posted : Signed) (key : Key) → IsPosted body posted → Contains (usable config now) key → posted.parts.tag ≡ hmac key.bytes (info_text posted)
    → (s : Signed) × Contains issued s × (info_text s ≡ info_text posted)

-- No hash collides: where the text of a posted element has the hash of the text of an issued one, these texts are equal.
abbrev pub NoCollision : List Signed → List ℕ → Type 0
NoCollision issued body =
    (posted s : Signed) → IsPosted body posted → Contains issued s → sha256 (signed_text posted) ≡ sha256 (signed_text s)
    → signed_text posted ≡ signed_text s
