-- How the definitions see what the code keeps.
use Rattle.std.specs.Prelude.{◌≡◌, ℕ, List, [], ◌∷◌, ◌++◌, None, Some}
use Rattle.xml_spec.specs.Tree.{Nodes}
use Rattle.saml_tree.specs.Documents.{DocumentView}
use Rattle.saml_tree.specs.Elements.{IsElement}
use Rattle.protocol_messages.specs.Messages.{IsResponse}
use Rattle.protocol_messages.specs.declared.response.ResponseHead.{ResponseHead}
use Rattle.assertion_model.specs.Parts.{login_at, own_signature}
use Rattle.assertion_model.specs.Places.{name_place}
use Rattle.verdict_codes.specs.declared.codes.Verdict.{Verdict}
use Rattle.verdict_codes.specs.declared.codes.Verdict.TheVariants as verdicts
use Rattle.sp_rules.specs.declared.config.TheConstants.{FIRST, SECOND}
use Rattle.sp_rules.specs.declared.keys.UsableKeys.{UsableKeys}
use Rattle.sp_rules.specs.declared.keys.UsableKeys.TheVariants as kinds
use Rattle.sp_rules.specs.declared.cover.Verified.{Verified}
use Rattle.sp_rules.specs.declared.cover.Cover.{Cover}
use Rattle.sp_rules.specs.Keys.{Key}
use Rattle.sp_rules.specs.Covering.{IsVerified, IsCovered}

abbrev pub first_of : List ℕ → List Key
first_of bytes = record { number = FIRST; bytes = bytes } ∷ []

abbrev pub second_of : List ℕ → List Key
second_of bytes = record { number = SECOND; bytes = bytes } ∷ []

-- the keys that are given
abbrev pub keys_of : UsableKeys → List Key
keys_of (kinds.First first) = first_of first.now
keys_of (kinds.Second second) = second_of second.now
keys_of (kinds.Both first second) = first_of first.now ++ second_of second.now

-- what was verified is element e of the document, and a key of this number made its tag
pub record IsVerifiedWith (keys : List Key) (document : DocumentView) (e : ℕ) (verified : Verified) : Type 0 where
  pub key : Key
  pub is : IsVerified keys document.tree e key
  pub number : key.number ≡ verified.key
  pub place : verified.vouched.document ≡ document
  pub node : verified.vouched.node ≡ e
  pub own : own_signature document.tree e ≡ Some verified.vouched.signature

-- the cover is that of assertion p of the document
pub record IsCoverOf (keys : List Key) (document : DocumentView) (p : ℕ) (cover : Cover) : Type 0 where
  pub key : Key
  pub covered : IsCovered keys document.tree p cover.first.0 key
  pub number : key.number ≡ cover.key
  pub place : cover.assertion.document ≡ document
  pub node : cover.assertion.node ≡ p
  pub own : own_signature document.tree cover.first.0 ≡ Some cover.signature.0
  pub same : cover.assertion.signature ≡ cover.signature.0
  pub first_element : IsElement document.tree cover.first.0
  pub signature_element : IsElement document.tree cover.signature.0

-- 8: the element is no Response
pub record IsNoResponse (tree : Nodes) (k : ℕ) (verdict : Verdict) : Type 0 where
  pub none : (head : ResponseHead) → ¬ (IsResponse tree k head)
  pub is : verdict ≡ verdicts.NotResponse

-- 15: the element has no login
pub record HasNoLogin (tree : Nodes) (k : ℕ) (verdict : Verdict) : Type 0 where
  pub none : login_at tree k ≡ None
  pub is : verdict ≡ verdicts.BadAssertion

-- 15: no name of a login stands in the element
pub record HasNoName (tree : Nodes) (k : ℕ) (verdict : Verdict) : Type 0 where
  pub none : name_place tree k ≡ None
  pub is : verdict ≡ verdicts.BadAssertion
