-- That each logout has an answer.
use Rattle.std.specs.Prelude.{ℕ, List, Option, IfSome, Bool}
use Rattle.std.specs.List.{AllByRecursion}
use Rattle.xml_spec.specs.Characters.{IsText}
use Rattle.saml_time.specs.Instant.{TellsInFull}
use Rattle.peer_keys.specs.declared.peers.LogoutPeer.{LogoutPeer}
use Rattle.logout_answers.specs.Answers.{Leaving, Ending}

-- SAML Core, 1.3.3: the moment has a written form
pub record IsWritten (moment : ℕ) : Type 0 where
  pub text : List ℕ
  pub told : TellsInFull text moment
  pub characters : IsText text

-- There is an answer at this moment to each user who leaves, and to each peer that asks to end sessions, where the texts hold
-- characters that a document may hold.
abbrev pub EachUserIsAnswered : ℕ → Type 0
EachUserIsAnswered now =
    (peer : LogoutPeer) (id issuer name : List ℕ) (indexes : List (List ℕ)) → IfSome peer.peer.logout IsText → IsText id → IsText issuer → IsText name
    → AllByRecursion IsText indexes → (bytes : List ℕ) × Leaving peer id issuer now name indexes bytes

abbrev pub EachPeerIsAnswered : ℕ → Type 0
EachPeerIsAnswered now =
    (peer : LogoutPeer) (id issuer request : List ℕ) (partial : Bool) (relay : Option (List ℕ)) → IfSome peer.peer.logout IsText → IsText id → IsText issuer
    → IsText request → (bytes : List ℕ) × Ending peer id issuer now request partial relay bytes
