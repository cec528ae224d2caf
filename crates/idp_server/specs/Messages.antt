-- The messages of a logout that an identity provider sends on: SAML Profiles, 4.4.3.
use Rattle.std.specs.Prelude.{◌≡◌, ℕ, Bool, true, false, List, [], ◌∷◌, Option, None, Some, slice_get}
use Rattle.std.specs.Option.{is_some}
use Rattle.ledger_records.specs.declared.idp_record.Ended.{Ended}
use Rattle.ledger_records.specs.declared.idp_record.Left.{Left}
use Rattle.ledger_records.specs.declared.idp_round.Round.{Round}
use Rattle.ledger_records.specs.declared.idp_round.Told.{Told}
use Rattle.logout_turns.specs.declared.part.Asker.{Asker}
use Rattle.logout_turns.specs.declared.turns.Turn.{Turn}
use Rattle.logout_fanout.specs.declared.round.Next.TheVariants.{Ask, Done}
use Rattle.peer_keys.specs.Peers.{place_of}
use Rattle.peer_keys.specs.declared.peers.LogoutPeer.{LogoutPeer}
use Rattle.round_rows.specs.declared.row.RoundRow.{RoundRow}
use Rattle.idp_rules.specs.declared.config.IdpConfig.{IdpConfig}
use Rattle.logout_answers.specs.Answers.{Ending, Leaving, end_answer}
use Rattle.idp_server.specs.Rounds.{next_in}

-- the peer of this name
abbrev pub IsPeer : IdpConfig → List ℕ → LogoutPeer → Type 0
IsPeer setup entity peer =
    (place : ℕ) × (place_of entity setup.peers ≡ Some place) × (slice_get setup.peers place ≡ Some peer)

module _ (setup : IdpConfig) (entity id name : List ℕ) (indexes : List (List ℕ)) (now : ℕ) (bytes : List ℕ) where
  -- A request to the provider of this name, to end the sessions with these indexes of the user of this name (4.4.3.1
  -- and 4.4.3.3). Where the provider is no peer any more, or has no address for logout, the user is told that the
  -- logout is partial.
  pub data IsRequestTo : Type 0 where
    ToPeer : (peer : LogoutPeer) → IsPeer setup entity peer → Leaving peer id setup.entity now name indexes bytes
        → IsRequestTo
    ToNone : place_of entity setup.peers ≡ None → bytes ≡ end_answer true → IsRequestTo

-- the answer to a user of this name who leaves the session with this index: a request to the peer of the record
abbrev pub IsLeavingAnswer : IdpConfig → Left → (user index : List ℕ) → (now : ℕ) → (bytes : List ℕ) → Type 0
IsLeavingAnswer setup r user index now bytes = IsRequestTo setup r.peer r.request user (index ∷ []) now bytes

-- the answer to the peer that asked for what is recorded
abbrev pub IsEndingAnswer : IdpConfig → LogoutPeer → Ended → (relay : Option (List ℕ)) → ℕ → List ℕ → Type 0
IsEndingAnswer setup peer r relay now bytes = Ending peer r.message setup.entity now r.request r.partial relay bytes

-- the answer that begins a round: a request to the provider of its first turn
pub record AsksFirst (setup : IdpConfig) (r : Round) (now : ℕ) (bytes : List ℕ) : Type 0 where
  pub turn : Turn
  pub first : slice_get r.turns 0 ≡ Some turn
  pub asks : IsRequestTo setup turn.peer r.request turn.name turn.indexes now bytes

-- whether the provider that asked is one of the peers
abbrev pub is_known : IdpConfig → Option Asker → Bool
is_known setup None = false
is_known setup (Some asker) = is_some (place_of asker.peer setup.peers)

module _ (setup : IdpConfig) (message : List ℕ) (asked : Option Asker) (partial : Bool) (now : ℕ) (bytes : List ℕ) where
  -- The answer at the end of a round, of which each provider confirmed, or not: a response with this message to the one
  -- that asked, with its relay (4.4.3.4); where none did, or it can't be told, the user is shown how the logout ended.
  pub data IsRoundEnd : Type 0 where
    ToAsker : (asker : Asker) (peer : LogoutPeer) → asked ≡ Some asker → IsPeer setup asker.peer peer
        → Ending peer message setup.entity now asker.request partial asker.relay bytes → IsRoundEnd
    ToUser : is_known setup asked ≡ false → bytes ≡ end_answer partial → IsRoundEnd

module _ (setup : IdpConfig) (row : RoundRow) (confirms : Bool) (r : Told) (now : ℕ) (bytes : List ℕ) where
  -- The answer to a provider that answered in a round, and confirmed or not: a request to the provider of the next turn
  -- while one is left, then the end of the round.
  pub data IsToldAnswer : Type 0 where
    AsksNext : (place : ℕ) (turn : Turn) (id : List ℕ) → next_in row confirms ≡ Ask place
        → slice_get row.turns place ≡ Some turn → r.next ≡ Some id
        → IsRequestTo setup turn.peer id turn.name turn.indexes now bytes → IsToldAnswer
    EndsRound : (partial : Bool) → next_in row confirms ≡ Done partial
        → IsRoundEnd setup row.message row.asker partial now bytes → IsToldAnswer
