-- Whom an identity provider asks for a logout. SAML Profiles, 4.4.3.3: it has to send a LogoutRequest "to each session participant for
-- which it issued assertions in the current session, with the exception of the session participant that issued the <LogoutRequest>".
use Rattle.std.specs.Prelude.{ℕ, Bool, not, ◌&&◌, List, [], ◌∷◌, ◌++◌, map, filter, slice_get, Option, Some, if◌then◌else◌}
use Rattle.std.specs.List.{list_any}
use Rattle.std.specs.Option.{is_some}
use Rattle.std.specs.Str.{bytes_eq}
use Rattle.logout_turns.specs.declared.part.Part.{Part}
use Rattle.logout_turns.specs.declared.turns.Turn.{Turn}
use Rattle.peer_keys.specs.declared.peers.LogoutPeer.{LogoutPeer}
use Rattle.peer_keys.specs.Peers.{place_of}
use Rattle.owned_values.specs.Options.{◌>>=◌, is_there}

-- whether a provider is one of the peers, with an address for logout
abbrev pub has_address : List LogoutPeer → (entity : List ℕ) → Bool
has_address peers entity = is_some (do
  place ← place_of entity peers
  peer ← slice_get peers place
  peer.peer.logout)

-- whether a text is among these
abbrev pub is_among : List ℕ → List (List ℕ) → Bool
is_among text texts = list_any (λ other. bytes_eq other text) texts

-- each text once, where it stands first: those that are not among the ones before it
unfoldable pub once_after : (before texts : List (List ℕ)) → List (List ℕ)
once_after before [] = []
once_after before (text ∷ texts) =
    if is_among text before then once_after before texts else text ∷ once_after (before ++ text ∷ []) texts

abbrev pub once : List (List ℕ) → List (List ℕ)
once = once_after []

-- the parts that are the first of their providers, none of which is among those before
unfoldable pub firsts_after : (before : List (List ℕ)) → List Part → List Part
firsts_after before [] = []
firsts_after before (part ∷ parts) =
    if is_among part.peer before then firsts_after before parts else part ∷ firsts_after (before ++ part.peer ∷ []) parts

abbrev pub firsts : List Part → List Part
firsts = firsts_after []

module _ (asker : Option (List ℕ)) (peers : List LogoutPeer) where
  -- whether the provider of a part is another one than the asker, and whether it can be asked
  abbrev pub is_other : Part → Bool
  is_other part = not (is_there part.peer asker)

  abbrev pub can_be_asked : Part → Bool
  can_be_asked part = is_other part && has_address peers part.peer

  -- Some provider can't be asked: it has no address for logout, or is no peer any more.
  abbrev pub is_skipped : Part → Bool
  is_skipped part = is_other part && not (has_address peers part.peer)

  abbrev pub skipped : List Part → Bool
  skipped parts = list_any is_skipped parts

-- the indexes of the parts of a provider, each once
abbrev pub indexes_of : (peer : List ℕ) → List Part → List (List ℕ)
indexes_of peer parts = once (map (λ part. part.index) (filter (λ part. bytes_eq part.peer peer) parts))

-- The turn of a provider: the name of its first part, and the indexes of its parts.
abbrev pub turn_of : List Part → Part → Turn
turn_of parts first = record { peer = first.peer; name = first.name; indexes = indexes_of first.peer parts }

-- One turn for each provider that can be asked, in the order of their first parts.
abbrev pub turns : (asker : Option (List ℕ)) → List LogoutPeer → List Part → List Turn
turns asker peers parts = map (turn_of parts) (firsts (filter (can_be_asked asker peers) parts))
