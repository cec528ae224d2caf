-- What an aggregate of metadata lists: SAML Metadata, 2.3.1 and 2.3.2. All that is not named here is passed over, nested aggregates
-- too.
use Rattle.std.specs.Prelude.{ℕ, Bool, ◌&&◌, List, [], ◌∷◌, codes, length, filter, Option, None, is_some, Result, Ok, Err, if◌then◌else◌}
use Rattle.std.specs.Option.{option_and_then}
use Rattle.xml_spec.specs.Tree.{Nodes}
use Rattle.saml_names.specs.Names.{md}
use Rattle.tree_read.specs.Children.{is_name, children}
use Rattle.tree_read.specs.Texts.{attribute_text}
use Rattle.tree_read.specs.Walk.{name_of_node}
use Rattle.metadata.specs.Metadata.{not_empty, peer_of}
use Rattle.metadata.specs.declared.peer.Role.{Role}
use Rattle.metadata.specs.declared.peer.Role.TheVariants.{Idp, Sp}
use Rattle.metadata.specs.declared.peer.Peer.{Peer}
use Rattle.metadata.specs.declared.fault.MetaFault.{MetaFault}
use Rattle.assertion_model.specs.Instants.{moment_of}
use Rattle.meta_registry.specs.declared.entry.Entry.{Entry}
use Rattle.meta_registry.specs.declared.fault.PeerFault.{PeerFault}
use Rattle.meta_registry.specs.declared.fault.PeerFault.TheVariants.{NotListed, Meta}
use Rattle.owned_values.specs.Options.{is_there}

-- THE AGGREGATE

-- 2.3.1: element e is an EntitiesDescriptor; it has an ID, by which a signature refers to it
abbrev pub is_aggregate : Nodes → ℕ → Bool
is_aggregate tree e =
    is_name (md (codes "EntitiesDescriptor")) (name_of_node tree e) && is_some (not_empty (attribute_text tree e (codes "ID")))

-- 2.3.1: its validUntil tells the moment until which all that it holds is valid; none where it is no aggregate or tells none
abbrev pub valid_until : Nodes → ℕ → Option ℕ
valid_until tree e =
    if is_aggregate tree e then option_and_then moment_of (attribute_text tree e (codes "validUntil")) else None

-- 2.3.1: the descriptors of providers that it lists, in document order
abbrev pub descriptors : Nodes → ℕ → List ℕ
descriptors tree e = children tree e (md (codes "EntityDescriptor"))

-- WHAT IS KEPT OF IT

-- 2.3.2: the name of the provider that descriptor d describes, and what it says of it in either role
abbrev pub entry_of : Nodes → ℕ → Entry
entry_of tree d =
    record { name = attribute_text tree d (codes "entityID"); idp = peer_of tree d Idp; sp = peer_of tree d Sp }

-- a registry: the moment until which it is valid, and an entry for each descriptor
pub record RegistryView : Type 0 where
  pub valid_until : ℕ
  pub entries : List Entry

-- WHAT IT SAYS OF A PROVIDER

-- the entry is of the provider of this name
abbrev pub has_name : List ℕ → Entry → Bool
has_name entity entry = is_there entity entry.name

-- what the entry says in this role
abbrev pub says_of : Role → Entry → Result Peer MetaFault
says_of Idp entry = entry.idp
says_of Sp entry = entry.sp

-- a provider, or why it is not described
abbrev pub answer_of : Result Peer MetaFault → Result Peer PeerFault
answer_of (Ok peer) = Ok peer
answer_of (Err fault) = Err (Meta fault)

-- what these entries say, of which there has to be just one
abbrev pub answer_in : Role → List Entry → Result Peer PeerFault
answer_in role (entry ∷ []) = answer_of (says_of role entry)
answer_in role entries = Err (NotListed (length entries))

-- what a registry says of the provider of this name in this role
abbrev pub peer_in : RegistryView → List ℕ → Role → Result Peer PeerFault
peer_in registry entity role = answer_in role (filter (has_name entity) registry.entries)
