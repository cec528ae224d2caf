-- What is known of a message of a logout that is obeyed.
use Rattle.std.specs.Prelude.{IfSome, Option, None, Some}
use Rattle.std.proofs.Common.{◌≡◌, ℕ, suc, Bool, true, false, if◌then◌else◌, List, [], ◌∷◌, codes, sym, subst, ◌∙◌}
use Rattle.std.specs.Option.{option_map}
use Rattle.std.specs.Str.{bytes_eq}
use Rattle.xml_spec.specs.Characters.{IsText}
use Rattle.xml_spec.specs.Tree.{Nodes}
use Rattle.canon_laws.specs.Writable.{IsWritable}
use Rattle.tree_read.specs.Texts.{attribute_text}
use Rattle.peer_keys.specs.declared.peers.LogoutPeer.{LogoutPeer}
use Rattle.peer_keys.specs.Peers.{place_of}
use Rattle.post_binding.specs.declared.posted.Field.{Field}
use Rattle.post_binding.specs.declared.posted.Field.TheVariants as fields
use Rattle.protocol_messages.specs.declared.logout.LogoutRequest.{LogoutRequest}
use Rattle.protocol_messages.specs.declared.logout.LogoutResponse.{LogoutResponse}
use Rattle.logout_profile.specs.declared.message.Message.{Message}
use Rattle.logout_profile.specs.declared.message.Message.TheVariants as messages
use Rattle.logout_profile.specs.declared.logout.Logout.TheVariants as logouts
use Rattle.logout_profile.specs.Carrying.{IsMessage, logout_of}
use Rattle.logout_profile.specs.Verdict.{IsAccepted}
use Rattle.tree_read.proofs.WritableTexts.{AreWritable, attribute_is_text}

-- ---- the ID of a request is a text

of_some : (o : Option (List ℕ)) (text : List ℕ) → IfSome o IsText → o ≡ Some text → IsText text
of_some None text h e = absurd (cc)
of_some (Some other) text h e = let same : other ≡ text = cc in subst IsText same h

id_text_in : (field : Field) (tree : Nodes) (message : Message) (request : LogoutRequest) (place n : ℕ) (relay r : Option (List ℕ)) → IsWritable tree → IsMessage field tree 0 message
    → logouts.Ask request n r ≡ logout_of message place relay → IsText request.id
id_text_in fields.Request tree (messages.Ask m) request place n relay r writable is same =
    let message : m ≡ request = cc in
    subst (λ (x : LogoutRequest). IsText x.id) message (of_some (attribute_text tree 0 (codes "ID")) m.id (attribute_is_text tree 0 (codes "ID") writable) is.is.identified)
id_text_in fields.Response tree (messages.Ask m) request place n relay r writable is same = absurd is
id_text_in field tree (messages.Reply m) request place n relay r writable is same = absurd (cc)

pub asked_id_text : AreWritable → (peers : List LogoutPeer) (second : Option (List ℕ)) (address : List ℕ) (skew now : ℕ) (body : List ℕ) (request : LogoutRequest) (n : ℕ) (relay : Option (List ℕ))
    → IsAccepted peers second address skew now body (logouts.Ask request n relay) → IsText request.id
asked_id_text law peers second address skew now body request n relay is =
    let c = is.carried in
    id_text_in c.field c.tree c.message request is.place n c.relay relay (law c.text c.tree is.carries.spelled.spells) is.carries.message is.is

-- ---- the place of the only peer

one_place : (b : Bool) (place : ℕ) → (if b then Some 0 else option_map suc None) ≡ Some place → place ≡ 0
one_place true place is = let same : 0 ≡ place = cc in sym same
one_place false place is = absurd (cc)

pub only_place : (entity : List ℕ) (peer : LogoutPeer) (place : ℕ) → place_of entity (peer ∷ []) ≡ Some place → place ≡ 0
only_place entity peer place is = one_place (bytes_eq peer.peer.entity entity) place is

asked_place : (message : Message) (request : LogoutRequest) (place n : ℕ) (relay r : Option (List ℕ)) → logouts.Ask request n r ≡ logout_of message place relay → n ≡ place
asked_place (messages.Ask m) request place n relay r same = cc
asked_place (messages.Reply m) request place n relay r same = absurd (cc)

pub asked_at : (peers : List LogoutPeer) (second : Option (List ℕ)) (address : List ℕ) (skew now : ℕ) (body : List ℕ) (request : LogoutRequest) (n : ℕ) (relay : Option (List ℕ))
    → (is : IsAccepted peers second address skew now body (logouts.Ask request n relay)) → n ≡ is.place
asked_at peers second address skew now body request n relay is = asked_place is.carried.message request is.place n is.carried.relay relay is.is

pub asked_at_first : (peer : LogoutPeer) (second : Option (List ℕ)) (address : List ℕ) (skew now : ℕ) (body : List ℕ) (request : LogoutRequest) (n : ℕ) (relay : Option (List ℕ))
    → IsAccepted (peer ∷ []) second address skew now body (logouts.Ask request n relay) → n ≡ 0
asked_at_first peer second address skew now body request n relay is =
    asked_place is.carried.message request is.place n is.carried.relay relay is.is ∙ only_place _ peer is.place is.known.stands

replied_place : (message : Message) (response : LogoutResponse) (place n : ℕ) (relay : Option (List ℕ)) → logouts.Reply response n ≡ logout_of message place relay → n ≡ place
replied_place (messages.Ask m) response place n relay same = absurd (cc)
replied_place (messages.Reply m) response place n relay same = cc

pub replied_at_first : (peer : LogoutPeer) (second : Option (List ℕ)) (address : List ℕ) (skew now : ℕ) (body : List ℕ) (response : LogoutResponse) (n : ℕ)
    → IsAccepted (peer ∷ []) second address skew now body (logouts.Reply response n) → n ≡ 0
replied_at_first peer second address skew now body response n is =
    replied_place is.carried.message response is.place n is.carried.relay is.is ∙ only_place _ peer is.place is.known.stands
