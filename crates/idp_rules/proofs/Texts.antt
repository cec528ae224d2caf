-- The texts of a request hold characters that a document may hold.
use Rattle.std.proofs.Common.{◌≡◌, ℕ, List, Option, None, Some, IfSome, codes, sym, subst}
use Rattle.std.specs.Prelude.{slice_get, unwrap_or}
use Rattle.std.specs.List.{AllByRecursion}
use Rattle.xml_spec.specs.Characters.{IsText}
use Rattle.std.proofs.lemmas.Option.{slice_get_within, get_or_from_slice_get}
use Rattle.saml_tree.proofs.Lists.{all_at}
use Rattle.peer_keys.specs.declared.peers.LogoutPeer.{LogoutPeer}
use Rattle.idp_rules.specs.declared.asked.Asked.{Asked}
use Rattle.idp_rules.specs.Asking.{IsAsked}
use Rattle.idp_rules.specs.Config.{IsTextPeer}
use Rattle.tree_read.proofs.WritableTexts.{AreWritable, attribute_is_text}

-- what holds where there is a value holds of it
of_some : {X : Type 0} (P : X → Type 0) (o : Option X) (x : X) → IfSome o P → o ≡ Some x → P x
of_some P None x h e = absurd (cc)
of_some P (Some y) x h e = let same : y ≡ x = cc in subst P same h

-- what holds of each holds of the one at a place
of_place : {X : Type 0} (P : X → Type 0) (xs : List X) (i : ℕ) (x : X) → AllByRecursion P xs → slice_get xs i ≡ Some x → P x
of_place P xs i x h e = subst P (get_or_from_slice_get xs i x x e) (all_at P xs i x h (slice_get_within xs i x e))

either_text : (consumer : Option (List ℕ)) (service : List ℕ) → IfSome consumer IsText → IsText service → IsText (unwrap_or consumer service)
either_text None service h s = s
either_text (Some consumer) service h s = h

pub asked_texts : (peers : List LogoutPeer) (address body : List ℕ) (asked : Asked) → AreWritable → AllByRecursion IsTextPeer peers →
    IsAsked peers address body asked → IsText asked.request × IsText asked.consumer
asked_texts peers address body asked law texts a =
    let c = a.carried in
    let k = a.asks.carries in
    let w = law c.message c.tree k.spelled.spells in
    let service = (of_place IsTextPeer peers a.place a.peer texts a.asks.peer_is).service in
    let request = of_some IsText _ c.request.id (attribute_is_text c.tree 0 (codes "ID") w) k.request.is.identified in
    let consumer = subst (λ (o : Option (List ℕ)). IfSome o IsText) k.request.consumer (attribute_is_text c.tree 0 (codes "AssertionConsumerServiceURL") w) in
    subst (λ (x : Asked). IsText x.request × IsText x.consumer) (sym a.is) (request, either_text c.request.consumer a.peer.peer.service consumer service)
