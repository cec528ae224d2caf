-- What a request upwards says of the user.
use Rattle.std.specs.Prelude.{codes, Option, Some}
use Rattle.std.proofs.Common.{◌≡◌, ℕ, false, List, refl, sym, subst, ap, ◌∙◌}
use Rattle.xml_spec.specs.Tree.{Nodes}
use Rattle.xml_spec.specs.Document.{Spells}
use Rattle.tree_read.specs.Texts.{attribute_text}
use Rattle.element_make.specs.Made.{IsMade, Made, tree_of, written}
use Rattle.sig_reference.specs.Signing.{signed}
use Rattle.protocol_messages.specs.Making.{authn_request}
use Rattle.protocol_messages.specs.Messages.{flag}
use Rattle.http_wire.specs.declared.answer.Answer.{Answer}
use Rattle.http_wire.specs.declared.answer.Answer.TheVariants.{Full}
use Rattle.http_wire.specs.Requests.{Request}
use Rattle.ledger_records.specs.declared.hub_record.HubRecord.{HubRecord}
use Rattle.ledger_records.specs.declared.hub_record.HubRecord.TheVariants as kinds
use Rattle.ledger_records.specs.declared.hub_record.Routed.{Routed}
use Rattle.sp_rules.specs.declared.config.SpConfig.{SpConfig}
use Rattle.sp_rules.specs.Meant.{consumer}
use Rattle.sp_answers.specs.Answers.{IsAskAnswer, ask_message}
use Rattle.hub_ledger.specs.Ledger.{Held}
use Rattle.identity_hub.specs.declared.config.HubConfig.{HubConfig}
use Rattle.identity_hub.specs.Step as steps
use Rattle.identity_hub.specs.Step.{Answers}
use Rattle.hub_runs.specs.Laws.{EachRequestLeavesItToTheOneAbove, LeavesItToTheOneAbove}

-- what the flags of a tree say
abbrev LeavesIt : Nodes → Type 0
LeavesIt tree =
    (flag (attribute_text tree 0 (codes "IsPassive")) ≡ Some false)
    × (flag (attribute_text tree 0 (codes "ForceAuthn")) ≡ Some false)

module _ (spelled : (made : Made) → IsMade made → Spells (written made) (tree_of made))
    (one_tree : (bytes : List ℕ) (one other : Nodes) → Spells bytes one → Spells bytes other → one ≡ other) where
  read_again : (config : SpConfig) (instant id : List ℕ) (tree : Nodes)
      → IsMade (signed config.key_out (authn_request id config.entity config.idp.service (consumer config) instant))
      → Spells (ask_message config instant id) tree → LeavesIt tree
  read_again config instant id tree made spells =
      let sent = signed config.key_out (authn_request id config.entity config.idp.service (consumer config) instant) in
      subst LeavesIt (one_tree (written sent) (tree_of sent) tree (spelled sent made) spells) (refl, refl)

  leaves : (setup : HubConfig) (r : Routed) (now : ℕ) (answer : Answer) (bytes : List ℕ) → answer ≡ Full bytes
      → IsAskAnswer setup.upstream r.request r.relay now bytes → LeavesItToTheOneAbove setup r answer
  leaves setup r now answer bytes shown asks = record {
    instant = asks.instant;
    is = shown ∙ ap Full asks.is;
    reads = λ tree made spells. read_again setup.upstream asks.instant r.request tree made spells;
  }

  of_answer : (setup : HubConfig) (held : Held) (request : Request) (now : ℕ) (answer : Answer)
      (adds : Option HubRecord) (r : Routed) → adds ≡ Some (kinds.Routed r) → Answers setup held request now answer adds
      → LeavesItToTheOneAbove setup r answer
  of_answer setup held request now answer adds r some (steps.ByStatus status to what none) = absurd (cc)
  of_answer setup held request now answer adds r some (steps.ByMetadata role to what none) = absurd (cc)
  of_answer setup held request now answer adds r some (steps.ByRefusal verdict to refused what none) = absurd (cc)
  of_answer setup held request now answer adds r some
      (steps.BySpeaking asked peer message bytes asks passive adding named page what) =
      absurd (cc)
  of_answer setup held request now answer adds r some
      (steps.ByAsking asked peer routed bytes asks passive made adding page what) =
      let same : routed ≡ r = (let e = sym adding ∙ some in cc) in
      leaves setup r now answer bytes what
      (subst (λ (q : Routed). IsAskAnswer setup.upstream q.request q.relay now bytes) same page)
  of_answer setup held request now answer adds r some (steps.ByVerdict verdict to refused what none) = absurd (cc)
  of_answer setup held request now answer adds r some (steps.ByUnknownPeer b asked brings unknown what none) =
      absurd (cc)
  of_answer setup held request now answer adds r some
      (steps.ByPassing b asked row peer backed bytes brings is_for made adding page what) =
      absurd (cc)

  pub each_leaves : EachRequestLeavesItToTheOneAbove
  each_leaves setup held request now answer r answers =
      of_answer setup held request now answer (Some (kinds.Routed r)) r refl answers
