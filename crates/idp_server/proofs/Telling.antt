-- What follows where a logout asks all others, and where one of these answers.
use Rattle.std.specs.Prelude.{not, slice_get}
use Rattle.std.proofs.Common.{◌≡◌, ◌⊎◌, inl, inr, ℕ, ◌+◌, Bool, true, false, ◌||◌, nat_lt, if◌then◌else◌, List, [], ◌∷◌, length, Option, None, Some, refl, sym, subst, ap, ◌∙◌}
use Rattle.std.specs.List.{AllByRecursion, flat_map, list_all}
use Rattle.std.specs.Option.{is_none, option_map}
use Rattle.std.proofs.lemmas.Bool.{and_parts}
use Rattle.std.proofs.lemmas.List.Folds.{list_all-append}
use Rattle.xml_spec.specs.Characters.{IsText}
use Rattle.xml_spec.proofs.Tests.{and_true}
use Rattle.http_wire.specs.declared.answer.Answer.{Answer}
use Rattle.http_wire.specs.declared.answer.Answer.TheVariants.{Full}
use Rattle.http_wire.specs.Requests.{Request}
use Rattle.ledger_records.specs.declared.idp_round.Told.{Told}
use Rattle.ledger_records.specs.declared.idp_record.IdpRecord.{IdpRecord}
use Rattle.ledger_records.specs.declared.idp_record.IdpRecord.TheVariants as kinds
use Rattle.ledger_rules.specs.Numbers.{is_xml_text}
use Rattle.logout_fanout.specs.declared.plan.Plan.{Plan}
use Rattle.logout_fanout.specs.declared.round.Next.TheVariants.{Ask, Done}
use Rattle.logout_turns.specs.declared.part.Asker.{Asker}
use Rattle.logout_turns.specs.declared.turns.Turn.{Turn}
use Rattle.protocol_messages.specs.declared.logout.LogoutResponse.{LogoutResponse}
use Rattle.peer_keys.specs.declared.peers.LogoutPeer.{LogoutPeer}
use Rattle.round_rows.specs.declared.row.RoundRow.{RoundRow}
use Rattle.round_rows.specs.Rounds as rounds
use Rattle.saml_ids.specs.IdText.{id_text}
use Rattle.saml_ids.specs.declared.Kind.TheVariants as ids
use Rattle.idp_ledger.specs.Drafts.{AreXmlTurns, IsXmlAsker, is_turn_left, round, told}
use Rattle.idp_ledger.specs.Laws.{AnswerAlike}
use Rattle.idp_ledger.specs.Ledger.{Held, next_number}
use Rattle.idp_rows.specs.Record.{of_turn}
use Rattle.idp_ledger.proofs.Draftable.{text_is_allowed}
use Rattle.idp_rules.specs.Config.{IsTextPeer}
use Rattle.idp_rules.specs.declared.config.IdpConfig.{IdpConfig}
use Rattle.service_routes.specs.declared.route.Route.TheVariants.{To}
use Rattle.idp_server.specs.declared.route.Service.TheVariants.{SingleLogout}
use Rattle.idp_server.specs.Routes.{route}
use Rattle.idp_server.specs.declared.reply.Reply.{Reply}
use Rattle.idp_server.specs.declared.reply.Follows.{Follows}
use Rattle.idp_server.specs.declared.reply.Follows.TheVariants as follows
use Rattle.idp_server.specs.declared.reply.Reply.TheVariants as replies
use Rattle.idp_server.specs.Messages.{AsksNext, EndsRound, IsRoundEnd, IsToldAnswer}
use Rattle.idp_server.specs.Replies.{AnswersRound, AreTold, AsksAll, AsksByPlan, HasFirstTurn, HasNextStep, HasNextTurn, IsAskingPage, IsTextAsker, IsTextTurn, IsToldPage, OfPeer, OfUser, Tells, Wants, record_for, turn_of}
use Rattle.idp_server.specs.Rounds.{asks_others, follows_by, follows_of, has_some, next_in, round_by, round_waiting, skips_for, told_by, turns_for}
use Rattle.idp_server.specs.Step.{Answers, ByEndingAll, ByLeavingAll, ByTold, RepliesTo, asker_of, ending_by}
use Rattle.idp_server.proofs.Asking.{LiveIn, asks_still, live_still, skips_still, turns_still}
use Rattle.idp_server.proofs.Alike.{session_alike}
use Rattle.idp_server.proofs.Ids.{drawn_named, drawn_text}
use Rattle.idp_server.proofs.Sessions.{all_at}
use Rattle.logout_answers.specs.Answers.{is_in_part}

one_of : {X : Type 0} (one other : X) → Some one ≡ Some other → one ≡ other
one_of one other is = cc

-- ---- texts

texts_xml : (texts : List (List ℕ)) → AllByRecursion IsText texts → list_all is_xml_text texts ≡ true
texts_xml [] all = refl
texts_xml (text ∷ texts) all =
    and_true (is_xml_text text) (list_all is_xml_text texts) (text_is_allowed text all.0) (texts_xml texts all.1)

pub turns_xml : (turns : List Turn) → AllByRecursion IsTextTurn turns → AreXmlTurns turns
turns_xml [] all = refl
turns_xml (turn ∷ turns) all =
    list_all-append is_xml_text (of_turn turn) (flat_map of_turn turns)
    ∙ and_true (list_all is_xml_text (of_turn turn)) (list_all is_xml_text (flat_map of_turn turns))
    (texts_xml (of_turn turn) (all.0.peer, (all.0.name, all.0.indexes))) (turns_xml turns all.1)

pub asker_xml : (asker : Option Asker) → IsTextAsker asker → IsXmlAsker asker
asker_xml None texts = refl
asker_xml (Some asker) texts = texts_xml (asker.peer ∷ asker.request ∷ []) (texts.0, (texts.1, tt))

-- ---- a round that begins

first_of : (turns : List Turn) → has_some turns ≡ true → (turn : Turn) × (slice_get turns 0 ≡ Some turn)
first_of [] some = absurd (cc)
first_of (turn ∷ turns) some = (turn, refl)

pub some_turns : (turns : List Turn) → has_some turns ≡ true → ¬ (turns ≡ [])
some_turns [] some = λ is. cc
some_turns (turn ∷ turns) some = λ is. cc

module _ (setup : IdpConfig) (held : Held) (request : Request) (now : ℕ) (key : List ℕ) (cookies : List (List ℕ))
    (asker : Option Asker) (plan : Plan) where
  pub has_turns : AsksAll setup held request now cookies asker plan → has_some plan.turns ≡ true
  has_turns w =
      ap has_some w.turns_are ∙ (and_parts setup.fanout (has_some (turns_for setup held asker cookies)) w.asks).1

  pub round_record : (r : IdpRecord) → record_for key held now (replies.AskAll cookies asker plan) ≡ Some r
      → round key (next_number held) now cookies asker plan.turns plan.skipped ≡ r
  round_record r is = one_of (round key (next_number held) now cookies asker plan.turns plan.skipped) r is

  pub first_turn_of : (r : IdpRecord) → AsksAll setup held request now cookies asker plan
      → record_for key held now (replies.AskAll cookies asker plan) ≡ Some r
      → HasFirstTurn setup plan r
  first_turn_of r w is =
      let turn = first_of plan.turns (has_turns w) in
      let texts = all_at IsTextTurn plan.turns 0 turn.0 w.turn_texts turn.1 in
      let n = next_number held in
      subst (HasFirstTurn setup plan) (round_record r is) (record {
        begun = _;
        is = refl;
        turns_are = refl;
        turn = turn.0;
        first = turn.1;
        can = record {
          id_text = drawn_text key _ (n + 1);
          named = drawn_named key _ (n + 1);
          name = texts.name;
          indexes = texts.indexes;
          peers = w.peers;
        };
      })

-- the record of its plan
by_plan : (setup : IdpConfig) (held : Held) (now : ℕ) (cookies : List (List ℕ)) (asker : Option Asker) (plan : Plan)
    → plan.turns ≡ turns_for setup held asker cookies
    → plan.skipped ≡ skips_for setup held asker cookies
    → round_by setup held now asker cookies ≡ round setup.id_key (next_number held) now cookies asker plan.turns
    plan.skipped
by_plan setup held now cookies asker plan turns_are skips =
    ap (λ (ts : List Turn). round setup.id_key (next_number held) now cookies asker ts
    (skips_for setup held asker cookies)) (sym turns_are)
    ∙ ap (λ (b : Bool). round setup.id_key (next_number held) now cookies asker plan.turns b) (sym skips)

pub asking_answers : (setup : IdpConfig) (held : Held) (request : Request) (now : ℕ) (cookies : List (List ℕ))
    (asker : Option Asker) (plan : Plan) (r : IdpRecord) (answer : Answer)
    → AsksAll setup held request now cookies asker plan → record_for setup.id_key held now
    (replies.AskAll cookies asker plan) ≡ Some r → IsAskingPage setup r now answer
    → Answers setup held request now answer (Some r)
asking_answers setup held request now cookies asker plan r answer w is page = by_cause w.of
  where
    made : round_by setup held now asker cookies ≡ kinds.Round page.begun
    made = by_plan setup held now cookies asker plan w.turns_are w.skips
        ∙ round_record setup held request now setup.id_key cookies asker plan r is ∙ page.is

    by_cause : OfUser held request now cookies asker ⊎ OfPeer setup held request now cookies asker
        → Answers setup held request now answer (Some r)
    by_cause (inl u) =
        let whose : round_by setup held now None (u.row.cookie ∷ []) ≡ kinds.Round page.begun =
        ap (λ (cs : List (List ℕ)). round_by setup held now None cs) (sym u.cookies_are)
        ∙ ap (λ (a : Option Asker). round_by setup held now a cookies) (sym u.asker_is) ∙ made in
        let asks : asks_others setup held None (u.row.cookie ∷ []) ≡ true =
        ap (λ (cs : List (List ℕ)). asks_others setup held None cs) (sym u.cookies_are)
        ∙ ap (λ (a : Option Asker). asks_others setup held a cookies) (sym u.asker_is) ∙ w.asks in
        ByLeavingAll u.row page.begun page.bytes u.to u.live asks whose (ap Some page.is) page.asks page.full
    by_cause (inr p) =
        let who = Some (asker_of p.peer p.asked p.relay) in
        let ending = ending_by held now p.peer.peer.entity p.asked in
        let whose : round_by setup held now who ending ≡ kinds.Round page.begun =
        ap (λ (cs : List (List ℕ)). round_by setup held now who cs) (sym p.cookies_are)
        ∙ ap (λ (a : Option Asker). round_by setup held now a cookies) (sym p.asker_is) ∙ made in
        let asks : asks_others setup held who ending ≡ true =
        ap (λ (cs : List (List ℕ)). asks_others setup held who cs) (sym p.cookies_are)
        ∙ ap (λ (a : Option Asker). asks_others setup held a cookies) (sym p.asker_is) ∙ w.asks in
        ByEndingAll p.asked p.peer p.relay page.begun page.bytes p.to p.asks
        (subst (λ (cs : List (List ℕ)). Rattle.idp_rows.specs.Finding.is_empty cs ≡ false) p.cookies_are p.some) asks
        whose (ap Some page.is) page.asks page.full

pub asks_all_still : (setup : IdpConfig) (anew old : Held) (request : Request) (now : ℕ) (cookies : List (List ℕ))
    (asker : Option Asker) (plan : Plan) → AnswerAlike now anew old
    → AsksAll setup old request now cookies asker plan → AsksAll setup anew request now cookies asker plan
asks_all_still setup anew old request now cookies asker plan like w = record {
  of = cause w.of;
  asks = asks_still setup now anew old asker cookies like w.live ∙ w.asks;
  turns_are = w.turns_are ∙ sym (turns_still setup now anew old asker cookies like w.live);
  skips = w.skips ∙ sym (skips_still setup now anew old asker cookies like w.live);
  live = live_still now anew old cookies like w.live;
  asker_text = w.asker_text;
  turn_texts = w.turn_texts;
  peers = w.peers;
  told = w.told;
}
  where
    cause : OfUser old request now cookies asker ⊎ OfPeer setup old request now cookies asker
        → OfUser anew request now cookies asker ⊎ OfPeer setup anew request now cookies asker
    cause (inl u) =
        inl (record {
          to = u.to;
          row = u.row;
          live = session_alike now anew old request like ∙ u.live;
          cookies_are =
              u.cookies_are;
          asker_is = u.asker_is;
        })
    cause (inr p) = inr (record {
      to = p.to;
      asked = p.asked;
      peer = p.peer;
      relay = p.relay;
      asks = p.asks;
      cookies_are = p.cookies_are ∙ sym (like.ending p.peer.peer.entity p.asked.name p.asked.indexes);
      some = p.some;
      asker_is = p.asker_is;
    })

-- ---- an answer in a round

mapped_turn : (o : Option Turn) (turn : Turn) → Some (follows.Turn turn) ≡ option_map follows.Turn o → o ≡ Some turn
mapped_turn None turn is = absurd (cc)
mapped_turn (Some other) turn is = let same : other ≡ turn = cc in ap Some same

-- what follows where a turn is left, and where none is
module _ (row : RoundRow) (confirms : Bool) where
  partial_so : Bool
  partial_so = row.skipped || nat_lt (if confirms then row.confirmed + 1 else row.confirmed) (length row.turns)

  pub next_where : (left : Bool) → rounds.is_turn_left row ≡ left
      → next_in row confirms ≡ (if left then Ask (row.told + 1) else Done
      (row.skipped || nat_lt (if confirms then row.confirmed + 1 else row.confirmed) (length row.turns)))
  next_where left is =
      ap (λ (b : Bool). if b then Ask (row.told + 1) else Done
      (row.skipped || nat_lt (if confirms then row.confirmed + 1 else row.confirmed) (length row.turns))) is

-- the next turn is the one that is left
pub record IsNextTurn (row : RoundRow) (confirms : Bool) (turn : Turn) : Type 0 where
  pub left : rounds.is_turn_left row ≡ true
  pub next_is : next_in row confirms ≡ Ask (row.told + 1)
  pub there : slice_get row.turns (row.told + 1) ≡ Some turn

pub record IsNextEnd (row : RoundRow) (confirms : Bool) (message : List ℕ) (asker : Option Asker)
    (partial : Bool) : Type 0 where
  pub none_left : rounds.is_turn_left row ≡ false
  pub next_is : next_in row confirms ≡ Done partial
  pub message_is : message ≡ row.message
  pub asker_is : asker ≡ row.asker

pub turn_follows : (row : RoundRow) (confirms : Bool) (turn : Turn) → Some (follows.Turn turn) ≡ follows_of row confirms
    → IsNextTurn row confirms turn
turn_follows row confirms turn is = by_left (rounds.is_turn_left row) refl
  where
    by_left : (left : Bool) → rounds.is_turn_left row ≡ left → IsNextTurn row confirms turn
    by_left true left =
        let next = next_where row confirms true left in
        record {
          left = left;
          next_is = next;
          there = mapped_turn (slice_get row.turns (row.told + 1)) turn
              (is ∙ ap (follows_by row) next);
        }
    by_left false none =
        let clash = is ∙ ap (follows_by row) (next_where row confirms false none) in absurd (cc)

pub end_follows : (row : RoundRow) (confirms : Bool) (message : List ℕ) (asker : Option Asker) (partial : Bool)
    → Some (follows.End message asker partial) ≡ follows_of row confirms
    → IsNextEnd row confirms message asker partial
end_follows row confirms message asker partial is = by_left (rounds.is_turn_left row) refl
  where
    no_turn : (o : Option Turn) → Some (follows.End message asker partial) ≡ option_map follows.Turn o → ⊥
    no_turn None e = cc
    no_turn (Some turn) e = cc

    by_left : (left : Bool) → rounds.is_turn_left row ≡ left → IsNextEnd row confirms message asker partial
    by_left true left =
        absurd (no_turn (slice_get row.turns (row.told + 1))
        (is ∙ ap (follows_by row) (next_where row confirms true left)))
    by_left false none =
        let next = next_where row confirms false none in
        let so = row.skipped || nat_lt (if confirms then row.confirmed + 1 else row.confirmed) (length row.turns) in
        let both : Some (follows.End message asker partial) ≡ Some (follows.End row.message row.asker so) =
        is ∙ ap (follows_by row) next in
        let messages : message ≡ row.message = cc in
        let askers : asker ≡ row.asker = cc in
        let partials : so ≡ partial = cc in
        record { none_left = none; next_is = next ∙ ap Done partials; message_is = messages; asker_is = askers }

-- the record of the answer
pub told_record : (held : Held) (now : ℕ) (key of peer : List ℕ) (confirms : Bool) (next : Follows) (row : RoundRow)
    (r : IdpRecord) → turn_of held now of peer ≡ Some row
    → record_for key held now (replies.Told of peer confirms next) ≡ Some r
    → told key (next_number held) now of confirms (rounds.is_turn_left row) ≡ r
told_record held now key of peer confirms next row r waits is =
    one_of (told key (next_number held) now of confirms (rounds.is_turn_left row)) r
    (sym (ap (λ (o : Option RoundRow). if is_none o then None else Some
    (told key (next_number held) now of confirms (is_turn_left o))) waits) ∙ is)

pub next_step_of : (setup : IdpConfig) (held : Held) (request : Request) (now : ℕ) (key of peer : List ℕ)
    (confirms : Bool) (next : Follows) (r : IdpRecord)
    → Tells setup held request now of peer confirms next
    → record_for key held now (replies.Told of peer confirms next) ≡ Some r → HasNextStep setup next r
next_step_of setup held request now key of peer confirms (follows.Turn turn) r w is =
    let n = next_number held in
    let next = turn_follows w.row confirms turn w.next_is in
    let texts = all_at IsTextTurn w.row.turns (w.row.told + 1) turn w.row_texts.turns next.there in
    let own : told key n now of confirms true ≡ r =
    ap (λ (b : Bool). told key n now of confirms b) (sym next.left)
    ∙ told_record held now key of peer confirms (follows.Turn turn) w.row r w.waits is in
    subst (HasNextTurn setup turn) own (record {
      id = id_text key ids.Request n;
      named = refl;
      can = record {
        id_text = drawn_text key ids.Request n;
        named = drawn_named key ids.Request n;
        name = texts.name;
        indexes = texts.indexes;
        peers = w.peers;
      };
    })
next_step_of setup held request now key of peer confirms (follows.End message asker partial) r w is =
    let end = end_follows w.row confirms message asker partial w.next_is in
    record {
      message_text = subst IsText (sym end.message_is) w.row_texts.message;
      named = λ none. w.row_texts.named (sym end.message_is ∙ none);
      asker_text = subst IsTextAsker (sym end.asker_is) w.row_texts.asker;
      peers = w.peers;
    }

if_on : {X : Type 0} (b : Bool) (o : Option X) → b ≡ true → (if b then o else None) ≡ o
if_on true o is = refl
if_on false o is = absurd (cc)

-- the record of an answer is a Told
told_some : (key : List ℕ) (next now : ℕ) (request : List ℕ) (confirms left : Bool) → (t : Told)
    × (told key next now request confirms left ≡ kinds.Told t)
told_some key next now request confirms true = (_, refl)
told_some key next now request confirms false = (_, refl)

-- a Told with the fields of this one
told_here : (setup : IdpConfig) (row : RoundRow) (confirms : Bool) (t : Told) (next : Follows) (now : ℕ)
    (answer : Answer) → Some next ≡ follows_of row confirms
    → IsToldPage setup next (kinds.Told t) now answer → (bytes : List ℕ) × IsToldAnswer setup row confirms t now bytes
    × (answer ≡ Full bytes)
told_here setup row confirms t (follows.Turn turn) now answer is page =
    let next = turn_follows row confirms turn is in
    (page.bytes, AsksNext (row.told + 1) turn page.id next.next_is next.there page.named page.asks, page.full)
told_here setup row confirms t (follows.End message asker partial) now answer is page =
    let end = end_follows row confirms message asker partial is in (
      page.bytes,
      EndsRound partial end.next_is (subst (λ (m : List ℕ). IsRoundEnd setup m row.asker partial now page.bytes)
          end.message_is
          (subst (λ (a : Option Asker). IsRoundEnd setup message a partial now page.bytes) end.asker_is page.ends)),
      page.full,
    )

pub telling_answers : (setup : IdpConfig) (held : Held) (request : Request) (now : ℕ) (of peer : List ℕ)
    (confirms : Bool) (next : Follows) (r : IdpRecord) (answer : Answer)
    → Tells setup held request now of peer confirms next
    → record_for setup.id_key held now (replies.Told of peer confirms next) ≡ Some r
    → IsToldPage setup next r now answer
    → Answers setup held request now answer (Some r)
telling_answers setup held request now of peer confirms next r answer w is page =
    let n = next_number held in
    let left = rounds.is_turn_left w.row in
    let confirmed = not (is_in_part w.response.outcome) in
    let same : told_by setup held now w.response.request confirmed w.row ≡ r =
    ap (λ (q : List ℕ). told setup.id_key n now q confirmed left) (sym w.of_is)
    ∙ ap (λ (c : Bool). told setup.id_key n now of c left) (sym w.confirms_is)
    ∙ told_record held now setup.id_key of peer confirms next w.row r w.waits is in
    let waits : round_waiting setup held now w.response.request w.who.peer.entity ≡ Some w.row =
    if_on setup.fanout (turn_of held now w.response.request w.who.peer.entity) w.fanout
    ∙ ap (λ (q : List ℕ). turn_of held now q w.who.peer.entity) (sym w.of_is)
    ∙ ap (λ (p : List ℕ). turn_of held now of p) (sym w.peer_is) ∙ w.waits in
    let t = told_some setup.id_key n now w.response.request confirmed left in
    let is_told : kinds.Told t.0 ≡ r = sym t.1 ∙ same in
    let shown = told_here setup w.row confirmed t.0 next now answer (w.next_is ∙ ap (follows_of w.row) w.confirms_is)
    (subst (λ (x : IdpRecord). IsToldPage setup next x now answer) (sym is_told) page) in
    subst (λ (x : IdpRecord). Answers setup held request now answer (Some x)) is_told
    (ByTold w.response w.who w.row t.0 shown.0 w.to w.replies waits t.1 refl shown.1 shown.2)

pub tells_still : (setup : IdpConfig) (anew old : Held) (request : Request) (now : ℕ) (of peer : List ℕ)
    (confirms : Bool) (next : Follows) → AnswerAlike now anew old
    → Tells setup old request now of peer confirms next → Tells setup anew request now of peer confirms next
tells_still setup anew old request now of peer confirms next like w = record {
  to = w.to;
  response = w.response;
  who = w.who;
  replies = w.replies;
  of_is = w.of_is;
  peer_is = w.peer_is;
  confirms_is = w.confirms_is;
  fanout = w.fanout;
  row = w.row;
  waits = like.turn of peer ∙ w.waits;
  next_is = w.next_is;
  row_texts = w.row_texts;
  peers = w.peers;
  told = w.told;
}

-- ---- what is replied

-- the reply by a plan is asked for
pub asks_by : (setup : IdpConfig) (held : Held) (request : Request) (now : ℕ) (asker : Option Asker)
    (cookies : List (List ℕ)) (reply : Reply)
    → OfUser held request now cookies asker ⊎ OfPeer setup held request now cookies asker → LiveIn held cookies now
    → IsTextAsker asker → AllByRecursion IsTextPeer setup.peers
    → AreTold now now → AsksByPlan setup held asker cookies reply → Wants setup held request now reply
asks_by setup held request now asker cookies reply of live texts peers told by =
    subst (Wants setup held request now) (sym by.is) (record {
      of = of;
      asks = by.asks;
      turns_are = by.turns_are;
      skips = by.skips;
      live = live;
      asker_text = texts;
      turn_texts = by.texts;
      peers = peers;
      told = told;
    })

-- and so is the reply in a round
pub tells_by : (setup : IdpConfig) (held : Held) (request : Request) (now : ℕ) (response : LogoutResponse)
    (who : LogoutPeer) (of peer : List ℕ) (confirms : Bool) (reply : Reply)
    → route request ≡ To SingleLogout → RepliesTo setup request now response who → of ≡ response.request
    → peer ≡ who.peer.entity → confirms ≡ not (is_in_part response.outcome)
    → AllByRecursion IsTextPeer setup.peers → AreTold now now → AnswersRound setup held now of peer confirms reply
    → Wants setup held request now reply
tells_by setup held request now response who of peer confirms reply to replies of_is peer_is confirms_is peers told by =
    subst (Wants setup held request now) (sym by.is) (record {
      to = to;
      response = response;
      who = who;
      replies = replies;
      of_is = of_is;
      peer_is = peer_is;
      confirms_is = confirms_is;
      fanout = by.fanout;
      row = by.row;
      waits = by.waits;
      next_is = by.next_is;
      row_texts = by.texts;
      peers = peers;
      told = told;
    })
