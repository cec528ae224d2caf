-- When a login is passed on.
use Rattle.std.specs.Prelude.{Option, Some, slice_get}
use Rattle.std.proofs.Common.{◌≡◌, ◌⊎◌, inl, inr, ℕ, true, false, List, sym, subst, refl, ap, ◌∙◌}
use Rattle.crash_disk.specs.Counts.{Rose}
use Rattle.http_wire.specs.declared.answer.Answer.{Answer}
use Rattle.http_wire.specs.declared.answer.Answer.TheVariants.{Fixed}
use Rattle.http_wire.specs.Requests.{Request}
use Rattle.verdict_codes.specs.declared.codes.Verdict.{Verdict}
use Rattle.ledger_records.specs.declared.hub_record.Backed.{Backed}
use Rattle.ledger_records.specs.declared.hub_record.HubRecord.{HubRecord}
use Rattle.ledger_records.specs.declared.hub_record.HubRecord.TheVariants as kinds
use Rattle.peer_keys.specs.declared.peers.LogoutPeer.{LogoutPeer}
use Rattle.request_rows.specs.Rows.{RowsView}
use Rattle.request_rows.specs.declared.row.AskedRow.{AskedRow}
use Rattle.hub_ledger.specs.Draft.{first_id}
use Rattle.hub_ledger.specs.Laws.{AnswerAlike, CompactionsChangeNoAnswer}
use Rattle.hub_ledger.specs.Ledger.{Held}
use Rattle.hub_ledger.specs.RowsOf.{Route, rows_of}
use Rattle.idp_rules.specs.Asking.{IsAsked}
use Rattle.idp_rules.specs.declared.asked.Asked.{Asked}
use Rattle.sp_rules.specs.declared.config.SpConfig.{SpConfig}
use Rattle.sp_rules.specs.Opening.{Brought, Opens}
use Rattle.sp_rules.specs.Verdict.{IsRefused}
use Rattle.sp_answers.specs.Judging.{LikeRowsOpenAlike}
use Rattle.idp_answers.specs.Answers.{IsNoPassiveAnswer}
use Rattle.provider_node.proofs.Wanted.{IsAdded, IsBehind, alike_behind, comes_of_wanted}
use Rattle.provider_node.specs.declared.codes.TheConstants.{NO_MEMORY}
use Rattle.hub_ledger.specs.Record.{hub_rules}
use Rattle.identity_hub.specs.declared.config.HubConfig.{HubConfig}
use Rattle.identity_hub.specs.Config.{sign_on}
use Rattle.identity_hub.specs.Passing.{CanPassOn, IsPassedOn, IsOfLogin, IsSpoken, NothingIsAskedOfAUserWhoMayNotBeAsked, OnlyWhereALoginIsBrought, PassesLogin, WhereverALoginIsBrought}
use Rattle.identity_hub.specs.Step as steps
use Rattle.identity_hub.specs.Step.{Answers, IsFor, backed_for, rows_seen}
use Rattle.identity_hub.proofs.Alike.{alike_self, rows_alike}

-- a form that brings a login is refused for nothing
abbrev pub IsNotRefused : Type 0
IsNotRefused =
    (config : SpConfig) (rows : RowsView) (horizon now : ℕ) (body : List ℕ) (b : Brought) (asked : AskedRow)
    (verdict : Verdict)
    → Opens config rows horizon now body b asked → ¬ (IsRefused config rows horizon now body verdict)

-- and it brings one login alone
abbrev pub IsOneLogin : Type 0
IsOneLogin =
    (config : SpConfig) (rows : RowsView) (horizon now : ℕ) (body : List ℕ) (b other : Brought)
    (row for_other : AskedRow)
    → Opens config rows horizon now body b row → Opens config rows horizon now body other for_other → b ≡ other

-- ---- only where

-- what a record says that is the record of a login
of_login : (setup : HubConfig) (held : Held) (now : ℕ) (b : Brought) (row : Route) (r : Backed)
    → backed_for setup held now b row.below ≡ kinds.Backed r → IsOfLogin setup now b row r
of_login setup held now b row r is =
    subst (IsOfLogin setup now b row) (the_backed _ r is)
    (record {
      name = refl;
      attributes = refl;
      issuer = refl;
      above = refl;
      request = refl;
      until = refl;
      peer = refl;
      consumer = refl;
      below = refl;
      relay = refl;
    })
  where
    the_backed : (one other : Backed) → kinds.Backed one ≡ kinds.Backed other → one ≡ other
    the_backed one other same = cc

passed : (setup : HubConfig) (held : Held) (request : Request) (now : ℕ) (answer : Answer) (adds : Option HubRecord)
    (r : Backed) → adds ≡ Some (kinds.Backed r) → Answers setup held request now answer adds
    → PassesLogin setup held request now (kinds.Backed r) answer
passed setup held request now answer adds r some (steps.ByStatus status to is none) = absurd (cc)
passed setup held request now answer adds r some (steps.ByMetadata role to is none) = absurd (cc)
passed setup held request now answer adds r some (steps.ByRefusal verdict to refused is none) = absurd (cc)
passed setup held request now answer adds r some (steps.BySpeaking asked peer message bytes asks passive is named page
    shown) =
    absurd (cc)
passed setup held request now answer adds r some (steps.ByAsking asked peer q bytes asks passive is adds_is page
    shown) =
    absurd (cc)
passed setup held request now answer adds r some (steps.ByVerdict verdict to refused is none) = absurd (cc)
passed setup held request now answer adds r some (steps.ByUnknownPeer b asked brings unknown is none) = absurd (cc)
passed setup held request now answer adds r some (steps.ByPassing b asked row peer own bytes brings is_for is adds_is
    page shown) =
    let same : own ≡ r = cc in
    let own_is : backed_for setup held now b row.below ≡ kinds.Backed r =
    is ∙ ap (λ (x : Backed). kinds.Backed x) same in
    record {
      brought = b;
      row = row;
      peer = peer;
      can = record { asked = asked; brings = brings; is_for = is_for };
      is = sym own_is;
      backed = r;
      kind = refl;
      says = of_login setup held now b row r own_is;
      bytes = bytes;
      answers = subst (λ (x : Backed). steps.IsAnswerFor setup peer x now bytes) same page;
      answered = shown;
    }

pub only_where : OnlyWhereALoginIsBrought
only_where setup held request now answer r answers =
    passed setup held request now answer (Some (kinds.Backed r)) r refl answers

-- ---- wherever

-- the request below, and its peer, are one
one_row : (setup : HubConfig) (held : Held) (now : ℕ) (id : List ℕ) (row other : Route) (peer for_other : LogoutPeer)
    → IsFor setup held now id row peer → IsFor setup held now id other for_other → row ≡ other
one_row setup held now id row other peer for_other one two =
    let same : Some row ≡ Some other = sym one.found ∙ two.found in cc

-- what is answered where the form brings a login that can be passed on
record IsGiven (setup : HubConfig) (held : Held) (request : Request) (now : ℕ) (answer : Answer)
    (adds : Option HubRecord) (b : Brought) (row : Route) : Type 0 where
  r : HubRecord
  is : adds ≡ Some r
  own : r ≡ backed_for setup held now b row.below
  passes : PassesLogin setup held request now (backed_for setup held now b row.below) answer

module _ (not_refused : IsNotRefused) (one_login : IsOneLogin) where
  answered : (setup : HubConfig) (held : Held) (request : Request) (now : ℕ) (answer : Answer) (adds : Option HubRecord)
      (b : Brought) (row : Route) (peer : LogoutPeer) → CanPassOn setup held request now b row peer
      → Answers setup held request now answer adds → IsGiven setup held request now answer adds b row
  answered setup held request now answer adds b row peer can (steps.ByStatus status to is none) =
      absurd (let e = sym can.brings.to ∙ to in cc)
  answered setup held request now answer adds b row peer can (steps.ByMetadata role to is none) =
      absurd (let e = sym can.brings.to ∙ to in cc)
  answered setup held request now answer adds b row peer can (steps.ByRefusal verdict to refused is none) =
      absurd (let e = sym can.brings.to ∙ to in cc)
  answered setup held request now answer adds b row peer can
      (steps.BySpeaking asked other message bytes asks passive is named page shown) =
      absurd (let e = sym can.brings.to ∙ asks.to in cc)
  answered setup held request now answer adds b row peer can
      (steps.ByAsking asked other q bytes asks passive is adds_is page shown) =
      absurd (let e = sym can.brings.to ∙ asks.to in cc)
  answered setup held request now answer adds b row peer can (steps.ByVerdict verdict to refused is none) =
      absurd (not_refused setup.upstream _ held.header.horizon now request.body b can.asked verdict can.brings.opens
      refused)
  answered setup held request now answer adds b row peer can (steps.ByUnknownPeer other asked brings unknown is none) =
      let same : other ≡ b =
      one_login setup.upstream (rows_seen (rows_of held.records)) held.header.horizon now request.body other b asked
      can.asked
      brings.opens can.brings.opens in
      absurd (unknown row peer (subst (λ (x : Brought). IsFor setup held now x.login.request row peer) (sym same)
      can.is_for))
  answered setup held request now answer adds b row peer can
      (steps.ByPassing other asked its_row its_peer r bytes brings is_for is adds_is page shown) =
      let same : other ≡ b =
      one_login setup.upstream (rows_seen (rows_of held.records)) held.header.horizon now request.body other b asked
      can.asked
      brings.opens can.brings.opens in
      let its : its_row ≡ row =
      one_row setup held now b.login.request its_row row its_peer peer
      (subst (λ (x : Brought). IsFor setup held now x.login.request its_row its_peer) same is_for) can.is_for in
      let own : kinds.Backed r ≡ backed_for setup held now b row.below =
      sym is ∙ ap (λ (x : Brought). backed_for setup held now x its_row.below) same
      ∙ ap (λ (x : Route). backed_for setup held now b x.below) its in
      record {
        r = kinds.Backed r;
        is = adds_is;
        own = own;
        passes =
            subst (λ (x : HubRecord). PassesLogin setup held request now x answer) own
            (passed setup held request now answer adds r adds_is
            (steps.ByPassing other asked its_row its_peer r bytes brings is_for is adds_is page shown));
      }

-- behind a compaction at the moment the form brings the login as before
passes_behind : CompactionsChangeNoAnswer → LikeRowsOpenAlike
    → (setup : HubConfig) (found held : Held) (request : Request) (now : ℕ) (b : Brought) (row : Route)
    (peer : LogoutPeer)
    → IsBehind hub_rules found now held → CanPassOn setup found request now b row peer
    → CanPassOn setup held request now b row peer
passes_behind law opens setup found held request now b row peer behind can =
    let like = alike_behind hub_rules found now AnswerAlike alike_self law held behind in
    record {
      asked = can.asked;
      brings =
          record {
            to = can.brings.to;
            opens =
                opens setup.upstream now (rows_seen (rows_of held.records)) held.header.horizon
                (rows_seen (rows_of found.records))
                found.header.horizon request.body b can.asked (rows_alike now held found like) can.brings.opens;
          };
      is_for =
          record {
            found = like.routed b.login.request ∙ can.is_for.found;
            place = can.is_for.place;
            known = can.is_for.known;
            there = can.is_for.there;
          };
    }

pub wherever : IsNotRefused → IsOneLogin → CompactionsChangeNoAnswer → LikeRowsOpenAlike → WhereverALoginIsBrought
wherever not_refused one_login law opens found request now faults later answer old new b row peer serves can room calm =
    of_case
    (comes_of_wanted hub_rules Answers found request now (Rose faults later) answer old new recorded
    (λ held behind other adds answers.
    let is = answered not_refused one_login old.setup held request now other adds b row peer (passes held behind)
    answers in
    is.is ∙ ap Some is.own) room calm serves)
  where
    recorded : Held → HubRecord
    recorded held = backed_for old.setup held now b row.below

    passes : (held : Held) → IsBehind hub_rules found now held → CanPassOn old.setup held request now b row peer
    passes held behind = passes_behind law opens old.setup found held request now b row peer behind can

    of_case : (answer ≡ Fixed NO_MEMORY)
        ⊎ IsAdded hub_rules Answers found request now (Rose faults later) answer old new recorded
        → (answer ≡ Fixed NO_MEMORY) ⊎ IsPassedOn old.setup found request now b row answer new.ledger.held
    of_case (inl is) = inl is
    of_case (inr one) = inr (record {
      held = one.held;
      over = one.over;
      passes =
          (answered not_refused one_login old.setup one.held request now answer (Some (recorded one.held)) b row peer
          (passes one.held one.behind) one.answers).passes;
      added = one.added;
    })

-- ---- where the user may not be asked

-- a form asks for one thing alone
abbrev pub AsksOnce : Type 0
AsksOnce =
    (peers : List LogoutPeer) (address body : List ℕ) (one other : Asked) → IsAsked peers address body one
    → IsAsked peers address body other → one ≡ other

spoken : AsksOnce → (setup : HubConfig) (held : Held) (request : Request) (now : ℕ) (answer : Answer)
    (adds : Option HubRecord) (r : HubRecord) (asked : Asked) (peer : LogoutPeer)
    → steps.AsksFor setup request asked peer
    → asked.passive ≡ true → adds ≡ Some r → Answers setup held request now answer adds
    → IsSpoken setup held asked peer now r answer
spoken once setup held request now answer adds r asked peer asks passive some (steps.ByStatus status to is none) =
    absurd (cc)
spoken once setup held request now answer adds r asked peer asks passive some (steps.ByMetadata role to is none) =
    absurd (cc)
spoken once setup held request now answer adds r asked peer asks passive some
    (steps.ByRefusal verdict to refused is none) =
    absurd (cc)
spoken once setup held request now answer adds r asked peer asks passive some
    (steps.BySpeaking other its message bytes its_asks its_passive is named page shown) =
    let same : other ≡ asked = once setup.peers (sign_on setup) request.body other asked its_asks.is asks.is in
    let known : Some its ≡ Some peer =
    sym its_asks.known ∙ ap (λ (x : Asked). slice_get setup.peers x.peer) same ∙ asks.known in
    let same_peer : its ≡ peer = cc in
    let joined : Some r ≡ Some (steps.spoken_for setup held now (steps.below_of other its)) = sym some ∙ is in
    let as_other : r ≡ steps.spoken_for setup held now (steps.below_of other its) = cc in
    record {
      is = subst (λ (x : Asked). r ≡ steps.spoken_for setup held now (steps.below_of x peer)) same
          (subst (λ (p : LogoutPeer). r ≡ steps.spoken_for setup held now (steps.below_of other p)) same_peer as_other);
      message = message;
      named = subst (λ (x : HubRecord). first_id x ≡ Some message) (sym as_other) named;
      bytes = bytes;
      answers =
          subst (λ (x : Asked). IsNoPassiveAnswer setup.upstream.entity message x.request x.consumer x.relay now bytes)
          same page;
      answered = shown;
    }
spoken once setup held request now answer adds r asked peer asks passive some
    (steps.ByAsking other its q bytes its_asks its_passive is adds_is page shown) =
    let same : other ≡ asked = once setup.peers (sign_on setup) request.body other asked its_asks.is asks.is in
    absurd (let clash : false ≡ true = sym its_passive ∙ ap (λ (x : Asked). x.passive) same ∙ passive in cc)
spoken once setup held request now answer adds r asked peer asks passive some
    (steps.ByVerdict verdict to refused is none) =
    absurd (cc)
spoken once setup held request now answer adds r asked peer asks passive some
    (steps.ByUnknownPeer b row brings unknown is none) = absurd (cc)
spoken once setup held request now answer adds r asked peer asks passive some
    (steps.ByPassing b row its_row its_peer q bytes brings is_for is adds_is page shown) =
    absurd (let e = sym asks.to ∙ brings.to in cc)

pub nothing_asked : AsksOnce → NothingIsAskedOfAUserWhoMayNotBeAsked
nothing_asked once setup held request now answer r asked peer asks passive answers =
    spoken once setup held request now answer (Some r) r asked peer asks passive refl answers
