-- What a guard tells.
use Rattle.std.specs.Prelude.{Option, None, Some, if◌then◌else◌}
use Rattle.std.proofs.Common.{◌≡◌, ◌⊎◌, inl, inr, ℕ, Bool, true, false, List, IsTrue, sym, subst, refl, ap, ◌∙◌, arith}
use Rattle.access_policy.specs.declared.rule.Rule.{Rule}
use Rattle.access_policy.specs.Decide as policies
use Rattle.crash_disk.specs.Counts.{Rose}
use Rattle.crash_disk.specs.Disk.{DiskState}
use Rattle.http_wire.specs.declared.answer.Answer.{Answer}
use Rattle.http_wire.specs.declared.answer.Answer.TheVariants.{Fixed, Full}
use Rattle.http_wire.specs.declared.method.Method.{Method}
use Rattle.http_wire.specs.declared.method.Method.TheVariants.{Get, Post, Other}
use Rattle.http_wire.specs.Answers.{is_fixed}
use Rattle.http_wire.specs.Clients.{is_answered}
use Rattle.http_wire.specs.Requests.{Request}
use Rattle.http_wire.specs.Statuses.{AnAnswerHasOneStatus, EachAnswerHasItsStatus, HasStatus, fixed_status}
use Rattle.http_wire.specs.Views.{answer_bytes}
use Rattle.http_wire.specs.Vouched.{vouched_answer}
use Rattle.http_wire.specs.Vouching.{AVouchedAnswerIsReadAgain, IsReadAsVouched}
use Rattle.ledger_records.specs.declared.sp_record.SpRecord.{SpRecord}
use Rattle.provider_node.specs.Step as any
use Rattle.provider_node.specs.declared.codes.TheConstants.{NO_MEMORY}
use Rattle.request_ledger.specs.Ledger.{Held}
use Rattle.request_rows.specs.declared.row.OpenedRow.{OpenedRow}
use Rattle.sp_answers.specs.Answers.{denied_answer}
use Rattle.sp_server.proofs.Held.{session_record}
use Rattle.sp_server.specs.Guard.{decide_plain, guard_answer, is_plain, path_asked, to_session, vouched_by, vouched_to}
use Rattle.provider_node.specs.Causes.{Finds}
use Rattle.sp_server.specs.Guarding.{AGuardTellsExactly, AsksGuard, EqualRowsAreVouchedForAlike, IsAllowed, IsVouchedAt, IsVouchedFor, LetsIn, OnlyASessionIsVouchedFor, TellsExactly}
use Rattle.service_routes.specs.Routes.{is_method}
use Rattle.service_routes.specs.declared.route.Route.TheVariants.{To}
use Rattle.sp_server.specs.declared.route.Service.TheVariants.{Guard}
use Rattle.sp_server.specs.Routes.{route}
use Rattle.sp_server.specs.Step as steps
use Rattle.provider_node.specs.Step.{IsWhole, Serves, Steps}
use Rattle.sp_server.specs.Step.{Setup, Provider, Answers, session_for}
use Rattle.request_ledger.specs.Record.{request_rules}
use Rattle.sp_server.proofs.Told.{said}
use Rattle.provider_node.proofs.Answered.{plainly}

-- ---- what is answered at /auth

-- it is what the guard says, and nothing is recorded
record IsGuarded (setup : Setup) (held : Held) (request : Request) (now : ℕ) (answer : Answer)
    (adds : Option SpRecord) : Type 0 where
  says : answer ≡ guard_answer setup.guard setup.policy request (session_for held now request)
  nothing : adds ≡ None

guarded : (setup : Setup) (held : Held) (request : Request) (now : ℕ) (answer : Answer) (adds : Option SpRecord)
    → route request ≡ To Guard
    → Answers setup held request now answer adds → IsGuarded setup held request now answer adds
guarded setup held request now answer adds at (steps.ByGuard to is none) = record { says = is; nothing = none }
guarded setup held request now answer adds at (steps.ByExpiry (inl to) expired is none) =
    absurd (let e = sym at ∙ to in cc)
guarded setup held request now answer adds at (steps.ByExpiry (inr (inl to)) expired is none) =
    absurd (let e = sym at ∙ to.0 in cc)
guarded setup held request now answer adds at (steps.ByExpiry (inr (inr (inl to))) expired is none) =
    absurd (let e = sym at ∙ to in cc)
guarded setup held request now answer adds at (steps.ByExpiry (inr (inr (inr to))) expired is none) =
    absurd (let e = sym at ∙ to in cc)
guarded setup held request now answer adds at other =
    absurd (let says = (said setup held request now answer adds other).is in cc)

-- what is done at such a request
record IsDone (found : Held) (request : Request) (now : ℕ) (answer : Answer) (old new : Provider) : Type 0 where
  says : (answer ≡ Fixed NO_MEMORY)
      ⊎ (answer ≡ guard_answer old.setup.guard old.setup.policy request (session_for found now request))
  whole : IsWhole old new found

done : (found : Held) (request : Request) (now : ℕ) (Risen : Type 0) (answer : Answer) (old new : Provider)
    → route request ≡ To Guard → Serves request_rules Answers found request now Risen answer old new
    → IsDone found request now answer old new
done found request now Risen answer old new at serves =
    let did = plainly request_rules Answers request now Risen answer old new found
    (λ other r answers. let e = (guarded old.setup found request now other (Some r) at answers).nothing in cc) serves in
    record {
      says = elim did.0 [
        | inl answers ↦ inr (guarded old.setup found request now answer None at answers).says
        | inr is ↦ inl is
      ];
      whole = did.1;
    }

-- ---- which session is let in

-- a live session is answered by what it is allowed
data IsTold (policy : Option (List Rule)) (path : List ℕ) (row : OpenedRow) : Type 0 where
  Allowed : IsAllowed policy path row → vouched_to policy path row ≡ vouched_answer row.name row.attributes
      → IsTold policy path row
  Denied : ¬ (IsAllowed policy path row) → (rule : List ℕ) → vouched_to policy path row ≡ denied_answer rule
      → IsTold policy path row

not_both : (b : Bool) → b ≡ false → b ≡ true → ⊥
not_both b off on = let clash : false ≡ true = sym off ∙ on in cc

by_rules : (rules : List Rule) (path : List ℕ) (row : OpenedRow) (plain allowed : Bool) → is_plain path ≡ plain
    → (policies.decide rules path row.name row.attributes).allowed ≡ allowed → IsTold (Some rules) path row
by_rules rules path row true true is on =
    let decision : decide_plain rules path row ≡ policies.decide rules path row.name row.attributes =
    ap (λ (b : Bool). if b then policies.decide rules path row.name row.attributes else policies.answer_of None) is in
    Allowed (is, on)
    (ap (λ (d : policies.Answer). vouched_by row d) decision
    ∙ ap (λ (b : Bool). if b then vouched_answer row.name row.attributes else denied_answer
    (policies.decide rules path row.name row.attributes).rule) on)
by_rules rules path row true false is off =
    let decision : decide_plain rules path row ≡ policies.decide rules path row.name row.attributes =
    ap (λ (b : Bool). if b then policies.decide rules path row.name row.attributes else policies.answer_of None) is in
    Denied (λ allowed. not_both (policies.decide rules path row.name row.attributes).allowed off allowed.1)
    (policies.decide rules path row.name row.attributes).rule
    (ap (λ (d : policies.Answer). vouched_by row d) decision
    ∙ ap (λ (b : Bool). if b then vouched_answer row.name row.attributes else denied_answer
    (policies.decide rules path row.name row.attributes).rule) off)
by_rules rules path row false allowed is any =
    Denied (λ allows. not_both (is_plain path) is allows.0) (policies.answer_of None).rule
    (ap (λ (b : Bool). vouched_by row (if b then policies.decide rules path row.name row.attributes else
    policies.answer_of None)) is)

told : (policy : Option (List Rule)) (path : List ℕ) (row : OpenedRow) → IsTold policy path row
told None path row = Allowed tt refl
told (Some rules) path row =
    by_rules rules path row (is_plain path) (policies.decide rules path row.name row.attributes).allowed refl refl

-- ---- the statuses

-- the laws of answers
pub record AnswerLaws : Type 0 where
  pub has : EachAnswerHasItsStatus
  pub one : AnAnswerHasOneStatus
  pub read : AVouchedAnswerIsReadAgain

module _ (laws : AnswerLaws) where
  -- a status alone is not 200
  not_ok : (code : ℕ) → IsTrue (is_fixed code) → IsTrue (is_answered (fixed_status code))
      → (fixed_status code ≡ 200 → ⊥) → HasStatus 200 (answer_bytes (Fixed code)) → ⊥
  not_ok code fixed answered other ok =
      other (laws.one (fixed_status code) 200 (answer_bytes (Fixed code)) answered refl (laws.has.fixed code fixed) ok)

  -- nor is the page of a rule
  denied_not_ok : (rule : List ℕ) → HasStatus 200 (denied_answer rule) → ⊥
  denied_not_ok rule ok =
      let e =
      laws.one 403 200 (denied_answer rule) refl refl (laws.has.full 403 None None _) ok in let clash : 403 ≡ 200 =
      e in omega (arith, clash)

  bytes_of : (answer : Answer) (bytes other : List ℕ) → answer ≡ Full bytes → bytes ≡ other
      → answer_bytes answer ≡ other
  bytes_of answer bytes other is same = ap answer_bytes is ∙ same

  vouched_for : (setup : Setup) (held : Held) (request : Request) (now : ℕ) (bytes : List ℕ) (row : OpenedRow)
      → LetsIn setup held request now row
      → bytes ≡ vouched_answer row.name row.attributes → IsVouchedFor setup held request now bytes
  vouched_for setup held request now bytes row let_in says = record {
    row = row;
    let_in = let_in;
    recorded = session_record held request now row let_in.live;
    says = says;
    read = subst (λ (b : List ℕ). IsReadAsVouched b row.name row.attributes) (sym says)
        (laws.read row.name row.attributes);
  }

  same_row : (session : Option OpenedRow) (one other : OpenedRow) → session ≡ Some one → session ≡ Some other
      → one ≡ other
  same_row session one other first second = let e : Some one ≡ Some other = sym first ∙ second in cc

  never_two : (session : Option OpenedRow) (row : OpenedRow) → session ≡ Some row → session ≡ None → ⊥
  never_two session row some none = let e : Some row ≡ None = sym some ∙ none in cc

  -- what is told of a session that lives
  of_row : (setup : Setup) (held : Held) (request : Request) (now : ℕ) (answer : Answer) (row : OpenedRow)
      → session_for held now request ≡ Some row
      → answer ≡ Full (vouched_to setup.policy (path_asked request.path) row)
      → IsTold setup.policy (path_asked request.path) row → TellsExactly setup held request now answer
  of_row setup held request now answer row live is (Allowed allowed page) = record {
    let_in = λ other lets. is ∙ ap Full page ∙ ap (λ (r : OpenedRow). Full (vouched_answer r.name r.attributes))
        (same_row (session_for held now request) row other live lets.live);
    only = λ ok. vouched_for setup held request now (answer_bytes answer) row
        (record { live = live; allowed = allowed }) (bytes_of answer _ _ is page);
    denied = λ other found none.
        absurd (none (subst (λ (r : OpenedRow). IsAllowed setup.policy (path_asked request.path) r)
        (same_row (session_for held now request) row other live found) allowed));
    nobody = λ none. absurd (never_two (session_for held now request) row live none);
  }
  of_row setup held request now answer row live is (Denied none rule page) = record {
    let_in = λ other lets.
        absurd (none (subst (λ (r : OpenedRow). IsAllowed setup.policy (path_asked request.path) r)
        (same_row (session_for held now request) other row lets.live live) lets.allowed));
    only = λ ok. absurd (denied_not_ok rule (subst (HasStatus 200) (bytes_of answer _ _ is page) ok));
    denied = λ other found never. (rule, is ∙ ap Full page);
    nobody = λ nobody. absurd (never_two (session_for held now request) row live nobody);
  }

  of_session : (setup : Setup) (held : Held) (request : Request) (now : ℕ) (answer : Answer)
      (session : Option OpenedRow) → session_for held now request ≡ session
      → answer ≡ to_session setup.policy (path_asked request.path) session → TellsExactly setup held request now answer
  of_session setup held request now answer (Some row) live is =
      of_row setup held request now answer row live is (told setup.policy (path_asked request.path) row)
  of_session setup held request now answer None none is = record {
    let_in = λ row lets. absurd (never_two (session_for held now request) row lets.live none);
    only = λ ok. absurd (not_ok 401 refl refl (λ e. omega (arith, e))
        (subst (λ (a : Answer). HasStatus 200 (answer_bytes a)) is ok));
    denied = λ row live never. absurd (never_two (session_for held now request) row live none);
    nobody = λ nobody. is;
  }

  -- what a guard that is asked answers
  asked_says : (setup : Setup) (request : Request) (session : Option OpenedRow) → AsksGuard setup request
      → guard_answer setup.guard setup.policy request session ≡ to_session setup.policy (path_asked request.path)
      session
  asked_says setup request session asks =
      ap (λ (g : Bool). guard_answer g setup.policy request session) asks.guard
      ∙ ap (λ (m : Method). if is_method Get m then to_session setup.policy (path_asked request.path) session else Fixed
      405) asks.get

  pub tells_exactly : AGuardTellsExactly
  tells_exactly found request now faults later answer old new asks serves =
      let here =
      done found request now (Rose faults later) answer old new asks.at serves in (which here.says, here.whole)
    where
      which : (answer ≡ Fixed NO_MEMORY) ⊎ (answer ≡ guard_answer old.setup.guard old.setup.policy request
          (session_for found now request))
          → (answer ≡ Fixed NO_MEMORY) ⊎ TellsExactly old.setup found request now answer
      which (inl starved) = inl starved
      which (inr says) =
          inr (of_session old.setup found request now answer (session_for found now request) refl
          (says ∙ asked_says old.setup request (session_for found now request) asks))

  -- ---- only where a guard is asked

  never_code : (answer : Answer) (code : ℕ) → answer ≡ Fixed code → IsTrue (is_fixed code)
      → IsTrue (is_answered (fixed_status code)) → (fixed_status code ≡ 200 → ⊥)
      → HasStatus 200 (answer_bytes answer) → ⊥
  never_code answer code is fixed answered other ok =
      not_ok code fixed answered other (subst (λ (a : Answer). HasStatus 200 (answer_bytes a)) is ok)

  asks_guard : (setup : Setup) (request : Request) (answer : Answer) (session : Option OpenedRow) (guard : Bool)
      (method : Method) → route request ≡ To Guard
      → setup.guard ≡ guard → request.method ≡ method → answer ≡ guard_answer guard setup.policy
      (record request { method = method }) session
      → HasStatus 200 (answer_bytes answer) → AsksGuard setup request
  asks_guard setup request answer session true Get at on get is ok = record { at = at; guard = on; get = get }
  asks_guard setup request answer session true Post at on get is ok =
      absurd (never_code answer 405 is refl refl (λ e. omega (arith, e)) ok)
  asks_guard setup request answer session true Other at on get is ok =
      absurd (never_code answer 405 is refl refl (λ e. omega (arith, e)) ok)
  asks_guard setup request answer session false method at off get is ok =
      absurd (never_code answer 404 is refl refl (λ e. omega (arith, e)) ok)

  by_serving : (found : Held) (disk : Option DiskState) (request : Request) (now faults later : ℕ) (answer : Answer)
      (old new : Provider) → route request ≡ To Guard
      → Finds request_rules old disk found → Serves request_rules Answers found request now (Rose faults later) answer old new
      → HasStatus 200 (answer_bytes answer) → IsVouchedAt old disk request now (answer_bytes answer)
  by_serving found disk request now faults later answer old new at finds serves ok =
      which (done found request now (Rose faults later) answer old new at serves).says
    where
      tells : AsksGuard old.setup request → (answer ≡ Fixed NO_MEMORY) ⊎ TellsExactly old.setup found request now answer
          → IsVouchedAt old disk request now (answer_bytes answer)
      tells asks (inl starved) = absurd (never_code answer NO_MEMORY starved refl refl (λ e. omega (arith, e)) ok)
      tells asks (inr exactly) = record { asks = asks; found = found; finds = finds; vouched = exactly.only ok }

      which : (answer ≡ Fixed NO_MEMORY) ⊎ (answer ≡ guard_answer old.setup.guard old.setup.policy request
          (session_for found now request))
          → IsVouchedAt old disk request now (answer_bytes answer)
      which (inl starved) = absurd (never_code answer NO_MEMORY starved refl refl (λ e. omega (arith, e)) ok)
      which (inr says) =
          let asks =
          asks_guard old.setup request answer (session_for found now request) old.setup.guard request.method at refl
          refl says ok in
          tells asks (tells_exactly found request now faults later answer old new asks serves).0

  pub only_a_session : OnlyASessionIsVouchedFor
  only_a_session old new disk request now faults later answer at step ok = which step
    where
      which : Steps request_rules Answers old disk request now (Rose faults later) answer new
          → IsVouchedAt old disk request now (answer_bytes answer)
      which (any.WithLedger whole serves) =
          by_serving old.ledger.held disk request now faults later answer old new at (inl (whole, refl)) serves ok
      which (any.WithOpened found broken is serves) =
          by_serving found disk request now faults later answer old new at (inr (broken, is)) serves ok
      which (any.NotOpened was risen is broken) = absurd (never_code answer 50 is refl refl (λ e. omega (arith, e)) ok)
      which (any.Strange was none is broken) = absurd (never_code answer 53 is refl refl (λ e. omega (arith, e)) ok)
      which (any.StarvedAtOpening was is broken) = absurd (never_code answer 52 is refl refl (λ e. omega (arith, e)) ok)

-- ---- alike

either : (one second page : Answer) → (one ≡ Fixed NO_MEMORY) ⊎ (one ≡ page) → (second ≡ Fixed NO_MEMORY)
    ⊎ (second ≡ page)
    → (one ≡ second) ⊎ ((one ≡ Fixed NO_MEMORY) ⊎ (second ≡ Fixed NO_MEMORY))
either one second page (inr a) (inr b) = inl (a ∙ sym b)
either one second page (inl a) b = inr (inl a)
either one second page (inr a) (inl b) = inr (inr b)

-- what is said to a session of a row
said_to : (found : Held) (request : Request) (now : ℕ) (Risen : Type 0) (answer : Answer) (old new : Provider)
    (policy : Option (List Rule)) (path : List ℕ) (row : OpenedRow)
    → old.setup.policy ≡ policy → path_asked request.path ≡ path → AsksGuard old.setup request
    → session_for found now request ≡ Some row
    → Serves request_rules Answers found request now Risen answer old new → (answer ≡ Fixed NO_MEMORY)
    ⊎ (answer ≡ Full (vouched_to policy path row))
said_to found request now Risen answer old new policy path row same_policy same_path asks live serves =
    which (done found request now Risen answer old new asks.at serves).says
  where
    says : guard_answer old.setup.guard old.setup.policy request (session_for found now request) ≡ Full
        (vouched_to policy path row)
    says =
        ap (λ (g : Bool). guard_answer g old.setup.policy request (session_for found now request)) asks.guard
        ∙ ap (λ (m : Method). if is_method Get m then to_session old.setup.policy (path_asked request.path)
        (session_for found now request) else Fixed 405) asks.get
        ∙ (λ i. to_session (same_policy i) (same_path i) (live i))

    which : (answer ≡ Fixed NO_MEMORY) ⊎ (answer ≡ guard_answer old.setup.guard old.setup.policy request
        (session_for found now request))
        → (answer ≡ Fixed NO_MEMORY) ⊎ (answer ≡ Full (vouched_to policy path row))
    which (inl starved) = inl starved
    which (inr is) = inr (is ∙ says)

pub vouched_alike : EqualRowsAreVouchedForAlike
vouched_alike found another request next now faults later moment before after one second old new other newer row policy
    asks asks_too path live live_too serves serves_too =
    either one second (Full (vouched_to old.setup.policy (path_asked request.path) row))
    (said_to found request now (Rose faults later) one old new old.setup.policy (path_asked request.path) row refl refl
    asks live serves)
    (said_to another next moment (Rose before after) second other newer old.setup.policy (path_asked request.path) row
    policy path asks_too live_too serves_too)
