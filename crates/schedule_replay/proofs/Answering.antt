-- That the count of faults of a disk is as it was where nothing says that a call of it failed.
use Rattle.std.specs.Prelude.{◌≡◌, ◌≢◌, ℕ, zero, suc, ◌*◌, min, codes, List, [], ◌∷◌, ◌++◌, Option, None, Some, Result}
use Rattle.std.specs.Prelude.{Err}
use Rattle.std.specs.List.{AllByRecursion}
use Rattle.std.specs.Option.{option_map}
use Rattle.std.proofs.Common.{refl, ap, ◌∙◌}
use Rattle.crash_disk.specs.Memory.{DiskInMemory}
use Rattle.gate_journal.specs.declared.fault.OpenFault.{OpenFault}
use Rattle.gate_journal.specs.declared.fault.OpenFault.TheVariants.{DiskFault}
use Rattle.http_wire.specs.declared.answer.Answer.TheVariants.{Fixed}
use Rattle.saml_time.specs.declared.TheConstants.{LAST}
use Rattle.serve_loop.specs.Turns.{Asked, Taken, Turn, asked_by}
use Rattle.serve_loop.specs.Worlds.{IsAnswered, NodeRules, World}
use Rattle.serve_loop.proofs.Quiet.{Asking, Goes, Quiet, goes}
use Rattle.post_agent.specs.declared.site.Site.{Site}
use Rattle.post_agent.specs.declared.site.Site.TheVariants.{Sp, Idp}
use Rattle.schedules.specs.declared.step.Step.TheVariants as steps
use Rattle.schedule_replay.specs.declared.sending.Sending.{Sending}
use Rattle.schedule_replay.specs.Asked.{BothAsked, asked_exchanging, asked_if_any, asked_in_rounds, asked_on}
use Rattle.schedule_replay.specs.Asked.{none_asked, then_asked}
use Rattle.schedule_replay.specs.Counting.{restarted}
use Rattle.schedule_replay.specs.Deployments.{Deployment, OnSite, Hears, ArrivesIfAny, Rounds, Starts, Exchanges, Obeys}
use Rattle.schedule_replay.specs.Deployments.{bytes_of, piece_at, shows, unconnected}
use Rattle.schedule_replay.specs.Ended.{BothEnded, ended_by, ended_exchanging, ended_if_any, ended_in_rounds}
use Rattle.schedule_replay.specs.Ended.{ended_obeying, ended_on, then_ended}
use Rattle.schedule_replay.specs.Faults.{EachFaultIsAnswered, EachFaultOfARunIsAnswered, NoneFailed, disk_of}
use Rattle.schedule_replay.specs.Hosts.{Host, Outcome, Silent, Sent, Brings, Compacts, Known, Restarts, Serves}
use Rattle.schedule_replay.specs.Hosts.{world_of}
use Rattle.schedule_replay.specs.Lines.{result_words}
use Rattle.schedule_replay.specs.Steps.{armed, pick_number, saying_none}

-- ---- at a node

abbrev WellAsked : {N : Type 0} → List (Asked N) → Type 0
WellAsked asked = AllByRecursion (λ one. one.answer ≢ Fixed 50) asked

abbrev WellEnded : List (Result (Unit {0}) OpenFault) → Type 0
WellEnded ended = AllByRecursion (λ result. result ≢ Err DiskFault) ended

-- the count of faults is as it was
abbrev Same : {N : Type 0} → Host N → Host N → Type 0
Same before after = after.disk.faults ≡ before.disk.faults

module _ {N : Type 0} (rules : NodeRules N) where
  turn_of : (now : ℕ) (before after : Host N) (turn : Turn N)
      → Goes (IsAnswered rules) (world_of now before) after.kept (world_of now after) turn → WellAsked (asked_by turn)
      → Same before after
  turn_of now before after turn (Quiet none same) well = ap (λ (w : World N). w.disk_faults) same
  turn_of now before after turn (Asking piece one old answers) well =
      ap (λ (w : World N). w.disk_faults) answers.sends.same ∙ answers.asks.disk_faults.kept well.0

  turn_keeps : (now : ℕ) (turn : Turn N) (before after : Host N) → Serves rules now turn before after
      → WellAsked (asked_by turn) → Same before after
  turn_keeps now turn before after serves well =
      turn_of now before after turn
      (goes (IsAnswered rules) (world_of now before) after.kept (world_of now after) turn before.kept serves.does) well

  -- a call keeps it where it ends without DiskFault
  abbrev CallKeeps : (Host N → Result (Unit {0}) OpenFault → Host N → Type 0) → Type 0
  CallKeeps call =
      (before : Host N) (result : Result (Unit {0}) OpenFault) (after : Host N) → call before result after
      → result ≢ Err DiskFault → Same before after

  restart_keeps : CallKeeps (Restarts rules)
  restart_keeps before result after restarts well = restarts.faults.kept well

  compaction_keeps : (now : ℕ) → CallKeeps (Compacts rules now)
  compaction_keeps now before result after compacts well = compacts.faults.kept well

  piece_keeps : (now conn : ℕ) (piece : List ℕ) (outcome : Outcome) (before after : Host N)
      (is : Brings rules now conn piece (Some outcome) before after) → WellAsked (asked_by is.0.turn)
      → Same before after
  piece_keeps now conn piece outcome before after is well = turn_keeps now is.0.turn before after is.0.serves well

  stop_keeps : (now conn : ℕ) (piece : List ℕ) (before after : Host N)
      (is : Brings rules now conn piece None before after) → WellAsked (asked_by is.2.turn) → WellEnded (is.4.0 ∷ []) → Same before after
  stop_keeps now conn piece before after is well ended =
      is.4.1.faults.kept ended.0 ∙ turn_keeps now is.2.turn before is.1 is.2.serves well

  call_keeps : (call : Host N → Result (Unit {0}) OpenFault → Host N → Type 0) → CallKeeps call
      → (known : Option (Result (Unit {0}) OpenFault)) (before after : Host N)
      (is : Known rules call known before after) → WellEnded (ended_by rules call known before after is) → Same before after
  call_keeps call keeps (Some result) before after is ended = keeps before result after is.0 ended.0
  call_keeps call keeps None before after is ended =
      is.4.1.faults.kept ended.1.0 ∙ keeps before is.0 is.1 is.2 ended.0

-- ---- in a deployment

abbrev faults_at : {S P : Type 0} → Site → Deployment S P → ℕ
faults_at site world = (disk_of site world).faults

-- the count of a node's disk is as it was
abbrev SameAt : {S P : Type 0} → Site → Deployment S P → Deployment S P → Type 0
SameAt site before after = faults_at site after ≡ faults_at site before

-- of two lists
in_both : {X : Type 0} (Q : X → Type 0) (xs ys : List X) → AllByRecursion Q (xs ++ ys)
    → AllByRecursion Q xs × AllByRecursion Q ys
in_both Q [] ys all = (tt, all)
in_both Q (x ∷ xs) ys all = let rest = in_both Q xs ys all.1 in ((all.0, rest.0), rest.1)

module _ {S P : Type 0} where
  -- a deployment of which the disks are as they were
  as_made : (of : Site) (before made after : Deployment S P) → after ≡ made
      → made.sp.disk.faults ≡ before.sp.disk.faults → made.idp.disk.faults ≡ before.idp.disk.faults → SameAt of before after
  as_made Sp before made after is sp idp = ap (λ (w : Deployment S P). w.sp.disk.faults) is ∙ sp
  as_made Idp before made after is sp idp = ap (λ (w : Deployment S P). w.idp.disk.faults) is ∙ idp

  hears : (of : Site) (number : ℕ) (sending : Sending) (known : Option Outcome) (before after : Deployment S P)
      → Hears number sending known before after → SameAt of before after
  hears of number sending None before after is = as_made of before _ after is refl refl
  hears of number sending (Some Silent) before after is = as_made of before _ after is refl refl
  hears of number sending (Some (Sent path bytes)) before after (seen, comes, is) =
      as_made of before _ after is refl refl

  shown_all : (of : Site) (number : ℕ) (site : Site) (words : List ℕ) (known : Option (Result (Unit {0}) OpenFault))
      (before after : Deployment S P) → after ≡ shows number site (option_map (result_words words) known) before
      → SameAt of before after
  shown_all of number site words None before after is = as_made of before _ after is refl refl
  shown_all of number site words (Some result) before after is = as_made of before _ after is refl refl

  -- what is said, and connections that are let go
  said_none : (of : Site) (number : ℕ) (request : Option Sending) (before : Deployment S P)
      → SameAt of before (saying_none number request before)
  said_none Sp number None before = refl
  said_none Idp number None before = refl
  said_none of number (Some request) before = refl

  let_go : (of : Site) (before : Deployment S P) → SameAt of before (unconnected before)
  let_go Sp before = refl
  let_go Idp before = refl

  -- what is set at a disk is no call of it
  as_armed : (of : Site) (number : ℕ) (site : Site) (set : DiskInMemory → DiskInMemory) (before after : Deployment S P)
      → after ≡ armed number site set before → ((disk : DiskInMemory) → (set disk).faults ≡ disk.faults)
      → SameAt of before after
  as_armed of number Sp set before after is same = as_made of before _ after is (same before.sp.disk) refl
  as_armed of number Idp set before after is same = as_made of before _ after is refl (same before.idp.disk)

  -- ---- lists of all that was asked and ended

  none_of_two : (of : Site) (a b : BothAsked S P) (e f : BothEnded) → NoneFailed of (then_asked a b) (then_ended e f)
      → NoneFailed of a e × NoneFailed of b f
  none_of_two Sp a b e f well =
      let asked = in_both (λ (one : Asked S). one.answer ≢ Fixed 50) a.sp b.sp well.0 in
      let ended = in_both (λ (result : Result (Unit {0}) OpenFault). result ≢ Err DiskFault) e.sp f.sp well.1 in
      ((asked.0, ended.0), (asked.1, ended.1))
  none_of_two Idp a b e f well =
      let asked = in_both (λ (one : Asked P). one.answer ≢ Fixed 50) a.idp b.idp well.0 in
      let ended = in_both (λ (result : Result (Unit {0}) OpenFault). result ≢ Err DiskFault) e.idp f.idp well.1 in
      ((asked.0, ended.0), (asked.1, ended.1))

module _ {S P : Type 0} (sp : NodeRules S) (idp : NodeRules P) where
  -- ---- a piece

  comes_to : (of site : Site) (clock conn : ℕ) (piece : List ℕ) (known : Option Outcome) (before after : Deployment S P)
      (is : OnSite sp idp site (λ _ node. Brings node clock conn piece known) before after)
      → NoneFailed of (asked_on sp idp site clock conn piece known before after is)
      (ended_on sp idp site clock conn piece known before after is) → SameAt of before after
  comes_to Sp Sp clock conn piece (Some outcome) before after is well =
      piece_keeps sp clock conn piece outcome before.sp after.sp is.0 well.0
  comes_to Sp Sp clock conn piece None before after is well =
      stop_keeps sp clock conn piece before.sp after.sp is.0 well.0 well.1
  comes_to Idp Idp clock conn piece (Some outcome) before after is well =
      piece_keeps idp clock conn piece outcome before.idp after.idp is.0 well.0
  comes_to Idp Idp clock conn piece None before after is well =
      stop_keeps idp clock conn piece before.idp after.idp is.0 well.0 well.1
  comes_to Sp Idp clock conn piece known before after is well = ap (λ (w : Deployment S P). w.sp.disk.faults) is.1
  comes_to Idp Sp clock conn piece known before after is well = ap (λ (w : Deployment S P). w.idp.disk.faults) is.1

  arrives : (of : Site) (number : ℕ) (sending : Option Sending) (piece : List ℕ) (before after : Deployment S P)
      (is : ArrivesIfAny sp idp number sending piece before after)
      → NoneFailed of (asked_if_any sp idp number sending piece before after is)
      (ended_if_any sp idp number sending piece before after is) → SameAt of before after
  arrives of number None piece before after is well = as_made of before before after is refl refl
  arrives of number (Some sending) [] before after is well = as_made of before before after is refl refl
  arrives of number (Some sending) (byte ∷ piece) before after is well =
      hears of number sending is.known is.behind after is.hears
      ∙ comes_to of sending.request.site before.clock sending.conn (byte ∷ piece) is.known before is.behind is.brings
      well

  in_rounds : (of : Site) (number size : ℕ) (first second : Option Sending) (rounds : ℕ) (before after : Deployment S P)
      (are : Rounds sp idp number size first second rounds before after)
      → NoneFailed of (asked_in_rounds sp idp number size first second rounds before after are)
      (ended_in_rounds sp idp number size first second rounds before after are) → SameAt of before after
  in_rounds of number size first second zero before after is well = as_made of before before after is refl refl
  in_rounds of number size first second (suc rounds) before after (old, between, earlier, one, other) well =
      let two = none_of_two of _ _ _ _ well in
      let both = none_of_two of _ _ _ _ two.1 in
      arrives of number second (piece_at (rounds * size) size (bytes_of second)) between after other both.1
      ∙ arrives of number first (piece_at (rounds * size) size (bytes_of first)) old between one both.0
      ∙ in_rounds of number size first second rounds before old earlier two.0

  -- ---- a connection starts

  starts_on : (of site : Site) (clock conn : ℕ) (before after : Deployment S P)
      → OnSite sp idp site (λ _ node. Serves node clock (Taken conn)) before after → SameAt of before after
  starts_on Sp Sp clock conn before after is = turn_keeps sp clock (Taken conn) before.sp after.sp is.0 tt
  starts_on Idp Idp clock conn before after is = turn_keeps idp clock (Taken conn) before.idp after.idp is.0 tt
  starts_on Sp Idp clock conn before after is = ap (λ (w : Deployment S P). w.sp.disk.faults) is.1
  starts_on Idp Sp clock conn before after is = ap (λ (w : Deployment S P). w.idp.disk.faults) is.1

  starts : (of : Site) (sending : Option Sending) (before after : Deployment S P) → Starts sp idp sending before after
      → SameAt of before after
  starts of None before after is = as_made of before before after is refl refl
  starts of (Some sending) before after is = starts_on of sending.request.site before.clock sending.conn before after is

  exchanges : (of : Site) (number size : ℕ) (first second : Option Sending) (before after : Deployment S P)
      (is : Exchanges sp idp number size first second before after)
      → NoneFailed of (asked_exchanging sp idp number size first second before after is)
      (ended_exchanging sp idp number size first second before after is) → SameAt of before after
  exchanges of number size first second before after is well =
      in_rounds of number size first second is.rounds is.both after is.arrive well
      ∙ starts of second is.one is.both is.starts_other ∙ starts of first (unconnected before) is.one is.starts
      ∙ let_go of before

  -- ---- a call that a step asks for

  obeys_on : (of site : Site) (number : ℕ) (word : List ℕ)
      (call : (N : Type 0) → NodeRules N → Host N → Result (Unit {0}) OpenFault → Host N → Type 0)
      (before after : Deployment S P) → CallKeeps sp (call S sp) → CallKeeps idp (call P idp)
      → (is : Obeys sp idp number site word call before after)
      → NoneFailed {S = S} {P = P} of none_asked (ended_obeying sp idp number site word call before after is)
      → SameAt of before is.behind
  obeys_on Sp Sp number word call before after sp_keeps idp_keeps is well =
      call_keeps sp (call S sp) sp_keeps is.known before.sp is.behind.sp is.ends.0 well.1
  obeys_on Idp Idp number word call before after sp_keeps idp_keeps is well =
      call_keeps idp (call P idp) idp_keeps is.known before.idp is.behind.idp is.ends.0 well.1
  obeys_on Sp Idp number word call before after sp_keeps idp_keeps is well =
      ap (λ (w : Deployment S P). w.sp.disk.faults) is.ends.1
  obeys_on Idp Sp number word call before after sp_keeps idp_keeps is well =
      ap (λ (w : Deployment S P). w.idp.disk.faults) is.ends.1

  obeys : (of site : Site) (number : ℕ) (word : List ℕ)
      (call : (N : Type 0) → NodeRules N → Host N → Result (Unit {0}) OpenFault → Host N → Type 0)
      (before after : Deployment S P) → CallKeeps sp (call S sp) → CallKeeps idp (call P idp)
      → (is : Obeys sp idp number site word call before after)
      → NoneFailed {S = S} {P = P} of none_asked (ended_obeying sp idp number site word call before after is)
      → SameAt of before after
  obeys of site number word call before after sp_keeps idp_keeps is well =
      shown_all of number site word is.known is.behind after is.shown
      ∙ obeys_on of site number word call before after sp_keeps idp_keeps is well

  -- ---- the laws

  pub each_fault_is_answered : EachFaultIsAnswered sp idp
  each_fault_is_answered number (steps.Now moment) before after is of well = as_made of before _ after is refl refl
  each_fault_is_answered number (steps.Visit agent path) before after did of well =
      exchanges of number _ _ _ _ after did well
  each_fault_is_answered number (steps.Submit agent) before after did of well =
      exchanges of number _ _ _ _ after did well ∙ said_none of number _ before
  each_fault_is_answered number (steps.Lose agent) before after did of well =
      exchanges of number _ _ _ _ after did well ∙ said_none of number _ before
  each_fault_is_answered number (steps.Login agent user password) before after did of well =
      exchanges of number _ _ _ _ after did well ∙ said_none of number _ before
  each_fault_is_answered number (steps.Follow agent) before after did of well =
      exchanges of number _ _ _ _ after did well ∙ said_none of number _ before
  each_fault_is_answered number (steps.Leave agent site) before after did of well =
      exchanges of number _ _ _ _ after did well
  each_fault_is_answered number (steps.Pair first second size) before after did of well =
      exchanges of number _ _ _ _ after did well ∙ said_none of number _ _ ∙ said_none of number _ before
  each_fault_is_answered number (steps.Fresh agent) before after did of well =
      as_made of before _ after did.1 refl refl
  each_fault_is_answered number (steps.Restart site) before after did of well =
      let counted = record before { tally = restarted before.tally } in
      obeys of site number (codes "restart") (λ _ node. Restarts node) counted after (restart_keeps sp)
      (restart_keeps idp) did well ∙ as_made of before counted counted refl refl refl
  each_fault_is_answered number (steps.Crash site call pick) before after is of well =
      let set = λ (disk : DiskInMemory). record disk { stopping = call; pick = pick_number pick } in
      as_armed of number site set before after is (λ disk. refl)
  each_fault_is_answered number (steps.Fail site call) before after is of well =
      let set = λ (disk : DiskInMemory). record disk { failing = call } in
      as_armed of number site set before after is (λ disk. refl)
  each_fault_is_answered number (steps.Compact site) before after did of well =
      let now = min before.clock LAST in
      obeys of site number (codes "compact") (λ _ node. Compacts node now) before after (compaction_keeps sp now)
      (compaction_keeps idp now) did well

  pub each_fault_of_a_run_is_answered : EachFaultOfARunIsAnswered sp idp
  each_fault_of_a_run_is_answered zero all first text last (nothing, is) of well =
      as_made of first first last is refl refl
  each_fault_of_a_run_is_answered (suc done) all first text last
      (step, before, after, earlier, were, is, did, fed, same, printed) of well =
      let two = none_of_two of _ _ _ _ well in
      as_made of after _ last same refl refl ∙ each_fault_is_answered (suc done) step before after did of two.1
      ∙ each_fault_of_a_run_is_answered done all first earlier before were of two.0
