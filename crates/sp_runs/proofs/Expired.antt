-- The code for an ended registry is that of no other refusal.
use Rattle.std.specs.Prelude.{Option, None}
use Rattle.std.proofs.Common.{◌≡◌, ◌≢◌, ℕ, false, true, List, [], ◌∷◌, sym, subst, ap, ◌∙◌, arith}
use Rattle.crash_disk.specs.Disk.{DiskState}
use Rattle.http_wire.specs.declared.answer.Answer.{Answer}
use Rattle.http_wire.specs.declared.answer.Answer.TheVariants.{Fixed, Full}
use Rattle.http_wire.specs.Requests.{Request}
use Rattle.ledger_records.specs.declared.sp_record.SpRecord.{SpRecord}
use Rattle.verdict_codes.specs.Codes.{number_of}
use Rattle.verdict_codes.specs.declared.codes.Verdict.TheVariants as verdicts
use Rattle.logout_profile.proofs.Codes.{disobeyed_ends}
use Rattle.request_ledger.specs.Ledger.{Held}
use Rattle.sp_rules.proofs.Codes.{refused_ends}
use Rattle.service_routes.proofs.Served.{IsServed}
use Rattle.sp_server.specs.Peer.{idp_at, logout_address, second_key}
use Rattle.sp_server.specs.Step as steps
use Rattle.sp_server.specs.Step.{Setup, Provider, Answers, is_expired, session_for}
use Rattle.sp_server.proofs.Codes.{route_served}
use Rattle.provider_node.specs.Step.{Steps}
use Rattle.request_ledger.specs.Record.{request_rules}
use Rattle.sp_runs.proofs.Guarded.{guard_other}
use Rattle.provider_node.proofs.Answered.{answered}

-- another code
abbrev IsOther : ℕ → Type 0
IsOther code = code ≢ 70

number_in : (m n : ℕ) → Fixed m ≡ Fixed n → m ≡ n
number_in m n e = cc

not_full : (bytes : List ℕ) (n : ℕ) → Full bytes ≡ Fixed n → ⊥
not_full bytes n e = cc

other_code : (answer : Answer) (n : ℕ) → n ≢ 70 → answer ≡ Fixed n → answer ≡ Fixed (number_of verdicts.RegistryExpired)
    → ⊥
other_code answer n differs is e = differs (number_in n (number_of verdicts.RegistryExpired) (sym is ∙ e))

unexpired : (setup : Setup) (held : Held) (request : Request) (now : ℕ) (answer : Answer) (adds : Option SpRecord)
    → setup.expiry ≡ None → Answers setup held request now answer adds →
    answer ≡ Fixed (number_of verdicts.RegistryExpired) → ⊥
unexpired setup held request now answer adds none (steps.ByStatus status to is nothing) e =
    let served = route_served IsOther (λ n. omega (arith, n)) (λ n. omega (arith, n)) (λ n. omega (arith, n)) request in
    subst (IsServed IsOther) to served (number_in status (number_of verdicts.RegistryExpired) (sym is ∙ e))
unexpired setup held request now answer adds none (steps.ByMetadata to is nothing) e =
    not_full _ (number_of verdicts.RegistryExpired) (sym is ∙ e)
unexpired setup held request now answer adds none (steps.BySession row to found is nothing) e =
    not_full _ (number_of verdicts.RegistryExpired) (sym is ∙ e)
unexpired setup held request now answer adds none (steps.ByAsking bytes to out before id relay page is ids shown) e =
    not_full bytes (number_of verdicts.RegistryExpired) (sym shown ∙ e)
unexpired setup held request now answer adds none (steps.ByGuard to is nothing) e =
    guard_other setup.guard setup.policy request (session_for held now request) (sym is ∙ e)
unexpired setup held request now answer adds none (steps.ByOpening b row to before opens token is has shown) e =
    not_full _ (number_of verdicts.RegistryExpired) (sym shown ∙ e)
unexpired setup held request now answer adds none (steps.ByVerdict verdict to before refused is nothing) e =
    let few = refused_ends setup.config _ held.header.horizon now request.body verdict refused in
    let same : number_of verdict ≡ 70 =
    number_in (number_of verdict) (number_of verdicts.RegistryExpired) (sym is ∙ e) in omega (arith, few, same)
unexpired setup held request now answer adds none (steps.ByExpiry at expired is nothing) e =
    let never : false ≡ true = sym (ap (λ (o : Option ℕ). is_expired o now) none) ∙ expired in cc
unexpired setup held request now answer adds none (steps.ByLeaving row id bytes to before found is has leaves shown) e =
    not_full bytes (number_of verdicts.RegistryExpired) (sym shown ∙ e)
unexpired setup held request now answer adds none (steps.ByNoSession to before found is nothing) e =
    other_code answer 33 (λ n. omega (arith, n)) is e
unexpired setup held request now answer adds none (steps.ByLogoutVerdict verdict to before refused is nothing) e =
    let few =
    disobeyed_ends (idp_at setup.config now ∷ []) (second_key setup.config now) (logout_address setup.config)
    setup.config.skew now request.body verdict refused in
    other_code answer (number_of verdict) (λ n. omega (arith, few, n)) is e
unexpired setup held request now answer adds none (steps.ByEnding asked relay id bytes to before obeyed some is has ends
    shown) e = not_full bytes (number_of verdicts.RegistryExpired) (sym shown ∙ e)
unexpired setup held request now answer adds none (steps.ByNothingToEnd asked relay to before obeyed empty is nothing)
    e = other_code answer 33 (λ n. omega (arith, n)) is e
unexpired setup held request now answer adds none (steps.ByConfirming response to before obeyed awaited is shown) e =
    not_full _ (number_of verdicts.RegistryExpired) (sym shown ∙ e)
unexpired setup held request now answer adds none (steps.ByUnknownLogout response to before obeyed unknown is nothing)
    e = other_code answer 34 (λ n. omega (arith, n)) is e

pub step_unexpired : (old : Provider) (disk : Option DiskState) (request : Request) (now : ℕ) (Risen : Type 0)
    (answer : Answer) (new : Provider) → old.setup.expiry ≡ None
    → Steps request_rules Answers old disk request now Risen answer new
    → answer ≡ Fixed (number_of verdicts.RegistryExpired) → ⊥
step_unexpired old disk request now Risen answer new none =
    answered request_rules Answers request now Risen answer old new
    (λ a. a ≡ Fixed (number_of verdicts.RegistryExpired) → ⊥)
    (λ held adds. unexpired old.setup held request now answer adds none)
    (λ code few e. let n = number_in code (number_of verdicts.RegistryExpired) e in omega (arith, few, n)) disk
