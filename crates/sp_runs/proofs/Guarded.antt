-- What a guard answers: a status, or a page for a live session.
use Rattle.std.specs.Prelude.{Option, None, Some, if◌then◌else◌}
use Rattle.std.proofs.Common.{◌≡◌, ◌⊎◌, inl, inr, ℕ, Bool, true, false, List, refl, sym, ◌∙◌, arith}
use Rattle.access_policy.specs.declared.rule.Rule.{Rule}
use Rattle.http_wire.specs.declared.answer.Answer.{Answer}
use Rattle.http_wire.specs.declared.answer.Answer.TheVariants.{Fixed, Full}
use Rattle.http_wire.specs.declared.method.Method.TheVariants.{Get}
use Rattle.http_wire.specs.Requests.{Request}
use Rattle.request_rows.specs.declared.row.OpenedRow.{OpenedRow}
use Rattle.sp_server.specs.Guard.{guard_answer, path_asked, to_session, vouched_to}
use Rattle.service_routes.specs.Routes.{is_method}
use Rattle.sp_server.specs.Step.{Setup}
use Rattle.sp_runs.specs.Laws.{AsksAndOpensNothing}

-- a status that is not 70, or a page for a live session at a guard
abbrev IsOfGuard : Bool → Option (List Rule) → List ℕ → Answer → Type 0
IsOfGuard guard policy path answer =
    ((code : ℕ) × (answer ≡ Fixed code) × (answer ≡ Fixed 70 → ⊥))
    ⊎ ((guard ≡ true) × ((row : OpenedRow) × (answer ≡ Full (vouched_to policy path row))))

number_in : (m n : ℕ) → Fixed m ≡ Fixed n → m ≡ n
number_in m n e = cc

status : (guard : Bool) (policy : Option (List Rule)) (path : List ℕ) (code : ℕ) → (code ≡ 70 → ⊥)
    → IsOfGuard guard policy path (Fixed code)
status guard policy path code other = inl (code, refl, λ e. other (number_in code 70 e))

of_session : (policy : Option (List Rule)) (path : List ℕ) (session : Option OpenedRow)
    → IsOfGuard true policy path (to_session policy path session)
of_session policy path None = status true policy path 401 (λ e. omega (arith, e))
of_session policy path (Some row) = inr (refl, (row, refl))

of_method : (policy : Option (List Rule)) (path : List ℕ) (session : Option OpenedRow) (get : Bool) →
    IsOfGuard true policy path (if get then to_session policy path session else Fixed 405)
of_method policy path session true = of_session policy path session
of_method policy path session false = status true policy path 405 (λ e. omega (arith, e))

of_guard : (guard : Bool) (policy : Option (List Rule)) (request : Request) (session : Option OpenedRow) →
    IsOfGuard guard policy (path_asked request.path) (guard_answer guard policy request session)
of_guard false policy request session = status false policy (path_asked request.path) 404 (λ e. omega (arith, e))
of_guard true policy request session = of_method policy (path_asked request.path) session (is_method Get request.method)

not_full : (bytes : List ℕ) (n : ℕ) → Full bytes ≡ Fixed n → ⊥
not_full bytes n e = cc

other_answer : (guard : Bool) (policy : Option (List Rule)) (path : List ℕ) (answer : Answer)
    → IsOfGuard guard policy path answer → answer ≡ Fixed 70 → ⊥
other_answer guard policy path answer (inl (code, is, other)) e = other e
other_answer guard policy path answer (inr (on, (row, is))) e = not_full (vouched_to policy path row) 70 (sym is ∙ e)

-- it is never the code for an ended registry
pub guard_other : (guard : Bool) (policy : Option (List Rule)) (request : Request) (session : Option OpenedRow)
    → guard_answer guard policy request session ≡ Fixed 70 → ⊥
guard_other guard policy request session =
    other_answer guard policy (path_asked request.path) (guard_answer guard policy request session)
    (of_guard guard policy request session)

asks_nothing : (setup : Setup) (request : Request) (answer made : Answer) → answer ≡ made
    → IsOfGuard setup.guard setup.policy (path_asked request.path) made →
    AsksAndOpensNothing setup request answer
asks_nothing setup request answer made is (inl (code, status, other)) = inl (code, is ∙ status)
asks_nothing setup request answer made is (inr (on, (row, page))) = inr (inr (inr (on, (row, is ∙ page))))

-- and it asks for no login and gives no session
pub guarded : (setup : Setup) (request : Request) (answer : Answer) (session : Option OpenedRow)
    → answer ≡ guard_answer setup.guard setup.policy request session →
    AsksAndOpensNothing setup request answer
guarded setup request answer session is =
    asks_nothing setup request answer (guard_answer setup.guard setup.policy request session) is
    (of_guard setup.guard setup.policy request session)
