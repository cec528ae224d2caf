-- The definitions at worked examples.
use Rattle.std.proofs.Common.{ℕ, List, [], arith}
use Rattle.sp_rules.specs.declared.config.SpConfig.{SpConfig}
use Rattle.sp_rules.specs.Opening.{Brought, Brings}
use Rattle.login_origin.specs.Premises.{Unforged}
use Rattle.login_origin.proofs.Signing.{login_was_signed}

-- where nothing was signed, and nothing is forged, no form brings a login
nothing_signed : (config : SpConfig) (now : ℕ) (body : List ℕ) (b : Brought) → Unforged [] config now body → ¬ (Brings config now body b)
nothing_signed config now body b unforged brings =
    let origin = login_was_signed [] config now body b tt unforged (λ posted s here known same. absurd (omega (arith, known.1))) brings in
    omega (arith, origin.known.1)
