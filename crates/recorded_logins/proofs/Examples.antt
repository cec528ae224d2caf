-- The definitions at worked examples.
use Rattle.std.proofs.Common.{◌≡◌, ℕ, List, [], ◌∷◌, codes, refl, arith}
use Rattle.element_make.specs.Made.{Made, IsMade}
use Rattle.assertion_model.specs.declared.login.Login.{Login}
use Rattle.assertion_model.specs.Assertion.{CanBeRead}
use Rattle.ledger_records.specs.declared.idp_record.Ended.{Ended}
use Rattle.ledger_records.specs.declared.idp_record.Issued.{Issued}
use Rattle.ledger_records.specs.declared.idp_record.IdpRecord.TheVariants as kinds
use Rattle.idp_ledger.specs.Ledger.{Held}
use Rattle.idp_rules.specs.declared.config.IdpConfig.{IdpConfig}
use Rattle.idp_server.specs.Logins.{login_of}
use Rattle.idp_server.specs.Signed.{IsSignedOf}
use Rattle.login_origin.specs.Signed.{Signed}
use Rattle.login_origin.specs.Origin.{IsLoginOf}
use Rattle.login_origin.proofs.Lists.{contained}
use Rattle.recorded_logins.specs.Recorded.{Added, AreOf}
use Rattle.recorded_logins.specs.Logins.{read_of}
use Rattle.recorded_logins.proofs.Back.{login_is_signed}
use Rattle.recorded_logins.proofs.Inside.{PutInside}
use Rattle.recorded_logins.proofs.Joining.{login_was_recorded}
use Rattle.recorded_logins.proofs.Lists.{contains_first}
use Rattle.recorded_logins.proofs.Signing.{one_more}

-- reading trims the issuer
trimmed_issuer : (r : Issued) → (read_of (codes " https://idp.example\n") r).issuer ≡ codes "https://idp.example"
trimmed_issuer r = refl

-- and not the name of the user
whole_name : (issuer : List ℕ) (r : Issued) → (read_of issuer r).name ≡ r.user
whole_name issuer r = refl

-- where nothing was recorded, nothing that was signed says a login
nothing_recorded : PutInside → (setup : IdpConfig) (issued : List Signed) (l : Login) → AreOf setup [] issued →
    ¬ (IsLoginOf issued l)
nothing_recorded law setup issued l are origin =
    let recorded = login_was_recorded law setup [] issued l are origin in omega (arith, recorded.known.1)

-- the reply to a LogoutRequest says no login
reply_says_none : PutInside → (setup : IdpConfig) (held : Held) (r : Ended) (issued : List Signed) (l : Login) →
    AreOf setup (record { held = held; r = kinds.Ended r } ∷ []) issued → ¬ (IsLoginOf issued l)
reply_says_none law setup held r issued l are origin =
    let own : Added = record { held = held; r = kinds.Ended r } in
    let recorded = login_was_recorded law setup (own ∷ []) issued l are origin in
    let same : record { held = recorded.held; r = kinds.Issued recorded.r } ≡ own =
    contained (λ (one : Added). one ≡ own) (own ∷ []) (record { held = recorded.held; r = kinds.Issued recorded.r })
    (refl, tt) recorded.known in
    absurd (let clash : kinds.Issued recorded.r ≡ kinds.Ended r = (λ i. (same i).r) in cc)

-- what was signed for a record is of it, and says the login that the record stands for
own_login : PutInside → (setup : IdpConfig) (held : Held) (r : Issued) (element : Made) →
    IsSignedOf setup held (kinds.Issued r) element → IsMade element → CanBeRead (login_of setup.entity r) →
    (s : Signed) × AreOf setup (record { held = held; r = kinds.Issued r } ∷ []) (s ∷ [])
    × IsLoginOf (s ∷ []) (login_of setup.entity r)
own_login law setup held r element o made can =
    let own : Added = record { held = held; r = kinds.Issued r } in
    let one = one_more setup (own ∷ []) [] own element tt (contains_first own []) o made in
    (one.0, one.2, login_is_signed law setup held r element one.0 o made one.1 can)
