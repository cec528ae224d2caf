-- A line is that of the record without its secrets.
use Rattle.std.proofs.Common.{◌≡◌, ℕ, zero, suc, List, [], ◌∷◌, take, Option, None, Some, refl, ap}
use Rattle.std.specs.Prelude.{map, option_map}
use Rattle.logout_turns.specs.declared.part.Asker.{Asker}
use Rattle.ledger_records.specs.declared.sp_record.SpRecord.{SpRecord}
use Rattle.ledger_records.specs.declared.sp_record.SpRecord.TheVariants as sp
use Rattle.ledger_records.specs.declared.idp_record.IdpRecord.{IdpRecord}
use Rattle.ledger_records.specs.declared.idp_record.IdpRecord.TheVariants as idp
use Rattle.ledger_records.specs.declared.hub_record.HubRecord.{HubRecord}
use Rattle.ledger_records.specs.declared.hub_record.HubRecord.TheVariants as hub
use Rattle.record_lines.specs.Lines.{asker_pieces, pieces, secret_piece, MaybeSecret, sp_line, idp_line}
use Rattle.record_lines.specs.HubLines.{hub_line}
use Rattle.record_lines.specs.Secrets.{number_part, without_relay, sp_without_secrets, idp_without_secrets, hub_without_secrets}

take_twice : (n : ℕ) (xs : List ℕ) → take n (take n xs) ≡ take n xs
take_twice zero xs = refl
take_twice (suc n) [] = refl
take_twice (suc n) (x ∷ xs) = ap (λ (ys : List ℕ). x ∷ ys) (take_twice n xs)

-- a secret, one that may be absent, and secrets are printed as they are without what stands behind their numbers
secret_same : (name secret : List ℕ) → secret_piece name (number_part secret) ≡ secret_piece name secret
secret_same name secret = rw (take_twice 17 secret) refl

secrets_same : (name : List ℕ) (secrets : List (List ℕ))
    → map (secret_piece name) (map number_part secrets) ≡ map (secret_piece name) secrets
secrets_same name [] = refl
secrets_same name (secret ∷ secrets) = rw (secret_same name secret, secrets_same name secrets) refl

maybe_same : (name : List ℕ) (secret : Option (List ℕ))
    → pieces (MaybeSecret name (option_map number_part secret)) ≡ pieces (MaybeSecret name secret)
maybe_same name None = refl
maybe_same name (Some secret) = rw (secret_same name secret) refl

asker_same : (asker : Option Asker) → asker_pieces (option_map without_relay asker) ≡ asker_pieces asker
asker_same None = refl
asker_same (Some asker) = refl

pub sp_same : (r : SpRecord) → sp_line (sp_without_secrets r) ≡ sp_line r
sp_same (sp.Asked r) = refl
sp_same (sp.Opened r) = rw (take_twice 17 r.token) refl
sp_same (sp.Left r) = rw (take_twice 17 r.token) refl
sp_same (sp.Ended r) = rw (secrets_same _ r.tokens) refl
sp_same (sp.Confirmed r) = refl

pub idp_same : (r : IdpRecord) → idp_line (idp_without_secrets r) ≡ idp_line r
idp_same (idp.Pending r) = rw (take_twice 17 r.pending) refl
idp_same (idp.Issued r) = rw (maybe_same _ r.pending, take_twice 17 r.cookie) refl
idp_same (idp.Ended r) = rw (secrets_same _ r.cookies) refl
idp_same (idp.Left r) = rw (take_twice 17 r.cookie) refl
idp_same (idp.Round r) = rw (secrets_same _ r.cookies, asker_same r.asker) refl
idp_same (idp.Confirmed r) = refl
idp_same (idp.Spoke r) = refl
idp_same (idp.Told r) = refl

pub hub_same : (r : HubRecord) → hub_line (hub_without_secrets r) ≡ hub_line r
hub_same (hub.Routed r) = refl
hub_same (hub.Backed r) = refl
hub_same (hub.Spoke r) = refl
