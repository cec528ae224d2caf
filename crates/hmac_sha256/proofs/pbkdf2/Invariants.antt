use Rattle.std.proofs.Common.{◌≡◌}
use Rattle.hmac_sha256.specs.Pbkdf2.{nth_hmac, pbkdf2}
use Rattle.hmac_sha256.proofs.pbkdf2.Given as goal

-- the rounds that are done gave this last value and this sum
abbrev pub invariant-rounds : goal.invariant-rounds
invariant-rounds l =
    (l.last ≡ nth_hmac l.password l.salt l._done) × (l.sum ≡ pbkdf2 l.password l.salt l._done)
