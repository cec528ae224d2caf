use Rattle.std.proofs.Common.{◌≡◌, [], arith}
use Rattle.hmac_sha256.specs.Hmac.{hmac}
use Rattle.hmac_sha256.specs.Pbkdf2.{nth_hmac, pbkdf2}
use Rattle.hmac_sha256.specs.Running.{IsMac}
use Rattle.hmac_sha256.proofs.Rounds.{nth_hmac-next, pbkdf2-next}
use Rattle.hmac_sha256.proofs.pbkdf2.Goals as goal

pub rounds-init : goal.rounds-init
unfolding nth_hmac pbkdf2
rounds-init c =
    let password = c.args.password.now in
    let salt = c.args.salt.now in
    let first : IsMac c.again-first.result password [] = rw c.again-first.ensures c.new-keyed.ensures in
    let last : c.finish_with-last.result ≡ nth_hmac password salt 1 =
    c.finish_with-last.ensures password salt (c.put.ensures password [] first) in
    (last, last)

pub rounds-preserved : goal.rounds-preserved
rounds-preserved c =
    let password = c.args.password.now in
    let salt = c.args.salt.now in
    let done = c.rounds._done in
    let last : c.finish_with-last-in-rounds.result ≡ hmac password c.rounds.last =
    c.finish_with-last-in-rounds.ensures password [] c.new-keyed.ensures in
    let next = nth_hmac-next password salt done in
    let sum = pbkdf2-next password salt done (omega arith) in
    (cc, cc)
