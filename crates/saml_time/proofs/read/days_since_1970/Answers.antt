use Rattle.std.proofs.Common.{◌≡◌, pos, ap, to_z, of_z, unsigned_abs, arith, ◌∙◌}
use Rattle.std.specs.Int.{w8, w16, w32}
use Rattle.jiff_core.specs.Date.{IsYmd}
use Rattle.jiff_core.proofs.SignedLemmas.{back_small, signed_arith, signed_casts}
use Rattle.saml_time.specs.Instant.{IsDay, days_of}
use Rattle.saml_time.specs.Pieces.{day_of}
use Rattle.saml_time.proofs.CalendarLemmas.{is_day}
use Rattle.saml_time.proofs.PieceLemmas.{ok_has}
use Rattle.saml_time.proofs.read.days_since_1970.Goals as goal

-- the date that jiff made is this one, and its day number is ours
made : (c : goal.After-from) → IsDay (day_of c.args.year c.args.month c.args.day) × (c.to_unix_epoch_day.result ≡ pos (days_of (day_of c.args.year c.args.month c.args.day)))
made c =
    let parts = ok_has (IsYmd (to_z w16 c.args.year) (to_z w8 c.args.month) (to_z w8 c.args.day)) _ _ c.in_ok-date.ensures.value c.new.ensures.value in
    let year : to_z w16 c.args.year ≡ pos c.args.year = omega (arith, signed_casts) in
    let month : to_z w8 c.args.month ≡ pos c.args.month = omega (arith, signed_casts) in
    let day : to_z w8 c.args.day ≡ pos c.args.day = omega (arith, signed_casts) in
    let same_month : c.in_ok-date.date.month ≡ c.args.month = omega (arith, signed_arith, parts.1 ∙ month) in
    let same_day : c.in_ok-date.date.day ≡ c.args.day = omega (arith, signed_arith, parts.2 ∙ day) in
    let known = is_day c.in_ok-date.date c.args.year c.args.month c.args.day (parts.0 ∙ year) same_month same_day c.if-year-lt1970.false in
    (known.0, c.to_unix_epoch_day.ensures.value ∙ known.1)

number : (c : goal.After-from) → c.from.result ≡ days_of (day_of c.args.year c.args.month c.args.day)
number c =
    let known = made c in
    let same = known.1 in
    let back : to_z w32 (of_z w32 c.to_unix_epoch_day.result) ≡ c.to_unix_epoch_day.result = back_small w32 _ (omega (arith, signed_arith, c.to_unix_epoch_day.ensures.bound)) in
    c.from.ensures ∙ c.unsigned_abs.ensures.value ∙ ap unsigned_abs (back ∙ same)

pub returns-clause-exact : goal.returns-clause-exact
returns-clause-exact c = ((made c).0, number c)

pub returns-clause-bound : goal.returns-clause-bound
returns-clause-bound c =
    let same = (made c).1 in
    let is = number c in
    omega (arith, signed_arith, c.to_unix_epoch_day.ensures.bound)
