use Rattle.std.proofs.Common.{◌≡◌, ◌/◌, pos, ap, sym, ◌∙◌, to_z, of_z, unsigned_abs, arith}
use Rattle.std.specs.Int.{w16}
use Rattle.jiff_core.proofs.SignedLemmas.{back_small, signed_arith}
use Rattle.saml_time.specs.Instant.{days_of}
use Rattle.saml_time.specs.Pieces.{day_of}
use Rattle.saml_time.proofs.CalendarLemmas.{is_day, year_of}
use Rattle.saml_time.proofs.WrittenLemmas.{tells}
use Rattle.saml_time.proofs.write.put_instant.Goals as goal

pub returns-clause-told : goal.returns-clause-told
returns-clause-told c =
    let date = c.date_of-date.result in
    let year = year_of date (c.args.ms / 86400000) c.date_of-date.ensures in
    let back : to_z w16 (of_z w16 date.year) ≡ date.year = back_small w16 _ (omega (arith, signed_arith, date.year_in)) in
    let same_year : c.from-year.result ≡ year.0 = c.from-year.ensures ∙ c.unsigned_abs.ensures.value ∙ ap unsigned_abs (back ∙ year.1) in
    let known = is_day date c.from-year.result c.from-month.result c.from-day.result (year.1 ∙ ap pos (sym same_year)) (sym c.from-month.ensures) (sym c.from-day.ensures) (omega (arith, same_year, year.2)) in
    let days : days_of (day_of c.from-year.result c.from-month.result c.from-day.result) ≡ c.args.ms / 86400000 = omega (arith, signed_arith, sym known.1 ∙ c.date_of-date.ensures) in
    rw (
      c.digit_at.ensures,
      c.digit_at-2.ensures,
      c.digit_at-3.ensures,
      c.digit_at-4.ensures,
      c.digit_at-5.ensures,
      c.digit_at-6.ensures,
      c.digit_at-7.ensures,
      c.digit_at-8.ensures,
      c.digit_at-9.ensures,
      c.digit_at-10.ensures,
      c.digit_at-11.ensures,
      c.digit_at-12.ensures,
      c.digit_at-13.ensures,
      c.digit_at-14.ensures,
      c.digit_at-15.ensures,
      c.digit_at-16.ensures,
      c.digit_at-17.ensures,
    )
    (tells c.from-year.result c.from-month.result c.from-day.result c.args.ms known.0 days)
