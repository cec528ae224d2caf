use Rattle.std.proofs.lemmas.Option.{none-some, same_Some}
use Rattle.saml_time.proofs.PieceLemmas.{fits, same_rest, same_value}
use Rattle.saml_time.proofs.read.read_day.Goals as goal

pub returns-in_err-month-clause-each : goal.returns-in_err-month-clause-each
returns-in_err-month-clause-each c a rest valid e =
    let small = fits a valid in
    let year = c.in_ok-year.ensures.each a.year _ small.year e in
    let dash = c.in_ok-after.ensures.each _ (same_rest _ _ year) in
    absurd (none-some _ (c.in_err-month.ensures.each a.month _ small.month (same_Some _ _ dash)))

pub returns-in_err-day-clause-each : goal.returns-in_err-day-clause-each
returns-in_err-day-clause-each c a rest valid e =
    let small = fits a valid in
    let year = c.in_ok-year.ensures.each a.year _ small.year e in
    let dash = c.in_ok-after.ensures.each _ (same_rest _ _ year) in
    let month = c.in_ok-month.ensures.each a.month _ small.month (same_Some _ _ dash) in
    let second_dash = c.in_ok-after-2.ensures.each _ (same_rest _ _ month) in
    absurd (none-some _ (c.in_err-day.ensures.each a.day _ small.day (same_Some _ _ second_dash)))

pub returns-in_err-days-clause-each : goal.returns-in_err-days-clause-each
returns-in_err-days-clause-each c a rest valid e =
    let small = fits a valid in
    let year = c.in_ok-year.ensures.each a.year _ small.year e in
    let dash = c.in_ok-after.ensures.each _ (same_rest _ _ year) in
    let month = c.in_ok-month.ensures.each a.month _ small.month (same_Some _ _ dash) in
    let second_dash = c.in_ok-after-2.ensures.each _ (same_rest _ _ month) in
    let day = c.in_ok-day.ensures.each a.day _ small.day (same_Some _ _ second_dash) in
    let same_year = same_value _ _ year in
    let same_month = same_value _ _ month in
    let same_day = same_value _ _ day in
    absurd (c.in_err-days.ensures.exact (rw (same_year, same_month, same_day) valid))
