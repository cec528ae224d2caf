use Rattle.std.proofs.Common.{◌≡◌, ◌∷◌, ◌++◌, codes, Some, ap, sym, ◌∙◌, arith}
use Rattle.std.proofs.lemmas.Option.{none-some, same_Some}
use Rattle.saml_time.specs.Instant.{Instant, print_clock, print_day, print_fraction}
use Rattle.saml_time.proofs.PieceLemmas.{print-grouped, same_rest, same_value}
use Rattle.saml_time.proofs.read.read_instant.Goals as goal

pub returns-in_err-after-clause-each : goal.returns-in_err-after-clause-each
returns-in_err-after-clause-each c i spelled =
    let day = c.in_ok-days.ensures.each i.day _ spelled.valid.day (c.as_bytes.ensures.value ∙ spelled.printed ∙ print-grouped i) in
    absurd (none-some _ (c.in_err-after.ensures.each _ (same_rest _ _ day)))

pub returns-in_err-seconds-clause-each : goal.returns-in_err-seconds-clause-each
returns-in_err-seconds-clause-each c i spelled =
    let day = c.in_ok-days.ensures.each i.day _ spelled.valid.day (c.as_bytes.ensures.value ∙ spelled.printed ∙ print-grouped i) in
    let behind = c.in_ok-after.ensures.each _ (same_rest _ _ day) in
    absurd (none-some _ (c.in_err-seconds.ensures.each i.clock _ spelled.valid.clock (same_Some _ _ behind)))

pub returns-clause-each : goal.returns-clause-each
returns-clause-each c i spelled =
    let day = c.in_ok-days.ensures.each i.day _ spelled.valid.day (c.as_bytes.ensures.value ∙ spelled.printed ∙ print-grouped i) in
    let behind = c.in_ok-after.ensures.each _ (same_rest _ _ day) in
    let clock = c.in_ok-seconds.ensures.each i.clock _ spelled.valid.clock (same_Some _ _ behind) in
    let fraction = c.in_ok-milliseconds.ensures.each i.fraction spelled.valid.fraction (same_rest _ _ clock) in
    ap Some (omega (arith, same_value _ _ day, same_value _ _ clock, same_Some _ _ fraction, c.from.ensures))

pub returns-clause-found : goal.returns-clause-found
returns-clause-found c =
    let day = c.in_ok-days.ensures.found in
    let clock = c.in_ok-seconds.ensures.found in
    let fraction = c.in_ok-milliseconds.ensures.found in
    let i : Instant = record { day = day.0; clock = clock.0; fraction = fraction.0 } in
    let behind : c.in_ok-days.rest.now ≡ 84 ∷ (print_clock clock.0 ++ (print_fraction fraction.0 ++ codes "Z")) = c.in_ok-after.ensures.found ∙ ap (λ rest. 84 ∷ rest) (clock.2 ∙ ap (λ rest. print_clock clock.0 ++ rest) fraction.2) in
    record {
      instant = i;
      spells = record {
        valid = record { day = day.1; clock = clock.1; fraction = fraction.1 };
        printed = sym c.as_bytes.ensures.value ∙ day.2 ∙ ap (λ rest. print_day day.0 ++ rest) behind ∙ sym (print-grouped i);
      };
      means = omega (arith, day.3, clock.3, fraction.3, c.from.ensures);
    }
