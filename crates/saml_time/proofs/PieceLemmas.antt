-- What follows of a piece from what its readers promise.
use Rattle.std.proofs.Common.{◌≡◌, ◌∷◌, ◌++◌, append_assoc, codes, ◌<◌, Option, Some, None, Result, Ok, Err, IfOk, IfSome, ap, sym, subst, arith}
use Rattle.std.proofs.lemmas.Option.{none-some, same_Some}
use Rattle.std.specs.Result.{result_ok}
use Rattle.saml_time.specs.Instant.{Day, Instant, IsDay, print, print_clock, print_day, print_fraction}

-- the numbers of a date fit the places that they are written in
pub record Fits (d : Day) : Type 0 where
  pub year : d.year < 10000
  pub month : d.month < 100
  pub day : d.day < 100

pub fits : (d : Day) → IsDay d → Fits d
fits d h = record {
  year = omega (arith, h.last_year);
  month = omega (arith, h.last_month);
  day = grind (arith, h.last_day);
}

-- two reads of one text gave the same value and the same rest
pub same_value : {V R : Type 0} (one other : V × R) → Some one ≡ Some other → one.0 ≡ other.0
same_value one other e = ap (λ p. p.0) (same_Some _ _ e)

pub same_rest : {V R : Type 0} (one other : V × R) → Some one ≡ Some other → one.1 ≡ other.1
same_rest one other e = ap (λ p. p.1) (same_Some _ _ e)

-- what holds of the value in an `Ok` holds of what `ok` gives
pub ok_has : {T E : Type 0} (P : T → Type 0) (r : Result T E) (x : T) → Some x ≡ result_ok r → IfOk r P → P x
ok_has P (Ok y) x e h = subst P (sym (same_Some _ _ e)) h
ok_has P (Err f) x e h = absurd (none-some _ (sym e))

-- the form of an instant, grouped as it is read
pub print-grouped : (i : Instant) → print i ≡ print_day i.day ++ (84 ∷ (print_clock i.clock ++ (print_fraction i.fraction ++ codes "Z")))
print-grouped i = simp append_assoc

-- what follows of the value, if there is one
pub some_weaker : {X : Type 0} (o : Option X) (P Q : X → Type 0) → ((x : X) → P x → Q x) → IfSome o P → IfSome o Q
some_weaker None P Q f h = h
some_weaker (Some x) P Q f h = f x h
