-- Answers that come together: where one call went well, so did another.
use Rattle.std.proofs.Common.{◌≡◌, true, false, Result, Ok, Err, OnOk}
use Rattle.std.specs.Result.{is_ok}

pub on_ok_too : {A B E F : Type 0} {P Q : Type 0} (r : Result A E) (s : Result B F) → is_ok r ≡ is_ok s → (P → Q) → OnOk s P → OnOk r Q
on_ok_too (Ok a) (Ok b) same f h = f h
on_ok_too (Ok a) (Err e) same f h = absurd (let clash : true ≡ false = same in cc)
on_ok_too (Err e) s same f h = tt
