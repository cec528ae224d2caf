-- The moment that a text tells: SAML Core, 1.3.3. The digits stand at fixed places, and the text is that of the instant that
-- they show.
use Rattle.std.specs.Prelude.{ℕ, ◌+◌, ◌-◌, ◌*◌, Bool, true, ◌&&◌, List, length, map, take, drop, slice_index, nat_le, Option, None, Some, if◌then◌else◌}
use Rattle.std.specs.List.{list_all}
use Rattle.std.specs.Option.{option_map}
use Rattle.std.specs.Str.{bytes_eq}
use Rattle.saml_time.specs.Calendar.{days_in_month}
use Rattle.saml_time.specs.Instant.{Day, Clock, Instant, print, moment}

-- the digit at a place, and the numbers of two and of four digits that begin there
abbrev pub digit_at : List ℕ → ℕ → ℕ
digit_at bytes place = slice_index bytes place - 48

abbrev pub two_at : List ℕ → ℕ → ℕ
two_at bytes place = digit_at bytes place * 10 + digit_at bytes (place + 1)

abbrev pub four_at : List ℕ → ℕ → ℕ
four_at bytes place = two_at bytes place * 100 + two_at bytes (place + 2)

-- the digits between the point and the Z, where anything stands there: YYYY-MM-DDThh:mm:ss has 19 bytes
abbrev pub fraction_of : List ℕ → Option (List ℕ)
fraction_of bytes =
    if nat_le (length bytes) 20 then None
    else Some (map (λ b. b - 48) (take (length bytes - 21) (drop 20 bytes)))

-- the instant that the digits show
abbrev pub shown : List ℕ → Instant
shown bytes = record {
  day = record { year = four_at bytes 0; month = two_at bytes 5; day = two_at bytes 8 };
  clock = record { hour = two_at bytes 11; minute = two_at bytes 14; second = two_at bytes 17 };
  fraction = fraction_of bytes;
}

-- what IsDay, IsClock and IsFraction say, as tests
abbrev pub is_between : ℕ → ℕ → ℕ → Bool
is_between low high n = nat_le low n && nat_le n high

abbrev pub is_day : Day → Bool
is_day d = is_between 1970 9999 d.year && is_between 1 12 d.month && is_between 1 (days_in_month d.year d.month) d.day

abbrev pub is_clock : Clock → Bool
is_clock c = nat_le c.hour 23 && nat_le c.minute 59 && nat_le c.second 59

abbrev pub is_fraction : Option (List ℕ) → Bool
is_fraction None = true
is_fraction (Some digits) = is_between 1 9 (length digits) && list_all (λ n. nat_le n 9) digits

-- the moment of the text, where it is that of a valid instant
abbrev pub moment_of : List ℕ → Option ℕ
moment_of bytes =
    if is_day (shown bytes).day && is_clock (shown bytes).clock && is_fraction (shown bytes).fraction && bytes_eq (print (shown bytes)) bytes
    then Some (moment (shown bytes)) else None

-- the moment of a text that may be absent: none where it is there and tells no moment
abbrev pub moment_if_any : Option (List ℕ) → Option (Option ℕ)
moment_if_any None = Some None
moment_if_any (Some bytes) = option_map (λ ms. Some ms) (moment_of bytes)
