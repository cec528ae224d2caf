-- What lies at a place, and what was changed there.
use Rattle.std.proofs.Common.{◌≡◌, ℕ, ◌<◌, List, length, refl, slice_set, slice_index_or}
use Rattle.std.proofs.lemmas.Option.{slice_get_read}
use Rattle.socket_table.specs.Seats.{ChangesAt}

-- what was read at a place and written there changed so
pub changed : {X : Type 0} (place : ℕ) (Does : X → X → Type 0) (old : List X) (before after : X) → place < length old
    → before ≡ slice_index_or old place before → Does before after → ChangesAt place Does old (slice_set old place after)
changed place Does old before after within read does =
    record { before = before; after = after; was = slice_get_read old (length old) place before refl within read; is = refl; does = does }
